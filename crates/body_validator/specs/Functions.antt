-- What the checker knows of the context of a body.
use Rattle.std.specs.Prelude.{◌≡◌, ◌↔◌, IsTrue, [], ◌∷◌, option_to_list}
use Rattle.wasm_form.specs.Context.{Context, HasTable, HasMemory}
use Rattle.body_validator.specs.declared.function.Function.{Function}

-- the context has what the function's instructions may name
pub record IsContext (f : Function) (context : Context) : Type 0 where
  pub types : context.types ≡ f.types.now
  pub functions : context.functions ≡ f.functions.now
  pub table : IsTrue f.has_table ↔ HasTable context
  pub memory : IsTrue f.has_memory ↔ HasMemory context
  pub globals : context.globals ≡ f.globals.now
  pub locals : context.locals ≡ f.locals.now
  pub results : context.results ≡ option_to_list f.results

-- the context is that in which the function's body begins
pub record IsBodyContext (f : Function) (context : Context) : Type 0 where
  pub inside : IsContext f context
  pub labels : context.labels ≡ option_to_list f.results ∷ []
