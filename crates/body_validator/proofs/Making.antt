-- The context that is made of a module for a body is the one in which the body begins.
use Rattle.std.proofs.Common.{◌≡◌, ℕ, List, [], ◌∷◌, ◌++◌, Bool, sym, ap, subst, ◌∙◌}
use Rattle.std.specs.Prelude.{option_to_list}
use Rattle.wasm_form.specs.declared.value_type.ValType.{ValType}
use Rattle.wasm_form.specs.declared.types.FuncType.{FuncType}
use Rattle.wasm_form.specs.declared.types.GlobalType.{GlobalType}
use Rattle.wasm_form.specs.declared.body.LocalRun.{LocalRun}
use Rattle.wasm_form.specs.declared.parts.Parts.{Parts}
use Rattle.wasm_form.specs.Context.{context_of}
use Rattle.body_validator.specs.declared.function.Function.{Function}
use Rattle.body_validator.specs.Locals.{spread}
use Rattle.body_validator.specs.Functions.{IsBodyContext}
use Rattle.body_validator.specs.Modules.{IsMade}

pub made_context : (own m : Parts) (function : Function) (ty : FuncType) (runs : List LocalRun) (functions : List ℕ) (has_table has_memory : Bool) (globals : List GlobalType) → own ≡ m → IsMade own functions has_table has_memory globals
    → function.types.now ≡ own.types → function.functions.now ≡ functions → function.has_table ≡ has_table → function.has_memory ≡ has_memory → function.globals.now ≡ globals
    → function.locals.now ≡ ty.params ++ spread runs → ty.results ≡ option_to_list function.results → IsBodyContext function (context_of m ty runs)
made_context own m function ty runs functions has_table has_memory globals e made a b t n g l r =
    subst (λ (q : Parts). IsBodyContext function (context_of q ty runs)) e
    (record {
      inside = record {
        types = sym a;
        functions = sym (b ∙ made.all_functions);
        table = (λ h. made.table.0 (sym t ∙ h), λ h. t ∙ made.table.1 h);
        memory = (λ h. made.memory.0 (sym n ∙ h), λ h. n ∙ made.memory.1 h);
        globals = sym (g ∙ made.all_globals);
        locals = sym l;
        results = r;
      };
      labels = ap (λ (x : List ValType). x ∷ []) r;
    })
