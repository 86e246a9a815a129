-- The types of the functions that a module defines.
use Rattle.std.proofs.Common.{◌≡◌, ℕ, suc, ◌-◌, ◌<◌, ◌≤◌, true, false, nat_lt, arith, List, [], ◌∷◌, length, Option, None, refl, sym, ap}
use Rattle.std.specs.Prelude.{filter, is_some, option_map}
use Rattle.std.specs.List.{AllByRecursion}
use Rattle.std.proofs.lemmas.Bool.Decides.{nat_tests}
use Rattle.std.proofs.lemmas.List.Elements.{recursion_from_All}
use Rattle.wasm_form.specs.declared.types.FuncType.{FuncType}
use Rattle.wasm_form.specs.declared.parts.Imported.{Imported}
use Rattle.wasm_form.specs.declared.parts.Imported.TheVariants as imported
use Rattle.wasm_form.specs.declared.parts.Import.{Import}
use Rattle.wasm_form.specs.declared.parts.Parts.{Parts}
use Rattle.wasm_form.specs.Context.{function_of}
use Rattle.wasm_form.specs.Profile.{IsFunction, ImportsFunctions}
use Rattle.tree_machine.specs.Functions.{Function, imported_functions, defined_function, own_function}

kept : (what : Imported) → IsFunction what → is_some (function_of what) ≡ true
kept (imported.Function ty) h = refl
kept what h = absurd h

all_kept : (imports : List Import) → AllByRecursion (λ (i : Import). IsFunction i.what) imports
    → length (filter (λ (i : Import). is_some (function_of i.what)) imports) ≡ length imports
all_kept [] h = refl
all_kept (i ∷ rest) h = rw (kept i.what h.0) (ap suc (all_kept rest h.1))

-- each import is a function
pub imported_count : (m : Parts) → ImportsFunctions m → length (imported_functions m) ≡ length m.imports
imported_count m functions = all_kept m.imports (recursion_from_All (λ (i : Import). IsFunction i.what) m.imports functions)

-- the type of a function
abbrev pub type_in : Option Function → Option FuncType
type_in function = option_map (λ (f : Function). f.ty) function

module _ (m : Parts) (functions : ImportsFunctions m) (index : ℕ) where
  -- an imported function is none of the module's own
  pub imported_type : index < length m.imports → None ≡ type_in (own_function m index)
  unfolding own_function
  imported_type less =
      let count : length (imported_functions m) ≡ length m.imports = imported_count m functions in
      let test : nat_lt index (length (imported_functions m)) ≡ true = grind (arith, nat_tests) in
      rw test refl

  -- the own functions come after the imported ones
  pub own_type : length m.imports ≤ index → type_in (defined_function m (index - length m.imports)) ≡ type_in (own_function m index)
  unfolding own_function
  own_type past =
      let count : length (imported_functions m) ≡ length m.imports = imported_count m functions in
      let test : nat_lt index (length (imported_functions m)) ≡ false = grind (arith, nat_tests) in
      rw test (ap (λ n. type_in (defined_function m (index - n))) (sym count))
