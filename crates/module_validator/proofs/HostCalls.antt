-- An accepted module imports as many calls as functions.
use Rattle.std.proofs.Common.{◌≡◌, ℕ, suc, List, [], ◌∷◌, length, Option, Some, None, refl, ap}
use Rattle.std.specs.Prelude.{filter_map, option_map, option_and_then, All, IsSome}
use Rattle.std.specs.List.{cons_option}
use Rattle.std.proofs.lemmas.List.Elements.{All-head, All-tail}
use Rattle.wasm_form.specs.declared.parts.Imported.{Imported}
use Rattle.wasm_form.specs.declared.parts.Imported.TheVariants as imported
use Rattle.wasm_form.specs.declared.parts.Import.{Import}
use Rattle.wasm_form.specs.declared.parts.Parts.{Parts}
use Rattle.wasm_form.specs.Context.{function_of}
use Rattle.wasm_form.specs.Profile.{IsFunction, FunctionsAlone, Offered}
use Rattle.wasm_form.specs.Verdict.{IsAccepted}
use Rattle.host_port.specs.HostTable.{Row, row_of_import}
use Rattle.code_map.specs.Callees.{imported_of}
use Rattle.module_validator.specs.Host.{host, offered_type}
use Rattle.module_validator.specs.Calls.{number_in, call_of, calls_of}

-- both are there
record AreBoth (a b : Option ℕ) : Type 0 where
  first : IsSome a
  second : IsSome b

one_more : (a b : Option ℕ) (xs ys : List ℕ) → AreBoth a b → length xs ≡ length ys → length (cons_option a xs) ≡ length (cons_option b ys)
one_more None b xs ys both e = let none : IsSome {T = ℕ} None = both.first in cc none
one_more (Some x) None xs ys both e = let none : IsSome {T = ℕ} None = both.second in cc none
one_more (Some x) (Some y) xs ys both e = ap suc e

-- a function whose names have a row is a call
both_there : (what : Imported) (row : Option Row) → IsFunction what → IsSome (option_map offered_type row)
    → AreBoth (option_and_then (λ (ty : ℕ). number_in row) (function_of what)) (function_of what)
both_there (imported.Function ty) (Some row) is there = record { first = refl; second = refl }
both_there (imported.Function ty) None is there = cc there
both_there (imported.Table bounds) row is there = absurd is
both_there (imported.Memory bounds) row is there = absurd is
both_there (imported.Global global) row is there = absurd is

offered_there : (i : Import) → IsFunction i.what → IsSome (host i.«module» i.name) → AreBoth (call_of i) (function_of i.what)
unfolding host
offered_there i is there = both_there i.what (row_of_import i.«module» i.name) is there

counted : (imports : List Import) → All (λ (i : Import). IsFunction i.what) imports → All (λ (i : Import). IsSome (host i.«module» i.name)) imports
    → length (filter_map call_of imports) ≡ length (filter_map (λ (i : Import). function_of i.what) imports)
counted [] functions offered = refl
counted (i ∷ imports) functions offered =
    one_more (call_of i) (function_of i.what) (filter_map call_of imports) (filter_map (λ (i : Import). function_of i.what) imports)
    (offered_there i (All-head (λ (i : Import). IsFunction i.what) i imports functions) (All-head (λ (i : Import). IsSome (host i.«module» i.name)) i imports offered))
    (counted imports (All-tail (λ (i : Import). IsFunction i.what) i imports functions) (All-tail (λ (i : Import). IsSome (host i.«module» i.name)) i imports offered))

pub as_many_calls : (m : Parts) → IsAccepted host m → length (calls_of m) ≡ length (imported_of m)
as_many_calls m accepted = counted m.imports (accepted.inside FunctionsAlone) (accepted.inside Offered)
