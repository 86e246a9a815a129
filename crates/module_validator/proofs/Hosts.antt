-- What the host offers by a row of its table.
use Rattle.std.proofs.Common.{◌≡◌, ℕ, List, Option, Some, None, sym, ap, subst, ◌∙◌}
use Rattle.std.specs.Borrow.{Bor}
use Rattle.std.specs.Prelude.{option_map, IsSomeAnd, MatchOption}
use Rattle.wasm_ops.specs.declared.num.Num.{Num}
use Rattle.host_port.specs.declared.host_table.HostRow.{HostRow}
use Rattle.host_port.specs.HostTable.{Row, row_of_import}
use Rattle.host_port.specs.HostRows.{IsRow}
use Rattle.module_validator.specs.Host.{type_of, offered_type, shown_type, host}

row_found : (found : Option Row) (shown : HostRow) → IsSomeAnd found (IsRow shown) → option_map offered_type found ≡ Some (shown_type shown)
row_found None shown h = absurd h
row_found (Some row) shown h =
    ap (λ (params : List Num). Some (type_of params row.result)) (sym h.same_params)
    ∙ ap (λ (result : Option Num). Some (type_of shown.params.now result)) (sym h.same_result)

-- what the look-up in the table gives is what the host offers
pub found_offered : (module_name name : List ℕ) (r : Option (Bor HostRow)) → MatchOption r (row_of_import module_name name ≡ None) (λ row. IsSomeAnd (row_of_import module_name name) (IsRow row.now))
    → MatchOption r (host module_name name ≡ None) (λ row. host module_name name ≡ Some (shown_type row.now))
unfolding host
found_offered module_name name None h = ap (option_map offered_type) h
found_offered module_name name (Some row) h = row_found (row_of_import module_name name) row.now h

-- the same where the look-up is by names that are these
pub offered_by : (module_name name a b : List ℕ) → a ≡ module_name → b ≡ name → (r : Option (Bor HostRow)) → MatchOption r (row_of_import a b ≡ None) (λ row. IsSomeAnd (row_of_import a b) (IsRow row.now))
    → MatchOption r (host module_name name ≡ None) (λ row. host module_name name ≡ Some (shown_type row.now))
offered_by module_name name a b d e r h =
    let P : List ℕ → List ℕ → Type 0 = λ x y. MatchOption r (host x y ≡ None) (λ row. host x y ≡ Some (shown_type row.now)) in
    subst (λ (x : List ℕ). P x name) d (subst (λ (y : List ℕ). P a y) e (found_offered a b r h))
