-- Whether all segments lie where they are to be written.
use Rattle.std.proofs.Common.{◌≡◌, ℕ, ◌&&◌, Bool, true, false, length, refl, ap, ◌∙◌}
use Rattle.wasm_form.specs.declared.parts.Parts.{Parts}
use Rattle.tree_machine.specs.Config.{bytes_of}
use Rattle.tree_machine.specs.Instantiation.{new_table, new_memory, segments_lie_in}
use Rattle.instance_store.specs.Segments.{elements_lie_in, data_lie_in}

-- the element segments and the data segments lie in this table and in this memory
pub all_inside : (m : Parts) (limit places bytes : ℕ) → places ≡ length (new_table m) → bytes ≡ length (bytes_of (new_memory limit m))
    → (elements_lie_in places m.elements && data_lie_in bytes m.segments) ≡ segments_lie_in limit m
unfolding segments_lie_in
all_inside m limit places bytes table memory =
    ap (λ (n : ℕ). elements_lie_in n m.elements && data_lie_in bytes m.segments) table
    ∙ ap (λ (n : ℕ). elements_lie_in (length (new_table m)) m.elements && data_lie_in n m.segments) memory

both : (a b : Bool) → (a && b) ≡ true → (a ≡ true) × (b ≡ true)
both true true h = (refl, refl)
both true false h = absurd (cc)
both false b h = absurd (cc)

-- where all lie inside, the element segments do, and the data segments
pub each_inside : (m : Parts) (limit : ℕ) → segments_lie_in limit m ≡ true
    → (elements_lie_in (length (new_table m)) m.elements ≡ true) × (data_lie_in (length (bytes_of (new_memory limit m))) m.segments ≡ true)
each_inside m limit inside = both _ _ (all_inside m limit _ _ refl refl ∙ inside)
