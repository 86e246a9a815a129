-- The labels of br_table.
use Rattle.std.proofs.Common.{◌≡◌, ℕ, ◌+◌, ◌-◌, ◌≤◌, List, ◌++◌, length, length-take, length-drop, append_assoc, take, drop, sum_by, arith, refl, ap, subst, sym}
use Rattle.wasm_form.specs.Values.{SpellsU32, SpellsItems}
use Rattle.wasm_form.specs.Least.{least_unsigned}
use Rattle.module_writer.specs.Writing.{HasSpelling, Appends}
use Rattle.module_writer.specs.Lines.{labels_at, SpellsTableOf, least_table}
use Rattle.module_writer.proofs.Appending.{appends_three}

-- a slice is taken by its end
slice : (labels : List ℕ) (first count : ℕ) → take (first + count - first) (drop first labels) ≡ labels_at labels first count
slice labels first count = ap (λ (n : ℕ). take n (drop first labels)) (omega arith)

how_many : (labels : List ℕ) (first count : ℕ) → first + count ≤ length labels → length (labels_at labels first count) ≡ count
how_many labels first count there =
    omega (arith, length-take count (drop first labels), length-drop first labels)

pub table_items : (labels : List ℕ) (first count last : ℕ) → HasSpelling (SpellsTableOf labels first count) last → HasSpelling (SpellsItems SpellsU32) (take (first + count - first) (drop first labels))
table_items labels first count last h =
    subst (λ (l : List ℕ). HasSpelling (SpellsItems SpellsU32) l) (sym (slice labels first count))
    (record { bytes = h.spells.table.1; spells = h.spells.table.3 })

pub appends_table : (labels : List ℕ) (first count last : ℕ) (old one two new : List ℕ) → HasSpelling (SpellsTableOf labels first count) last → Appends SpellsU32 least_unsigned count old one
    → Appends (SpellsItems SpellsU32) (sum_by least_unsigned) (take (first + count - first) (drop first labels)) one two → Appends SpellsU32 least_unsigned last two new
    → Appends (SpellsTableOf labels first count) (least_table labels first count) last old new
appends_table labels first count last old one two new h a b c =
    let these : List ℕ = labels_at labels first count in
    let many : length these ≡ count = how_many labels first count h.spells.there in
    let items : Appends (SpellsItems SpellsU32) (sum_by least_unsigned) these one two = subst (λ (l : List ℕ). Appends (SpellsItems SpellsU32) (sum_by least_unsigned) l one two) (slice labels first count) b in
    appends_three SpellsU32 (SpellsItems SpellsU32) SpellsU32 (SpellsTableOf labels first count) least_unsigned (sum_by least_unsigned) least_unsigned (least_table labels first count) count these last last old one two new a items c
    (λ s t u x y z. record {
      vector = s ++ t;
      number = u;
      table = (s, t, subst (λ (n : ℕ). SpellsU32 s n) (sym many) x, y, refl);
      default = z;
      there = h.spells.there;
      whole = sym (append_assoc s t u);
    }) refl
