use Rattle.std.proofs.Common.{◌≡◌, ℕ, ◌+◌, ◌<◌, ◌≤◌, List, length, map, Option, Some, None, get_or, set, sym, ap, arith, ◌∙◌}
use Rattle.std.proofs.lemmas.List.{get_or-map, length-map}
use Rattle.std.proofs.lemmas.List.Edits.{paste_more}
use lib.Seq.{paste}
use Rattle.instance_store.proofs.table.write_functions.Goals as goal

-- one function more is written
written_more : (table : List (Option ℕ)) (at : ℕ) (functions : List ℕ) (i : ℕ) → at + length functions ≤ length table → i < length functions
    → set (paste table at (map (λ (f : ℕ). Some f) functions) i) (at + i) (Some (get_or functions i 0))
    ≡ paste table at (map (λ (f : ℕ). Some f) functions) (i + 1)
written_more table at functions i room less =
    let elements : List (Option ℕ) = map (λ (f : ℕ). Some f) functions in
    let count : length elements ≡ length functions = length-map functions (λ (f : ℕ). Some f) in
    ap (λ (element : Option ℕ). set (paste table at elements i) (at + i) element) (sym (get_or-map (λ (f : ℕ). Some f) functions i 0 None less))
    ∙ paste_more table at elements i None (omega arith) (omega arith)

pub loop-place-preserved : goal.loop-place-preserved
loop-place-preserved c =
    let place = c.loop-place.place in
    ap (λ (table : List (Option ℕ)). set table (c.args.at + place) (Some (get_or c.args.functions.now place 0))) c.loop-place.invariant
    ∙ written_more c.args.table.now c.args.at c.args.functions.now place c.requires c.loop-place-test.true
