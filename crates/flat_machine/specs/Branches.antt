-- Branches that hang on a number: what they make of the flat machine, and which target they find in the map.
use Rattle.std.specs.Prelude.{◌≡◌, ◌≢◌, ℕ, ◌+◌, ◌⊎◌, min, List, [], ◌∷◌, slice_get, Some}
use Rattle.wasm_form.specs.declared.parts.Parts.{Parts}
use Rattle.code_map.specs.declared.target.Target.{Target}
use Rattle.code_map.specs.declared.body_map.BodyMap.{BodyMap}
use Rattle.tree_machine.specs.Outcomes.{Outcome, Gives}
use Rattle.flat_machine.specs.Flat.{Place, Flat, goes_on}
use Rattle.flat_machine.specs.Tells.{Agrees}
use Rattle.flat_machine.specs.Control.{jump}
use Rattle.flat_machine.specs.Mapping.{Follows, HasTargetAt}

-- br_if: the number is taken; where it is 0 the next instruction is to come, and else the machine goes to the target
abbrev pub BranchesIf : Parts → List BodyMap → Flat → Outcome → (values : List ℕ) → Type 0
BranchesIf m maps flat outcome [] = ⊥
BranchesIf m maps flat outcome (number ∷ below) =
    ((number ≡ 0) × Agrees (Follows m maps) (Gives (goes_on below flat)) outcome)
    ⊎ ((number ≢ 0) × (t : Target) × HasTargetAt maps flat.place t
    × Agrees (Follows m maps) (Gives (jump t below flat)) outcome)

-- the target of the br_table with so many labels at this place, for this number; the default label stands behind the
-- others
abbrev pub HasEntryAt : List BodyMap → Place → (count number : ℕ) → Target → Type 0
HasEntryAt maps place count number t =
    (map : BodyMap) × (first : ℕ) × (slice_get maps place.body ≡ Some map) × (slice_get map.slots place.pc ≡ Some first)
    × (slice_get map.tables (first + min number count) ≡ Some t)

-- br_table: the number is taken, and the machine goes to its target
abbrev pub BranchesBy : Parts → List BodyMap → Flat → Outcome → (count : ℕ) → (values : List ℕ) → Type 0
BranchesBy m maps flat outcome count [] = ⊥
BranchesBy m maps flat outcome count (number ∷ below) =
    (t : Target) × HasEntryAt maps flat.place count number t
    × Agrees (Follows m maps) (Gives (jump t below flat)) outcome
