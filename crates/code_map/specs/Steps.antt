-- What one instruction more makes of a pass over a body.
use Rattle.std.specs.Prelude.{◌≡◌, ◌≤◌, ◌<◌, ◌^◌, ⊤, ℕ, ◌+◌, List, [], ◌∷◌, length, drop, Bool, Option, Some, None}
use Rattle.wasm_form.specs.declared.instr.Instr.{Instr}
use Rattle.wasm_form.specs.declared.expr.Match.{Match}
use Rattle.wasm_form.specs.declared.parts.Parts.{Parts}
use Rattle.body_validator.specs.Levels.{Level, left_labels, Stands}
use Rattle.code_map.specs.declared.target.Target.{Target}
use Rattle.code_map.specs.declared.body_map.BodyMap.{BodyMap}
use Rattle.code_map.specs.declared.opens.Open.{Open}
use Rattle.code_map.specs.declared.pass.Pass.{Pass}
use Rattle.code_map.specs.declared.signatures.Signatures.{Signatures}
use Rattle.code_map.specs.Counts.{AreSignatures}
use Rattle.code_map.specs.Targets.{target}
use Rattle.code_map.specs.Marks.{Marks}
use Rattle.code_map.specs.Left.{LeftMapped, left_matches, Extends}

-- what is left of the lists is what the pass has still before it: instructions, labels and matching places
pub record IsLeft (pool : List ℕ) (matches : List Match) (left : List Instr) (levels : List Level)
    (pass : Pass) : Type 0 where
  pub stands : Stands pool left levels
  pub matched : drop pass.matched matches ≡ left_matches levels (length pass.map.slots)
  pub room : length pass.map.tables + length (left_labels levels) ≤ length pool + length pass.map.slots
  pub short : length pass.map.slots + length left < 2 ^ 32

-- each map that goes on from the new pass's maps all that is left of the lists, if it maps all that is left after it
abbrev pub Leads : Parts → (from : List Level) → Pass → (to : List Level) → Pass → Type 0
Leads m from old to new =
    (map : BodyMap) → Extends new.map map → LeftMapped m map to new.opens (length new.map.slots) new.height
    → LeftMapped m map from old.opens (length old.map.slots) old.height

-- after this instruction as much is mapped as before it
abbrev pub Advances : Parts → (pool : List ℕ) → (matches : List Match) → Instr → (old new : Pass) → Type 0
Advances m pool matches i old new =
    (left : List Instr) (levels : List Level) → IsLeft pool matches (i ∷ left) levels old
    → (next : List Level) × IsLeft pool matches left next new × Leads m levels old next new

-- a list begins, and its instruction has this target or none
pub record Begins (o : Open) (t : Option Target) (old new : Pass) : Type 0 where
  pub map : Marks t old.map new.map
  pub opens : new.opens ≡ o ∷ old.opens
  pub matched : new.matched ≡ old.matched + 1
  pub height : new.height ≡ o.label.height

abbrev pub opening : (label : Target) → (gives : Bool) → Open
opening label gives = record { label = label; gives = gives }

-- the heights of the lists that have begun are at most this
abbrev pub AreLow : (most : ℕ) → List Open → Type 0
AreLow most [] = ⊤
AreLow most (o ∷ opens) = (o.label.height ≤ most) × AreLow most opens

-- the numbers of a pass are bounded by how many instructions it has passed
pub record IsSmall (pass : Pass) : Type 0 where
  pub targets : length pass.map.targets ≤ length pass.map.slots
  pub opens : length pass.opens ≤ length pass.map.slots + 1
  pub matched : pass.matched ≤ length pass.map.slots
  pub height : pass.height ≤ 2 ^ 32 + length pass.map.slots
  pub low : AreLow (2 ^ 32 + length pass.map.slots) pass.opens

-- there is room for one instruction more
pub record HasRoom (pass : Pass) : Type 0 where
  pub small : IsSmall pass
  pub slots : length pass.map.slots + 1 < 2 ^ 32
  pub tables : length pass.map.tables < 2 ^ 32

-- one instruction more: its slot, and as much is mapped as before it
pub record Steps (s : Signatures) (pool : List ℕ) (matches : List Match) (i : Instr) (old new : Pass) : Type 0 where
  pub advances : (m : Parts) → AreSignatures m s → Advances m pool matches i old new
  pub extends : Extends old.map new.map
  pub slots : length new.map.slots ≡ length old.map.slots + 1
  pub small : IsSmall new

-- where the if with these places goes if its number is 0: to the start of its else part, or to its end
abbrev pub skips_from : (other : Option ℕ) → (stop : ℕ) → ℕ
skips_from None stop = stop
skips_from (Some other) stop = other + 1

abbrev pub skips_to : Match → ℕ
skips_to found = skips_from found.other found.end

-- a pass before the first of so many instructions, the end among them, of a body over so many locals
pub record IsBegun (locals : ℕ) (gives : Bool) (count : ℕ) (pass : Pass) : Type 0 where
  pub slots : pass.map.slots ≡ []
  pub targets : pass.map.targets ≡ []
  pub tables : pass.map.tables ≡ []
  pub opens : pass.opens ≡ opening (target count locals 0 gives) gives ∷ []
  pub height : pass.height ≡ locals
  pub matched : pass.matched ≡ 0
