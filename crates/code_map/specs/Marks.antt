-- What one instruction more adds to a map.
use Rattle.std.specs.Prelude.{◌≡◌, ℕ, List, [], ◌∷◌, ◌++◌, length, map, slice_get, Option, option_to_list, unwrap_or, false}
use Rattle.code_map.specs.declared.target.Target.{Target}
use Rattle.code_map.specs.declared.body_map.BodyMap.{BodyMap}
use Rattle.code_map.specs.Targets.{target}

-- a slot, and the target where there is one
pub record Marks (t : Option Target) (old new : BodyMap) : Type 0 where
  pub slots : new.slots ≡ old.slots ++ length old.targets ∷ []
  pub targets : new.targets ≡ old.targets ++ option_to_list t
  pub tables : new.tables ≡ old.tables

-- a target that says nothing
abbrev pub nowhere : Target
nowhere = target 0 0 0 false

-- the target of the label with this number
abbrev pub target_at : List Target → (label : ℕ) → Target
target_at targets label = unwrap_or (slice_get targets label) nowhere

-- a slot, and the targets of these labels
pub record MarksTable (labelled : List Target) (labels : List ℕ) (old new : BodyMap) : Type 0 where
  pub slots : new.slots ≡ old.slots ++ length old.tables ∷ []
  pub targets : new.targets ≡ old.targets
  pub tables : new.tables ≡ old.tables ++ map (target_at labelled) labels
