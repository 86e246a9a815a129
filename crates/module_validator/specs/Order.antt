-- The first rule or function of a module that is broken, where the profile isn't asked.
use Rattle.std.specs.Prelude.{◌≡◌, ℕ, ◌<◌, length}
use Rattle.wasm_form.specs.declared.parts.Parts.{Parts}
use Rattle.wasm_form.specs.Validity.{ModuleRule, rule_number, Keeps, IsValidFunction}

-- the rule with this number is broken, and none with a lesser one
pub record IsLeastBroken (m : Parts) (number : ℕ) : Type 0 where
  pub rule : ModuleRule
  pub numbered : rule_number rule ≡ number
  pub broken : ¬ Keeps m rule
  pub least : (lesser : ModuleRule) → rule_number lesser < number → Keeps m lesser

-- each function is typed
abbrev pub HasTypedFunctions : Parts → Type 0
HasTypedFunctions m = (place : ℕ) → place < length m.bodies → IsValidFunction m place

-- this function is the first that isn't typed
pub record IsFirstUntyped (m : Parts) (place : ℕ) : Type 0 where
  pub there : place < length m.bodies
  pub broken : ¬ IsValidFunction m place
  pub least : (lesser : ℕ) → lesser < place → IsValidFunction m lesser
