-- What is said of a file's bytes: the profile is judged first, then the module's rules, then its functions.
use Rattle.std.specs.Prelude.{◌≡◌, ℕ, ◌<◌, List, length}
use Rattle.wasm_form.specs.declared.parts.Parts.{Parts}
use Rattle.wasm_form.specs.Modules.{Spells}
use Rattle.wasm_form.specs.Validity.{ModuleRule, rule_number, Keeps, KeepsRules, IsValidFunction, IsValid}
use Rattle.wasm_form.specs.Profile.{Host, ProfileRule, profile_number, IsInside, IsInProfile}

-- a verdict; rules by their numbers, functions by their places among the module's own
pub data Verdict : Type 0 where
  Malformed : Verdict
  Outside : (rule : ℕ) → Verdict
  InvalidRule : (rule : ℕ) → Verdict
  InvalidFunction : (place : ℕ) → Verdict
  Accepted : Verdict

-- the rule of the profile with this number is broken, and none with a lesser one
pub record IsOutside (host : Host) (m : Parts) (number : ℕ) : Type 0 where
  pub rule : ProfileRule
  pub numbered : profile_number rule ≡ number
  pub broken : ¬ IsInside host m rule
  pub least : (lesser : ProfileRule) → profile_number lesser < number → IsInside host m lesser

-- the module is within the profile; its rule with this number is broken, and none with a lesser one
pub record BreaksRule (host : Host) (m : Parts) (number : ℕ) : Type 0 where
  pub inside : IsInProfile host m
  pub rule : ModuleRule
  pub numbered : rule_number rule ≡ number
  pub broken : ¬ Keeps m rule
  pub least : (lesser : ModuleRule) → rule_number lesser < number → Keeps m lesser

-- no rule of either kind is broken, and this function is the first that isn't typed
pub record BreaksFunction (host : Host) (m : Parts) (place : ℕ) : Type 0 where
  pub inside : IsInProfile host m
  pub rules : KeepsRules m
  pub there : place < length m.bodies
  pub broken : ¬ IsValidFunction m place
  pub least : (lesser : ℕ) → lesser < place → IsValidFunction m lesser

-- no rule of either kind is broken, and each function is typed
pub record IsAccepted (host : Host) (m : Parts) : Type 0 where
  pub inside : IsInProfile host m
  pub valid : IsValid m

-- the verdict on a module
abbrev pub IsVerdictOn : Host → Parts → Verdict → Type 0
IsVerdictOn host m Malformed = ⊥
IsVerdictOn host m (Outside rule) = IsOutside host m rule
IsVerdictOn host m (InvalidRule rule) = BreaksRule host m rule
IsVerdictOn host m (InvalidFunction place) = BreaksFunction host m place
IsVerdictOn host m Accepted = IsAccepted host m

-- the verdict on these bytes: Malformed where they spell no module, and else the verdict on the one that they spell
abbrev pub IsVerdict : Host → (bytes : List ℕ) → Verdict → Type 0
IsVerdict host bytes Malformed = (m : Parts) → ¬ Spells bytes m
IsVerdict host bytes verdict = (m : Parts) × Spells bytes m × IsVerdictOn host m verdict
