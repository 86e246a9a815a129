-- Bytes that are accepted have no other verdict.
use Rattle.std.proofs.Common.{◌≡◌, ℕ, List, refl, subst}
use Rattle.wasm_form.specs.declared.parts.Parts.{Parts}
use Rattle.wasm_form.specs.Modules.{Spells}
use Rattle.wasm_form.specs.Profile.{Host}
use Rattle.wasm_form.specs.Verdict as is
use Rattle.module_validator.specs.Answers.{meant_by}
use Rattle.module_validator.specs.declared.answer.Place.TheVariants.{Rule, Function}
use Rattle.module_validator.specs.declared.answer.Verdict.{Verdict}
use Rattle.module_validator.specs.declared.answer.Verdict.TheVariants as verdict

module _ (one : (bytes : List ℕ) (m n : Parts) → Spells bytes m → Spells bytes n → m ≡ n) (host : Host) (bytes : List ℕ) where
  same : (a : is.IsVerdict host bytes is.Accepted) (n : Parts) → Spells bytes n → is.IsAccepted host n
  same a n spelled = subst (λ (m : Parts). is.IsAccepted host m) (one bytes a.0 n a.1 spelled) a.2

  pub accepted_alone : (said : Verdict) → is.IsVerdict host bytes is.Accepted → is.IsVerdict host bytes (meant_by said) → said ≡ verdict.Accepted
  accepted_alone verdict.Malformed a v = absurd (v a.0 a.1)
  accepted_alone (verdict.Outside rule) a v = absurd (v.2.broken ((same a v.0 v.1).inside v.2.rule))
  accepted_alone (verdict.Invalid (Rule rule)) a v = absurd (v.2.broken ((same a v.0 v.1).valid.rules v.2.rule))
  accepted_alone (verdict.Invalid (Function place)) a v = absurd (v.2.broken ((same a v.0 v.1).valid.functions place v.2.there))
  accepted_alone verdict.Accepted a v = refl
