-- What the answers of the code say of a module.
use Rattle.std.specs.Prelude.{⊤, Option, Some, None}
use Rattle.wasm_form.specs.declared.parts.Parts.{Parts}
use Rattle.wasm_form.specs.Verdict as is
use Rattle.module_validator.specs.Host.{host}
use Rattle.module_validator.specs.declared.answer.Place.TheVariants.{Rule, Function}
use Rattle.module_validator.specs.declared.answer.Refused.{Refused}
use Rattle.module_validator.specs.declared.answer.Refused.TheVariants as refused
use Rattle.module_validator.specs.declared.answer.Verdict.{Verdict}
use Rattle.module_validator.specs.declared.answer.Verdict.TheVariants as verdict

-- the verdict that a verdict of the code stands for
abbrev pub meant_by : Verdict → is.Verdict
meant_by verdict.Malformed = is.Malformed
meant_by (verdict.Outside rule) = is.Outside rule
meant_by (verdict.Invalid (Rule rule)) = is.InvalidRule rule
meant_by (verdict.Invalid (Function place)) = is.InvalidFunction place
meant_by verdict.Accepted = is.Accepted

-- the verdict that a refusal is; want of memory is none
abbrev pub verdict_of : Refused → Option Verdict
verdict_of (refused.Outside rule) = Some (verdict.Outside rule)
verdict_of (refused.Invalid place) = Some (verdict.Invalid place)
verdict_of refused.NoMemory = None

-- the refusal is the verdict on the module; want of memory says nothing of it
abbrev pub IsRefusalOf : Parts → Refused → Type 0
IsRefusalOf m (refused.Outside rule) = is.IsOutside host m rule
IsRefusalOf m (refused.Invalid (Rule rule)) = is.BreaksRule host m rule
IsRefusalOf m (refused.Invalid (Function place)) = is.BreaksFunction host m place
IsRefusalOf m refused.NoMemory = ⊤
