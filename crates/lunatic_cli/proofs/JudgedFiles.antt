-- What a judged file is, by its verdict.
use Rattle.std.proofs.Common.{◌≡◌, ◌≢◌, ℕ, List, Option, subst}
use Rattle.outside.specs.Files.{Contents}
use Rattle.module_validator.specs.ValidModule.{ValidModule}
use Rattle.module_validator.specs.declared.answer.Verdict.{Verdict}
use Rattle.module_validator.specs.declared.answer.Verdict.TheVariants as verdict
use Rattle.lunatic_cli.specs.declared.judge.JudgedFile.{JudgedFile}
use Rattle.lunatic_cli.specs.declared.judge.JudgedFile.TheVariants.{Accepted, Refused}
use Rattle.lunatic_cli.specs.File.{HasVerdict, HasModule}
use Rattle.lunatic_cli.specs.Judged.{IsJudged, IsJudgedText, verdict_of}

-- it has its verdict
pub verdict-of-judged : (content : Option Contents) (name : List ℕ) (file : JudgedFile) → IsJudged content name file → HasVerdict content name (verdict_of file)
verdict-of-judged content name (Accepted valid) judged =
    record { bytes = judged.bytes; is_content = judged.is_content; is_verdict = (valid.parts, judged.is_judged.0, judged.is_judged.1) }
verdict-of-judged content name (Refused said) judged = record { bytes = judged.bytes; is_content = judged.is_content; is_verdict = judged.is_judged.1 }

-- its module is the accepted one
pub module-of-judged : (content : Option Contents) (name : List ℕ) (file : JudgedFile) (valid : ValidModule) → IsJudged content name file → file ≡ Accepted valid → HasModule content name valid.parts
module-of-judged content name file valid judged is =
    let on : IsJudgedText judged.bytes (Accepted valid) = subst (IsJudgedText judged.bytes) is judged.is_judged in
    record { bytes = judged.bytes; is_content = judged.is_content; is_spelled = on.0; is_accepted = on.1 }

-- it is refused
pub refusal-of-judged : (content : Option Contents) (name : List ℕ) (file : JudgedFile) (said : Verdict) → IsJudged content name file → file ≡ Refused said →
    (said ≢ verdict.Accepted) × HasVerdict content name said
refusal-of-judged content name file said judged is =
    let on : IsJudgedText judged.bytes (Refused said) = subst (IsJudgedText judged.bytes) is judged.is_judged in
    (on.0, record { bytes = judged.bytes; is_content = judged.is_content; is_verdict = on.1 })
