-- A module file that was read and judged.
use Rattle.std.specs.Prelude.{◌≡◌, ◌≢◌, ℕ, List, Option}
use Rattle.outside.specs.Files.{Contents}
use Rattle.wasm_form.specs.declared.parts.Parts.{Parts}
use Rattle.wasm_form.specs.Modules.{Spells}
use Rattle.wasm_form.specs.Verdict as is
use Rattle.module_validator.specs.Host.{host}
use Rattle.module_validator.specs.Answers.{meant_by}
use Rattle.module_validator.specs.declared.answer.Verdict.{Verdict}
use Rattle.module_validator.specs.declared.answer.Verdict.TheVariants as verdict
use Rattle.lunatic_cli.specs.declared.judge.JudgedFile.{JudgedFile}
use Rattle.lunatic_cli.specs.declared.judge.JudgedFile.TheVariants.{Accepted, Refused}
use Rattle.lunatic_cli.specs.File.{IsContent}

-- the verdict on the file
abbrev pub verdict_of : JudgedFile → Verdict
verdict_of (Accepted valid) = verdict.Accepted
verdict_of (Refused said) = said

-- this module was judged: it is the accepted one, or the verdict is that on it
abbrev pub IsJudgedModule : Parts → JudgedFile → Type 0
IsJudgedModule m (Accepted valid) = (valid.parts ≡ m) × is.IsAccepted host m
IsJudgedModule m (Refused said) = (said ≢ verdict.Accepted) × is.IsVerdictOn host m (meant_by said)

-- these bytes were judged: they spell the accepted module, or the verdict is that on them
abbrev pub IsJudgedText : (bytes : List ℕ) → JudgedFile → Type 0
IsJudgedText bytes (Accepted valid) = Spells bytes valid.parts × is.IsAccepted host valid.parts
IsJudgedText bytes (Refused said) = (said ≢ verdict.Accepted) × is.IsVerdict host bytes (meant_by said)

-- the bytes of the file of this name were judged
pub record IsJudged (content : Option Contents) (name : List ℕ) (file : JudgedFile) : Type 0 where
  pub bytes : List ℕ
  pub is_content : IsContent content name bytes
  pub is_judged : IsJudgedText bytes file
