-- How a check of a file may end, and a run where nothing ran.
use Rattle.std.specs.Prelude.{◌≡◌, ◌≢◌, ℕ, ◌⊎◌, List, Option, Some, None, IfSome}
use Rattle.outside.specs.Files.{Contents}
use Rattle.module_validator.specs.declared.answer.Verdict.{Verdict}
use Rattle.module_validator.specs.declared.answer.Verdict.TheVariants.{Accepted}
use Rattle.lunatic_cli.specs.File.{HasVerdict}
use Rattle.lunatic_cli.specs.Texts.{file_line, accepted_line, verdict_line}
use Rattle.lunatic_cli.specs.Writing.{Written, AppendsAll, AppendsFront, WritesLine}

-- no verdict is told: its line stands with status 4 where the file was not read; memory was wanting with 8, before or
-- after the verdict, and nothing is written
abbrev pub EndsUnjudged : Written → (status : ℕ) → Type 0
EndsUnjudged sink status =
    ((status ≡ 4) × WritesLine file_line sink) ⊎ ((status ≡ 8) × (sink.after ≡ sink.before))

-- the line of a refusal stands with status 3
abbrev pub TellsRefused : Verdict → Written → (status : ℕ) → Type 0
TellsRefused said sink status = (status ≡ 3) × WritesLine (verdict_line said) sink

-- the line stands whole with status 0, and a front of it with 5
abbrev pub TellsAccepted : Written → (status : ℕ) → Type 0
TellsAccepted sink status =
    ((status ≡ 0) × AppendsAll sink.before sink.after accepted_line)
    ⊎ ((status ≡ 5) × AppendsFront sink.before sink.after accepted_line)

-- what is written of a verdict, and with which status
abbrev pub TellsVerdict : Verdict → Written → (status : ℕ) → Type 0
TellsVerdict Accepted sink status = TellsAccepted sink status
TellsVerdict refused sink status = TellsRefused refused sink status

-- the end of a check of the file of this name, by its verdict
abbrev pub EndsCheck : Option Contents → (name : List ℕ) → Written → (status : ℕ) → Option Verdict → Type 0
EndsCheck content name sink status None = EndsUnjudged sink status
EndsCheck content name sink status (Some said) = HasVerdict content name said × TellsVerdict said sink status

-- an accepted module is told so, and another is refused, want of memory aside
pub record CompletesCheck (content : Option Contents) (name : List ℕ) (status : ℕ) : Type 0 where
  pub accepted : HasVerdict content name Accepted → (status ≡ 0) ⊎ (status ≡ 8)
  pub refused : (said : Verdict) → said ≢ Accepted → HasVerdict content name said → (status ≡ 3) ⊎ (status ≡ 8)

-- the same, where the store tells its contents
abbrev pub CheckCompletes : Option Contents → (name : List ℕ) → (status : ℕ) → Type 0
CheckCompletes content name status = IfSome content (λ _. CompletesCheck content name status)
