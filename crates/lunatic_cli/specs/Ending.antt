-- How the program may end, by the words, the file and the sink.
use Rattle.std.specs.Prelude.{◌≡◌, ◌≢◌, ℕ, ◌⊎◌, List, [], Option, Some, None, IfSome}
use Rattle.outside.specs.Files.{Contents}
use Rattle.host_port.specs.declared.start.StartRefusal.{StartRefusal}
use Rattle.world_rules.specs.Book.{Book, IsBlank}
use Rattle.world_rules.specs.Lives.{Setting}
use Rattle.world_rules.specs.Report.{report_text}
use Rattle.wasm_form.specs.declared.parts.Parts.{Parts}
use Rattle.module_validator.specs.declared.answer.Verdict.{Verdict}
use Rattle.module_validator.specs.declared.answer.Verdict.TheVariants.{Accepted}
use Rattle.tree_machine.specs.Begin.{begin}
use Rattle.command_words.specs.declared.options.Options.{Options}
use Rattle.lunatic_cli.specs.declared.finish.Finish.{Finish}
use Rattle.resource_table.specs.Steps.{Told}
use Rattle.lunatic_cli.specs.declared.words.Asked.{Asked}
use Rattle.lunatic_cli.specs.declared.words.Asked.TheVariants.{Run, Check}
use Rattle.lunatic_cli.specs.Statuses.{HasStatus}
use Rattle.lunatic_cli.specs.File.{HasVerdict, HasModule}
use Rattle.lunatic_cli.specs.Headline.{Tellings, OneJournal}
use Rattle.lunatic_cli.specs.Options.{first_start}
use Rattle.lunatic_cli.specs.Runs.{run_setting, Returns}
use Rattle.lunatic_cli.specs.Texts.{words_line, start_line}
use Rattle.lunatic_cli.specs.Writing.{Written, AppendsAll, AppendsFront, WritesLine}
use Rattle.lunatic_cli.specs.Checks.{EndsUnjudged, TellsRefused, EndsCheck, CompletesCheck}

-- what the sink and the outsides told before and after
pub record Outcome : Type 0 where
  pub sink : Written
  pub outsides : Tellings

-- the status is the journal's, which isn't that of want of memory, and its report stands whole
pub record IsReported (old new : Option (List ℕ)) (book : Book) (status : ℕ) : Type 0 where
  pub status_told : HasStatus book status
  pub has_memory : status ≢ 8
  pub written : AppendsAll old new (report_text book)

-- the sink failed: 5 stands in place of the journal's status, and a front of the report is written
pub record IsUnwritten (old new : Option (List ℕ)) (book : Book) (status : ℕ) : Type 0 where
  pub status_is : status ≡ 5
  pub would_be : ℕ
  pub status_told : HasStatus book would_be
  pub has_memory : would_be ≢ 8
  pub written : AppendsFront old new (report_text book)

-- what is written of a journal, and the status with which: with 8 nothing
abbrev pub WritesReport : Option (List ℕ) → Option (List ℕ) → Book → ℕ → Type 0
WritesReport old new book status =
    IsReported old new book status ⊎ (IsUnwritten old new book status ⊎ ((status ≡ 8) × (new ≡ old)))

-- the run is over, and what is written is of its journal
pub record RunsWhole {P S : Type 0} (setting : Setting P) (tells : Told S) (at : Outcome) (finish : Finish S)
    : Type 0 where
  pub begun : finish.start ≡ None
  pub journal : OneJournal setting at.outsides tells finish.journal finish.closed.items
  pub writes : WritesReport at.sink.before at.sink.after finish.journal finish.status

-- process 1 can't start so: why, as the module's begin says, with its line; and nothing ran
pub record RefusesStart {S : Type 0} (options : Options) (m : Parts) (sink : Written) (finish : Finish S) : Type 0 where
  pub why : StartRefusal
  pub refused : begin m (first_start options) ≡ Some why
  pub start_is : finish.start ≡ Some why
  pub status_is : finish.status ≡ 3
  pub line : WritesLine (start_line why) sink
  pub blank : IsBlank finish.journal
  pub none_closed : finish.closed.items ≡ []

-- memory was wanting before anything ran
pub record RunsNothing {S : Type 0} (sink : Written) (finish : Finish S) : Type 0 where
  pub unrefused : finish.start ≡ None
  pub status_is : finish.status ≡ 8
  pub nothing : sink.after ≡ sink.before
  pub blank : IsBlank finish.journal
  pub none_closed : finish.closed.items ≡ []

-- the end of a run of this module: it is over, or process 1 can't start, or memory was wanting
abbrev pub RunsModule : {S : Type 0} → Options → Parts → Told S → Outcome → Finish S → Type 0
RunsModule options m tells at finish =
    RunsWhole (run_setting options m) tells at finish ⊎ (RefusesStart options m at.sink finish ⊎ RunsNothing at.sink finish)

-- the file is an accepted module, and this is the end of its run
pub record EndsAccepted {S : Type 0} (content : Option Contents) (name : List ℕ) (options : Options) (tells : Told S)
    (at : Outcome) (finish : Finish S) : Type 0 where
  pub module_of_file : Parts
  pub file : HasModule content name module_of_file
  pub run : RunsModule options module_of_file tells at finish

-- the end of a run of the file of this name, by its verdict
abbrev pub EndsRun : {S : Type 0} → Option Contents → (name : List ℕ) → Options → Told S → Outcome → Finish S
    → Option Verdict → Type 0
EndsRun content name options tells at finish None = EndsUnjudged at.sink finish.status
EndsRun content name options tells at finish (Some Accepted) = EndsAccepted content name options tells at finish
EndsRun content name options tells at finish (Some refused) =
    HasVerdict content name refused × TellsRefused refused at.sink finish.status

-- the words are refused
pub record EndsRefused {S : Type 0} (sink : Written) (finish : Finish S) : Type 0 where
  pub status_is : finish.status ≡ 2
  pub verdict_is : finish.verdict ≡ None
  pub line : WritesLine words_line sink

-- memory was wanting before the words were read
pub record EndsUnasked {S : Type 0} (sink : Written) (finish : Finish S) : Type 0 where
  pub status_is : finish.status ≡ 8
  pub verdict_is : finish.verdict ≡ None
  pub nothing : sink.after ≡ sink.before

-- the end of the program, by what the words ask for; a run has the options that they name
abbrev pub Ends : {S : Type 0} → Option Contents → Told S → Outcome → Finish S → Option Asked → Type 0
Ends content tells at finish None = EndsRefused at.sink finish ⊎ EndsUnasked at.sink finish
Ends content tells at finish (Some (Run name options)) = EndsRun content name options tells at finish finish.verdict
Ends content tells at finish (Some (Check name)) = EndsCheck content name at.sink finish.status finish.verdict

-- what becomes of a run of the file of this name, want of memory aside, where neither its reading nor a write fails
pub record CompletesRun (content : Option Contents) (name : List ℕ) (options : Options) (status : ℕ) : Type 0 where
  -- an accepted module that begins is run to an end of process 1, until nothing can happen any more, or until the run
  -- is idle for too long
  pub begun : (m : Parts) → HasModule content name m → begin m (first_start options) ≡ None →
      (status ≡ 0) ⊎ ((status ≡ 1) ⊎ ((status ≡ 6) ⊎ ((status ≡ 7) ⊎ (status ≡ 8))))
  -- it is done where it asks nothing and returns
  pub returned : (m : Parts) → HasModule content name m → Returns options m → (status ≡ 0) ⊎ (status ≡ 8)
  -- an accepted module that doesn't begin is refused
  pub unbegun : (m : Parts) (why : StartRefusal) → HasModule content name m → begin m (first_start options) ≡ Some why →
      (status ≡ 3) ⊎ (status ≡ 8)
  -- another file is refused
  pub refused : (said : Verdict) → said ≢ Accepted → HasVerdict content name said → (status ≡ 3) ⊎ (status ≡ 8)

-- the same, where the store tells its contents
abbrev pub RunCompletes : Option Contents → (name : List ℕ) → Options → (status : ℕ) → Type 0
RunCompletes content name options status = IfSome content (λ _. CompletesRun content name options status)

-- what becomes of the file that the words name, by what they ask for
abbrev pub CompletesFile : Option Contents → (status : ℕ) → Asked → Type 0
CompletesFile content status (Run name options) = CompletesRun content name options status
CompletesFile content status (Check name) = CompletesCheck content name status

-- what becomes of the file that the words name, where the store tells its contents
abbrev pub Completes : Option Contents → Option Asked → (status : ℕ) → Type 0
Completes content asked status = IfSome asked (λ one. IfSome content (λ _. CompletesFile content status one))
