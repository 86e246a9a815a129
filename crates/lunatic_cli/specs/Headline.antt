-- Whatever the modules, workers and interleaving, what `run` writes is the report of one journal; each process's
-- calls, memory and end are its module's WebAssembly run on its own parameters, limits and replies, so worlds that
-- bring it the same things agree on it; each reply is the one-thread world's; each stream handle stands in exactly one
-- place and moves only by recorded calls and ends.
-- One part of the sentence is defined (`world_rules`: what arrives at a process, by which worlds agree on it), and is
-- not stated here yet.
use Rattle.std.specs.Prelude.{◌≡◌, ℕ, List, [], ◌∷◌, map, Option, true, false}
use Rattle.resource_table.specs.Handles.{Handle}
use Rattle.resource_table.specs.Steps.{Told}
use Rattle.outside.specs.Files.{Contents}
use Rattle.host_port.specs.declared.start.Start.{Start}
use Rattle.world_rules.specs.declared.life.Birth.{Birth}
use Rattle.world_rules.specs.declared.life.Birth.TheVariants.{Born, Refused}
use Rattle.world_rules.specs.Book.{Book}
use Rattle.world_rules.specs.World.{is_away}
use Rattle.world_rules.specs.Told.{told}
use Rattle.world_rules.specs.Legal.{Rounds}
use Rattle.world_rules.specs.Lives.{Setting, IsRun}
use Rattle.world_rules.specs.Report.{report_text}
use Rattle.wasm_form.specs.declared.parts.Parts.{Parts}
use Rattle.command_words.specs.declared.options.Options.{Options}
use Rattle.lunatic_cli.specs.File.{HasModule}
use Rattle.lunatic_cli.specs.Causes.{failures_of, waits_of, HaveGrown}
use Rattle.lunatic_cli.specs.Handles.{StandInOnePlace}
use Rattle.lunatic_cli.specs.Times.{times_of, AllAreWithin}
use Rattle.lunatic_cli.specs.Quiet.{quiet_in, HaveRested}
use Rattle.lunatic_cli.specs.Runs.{run_setting}
use Rattle.lunatic_cli.specs.Writing.{AppendsAll}

-- the first birth is that of a process with this start
abbrev pub FirstIsBornWith : Start → List Birth → Type 0
FirstIsBornWith start [] = ⊥
FirstIsBornWith start (Born first ∷ births) = first ≡ start
FirstIsBornWith start (Refused reply ∷ births) = ⊥

-- what the outsides of a run tell of themselves: their clocks, and their counts of faults, of waits and of rests
pub record OutsidesTell : Type 0 where
  pub clocks : List (Option ℕ)
  pub faults : List ℕ
  pub waits : List ℕ
  pub rests : List ℕ

-- what they told before a run and after it
pub record Tellings : Type 0 where
  pub before : OutsidesTell
  pub after : OutsidesTell

abbrev pub outsides_tell : {O : Type 0} → (clock : O → Option ℕ) → (faults waits rests : O → ℕ) → List O → OutsidesTell
outsides_tell clock faults waits rests outsides = record {
  clocks = map clock outsides;
  faults = map faults outsides;
  waits = map waits outsides;
  rests = map rests outsides;
}

abbrev pub tellings_of : {O : Type 0} → (clock : O → Option ℕ) → (faults waits rests : O → ℕ) → (before after : List O)
    → Tellings
tellings_of clock faults waits rests before after = record {
  before = outsides_tell clock faults waits rests before;
  after = outsides_tell clock faults waits rests after;
}

-- The journal's part, and that of the streams that are closed at the end.
pub record OneJournal {P S : Type 0} (setting : Setting P) (outsides : Tellings) (tells : Told S) (book : Book)
    (closed : List (Handle S)) : Type 0 where
  -- process 1 is born first, with the start that the options name
  pub begins : FirstIsBornWith setting.first book.births
  -- it is a run: legal, so that each reply is the one-thread world's; each process's calls, fuel and halts are its
  -- program's run on its own start and replies; and the list of ends has the memory of that run at each end
  pub journal_is_run : IsRun setting book
  -- the run is over, and no worker has a process
  pub is_over : (told book).over ≡ true
  pub nobody_away : (pid : ℕ) → is_away ((told book).process pid).stage ≡ false
  -- between a Take and its Give stands no entry of the same worker, and after a Tick its worker takes what is ready
  pub rounds : Rounds book
  -- where all clocks are told, each recorded time lies between the least of them before and the greatest after
  pub times : AllAreWithin outsides.before.clocks outsides.after.clocks (times_of book.entries)
  -- the workers rested after each Tick that woke nobody and each request that couldn't be answered yet, but one, unless
  -- a count of rests stands at its end
  pub rested : HaveRested outsides.before.rests outsides.after.rests (quiet_in book)
  -- a bind, an accept or a connect was answered 1 at most as often as the outsides' faults rose, and an accept couldn't
  -- be answered yet at most as often as their waits rose
  pub failed : HaveGrown outsides.before.faults outsides.after.faults (failures_of book)
  pub waited : HaveGrown outsides.before.waits outsides.after.waits (waits_of book)
  -- each stream handle stands in exactly one place and moves only by recorded calls and ends
  pub handles : StandInOnePlace tells book closed

-- THE HEADLINE. There is one journal, and the bytes that were written are its report.
pub record Headline {P S : Type 0} (setting : Setting P) (outsides : Tellings) (tells : Told S)
    (old new : Option (List ℕ)) (book : Book) (closed : List (Handle S)) : Type 0 where
  pub journal : OneJournal setting outsides tells book closed
  pub written : AppendsAll old new (report_text book)

-- the file of this name is an accepted module, and the headline holds of its run with these options
pub record HeadlineOfFile {S : Type 0} (content : Option Contents) (name : List ℕ) (options : Options)
    (outsides : Tellings) (tells : Told S) (old new : Option (List ℕ)) (book : Book) (closed : List (Handle S))
    : Type 0 where
  pub module_of_file : Parts
  pub is_module : HasModule content name module_of_file
  pub holds : Headline (run_setting options module_of_file) outsides tells old new book closed
