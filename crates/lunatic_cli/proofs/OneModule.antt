-- The run of an accepted module is that of its parts: the map of its code plays no role.
use Rattle.std.proofs.Common.{◌≡◌, ℕ, zero, suc, List, [], ◌∷◌, Option, Some, None, false, slice_get, option_map, refl, ap, subst}
use Rattle.std.specs.Option.{option_map_or, is_none}
use Rattle.resource_table.specs.Handles.{Handle}
use Rattle.resource_table.specs.Steps.{Told}
use Rattle.host_port.specs.declared.start.Start.{Start}
use Rattle.host_port.specs.declared.request.Request.{Request}
use Rattle.world_rules.specs.declared.entry.Entry.{Entry}
use Rattle.world_rules.specs.declared.life.Birth.{Birth}
use Rattle.world_rules.specs.declared.life.Ended.{Ended as EndMemory}
use Rattle.world_rules.specs.Book.{Book}
use Rattle.world_rules.specs.Views.{Given, Deed, Taking, Giving, Timing, EndingAll, deed_of}
use Rattle.world_rules.specs.World.{World, Process, Exit, first_world}
use Rattle.world_rules.specs.Rules.{next}
use Rattle.world_rules.specs.Births.{Terms}
use Rattle.world_rules.specs.Told.{told}
use Rattle.world_rules.specs.Legal.{Legal}
use Rattle.world_rules.specs.Lives.{Setting, terms_of, OwnTurnIsRun, TurnIsRun, AllTurnsAreRuns, Lives, IsMemoryOf, EndsAreMemories, IsRun}
use Rattle.wasm_form.specs.declared.parts.Parts.{Parts}
use Rattle.module_validator.specs.ValidModule.{ValidModule}
use Rattle.tree_machine.specs.Begin as begins
use Rattle.tree_machine.specs.Run as runs
use Rattle.process_table.specs.Seen.{Seen, setting_of}
use Rattle.command_words.specs.declared.options.Options.{Options}
use Rattle.lunatic_cli.specs.Headline.{Tellings, OneJournal}
use Rattle.lunatic_cli.specs.Options.{first_start}
use Rattle.lunatic_cli.specs.Runs.{run_setting, valid_setting, IsFirstNode}
use Rattle.lunatic_cli.proofs.FirstNode.{setting-valid}

-- the module is the one program, under its number
found : (valid v : ValidModule) (k : ℕ) → slice_get (valid ∷ []) k ≡ Some v → slice_get (valid.parts ∷ []) k ≡ Some v.parts
found valid v zero e = ap (option_map (λ (x : ValidModule). x.parts)) e
found valid v (suc k) e = let is : None ≡ Some v = e in absurd (cc)

can-start : (options : Options) (valid : ValidModule) (k : ℕ) (start : Start)
    → option_map_or (λ (v : ValidModule). is_none (begins.begin v.parts start)) (slice_get (valid ∷ []) k) false
    ≡ option_map_or (λ (m : Parts). is_none (begins.begin m start)) (slice_get (valid.parts ∷ []) k) false
can-start options valid zero start = refl
can-start options valid (suc k) start = refl

module _ (options : Options) (valid : ValidModule) where
  -- the same starts are refused
  same-terms : terms_of (valid_setting options valid) ≡ terms_of (run_setting options valid.parts)
  same-terms = λ i. record {
    first = first_start options;
    live = options.live;
    idle = options.idle;
    can_start = λ start. can-start options valid start.«module» start i;
  }

  own-of-parts : (p : Process) (give : Given) (owed : Option Request) → OwnTurnIsRun (valid_setting options valid) p give owed → OwnTurnIsRun (run_setting options valid.parts) p give owed
  own-of-parts p give None own =
      record { program = own.program.parts; found = found valid own.program p.start.«module» own.found; turn = own.turn }
  own-of-parts p give (Some request) own = tt

  turn-of-parts : (w : World) (deed : Deed) → TurnIsRun (valid_setting options valid) w deed → TurnIsRun (run_setting options valid.parts) w deed
  turn-of-parts w (Taking worker pid) turn = tt
  turn-of-parts w (Giving give) turn = own-of-parts (w.process give.pid) give (w.process give.pid).owed turn
  turn-of-parts w (Timing now) turn = tt
  turn-of-parts w (EndingAll cause) turn = tt

  turns-of-parts : (births : List Birth) (w : World) (entries : List Entry) →
      AllTurnsAreRuns (valid_setting options valid) births w entries → AllTurnsAreRuns (run_setting options valid.parts) births w entries
  turns-of-parts births w [] turns = tt
  turns-of-parts births w (entry ∷ entries) turns =
      (turn-of-parts w (deed_of entry) turns.0, turns-of-parts births (next births w entry) entries turns.1)

  memory-of-parts : (p : Process) (memory : EndMemory) → IsMemoryOf (valid_setting options valid) p memory → IsMemoryOf (run_setting options valid.parts) p memory
  memory-of-parts p memory is = record {
    program = is.program.parts;
    found = found valid is.program p.start.«module» is.found;
    pages = is.pages;
    mark = is.mark;
  }

  ends-of-parts : (processes : ℕ → Process) (exits : List Exit) (memories : List EndMemory) →
      EndsAreMemories (valid_setting options valid) processes exits memories → EndsAreMemories (run_setting options valid.parts) processes exits memories
  ends-of-parts processes [] [] ends = tt
  ends-of-parts processes [] (memory ∷ memories) ends = ends
  ends-of-parts processes (exit ∷ exits) [] ends = ends
  ends-of-parts processes (exit ∷ exits) (memory ∷ memories) ends =
      (ends.0, memory-of-parts (processes exit.pid) memory ends.1, ends-of-parts processes exits memories ends.2)

  lives-of-parts : (book : Book) → Lives (valid_setting options valid) book → Lives (run_setting options valid.parts) book
  unfolding Lives
  lives-of-parts book lives = turns-of-parts book.births (first_world book.births) book.entries lives

  run-of-parts : (book : Book) → IsRun (valid_setting options valid) book → IsRun (run_setting options valid.parts) book
  run-of-parts book run = record {
    begins = record { numbered = refl; begun = run.begins.begun };
    legal = subst (λ (terms : Terms). Legal terms book) same-terms run.legal;
    lives = lives-of-parts book run.lives;
    ends = ends-of-parts (told book).process (told book).exits book.ends run.ends;
  }

  -- the headline's journal
  pub journal-of-parts : {S : Type 0} (outsides : Tellings) (tells : Told S) (book : Book) (closed : List (Handle S)) →
      OneJournal (valid_setting options valid) outsides tells book closed → OneJournal (run_setting options valid.parts) outsides tells book closed
  journal-of-parts outsides tells book closed one = record {
    begins = one.begins;
    journal_is_run = run-of-parts book one.journal_is_run;
    is_over = one.is_over;
    nobody_away = one.nobody_away;
    rounds = one.rounds;
    times = one.times;
    rested = one.rested;
    failed = one.failed;
    waited = one.waited;
    handles = one.handles;
  }

-- and that of a run which begins with the first node
pub journal-of-first : {S : Type 0} (options : Options) (valid : ValidModule) (node : Seen ValidModule S) (outsides : Tellings) (tells : Told S) (book : Book) (closed : List (Handle S)) →
    IsFirstNode options valid node →
    OneJournal (setting_of (λ v start. begins.begin v.parts start) (λ v start calls fuel. runs.at v.parts start calls fuel) node) outsides tells book closed →
    OneJournal (run_setting options valid.parts) outsides tells book closed
journal-of-first options valid node outsides tells book closed first one =
    journal-of-parts options valid outsides tells book closed
    (subst (λ (s : Setting ValidModule). OneJournal s outsides tells book closed) (setting-valid options valid node first) one)
