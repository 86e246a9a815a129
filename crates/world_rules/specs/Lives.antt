use Rattle.std.specs.Prelude.{◌≡◌, ℕ, ◌-◌, List, [], ◌∷◌, slice_get, Option, Some, None, Bool, true, false}
use Rattle.std.specs.Option.{option_map_or, is_none}
use Rattle.host_port.specs.declared.start.Start.{Start}
use Rattle.host_port.specs.declared.start.StartRefusal.{StartRefusal}
use Rattle.host_port.specs.declared.call.Call.{Call}
use Rattle.host_port.specs.declared.request.Request.{Request}
use Rattle.host_port.specs.declared.stop.Spent.{Spent}
use Rattle.host_port.specs.declared.stop.Spent.TheVariants as SpentIs
use Rattle.host_port.specs.Standing.{Standing, memory_of}
use Rattle.host_port.specs.Memory.{pages_of, mark_of}
use Rattle.turn_rules.specs.Turn.{Ending, Sliced, Meets, Returns, Traps, Exceeds, IsTurn, IsCutShort}
use Rattle.world_rules.specs.declared.entry.Entry.{Entry}
use Rattle.world_rules.specs.declared.halt.Halt.{Halt}
use Rattle.world_rules.specs.declared.halt.Halt.TheVariants as HaltIs
use Rattle.world_rules.specs.declared.life.Birth.{Birth}
use Rattle.world_rules.specs.declared.life.Ended.{Ended as EndMemory}
use Rattle.world_rules.specs.Book.{Book}
use Rattle.world_rules.specs.Views.{Given, Deed, Taking, Giving, Timing, EndingAll, deed_of}
use Rattle.world_rules.specs.Part.{Part}
use Rattle.world_rules.specs.Judge.{Overdrawn, judge}
use Rattle.world_rules.specs.Local.{local}
use Rattle.world_rules.specs.World.{World, Process, Exit, first_world}
use Rattle.world_rules.specs.Rules.{next}
use Rattle.world_rules.specs.Births.{Terms}
use Rattle.world_rules.specs.Told.{told}
use Rattle.world_rules.specs.Legal.{Legal}

-- Each life is the run of its program.

-- what a run is over: the programs, by their numbers; why a program doesn't start so, or nothing; where its run stands,
-- started so, after these calls and so much fuel; and the start of process 1, the live limit and the idle limit
pub record Setting (P : Type 0) : Type 0 where
  pub programs : List P
  pub begin : P → Start → Option StartRefusal
  pub at : P → Start → List Call → ℕ → Option Standing
  pub first : Start
  pub live : ℕ
  pub idle : ℕ

-- the program of a start is there, and isn't refused
abbrev pub can_start : {P : Type 0} → Setting P → Start → Bool
can_start {P} setting start =
    option_map_or (λ (program : P). is_none (setting.begin program start))
    (slice_get setting.programs start.module) false

-- the terms of the world over this setting
abbrev pub terms_of : {P : Type 0} → Setting P → Terms
terms_of setting =
    record { first = setting.first; live = setting.live; idle = setting.idle; can_start = can_start setting }

-- process 1 has the number 1, a program that is there, and a start that isn't refused
pub record Begins {P : Type 0} (setting : Setting P) : Type 0 where
  pub numbered : setting.first.pid ≡ 1
  pub begun : can_start setting setting.first ≡ true

-- TURNS

-- a limit of the run; or the traffic of a request that the turn met would pass the limit
abbrev pub SpentSo : Start → Part → Spent → Ending → Type 0
SpentSo start after SpentIs.Fuel ending = ending ≡ Exceeds SpentIs.Fuel
SpentSo start after SpentIs.Frames ending = ending ≡ Exceeds SpentIs.Frames
SpentSo start after SpentIs.Values ending = ending ≡ Exceeds SpentIs.Values
SpentSo start after SpentIs.Traffic ending =
    (request : Request) × (ending ≡ Meets request) × (judge start after request ≡ Overdrawn)

-- the halt of a turn that ended so, with this part after its calls; where it met a request, the request is asked, is
-- judged a fault, or is overdrawn
abbrev pub HasEnding : Start → Part → Halt → Ending → Type 0
HasEnding start after HaltIs.Slice ending = ending ≡ Sliced
HasEnding start after (HaltIs.Asks request) ending = ending ≡ Meets request
HasEnding start after HaltIs.Done ending = ending ≡ Returns
HasEnding start after (HaltIs.Trap trap) ending = ending ≡ Traps trap
HasEnding start after (HaltIs.Spent spent) ending = SpentSo start after spent ending
HasEnding start after (HaltIs.Host fault request) ending = ending ≡ Meets request
HasEnding start after HaltIs.NoMemory ending = ⊥
HasEnding start after HaltIs.Again ending = ⊥

-- a turn with these calls and so much fuel that ended with this halt
pub record IsWholeTurn (at : List Call → ℕ → Option Standing) (p : Process) (calls : List Call) (burnt : ℕ)
    (halt : Halt) : Type 0 where
  pub ending : Ending
  pub turn : IsTurn at (local p.start) p.start.limits.fuel p.part p.calls p.fuel calls burnt ending
  pub halted : HasEnding p.start turn.after halt ending

-- a turn that was cut short for want of memory
abbrev pub IsShortTurn : (List Call → ℕ → Option Standing) → Process → List Call → ℕ → Type 0
IsShortTurn at p calls burnt = IsCutShort at (local p.start) p.start.limits.fuel p.part p.calls p.fuel calls burnt

-- the calls, the fuel and the halt are those of the process's turn from where it stood, or of such a turn that was cut
-- short for want of memory
abbrev pub IsTurnOf : (List Call → ℕ → Option Standing) → Process → List Call → ℕ → Halt → Type 0
IsTurnOf at p calls burnt HaltIs.NoMemory = IsShortTurn at p calls burnt
IsTurnOf at p calls burnt halt = IsWholeTurn at p calls burnt halt

-- the program of the process is there, and the Give has the calls, the fuel and the halt of its turn
pub record IsTurnOfProgram {P : Type 0} (setting : Setting P) (p : Process) (give : Given) : Type 0 where
  pub program : P
  pub found : slice_get setting.programs p.start.module ≡ Some program
  pub turn : IsTurnOf (setting.at program p.start) p give.calls (give.fuel - p.fuel) give.halt

-- a Give that only tries a request again is no turn of its own
abbrev pub OwnTurnIsRun : {P : Type 0} → Setting P → Process → Given → Option Request → Type 0
OwnTurnIsRun setting p give None = IsTurnOfProgram setting p give
OwnTurnIsRun setting p give (Some request) = Unit {0}

-- TURN. So it is where the entry is a Give.
abbrev pub TurnIsRun : {P : Type 0} → Setting P → World → Deed → Type 0
TurnIsRun setting w (Taking worker pid) = Unit {0}
TurnIsRun setting w (Giving give) = OwnTurnIsRun setting (w.process give.pid) give (w.process give.pid).owed
TurnIsRun setting w (Timing now) = Unit {0}
TurnIsRun setting w (EndingAll cause) = Unit {0}

abbrev pub AllTurnsAreRuns : {P : Type 0} → Setting P → List Birth → World → List Entry → Type 0
AllTurnsAreRuns setting births w [] = Unit {0}
AllTurnsAreRuns setting births w (entry ∷ entries) =
    TurnIsRun setting w (deed_of entry) × AllTurnsAreRuns setting births (next births w entry) entries

-- LIVES. So it is with each Give.
unfoldable pub Lives : {P : Type 0} → Setting P → Book → Type 0
Lives setting book = AllTurnsAreRuns setting book.births (first_world book.births) book.entries

-- ENDS

-- the program of the process is there, and the memory of its run after its calls and its fuel has these pages and this
-- mark
pub record IsMemoryOf {P : Type 0} (setting : Setting P) (p : Process) (memory : EndMemory) : Type 0 where
  pub program : P
  pub found : slice_get setting.programs p.start.module ≡ Some program
  pub pages : memory.pages ≡ pages_of (memory_of (setting.at program p.start p.calls p.fuel))
  pub mark : memory.mark ≡ mark_of (memory_of (setting.at program p.start p.calls p.fuel))

-- ENDS. One item for each process that has ended, in the order of the ends, with its memory at its end.
abbrev pub EndsAreMemories : {P : Type 0} → Setting P → (ℕ → Process) → List Exit → List EndMemory → Type 0
EndsAreMemories setting processes [] [] = Unit {0}
EndsAreMemories setting processes [] (memory ∷ memories) = ⊥
EndsAreMemories setting processes (exit ∷ exits) [] = ⊥
EndsAreMemories setting processes (exit ∷ exits) (memory ∷ memories) =
    (memory.pid ≡ exit.pid) × IsMemoryOf setting (processes exit.pid) memory
    × EndsAreMemories setting processes exits memories

-- A RUN. The journal is legal, each life in it is the run of its program, and its list of ends is right.
pub record IsRun {P : Type 0} (setting : Setting P) (book : Book) : Type 0 where
  pub begins : Begins setting
  pub legal : Legal (terms_of setting) book
  pub lives : Lives setting book
  pub ends : EndsAreMemories setting (told book).process (told book).exits book.ends
