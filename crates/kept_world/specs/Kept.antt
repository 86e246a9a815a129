use Rattle.std.specs.Prelude.{◌≡◌, ℕ, List, [], ◌∷◌, None, false, if◌then◌else◌}
use Rattle.world_rules.specs.declared.entry.Entry.{Entry}
use Rattle.world_rules.specs.Views.{Deed, Taking, Giving, Timing, EndingAll, deed_of}
use Rattle.world_rules.specs.Part.{no_part}
use Rattle.world_rules.specs.Streams.{nothing_streamed}
use Rattle.world_rules.specs.World.{World, Process, Core, no_start, is_away, with_process}
use Rattle.world_rules.specs.laws.CarryLaws.{IsItsGive}

-- What one who performs the rules need keep of the world. What a worker has of a process that is out, or doomed, is with
-- the worker until the process is given back; and what has happened is only told, and no rule reads it.

-- KEPT

-- the process without what has happened: its calls, how many turns it has given back, and what has arrived
abbrev pub untold : Process → Process
untold p = record p { calls = []; gives = 0; arrivals = [] }

-- the process without its start, its part, its fuel and the request that it owes
abbrev pub unhanded : Process → Process
unhanded p = record p { start = no_start; part = no_part; fuel = 0; owed = None }

-- of a process that a worker has, the worker's part is left out
abbrev pub kept_process : Process → Process
kept_process p = if is_away p.stage then unhanded (untold p) else untold p

-- KEPT. The world without what has happened, and without what workers have.
abbrev pub kept : World → World
kept w = record w {
  process = λ pid. kept_process (w.process pid);
  streamed = λ handle. nothing_streamed;
  closed = [];
  exits = [];
  moves = [];
}

-- BROUGHT. The world in which the process of this number has what its worker brings back.
abbrev pub with_core : Core → Process → Process
with_core core p =
    record p { start = core.start; calls = core.calls; fuel = core.fuel; part = core.part; owed = core.owed }

abbrev pub brought : ℕ → Core → World → World
brought pid core w = with_process w pid (with_core core (w.process pid))

-- ENTRIES

-- an entry gives no process back
abbrev pub GivesNone : Deed → Type 0
GivesNone (Taking worker pid) = Unit {0}
GivesNone (Giving give) = ⊥
GivesNone (Timing now) = Unit {0}
GivesNone (EndingAll cause) = Unit {0}

-- none of these entries gives this process back
abbrev pub NoneGives : ℕ → List Entry → Type 0
NoneGives pid [] = Unit {0}
NoneGives pid (entry ∷ entries) = (IsItsGive pid (deed_of entry) → ⊥) × NoneGives pid entries

-- CHANGES

-- a change of a world does the same where only what is kept is there; and it does where no worker has this process
abbrev pub ReadsKept : (World → World) → Type 0
ReadsKept change = (w : World) → kept (change w) ≡ kept (change (kept w))

abbrev pub ReadsKeptAtHome : ℕ → (World → World) → Type 0
ReadsKeptAtHome pid change =
    (w : World) → is_away (w.process pid).stage ≡ false → kept (change w) ≡ kept (change (kept w))
