use Rattle.std.specs.Prelude.{◌≡◌, ◌≢◌, ℕ, List, [], ◌∷◌, ◌++◌, ◌+◌, Option, IfSome, true}
use Rattle.host_port.specs.declared.request.Request.{Request}
use Rattle.world_rules.specs.declared.entry.Entry.{Entry}
use Rattle.world_rules.specs.declared.entry.Side.TheVariants as SideIs
use Rattle.world_rules.specs.declared.halt.Halt.TheVariants as HaltIs
use Rattle.world_rules.specs.declared.life.Birth.{Birth}
use Rattle.world_rules.specs.declared.life.Ended.{Ended as EndMemory}
use Rattle.world_rules.specs.Allowed.{GiveFits, SpawnFits}
use Rattle.world_rules.specs.Births.{Terms}
use Rattle.world_rules.specs.Book.{Book}
use Rattle.world_rules.specs.Calls.{call_of}
use Rattle.world_rules.specs.Lives.{Setting, OwnTurnIsRun}
use Rattle.world_rules.specs.Rules.{turned}
use Rattle.world_rules.specs.Views.{Given, want_of, wanted_in}
use Rattle.world_rules.specs.World.{World}
use Rattle.node_state.specs.Seats.{Meaning, IsAsked, IsOwed}
use Rattle.node_state.specs.Fits.{Brought, PhaseFits, SeatFits, give_of, is_from_outside}

-- What a worker brings back, where the birth of a spawn is still to come; and what an entry adds to a journal.

-- where the give performs a spawn, its birth is there; beside a spawn nothing else comes
abbrev pub HasBirth : Option Terms → List Birth → World → Given → Type 0
HasBirth terms births w give =
    IfSome (wanted_in (want_of give.halt) (w.process give.pid).owed) (λ (request : Request).
    SpawnFits terms births (call_of request) (w.process give.pid).stage w (turned (w.process give.pid) give) request
    SideIs.Nothing)

-- the give is allowed, with the birth that comes where it performs a spawn, whatever the terms are
abbrev pub MayBeGiven : List Birth → World → Given → Type 0
MayBeGiven births w give = (terms : Option Terms) (more : List Birth) →
    HasBirth terms (births ++ more) w give → GiveFits terms (births ++ more) w give

-- FITS. What this worker brings back of the process of this number may be given: the Give is allowed, with the birth
-- that comes where it performs a spawn; it is the process's turn or tries the request again that it owes; the seat has
-- what the turn left; nothing is wrong with the request that the outside is to answer; one that it can't answer yet may
-- be tried again; the refusal of memory, which `give` alone finds, isn't said beforehand; and what comes where a
-- request is tried again is the outside's.
pub record TurnFits {E P : Type 0} (engines : Meaning E P) (setting : Setting P) (births : List Birth) (w : World)
    (worker pid : ℕ) (brought : Brought E) : Type 0 where
  pub allowed : MayBeGiven births w (give_of worker pid brought)
  pub turn : OwnTurnIsRun setting (w.process pid) (give_of worker pid brought) (w.process pid).owed
  pub seated : SeatFits engines setting.programs (w.process pid) brought (give_of worker pid brought)
  pub phase : PhaseFits engines (w.process pid).owed brought.seat brought.halt
  pub tries : IfSome brought.seat.owed (IsAsked (engines.memory brought.seat.engine) brought.seat.part)
  pub pending : brought.side ≡ SideIs.Pending →
      IfSome brought.seat.owed (IsOwed (engines.memory brought.seat.engine) brought.seat.part)
  pub asked : brought.side ≢ SideIs.NoMemory
  pub retried : brought.halt ≡ HaltIs.Again → is_from_outside brought.side ≡ true

-- RECORDS. The journal has this entry more, in a reserved place, these births and these ends.
pub record Records (old new : Book) (entry : Entry) (births : List Birth) (ends : List EndMemory) : Type 0 where
  pub entries : new.entries ≡ old.entries ++ entry ∷ []
  pub births_are : new.births ≡ old.births ++ births
  pub ends_are : new.ends ≡ old.ends ++ ends
  pub entry_room : new.entry_room + 1 ≡ old.entry_room
