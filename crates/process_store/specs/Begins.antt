use Rattle.std.specs.Prelude.{◌≡◌, ℕ, List, [], ◌∷◌, map, None, true, false}
use Rattle.std.specs.FinMap.{empty, insert}
use Rattle.host_port.specs.declared.start.Start.{Start}
use Rattle.world_rules.specs.Part.{no_part}
use Rattle.node_state.specs.Seats.{Seat}
use Rattle.node_mirror.specs.Slots.{Nobody}
use Rattle.node_mirror.specs.Held.{Held}
use Rattle.node_mirror.specs.Steps.{born}
use Rattle.host_calls.specs.declared.proc.Proc.{Proc}
use Rattle.host_calls.specs.Listening.{no_listeners}
use Rattle.process_store.specs.declared.place.Place.TheVariants as PlaceIs
use Rattle.process_store.specs.declared.store.begin.Holdings.{Holdings}
use Rattle.process_store.specs.declared.store.Store.{Store}
use Rattle.process_store.specs.Holds.{held_of, kept_of}
use Rattle.process_store.specs.Keeps.{StoreKeeps}

-- How a store begins.

-- what a node holds before process 1 is born: nothing, and number 1 is to be ready
abbrev pub nothing_held : {E : Type 0} → Held E
nothing_held = record {
  slots = λ pid. Nobody;
  mail = λ pid. [];
  deadlines = λ pid. None;
  names = λ name. None;
  ready = 1 ∷ [];
  numbers = 0;
  births = 1;
  unended = 0;
  out = 0;
  sends = 0;
  time = 0;
  row = 0;
  over = false;
  streams = 0;
  closed = [];
}

-- what is kept of a process at its birth
abbrev pub born_seat : {E : Type 0} → E → Start → Seat E
born_seat engine start = record { engine = engine; start = start; part = no_part; fuel = 0; owed = None }

-- a process that has nothing
pub record HasNothing {E O P S L : Type 0} (proc : Proc E O P S L) : Type 0 where
  pub scratch : proc.scratch ≡ None
  pub table : proc.table ≡ []
  pub shed : proc.shed ≡ []
  pub listeners : proc.listeners ≡ no_listeners
  pub traffic : proc.traffic ≡ 0
  pub fuel : proc.fuel ≡ 0
  pub owed : proc.owed ≡ None

-- process 1 is at home with this engine and this start, and the mailboxes are empty
pub record HoldsFirst {E O P S L : Type 0} (engine : E) (start : Start) (holdings : Holdings E O P S L)
    : Type 0 where
  pub proc : Proc E O P S L
  pub engine_is : proc.engine ≡ engine
  pub start_is : proc.start ≡ start
  pub has : HasNothing proc
  pub places : holdings.places.items ≡ PlaceIs.Nobody ∷ PlaceIs.Home proc ∷ []
  pub mail : map (λ m. m.items) holdings.mail.items ≡ [] ∷ [] ∷ []
  pub shed : holdings.shed ≡ []

-- BEGINS. Process 1 is at home with this engine and this start, dies with links, and there is nothing else.
pub record StoreBegins {E O P S L : Type 0} (engine : E) (start : Start) (store : Store E O P S L) : Type 0 where
  pub keeps : StoreKeeps store
  pub held : held_of store ≡ born nothing_held 1 (born_seat engine start)
  pub hands : (pid : ℕ) → (kept_of store).hands pid ≡ []
  pub mail : (pid : ℕ) → (kept_of store).mail pid ≡ []
  pub closed : store.closed.items ≡ []
  pub came : store.came.items ≡ []
  pub giver : store.giver ≡ None
  pub minded : store.links.processes ≡ insert empty 1 true
  pub unlinked : store.links.tags ≡ empty
  pub signals : store.links.signals ≡ []
