use Rattle.std.specs.Prelude.{◌≡◌, List, [], ◌∷◌, map, Option, None}
use Rattle.host_port.specs.declared.start.Start.{Start}
use Rattle.host_calls.specs.declared.proc.Proc.{Proc}
use Rattle.host_calls.specs.Listening.{no_listeners}
use Rattle.process_table.specs.declared.node.Holdings.{Holdings}
use Rattle.process_table.specs.declared.place.Place.TheVariants.{Nobody, Home}

-- What a node holds at its begin.

-- a process that has nothing
pub record HasNothing {E O P S L : Type 0} (proc : Proc E O P S L) : Type 0 where
  pub scratch : proc.scratch ≡ None
  pub table : proc.table ≡ []
  pub shed : proc.shed ≡ []
  pub listeners : proc.listeners ≡ no_listeners
  pub traffic : proc.traffic ≡ 0
  pub fuel : proc.fuel ≡ 0
  pub owed : proc.owed ≡ None

-- process 1 is at home with this engine and this start, and the mailboxes are empty
pub record HoldsNothing {E O P S L : Type 0} (engine : E) (start : Start) (holdings : Holdings E O P S L) : Type 0 where
  pub proc : Proc E O P S L
  pub engine_is : proc.engine ≡ engine
  pub start_is : proc.start ≡ start
  pub has : HasNothing proc
  pub places : holdings.places.items ≡ Nobody ∷ Home proc ∷ []
  pub mail : map (λ m. m.items) holdings.mail.items ≡ [] ∷ [] ∷ []
  pub shed : holdings.shed ≡ []
