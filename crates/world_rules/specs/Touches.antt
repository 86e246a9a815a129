use Rattle.std.specs.Prelude.{◌≡◌, ℕ, ◌<◌, ◌≤◌, List, [], ◌∷◌, ◌++◌, Option, Some, Bool, true, false}
use Rattle.host_port.specs.declared.start.Start.{Start}
use Rattle.host_port.specs.declared.call.Call.{Call}
use Rattle.host_port.specs.declared.request.Request.{Request}
use Rattle.host_port.specs.declared.reply.Reply.{Reply}
use Rattle.world_rules.specs.declared.halt.End.{End}
use Rattle.world_rules.specs.Views.{Given}
use Rattle.world_rules.specs.Arrivals.{What}
use Rattle.world_rules.specs.Mail.{MailItem, is_message, message_count, most_messages, unpicked}
use Rattle.world_rules.specs.Settled.{Outcome, settled}
use Rattle.world_rules.specs.Local.{AreLocal}
use Rattle.world_rules.specs.World.{World, Process, Stage, Unborn, Ready, Out, Waiting, Doomed, Ended, is_away, is_home, is_live, no_start, fresh_process}
use Rattle.world_rules.specs.Changes.{reached, readied}
use Rattle.world_rules.specs.Ends.{stripped, fated}
use Rattle.world_rules.specs.Allowed.{is_out}
use Rattle.world_rules.specs.Rules.{turned}

-- What an entry may do to one process: the closed list of changes. An entry makes some of them, one after another, of
-- each process; of most processes none.

-- a worker takes it; something arrives at it from outside its turns; a turn of it is recorded; it comes home from its
-- worker; its request is answered; its request can't be answered yet; it waits for the answer, up to a deadline or
-- without end; an item is put into its mailbox; an item that it wants is taken out of it; a call settles something in
-- its part; it minds links otherwise; it is doomed while it is out; it ends; it is born
pub data Change : Type 0 where
  Takes : (worker : ℕ) → Change
  Arrives : (what : What) → Change
  Turns : (give : Given) → Change
  Returns : Change
  Answers : (request : Request) (reply : Reply) → Change
  Pends : (request : Request) → Change
  Waits : (request : Request) (deadline : Option ℕ) → Change
  Posts : (item : MailItem) → Change
  Picks : (tags : List ℕ) → Change
  Settles : (outcome : Outcome) → Change
  Minds : (dies : Bool) → Change
  Dooms : (worker : ℕ) (end : End) → Change
  Finishes : (end : End) → Change
  Begins : (start : Start) → Change

-- the process after a change
abbrev pub changed : Change → Process → Process
changed (Takes worker) p = record p { stage = Out worker }
changed (Arrives what) p = reached p what
changed (Turns give) p = turned p give
changed Returns p = record p { stage = Ready }
changed (Answers request reply) p = readied p request reply
changed (Pends request) p = record p { stage = Ready; owed = Some request }
changed (Waits request deadline) p = record p { stage = Waiting request; deadline = deadline }
changed (Posts item) p = record p { mail = p.mail ++ item ∷ [] }
changed (Picks tags) p = record p { mail = unpicked tags p.mail }
changed (Settles outcome) p = record p { part = settled p.part outcome }
changed (Minds dies) p = record p { dies = dies }
changed (Dooms worker end) p = fated p worker end
changed (Finishes end) p = stripped p end
changed (Begins start) p = fresh_process start Ready

-- a process is there from its birth to its end
abbrev pub is_there : Stage → Bool
is_there Unborn = false
is_there Ready = true
is_there (Out worker) = true
is_there (Waiting request) = true
is_there (Doomed worker end) = true
is_there (Ended end) = false

-- a process can end where it is: while it is out it is doomed instead
abbrev pub can_end : Stage → Bool
can_end Unborn = false
can_end Ready = true
can_end (Out worker) = false
can_end (Waiting request) = true
can_end (Doomed worker end) = true
can_end (Ended end) = false

-- the process of a number that wasn't drawn
abbrev pub nobody : Process
nobody = fresh_process no_start Unborn

-- a turn is recorded of a process that a worker has; its fuel doesn't shrink, and its calls are its own to answer
pub record TurnStands (p : Process) (give : Given) : Type 0 where
  pub away : is_away p.stage ≡ true
  pub grown : p.fuel ≤ give.fuel
  pub local : AreLocal p.start p.part give.calls

-- an item is put into the mailbox of a live process, a message only where it holds fewer than 1,024
pub record PostStands (p : Process) (item : MailItem) : Type 0 where
  pub live : is_live p.stage ≡ true
  pub room : is_message item ≡ true → message_count p.mail < most_messages

-- a process is born where nobody was, with a start of its own number
pub record BirthStands (pid : ℕ) (p : Process) (start : Start) : Type 0 where
  pub before : p ≡ nobody
  pub number : start.pid ≡ pid

-- when a change may come to the process of this number
abbrev pub MayCome : ℕ → Change → Process → Type 0
MayCome pid (Takes worker) p = p.stage ≡ Ready
MayCome pid (Arrives what) p = is_there p.stage ≡ true
MayCome pid (Turns give) p = TurnStands p give
MayCome pid Returns p = is_out p.stage ≡ true
MayCome pid (Answers request reply) p = is_home p.stage ≡ true
MayCome pid (Pends request) p = p.stage ≡ Ready
MayCome pid (Waits request deadline) p = p.stage ≡ Ready
MayCome pid (Posts item) p = PostStands p item
MayCome pid (Picks tags) p = is_home p.stage ≡ true
MayCome pid (Settles outcome) p = is_home p.stage ≡ true
MayCome pid (Minds dies) p = p.stage ≡ Ready
MayCome pid (Dooms worker end) p = p.stage ≡ Out worker
MayCome pid (Finishes end) p = can_end p.stage ≡ true
MayCome pid (Begins start) p = BirthStands pid p start

-- the process after these changes, and each of them may come where it comes
abbrev pub all_changed : List Change → Process → Process
all_changed [] p = p
all_changed (change ∷ changes) p = all_changed changes (changed change p)

abbrev pub AllMayCome : ℕ → List Change → Process → Type 0
AllMayCome pid [] p = Unit {0}
AllMayCome pid (change ∷ changes) p = MayCome pid change p × AllMayCome pid changes (changed change p)

-- TOUCHED. The process of this number was changed by these changes, and by nothing else.
pub record Touched (pid : ℕ) (old new : Process) : Type 0 where
  pub changes : List Change
  pub may_come : AllMayCome pid changes old
  pub all : new ≡ all_changed changes old

-- WHAT FOLLOWS OF EACH PROCESS

-- the calls that were answered before stay, and others come behind them
abbrev pub CallsGo : Process → Process → Type 0
CallsGo old new = (more : List Call) × (new.calls ≡ old.calls ++ more)

-- what stays of a process: its calls; its fuel doesn't shrink; who was born has the start that it was born with; and
-- of a process that has ended nothing changes
pub record Stays (old new : Process) : Type 0 where
  pub calls : CallsGo old new
  pub fuel : old.fuel ≤ new.fuel
  pub start : is_there old.stage ≡ true → new.start ≡ old.start
  pub ended : (end : End) → old.stage ≡ Ended end → new ≡ old

-- WHAT IS DRAWN

-- the counts of a world that never go back: the time; the process numbers and the stream numbers that were drawn; the
-- spawns that were performed; the sends that were answered 0
pub record Counts : Type 0 where
  pub time : ℕ
  pub numbers : ℕ
  pub streams : ℕ
  pub spawns : ℕ
  pub sends : ℕ

abbrev pub counts_of : World → Counts
counts_of w = record {
  time = w.time;
  numbers = w.numbers_drawn;
  streams = w.streams;
  spawns = w.spawns;
  sends = w.sends;
}

-- none of the counts went back
pub record GoOn (old new : Counts) : Type 0 where
  pub time : old.time ≤ new.time
  pub numbers : old.numbers ≤ new.numbers
  pub streams : old.streams ≤ new.streams
  pub spawns : old.spawns ≤ new.spawns
  pub sends : old.sends ≤ new.sends
