-- The walk over the rules: each entry makes a chain of few primitive steps of the world. What holds of each step, and of
-- chains, holds of each entry.
use Rattle.std.specs.Prelude.{◌≡◌, ℕ, ◌+◌, ◌≤◌, List, [], ◌∷◌, Option, Some, None, Bool, true, false, max}
use Rattle.std.proofs.Common.{arith}
use Rattle.host_port.specs.declared.start.Start.{Start}
use Rattle.host_port.specs.declared.request.Request.{Request}
use Rattle.world_rules.specs.declared.halt.End.{End}
use Rattle.world_rules.specs.Views.{Given}
use Rattle.world_rules.specs.Calls.{HostCall, call_of}
use Rattle.world_rules.specs.Calls as CallIs
use Rattle.world_rules.specs.Answers.{number_reply}
use Rattle.world_rules.specs.Mail.{MailItem, Letter, Signal, pick, unpicked}
use Rattle.world_rules.specs.Settled.{SentOff, Delivered, StreamOpened, ListenerBound, settled}
use Rattle.world_rules.specs.Moves.{Move, Opened}
use Rattle.world_rules.specs.Handles.{moves_of, closings_of}
use Rattle.world_rules.specs.World.{World, Ready, Out, is_home, is_live, put, with_process, with_moves, with_closed, fresh_process, up_to}
use Rattle.world_rules.specs.Changes.{with_part, replied, waiting, posted}
use Rattle.world_rules.specs.Receive.{held, sent_off, wanted_item, arrived}
use Rattle.world_rules.specs.Outside.{stream_drawn, opened_and_shut}
use Rattle.world_rules.specs.Rules.{turned}
use Rattle.world_rules.specs.Ends.{ended, doomed}
use Rattle.world_rules.specs.Links.{with_link}
use Rattle.world_rules.specs.Registry.{with_name}
use Rattle.world_rules.specs.Part.{Scratch, is_among}
use Rattle.world_rules.specs.Spawn.{next_number}
use Rattle.world_rules.specs.Touches.{Change, Takes, Arrives, Turns, Returns, Answers, Pends, Waits, Posts, Picks, Settles, Minds, Dooms, Finishes, Begins, changed, MayCome, TurnStands, PostStands, Counts, counts_of, GoOn, can_end}

-- what no change of a process changes
pub record Rest : Type 0 where
  pub names : List ℕ → Option ℕ
  pub links : ℕ → ℕ → Option ℕ
  pub over : Bool
  pub numbers : ℕ

abbrev pub rest_of : World → Rest
rest_of w = record { names = w.names; links = w.links; over = w.over; numbers = w.numbers_drawn }

-- a change that leaves a live process live, and no other
abbrev pub is_mild : Change → Bool
is_mild (Takes worker) = true
is_mild (Arrives what) = true
is_mild (Turns give) = true
is_mild Returns = true
is_mild (Answers request reply) = true
is_mild (Pends request) = true
is_mild (Waits request deadline) = true
is_mild (Posts item) = true
is_mild (Picks tags) = true
is_mild (Settles outcome) = true
is_mild (Minds dies) = true
is_mild (Dooms worker end) = false
is_mild (Finishes end) = false
is_mild (Begins start) = false

-- a change that leaves each stream where it is, puts nothing into a mailbox and begins no wait
abbrev pub is_quiet : Change → Bool
is_quiet (Takes worker) = true
is_quiet (Arrives what) = true
is_quiet (Turns give) = false
is_quiet Returns = true
is_quiet (Answers request reply) = true
is_quiet (Pends request) = true
is_quiet (Waits request deadline) = false
is_quiet (Posts item) = false
is_quiet (Picks tags) = false
is_quiet (Settles SentOff) = false
is_quiet (Settles (Delivered item)) = false
is_quiet (Settles (StreamOpened handle)) = false
is_quiet (Settles ListenerBound) = true
is_quiet (Minds dies) = true
is_quiet (Dooms worker end) = false
is_quiet (Finishes end) = false
is_quiet (Begins start) = false

-- what is told of streams: their moves, those that were closed, how many were drawn, and how many messages were sent
pub record Books : Type 0 where
  pub moves : List Move
  pub closed : List ℕ
  pub streams : ℕ
  pub sends : ℕ

abbrev pub books_of : World → Books
books_of w = record { moves = w.moves; closed = w.closed; streams = w.streams; sends = w.sends }

-- no process is changed
pub record Still (w after : World) : Type 0 where
  pub process : (q : ℕ) → after.process q ≡ w.process q
  pub rest : rest_of after ≡ rest_of w
  pub counts : GoOn (counts_of w) (counts_of after)

-- one process is changed, mildly
pub record One (w after : World) (pid : ℕ) (change : Change) : Type 0 where
  pub may : MayCome pid change (w.process pid)
  pub mild : is_mild change ≡ true
  pub process : (q : ℕ) → after.process q ≡ put w.process pid (changed change (w.process pid)) q
  pub rest : rest_of after ≡ rest_of w
  pub counts : GoOn (counts_of w) (counts_of after)

-- a relation that holds wherever no process is changed, or one mildly, whatever becomes of its streams
pub record Mild (R : World → World → Type 0) : Type 0 where
  pub self : (w : World) → R w w
  pub next : (a b c : World) → R a b → R b c → R a c
  pub still : (w after : World) → Still w after → R w after
  pub one : (w after : World) (pid : ℕ) (change : Change) → One w after pid change → R w after

-- a relation that holds wherever each stream stays where it is
pub record Calm (R : World → World → Type 0) : Type 0 where
  pub self : (w : World) → R w w
  pub next : (a b c : World) → R a b → R b c → R a c
  pub still : (w after : World) → Still w after → books_of after ≡ books_of w → R w after
  pub one : (w after : World) (pid : ℕ) (change : Change) → One w after pid change → is_quiet change ≡ true →
      books_of after ≡ books_of w → R w after

-- and wherever a wait begins, an item is put into a mailbox, and streams move: by the local calls of a turn; as one is
-- opened; as one is opened for nobody; with a message that is sent; with an item that is delivered
pub record Posting (R : World → World → Type 0) : Type 0 where
  pub calm : Calm R
  pub waits : (w : World) (pid : ℕ) (request : Request) (deadline : Option ℕ) → (w.process pid).stage ≡ Ready →
      R w (waiting w pid request deadline)
  pub signals : (w : World) (to tag : ℕ) → is_live (w.process to).stage ≡ true → R w (posted w to (Signal tag))
  pub turns : (w : World) (give : Given) (moves : List Move) (closings : List ℕ) → TurnStands (w.process give.pid) give
      → moves ≡ moves_of give.pid (w.process give.pid).start (w.process give.pid).part give.calls
      → closings ≡ closings_of (w.process give.pid).start (w.process give.pid).part give.calls
      → R w (with_closed (with_moves (with_process w give.pid (turned (w.process give.pid) give)) moves) closings)
  pub opens : (w : World) (pid : ℕ) → is_home (w.process pid).stage ≡ true
      → R w (with_moves (with_part (stream_drawn w) pid (settled (w.process pid).part (StreamOpened w.streams))) (Opened w.streams pid ∷ []))
  pub shuts : (w : World) (pid : ℕ) → R w (opened_and_shut w pid)
  pub sends : (w : World) (pid to : ℕ) (request : Request) (scratch : Scratch) → (w.process pid).stage ≡ Ready
      → (w.process pid).part.scratch ≡ Some scratch → PostStands (w.process to) (Letter w.sends scratch.message)
      → R w (posted (replied (sent_off w pid to) pid request (number_reply 0)) to (Letter w.sends scratch.message))
  pub delivers : (w : World) (pid : ℕ) (tags : List ℕ) (item : MailItem) → is_home (w.process pid).stage ≡ true
      → pick tags (w.process pid).mail ≡ Some item
      → R w (held (with_process w pid (record (w.process pid) { mail = unpicked tags (w.process pid).mail })) pid item)

-- and the same with who wakes: a wait in receive begins where nothing is wanted of the mailbox, and an item that is put
-- into a mailbox is delivered where it is waited for
pub record Steps (R : World → World → Type 0) : Type 0 where
  pub calm : Calm R
  pub waits : (w : World) (pid : ℕ) (request : Request) (deadline : Option ℕ) → (w.process pid).stage ≡ Ready
      → (call_of request ≡ Some CallIs.Receive → wanted_item w pid request ≡ None) → R w (waiting w pid request deadline)
  pub signals : (w : World) (to tag : ℕ) → is_live (w.process to).stage ≡ true → R w (arrived w to (Signal tag))
  pub turns : (w : World) (give : Given) (moves : List Move) (closings : List ℕ) → TurnStands (w.process give.pid) give
      → moves ≡ moves_of give.pid (w.process give.pid).start (w.process give.pid).part give.calls
      → closings ≡ closings_of (w.process give.pid).start (w.process give.pid).part give.calls
      → R w (with_closed (with_moves (with_process w give.pid (turned (w.process give.pid) give)) moves) closings)
  pub opens : (w : World) (pid : ℕ) → is_home (w.process pid).stage ≡ true
      → R w (with_moves (with_part (stream_drawn w) pid (settled (w.process pid).part (StreamOpened w.streams))) (Opened w.streams pid ∷ []))
  pub shuts : (w : World) (pid : ℕ) → R w (opened_and_shut w pid)
  pub sends : (w : World) (pid to : ℕ) (request : Request) (scratch : Scratch) → (w.process pid).stage ≡ Ready
      → (w.process pid).part.scratch ≡ Some scratch → PostStands (w.process to) (Letter w.sends scratch.message)
      → R w (arrived (replied (sent_off w pid to) pid request (number_reply 0)) to (Letter w.sends scratch.message))
  pub delivers : (w : World) (pid : ℕ) (tags : List ℕ) (item : MailItem) → (w.process pid).stage ≡ Ready
      → pick tags (w.process pid).mail ≡ Some item
      → R w (held (with_process w pid (record (w.process pid) { mail = unpicked tags (w.process pid).mail })) pid item)

-- nobody is live whose number was drawn
abbrev pub NobodyLives : World → Type 0
NobodyLives w = (q : ℕ) → is_among (up_to w.numbers_drawn) q ≡ true → is_live (w.process q).stage ≡ false

abbrev pub over : World → World
over w = record w { over = true }

abbrev pub child_there : World → Start → World
child_there w start =
    record (with_process w (next_number w) (fresh_process start Ready)) { numbers_drawn = next_number w }

abbrev pub IsLive : World → ℕ → Type 0
IsLive w pid = is_live (w.process pid).stage ≡ true

pub record Whole (R : World → World → Type 0) : Type 0 where
  pub mild : Steps R
  pub ends : (w : World) (pid : ℕ) (end : End) → can_end (w.process pid).stage ≡ true → R w (ended w pid end)
  pub dooms : (w : World) (pid worker : ℕ) (end : End) → (w.process pid).stage ≡ Out worker →
      R w (doomed w pid worker end)
  pub overs : (w : World) → NobodyLives w → R w (over w)
  pub linked : (w : World) (a b tag : ℕ) → IsLive w a → IsLive w b → R w (with_link w a b (Some tag))
  pub unlinked : (w : World) (a b : ℕ) → R w (with_link w a b None)
  pub named : (w : World) (name : List ℕ) (pid : ℕ) → IsLive w pid → R w (with_name w name (Some pid))
  pub nameless : (w : World) (name : List ℕ) → R w (with_name w name None)
  pub begins : (w : World) (parent : ℕ) (start : Start) → IsLive w parent → start.pid ≡ next_number w →
      R w (child_there w start)

pub same_counts : (c : Counts) → GoOn c c
same_counts c = record { time = le c.time; numbers = le c.numbers; streams = le c.streams; spawns = le c.spawns; sends = le c.sends }
  where
    le : (n : ℕ) → n ≤ n
    le n = omega arith

pub more_time : (w : World) (now : ℕ) → GoOn (counts_of w) (counts_of (record w { time = max w.time now }))
more_time w now =
    let old = same_counts (counts_of w) in
    record { time = greater w.time now; numbers = old.numbers; streams = old.streams; spawns = old.spawns; sends = old.sends }
  where
    greater : (a b : ℕ) → a ≤ max a b
    greater a b = omega arith

pub more_streams : (w : World) → GoOn (counts_of w) (counts_of (record w { streams = w.streams + 1 }))
more_streams w =
    let old = same_counts (counts_of w) in
    record { time = old.time; numbers = old.numbers; streams = more w.streams; spawns = old.spawns; sends = old.sends }
  where
    more : (n : ℕ) → n ≤ n + 1
    more n = omega arith

pub more_spawns : (w : World) → GoOn (counts_of w) (counts_of (record w { spawns = w.spawns + 1 }))
more_spawns w =
    let old = same_counts (counts_of w) in
    record { time = old.time; numbers = old.numbers; streams = old.streams; spawns = more w.spawns; sends = old.sends }
  where
    more : (n : ℕ) → n ≤ n + 1
    more n = omega arith

pub more_sends : (w : World) → GoOn (counts_of w) (counts_of (record w { sends = w.sends + 1 }))
more_sends w =
    let old = same_counts (counts_of w) in
    record { time = old.time; numbers = old.numbers; streams = old.streams; spawns = old.spawns; sends = more w.sends }
  where
    more : (n : ℕ) → n ≤ n + 1
    more n = omega arith

pub then_counts : (a b c : Counts) → GoOn a b → GoOn b c → GoOn a c
then_counts a b c x y = record {
  time = le a.time b.time c.time x.time y.time;
  numbers = le a.numbers b.numbers c.numbers x.numbers y.numbers;
  streams = le a.streams b.streams c.streams x.streams y.streams;
  spawns = le a.spawns b.spawns c.spawns x.spawns y.spawns;
  sends = le a.sends b.sends c.sends x.sends y.sends;
}
  where
    le : (a b c : ℕ) → a ≤ b → b ≤ c → a ≤ c
    le a b c x y = omega (arith, x, y)
