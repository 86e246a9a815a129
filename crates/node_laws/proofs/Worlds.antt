use Rattle.std.proofs.Common.{◌≡◌, ℕ, ◌+◌, List, [], ◌∷◌, ◌++◌, length, Option, Some, None, Bool, true, false, cond, refl, ◌∙◌, ap, subst}
use Rattle.host_port.specs.declared.request.Request.{Request}
use Rattle.host_port.specs.declared.reply.Reply.{Reply}
use Rattle.world_rules.specs.declared.entry.Side.{Side}
use Rattle.world_rules.specs.declared.entry.Side.TheVariants as SideIs
use Rattle.world_rules.specs.declared.life.Birth.{Birth}
use Rattle.world_rules.specs.Views.{Given, is_starved, wanted_in, want_of}
use Rattle.world_rules.specs.Arrivals.{What, arrival_of}
use Rattle.world_rules.specs.Arrivals as Came
use Rattle.world_rules.specs.Moves.{Move, Opened}
use Rattle.world_rules.specs.Part.{scratch_handles}
use Rattle.world_rules.specs.Mail.{MailItem, tags_in, unpicked}
use Rattle.world_rules.specs.Settled.{settled, SentOff, Delivered, StreamOpened, ListenerBound}
use Rattle.world_rules.specs.Handles.{delivery_moves, closings_of}
use Rattle.world_rules.specs.World.{World, Process, Stage, Ready, Out, Waiting, is_home, with_process, with_moves, with_closed}
use Rattle.world_rules.specs.Changes.{reached, readied, with_arrival, with_part, answered, waiting, pended, posted}
use Rattle.world_rules.specs.Outside.{stream_drawn}
use Rattle.world_rules.specs.Time.{clocked}
use Rattle.world_rules.specs.Receive.{held, without_wanted, sent_off, arrived, woken}
use Rattle.world_rules.specs.Rules.{turned, starved_by, streamed_in, recorded, home, halted, given}
use Rattle.node_state.specs.Posts.{time_beside}
use Rattle.node_laws.proofs.ReadyList.{nat_eq_same, nat_eq_other}
use Rattle.node_laws.proofs.Goes.{Alters, alters-change}
use Rattle.node_laws.proofs.Tallies.{Tally, tally_of}

-- What the parts of a Give make of the world.

-- one process is this, so much is counted, and nothing else of what a node keeps is changed
pub record Becomes (w v : World) (pid : ℕ) (p : Process) (tally : Tally) : Type 0 where
  pub alters : Alters w v pid p
  pub counted : tally_of v ≡ tally
  pub over : v.over ≡ w.over
  pub exits : v.exits ≡ w.exits

-- the process at whose turn's end want of memory has arrived, where it has
abbrev pub starved : Process → Given → Process
starved p give = cond (is_starved give.halt) (reached p (Came.Starved (length give.calls))) p

-- the process after what is always recorded of its turn, and come home
abbrev pub come_home : Process → Given → Process
come_home p give = record (turned (starved p give) give) { stage = Ready }

-- the process with this arrival, its request being answered
abbrev pub with_reply : Process → Request → Reply → What → Process
with_reply p request reply what = reached (readied p request reply) what

-- CHANGES OF THE ONE PROCESS

-- one process is changed so
pub becomes-change : (w v : World) (pid : ℕ) (p : Process) (n : Tally) (f : Process → Process) → Becomes w v pid p n → Becomes w (with_process v pid (f (v.process pid))) pid (f p) n
becomes-change w v pid p n f b = record {
  alters = alters-change w v pid p f b.alters;
  counted = b.counted;
  over = b.over;
  exits = b.exits;
}

-- moves of handles, and closings
pub becomes-moved : (w v : World) (pid : ℕ) (p : Process) (n : Tally) (moves : List Move) → Becomes w v pid p n → Becomes w (with_moves v moves) pid p n
becomes-moved w v pid p n moves b = record {
  alters = record { at = b.alters.at; others = b.alters.others; drawn = b.alters.drawn; spawns = b.alters.spawns; unlinked = b.alters.unlinked };
  counted = b.counted;
  over = b.over;
  exits = b.exits;
}

-- so much is counted where these streams are closed besides
abbrev pub closing : Tally → List ℕ → Tally
closing n handles = record n { closed = n.closed ++ handles }

pub becomes-closed : (w v : World) (pid : ℕ) (p : Process) (n : Tally) (handles more : List ℕ) → handles ≡ more → Becomes w v pid p n → Becomes w (with_closed v handles) pid p (closing n more)
becomes-closed w v pid p n handles more same b = record {
  alters = record { at = b.alters.at; others = b.alters.others; drawn = b.alters.drawn; spawns = b.alters.spawns; unlinked = b.alters.unlinked };
  counted = λ i. closing (b.counted i) (same i);
  over = b.over;
  exits = b.exits;
}

-- THE TURN

-- no process is another, and so much is counted
record Later (w v : World) (n : Tally) : Type 0 where
  process : v.process ≡ w.process
  drawn : v.numbers_drawn ≡ w.numbers_drawn
  spawns : v.spawns ≡ w.spawns
  counted : tally_of v ≡ n
  over : v.over ≡ w.over
  exits : v.exits ≡ w.exits
  links : v.links ≡ w.links

-- so much is counted after what came beside a Give
abbrev pub beside : World → Side → Tally
beside w side = record { sends = w.sends; time = time_beside side w.time; streams = w.streams; closed = w.closed }

later_clocked : (w : World) (side : Side) → Later w (clocked side w) (beside w side)
later_clocked w SideIs.Nothing = record { process = refl; drawn = refl; spawns = refl; counted = refl; over = refl; exits = refl; links = refl }
later_clocked w (SideIs.Clock now) = record { process = refl; drawn = refl; spawns = refl; counted = refl; over = refl; exits = refl; links = refl }
later_clocked w SideIs.Pending = record { process = refl; drawn = refl; spawns = refl; counted = refl; over = refl; exits = refl; links = refl }
later_clocked w (SideIs.Answer reply) = record { process = refl; drawn = refl; spawns = refl; counted = refl; over = refl; exits = refl; links = refl }
later_clocked w SideIs.Opened = record { process = refl; drawn = refl; spawns = refl; counted = refl; over = refl; exits = refl; links = refl }
later_clocked w SideIs.NoMemory = record { process = refl; drawn = refl; spawns = refl; counted = refl; over = refl; exits = refl; links = refl }

later_streamed : (w v : World) (n : Tally) (wanted : Option Request) (give : Given) → Later w v n → Later w (streamed_in wanted give v) n
later_streamed w v n None give l = l
later_streamed w v n (Some request) give l = record { process = l.process; drawn = l.drawn; spawns = l.spawns; counted = l.counted; over = l.over; exits = l.exits; links = l.links }

-- one process is put in the place of another
becomes_put : (w v : World) (pid : ℕ) (n : Tally) (f : Process → Process) → Later w v n → Becomes w (with_process v pid (f (v.process pid))) pid (f (w.process pid)) n
becomes_put w v pid n f l = record {
  alters = record {
    at = rw (nat_eq_same pid) (ap (λ (ps : ℕ → Process). f (ps pid)) l.process);
    others = λ q other. rw (nat_eq_other q pid other) (ap (λ (ps : ℕ → Process). ps q) l.process);
    drawn = l.drawn;
    spawns = l.spawns;
    unlinked = λ a b none. ap (λ (links : ℕ → ℕ → Option ℕ). links a b) l.links ∙ none;
  };
  counted = l.counted;
  over = l.over;
  exits = l.exits;
}

becomes_turned : (w v : World) (give : Given) (n : Tally) (lacks : Bool) → is_starved give.halt ≡ lacks → Later w v n →
    Becomes w (with_process (starved_by v give) give.pid (turned ((starved_by v give).process give.pid) give)) give.pid (turned (starved (w.process give.pid) give) give) n
becomes_turned w v give n false is l =
    rw is (becomes_put w v give.pid n (λ p. turned p give) l)
becomes_turned w v give n true is l =
    rw is (becomes-change w (with_arrival v give.pid (Came.Starved (length give.calls))) give.pid (reached (w.process give.pid) (Came.Starved (length give.calls))) n (λ p. turned p give)
    (becomes_put w v give.pid n (λ p. reached p (Came.Starved (length give.calls))) l))

-- so much is counted after what is always recorded
abbrev pub recording : World → Given → Tally
recording w give = closing (beside w give.side) (closings_of (w.process give.pid).start (w.process give.pid).part give.calls)

-- what is always recorded
pub becomes-recorded : (w : World) (give : Given) → Becomes w (recorded w give) give.pid (turned (starved (w.process give.pid) give) give) (recording w give)
becomes-recorded w give =
    let p : Process = w.process give.pid in
    let n : Tally = beside w give.side in
    let v : World = streamed_in (wanted_in (want_of give.halt) p.owed) give (clocked give.side w) in
    let l : Later w v n = later_streamed w (clocked give.side w) n (wanted_in (want_of give.halt) p.owed) give (later_clocked w give.side) in
    let b = becomes_turned w v give n (is_starved give.halt) refl l in
    becomes-closed w _ give.pid _ n _ (closings_of p.start p.part give.calls) refl (becomes-moved w _ give.pid _ n _ b)

-- the giver comes home
pub becomes-home : (w : World) (give : Given) → Becomes w (home (recorded w give) give.pid) give.pid (come_home (w.process give.pid) give) (recording w give)
becomes-home w give =
    becomes-change w (recorded w give) give.pid (turned (starved (w.process give.pid) give) give) (recording w give) (λ p. record p { stage = Ready }) (becomes-recorded w give)

-- so it does where memory wasn't lacking
pub becomes-back : (w : World) (give : Given) → is_starved give.halt ≡ false
    → Becomes w (home (recorded w give) give.pid) give.pid (record (turned (w.process give.pid) give) { stage = Ready }) (recording w give)
becomes-back w give unstarved =
    subst (λ (b : Bool). Becomes w (home (recorded w give) give.pid) give.pid
    (record (turned (cond b (reached (w.process give.pid) (Came.Starved (length give.calls))) (w.process give.pid)) give) { stage = Ready }) (recording w give)) unstarved (becomes-home w give)

-- a Give of a process that is out
pub given-out : (stage : Stage) (worker : ℕ) (births : List Birth) (w : World) (give : Given) → stage ≡ Out worker
    → given stage births w give ≡ halted (want_of give.halt) births (home (recorded w give) give.pid) give.pid give.side
given-out stage worker births w give is = rw is refl

-- ANSWERS AND WAITS

if_so : (b : Bool) (x y : World) → b ≡ true → cond b x y ≡ x
if_so true x y so = refl
if_so false x y so = absurd cc

answered_is : (v : World) (pid : ℕ) (request : Request) (reply : Reply) (what : What) (p : Process) → v.process pid ≡ p → p.stage ≡ Ready
    → answered v pid request reply what ≡ with_arrival (with_process v pid (readied (v.process pid) request reply)) pid what
answered_is v pid request reply what p at ready =
    if_so (is_home (v.process pid).stage) (with_arrival (with_process v pid (readied (v.process pid) request reply)) pid what) v (ap (λ (x : Process). is_home x.stage) at ∙ ap is_home ready)

-- the request of a process that has come home is answered
pub becomes-answered : (w v : World) (pid : ℕ) (p : Process) (n : Tally) (request : Request) (reply : Reply) (what : What) → Becomes w v pid p n → p.stage ≡ Ready
    → Becomes w (answered v pid request reply what) pid (with_reply p request reply what) n
becomes-answered w v pid p n request reply what b ready =
    let u : World = with_process v pid (readied (v.process pid) request reply) in
    rw (answered_is v pid request reply what p b.alters.at ready)
    (becomes-change w u pid (readied p request reply) n (λ x. reached x what)
    (becomes-change w v pid p n (λ x. readied x request reply) b))

-- it waits
pub becomes-waiting : (w v : World) (pid : ℕ) (p : Process) (n : Tally) (request : Request) (deadline : Option ℕ) → Becomes w v pid p n
    → Becomes w (waiting v pid request deadline) pid (record p { stage = Waiting request; deadline = deadline }) n
becomes-waiting w v pid p n request deadline b = becomes-change w v pid p n (λ x. record x { stage = Waiting request; deadline = deadline }) b

-- its request can't be answered yet
pub becomes-pended : (w v : World) (pid : ℕ) (p : Process) (n : Tally) (request : Request) → Becomes w v pid p n
    → Becomes w (pended v pid request) pid (record p { stage = Ready; owed = Some request }) n
becomes-pended w v pid p n request b = becomes-change w v pid p n (λ x. record x { stage = Ready; owed = Some request }) b

-- STREAMS AND LISTENERS

-- the next stream number is drawn
pub becomes-drawn : (w v : World) (pid : ℕ) (p : Process) (n : Tally) → Becomes w v pid p n → Becomes w (stream_drawn v) pid p (record n { streams = n.streams + 1 })
becomes-drawn w v pid p n b = record {
  alters = record { at = b.alters.at; others = b.alters.others; drawn = b.alters.drawn; spawns = b.alters.spawns; unlinked = b.alters.unlinked };
  counted = ap (λ (m : Tally). record m { streams = m.streams + 1 }) b.counted;
  over = b.over;
  exits = b.exits;
}

-- a stream of the next number is in its table
pub becomes-opened : (w v : World) (pid : ℕ) (p : Process) (n : Tally) → Becomes w v pid p n
    → Becomes w (with_moves (with_part (stream_drawn v) pid (settled (v.process pid).part (StreamOpened v.streams))) (Opened v.streams pid ∷ [])) pid
    (record p { part = settled p.part (StreamOpened v.streams) }) (record n { streams = n.streams + 1 })
becomes-opened w v pid p n b =
    becomes-moved w _ pid _ _ (Opened v.streams pid ∷ [])
    (becomes-change w (stream_drawn v) pid p (record n { streams = n.streams + 1 }) (λ x. record x { part = settled x.part (StreamOpened v.streams) }) (becomes-drawn w v pid p n b))

-- a listener was bound
pub becomes-bound : (w v : World) (pid : ℕ) (p : Process) (n : Tally) → Becomes w v pid p n
    → Becomes w (with_part v pid (settled (v.process pid).part ListenerBound)) pid (record p { part = settled p.part ListenerBound }) n
becomes-bound w v pid p n b = becomes-change w v pid p n (λ x. record x { part = settled x.part ListenerBound }) b

-- MESSAGES

-- so much is counted after a send that was answered 0
abbrev pub sending : Tally → Tally
sending n = record n { sends = n.sends + 1 }

-- the scratch message is on its way
pub becomes-sent_off : (w v : World) (pid to : ℕ) (p : Process) (n : Tally) → Becomes w v pid p n → Becomes w (sent_off v pid to) pid (record p { part = settled p.part SentOff }) (sending n)
becomes-sent_off w v pid to p n b =
    let off = becomes-change w v pid p n (λ x. record x { part = settled x.part SentOff }) b in
    record {
      alters = record { at = off.alters.at; others = off.alters.others; drawn = off.alters.drawn; spawns = off.alters.spawns; unlinked = off.alters.unlinked };
      counted = ap sending b.counted;
      over = off.over;
      exits = off.exits;
    }

woken_ready : (stage : Stage) (v : World) (pid : ℕ) → stage ≡ Ready → woken stage v pid ≡ v
woken_ready stage v pid is = rw is refl

-- an item comes into the mailbox of a process that has come home
pub becomes-arrived : (w v : World) (pid : ℕ) (p : Process) (n : Tally) (item : MailItem) → Becomes w v pid p n → p.stage ≡ Ready
    → Becomes w (arrived v pid item) pid (record p { mail = p.mail ++ item ∷ [] }) n
becomes-arrived w v pid p n item b ready =
    let here : (v.process pid).stage ≡ Ready = ap (λ (x : Process). x.stage) b.alters.at ∙ ready in
    rw (woken_ready (v.process pid).stage (posted v pid item) pid here)
    (becomes-change w v pid p n (λ x. record x { mail = x.mail ++ item ∷ [] }) b)

-- an item of the mailbox is delivered
pub becomes-held : (w v : World) (pid : ℕ) (p : Process) (n : Tally) (request : Request) (item : MailItem) → Becomes w v pid p n
    → Becomes w (held (without_wanted v pid request) pid item) pid (record p { mail = unpicked (tags_in request.first) p.mail; part = settled p.part (Delivered item) })
    (closing n (scratch_handles p.part))
becomes-held w v pid p n request item b =
    let u : World = without_wanted v pid request in
    let left : Process = record p { mail = unpicked (tags_in request.first) p.mail } in
    let taken : Becomes w u pid left n = becomes-change w v pid p n (λ x. record x { mail = unpicked (tags_in request.first) x.mail }) b in
    let c = becomes-change w u pid left n (λ x. record x { part = settled x.part (Delivered item) }) taken in
    becomes-moved w _ pid _ _ (delivery_moves pid item)
    (becomes-closed w _ pid _ n (scratch_handles (u.process pid).part) (scratch_handles p.part) (ap (λ (x : Process). scratch_handles x.part) taken.alters.at) c)
