-- What is recorded of a Give: the calls of its turn one after another, and the pieces together.
use Rattle.std.specs.Prelude.{◌≡◌, ℕ, List, [], ◌∷◌, ◌++◌, length, Option, Some, None, Bool, true, false, nat_eq, if◌then◌else◌, refl}
use Rattle.std.specs.Option.{option_map_or}
use Rattle.std.proofs.Common.{◌∙◌, ap, append_assoc, arith}
use Rattle.std.proofs.lemmas.Bool.Decides.{nat_tests}
use Rattle.host_port.specs.declared.start.Start.{Start}
use Rattle.host_port.specs.declared.call.Call.{Call}
use Rattle.host_port.specs.declared.request.Request.{Request}
use Rattle.world_rules.specs.declared.entry.Side.{Side}
use Rattle.world_rules.specs.declared.halt.Halt.{Halt}
use Rattle.world_rules.specs.Calls.{call_of}
use Rattle.world_rules.specs.Part.{Part}
use Rattle.world_rules.specs.Local.{local, part_of, part_after}
use Rattle.world_rules.specs.Handles.{local_moves, local_closings, moves_of, closings_of}
use Rattle.world_rules.specs.Moves.{Move}
use Rattle.world_rules.specs.Views.{Given, wanted_in, want_of, is_starved, clock_in}
use Rattle.world_rules.specs.Arrivals as Came
use Rattle.world_rules.specs.World.{World, Process, with_process, with_moves, with_closed}
use Rattle.world_rules.specs.Time.{clocked, at_time}
use Rattle.world_rules.specs.Rules.{recorded, streamed_in}
use Rattle.plain_world.specs.ShownProcess.{nobody}
use Rattle.plain_world.specs.Turned.{turned_by, turn_put, streamed_for, starved_so}
use Rattle.plain_world.proofs.ProcessList.{put_over}

-- CALLS

-- some of the calls are done: what is left leads from the part that stands now to the same part, and adds the moves and
-- the closings that are still to come
pub record CallsLeft (pid : ℕ) (start : Start) (first : Part) (calls : List Call) (first_moves : List Move)
    (first_closed : List ℕ) (now : Part) (left : List Call) (moves : List Move) (closed : List ℕ) : Type 0 where
  pub part : part_after start now left ≡ part_after start first calls
  pub moved : moves ++ moves_of pid start now left ≡ first_moves ++ moves_of pid start first calls
  pub shut : closed ++ closings_of start now left ≡ first_closed ++ closings_of start first calls

-- one call more is done
pub call_done : (pid : ℕ) (start : Start) (first : Part) (calls : List Call) (first_moves : List Move)
    (first_closed : List ℕ) (now next : Part) (call : Call) (left : List Call) (moves more : List Move)
    (closed others : List ℕ) →
    CallsLeft pid start first calls first_moves first_closed now (call ∷ left) moves closed →
    next ≡ part_of now (local start now call.request) →
    more ≡ moves ++ local_moves (call_of call.request) pid now call.request →
    others ≡ closed ++ local_closings (call_of call.request) now call.request →
    CallsLeft pid start first calls first_moves first_closed next left more others
call_done pid start first calls first_moves first_closed now next call left moves more closed others before is moved shut =
    record {
      part = ap (λ (part : Part). part_after start part left) is ∙ before.part;
      moved =
          ap (λ (part : Part). more ++ moves_of pid start part left) is
          ∙ ap (λ (all : List Move). all ++ moves_of pid start (part_of now (local start now call.request)) left) moved
          ∙ append_assoc moves (local_moves (call_of call.request) pid now call.request)
          (moves_of pid start (part_of now (local start now call.request)) left)
          ∙ before.moved;
      shut =
          ap (λ (part : Part). others ++ closings_of start part left) is
          ∙ ap (λ (all : List ℕ). all ++ closings_of start (part_of now (local start now call.request)) left) shut
          ∙ append_assoc closed (local_closings (call_of call.request) now call.request)
          (closings_of start (part_of now (local start now call.request)) left)
          ∙ before.shut;
    }

-- THE TURN

-- a process that was taken out is put back after its turn, and the moves and closings of its calls are behind the others
pub turn_done : (w left : World) (pid : ℕ) (taken p : Process) (calls : List Call) (fuel : ℕ) (halt : Halt)
    (moves : List Move) (closed : List ℕ) → taken ≡ w.process pid → left ≡ with_process w pid nobody →
    p ≡ turned_by taken calls fuel halt → moves ≡ left.moves ++ moves_of pid taken.start taken.part calls →
    closed ≡ left.closed ++ closings_of taken.start taken.part calls →
    with_process (record left { moves = moves; closed = closed }) pid p ≡ turn_put w pid calls fuel halt
turn_done w left pid taken p calls fuel halt moves closed same out is moved shut =
    ap (λ (m : List Move). with_process (record left { moves = m; closed = closed }) pid p) moved
    ∙ ap (λ (c : List ℕ). with_process (record left {
      moves = left.moves ++ moves_of pid taken.start taken.part calls;
      closed = c;
    }) pid p) shut
    ∙ ap (λ (q : Process). with_process (record left {
      moves = left.moves ++ moves_of pid taken.start taken.part calls;
      closed = left.closed ++ closings_of taken.start taken.part calls;
    }) pid q) is
    ∙ ap (λ (t : Process). with_process (record left {
      moves = left.moves ++ moves_of pid t.start t.part calls;
      closed = left.closed ++ closings_of t.start t.part calls;
    }) pid (turned_by t calls fuel halt)) same
    ∙ ap (λ (l : World). with_process (record l {
      moves = l.moves ++ moves_of pid (w.process pid).start (w.process pid).part calls;
      closed = l.closed ++ closings_of (w.process pid).start (w.process pid).part calls;
    }) pid (turned_by (w.process pid) calls fuel halt)) out
    ∙ ap (λ (ps : ℕ → Process). record w {
      process = ps;
      moves = w.moves ++ moves_of pid (w.process pid).start (w.process pid).part calls;
      closed = w.closed ++ closings_of (w.process pid).start (w.process pid).part calls;
    }) (put_over w.process pid nobody (turned_by (w.process pid) calls fuel halt))

-- THE GIVE

-- the clock, what was streamed and want of memory leave the start and the part of each process
record KeepsOwn (old new : Process) : Type 0 where
  start : new.start ≡ old.start
  part : new.part ≡ old.part

clock_keeps : (now : Option ℕ) (w : World) (pid : ℕ) →
    (option_map_or (λ (ms : ℕ). at_time ms w) now w).process pid ≡ w.process pid
clock_keeps None w pid = refl
clock_keeps (Some ms) w pid = refl

stream_keeps : (request : Option Request) (side : Side) (w : World) (pid : ℕ) →
    (streamed_for request side w).process pid ≡ w.process pid
stream_keeps None side w pid = refl
stream_keeps (Some request) side w pid = refl

same_number : (n : ℕ) → nat_eq n n ≡ true
same_number n = grind (arith, nat_tests)

starving_keeps : (starved : Bool) (w : World) (pid : ℕ) (calls : List Call) →
    KeepsOwn (w.process pid) ((starved_so starved w pid calls).process pid)
starving_keeps false w pid calls = record { start = refl; part = refl }
starving_keeps true w pid calls = record {
  start = ap (λ (b : Bool). (if b then reached_so else w.process pid).start) (same_number pid);
  part = ap (λ (b : Bool). (if b then reached_so else w.process pid).part) (same_number pid);
}
  where
    reached_so : Process
    reached_so = record (w.process pid) {
      arrivals =
          (w.process pid).arrivals ++ record { turns = (w.process pid).gives; what = Came.Starved (length calls) } ∷ [];
    }

-- the world before the turn is recorded: with the time, with what was streamed, and with the arrival of want of memory
abbrev pub before_turn : World → Given → World
before_turn w give =
    starved_so (is_starved give.halt)
    (streamed_for (wanted_in (want_of give.halt) (w.process give.pid).owed) give.side (clocked give.side w))
    give.pid give.calls

before_keeps : (w : World) (give : Given) → KeepsOwn (w.process give.pid) ((before_turn w give).process give.pid)
before_keeps w give =
    let timed = clocked give.side w in
    let counted = streamed_for (wanted_in (want_of give.halt) (w.process give.pid).owed) give.side timed in
    let same : counted.process give.pid ≡ w.process give.pid =
    stream_keeps (wanted_in (want_of give.halt) (w.process give.pid).owed) give.side timed give.pid
    ∙ clock_keeps (clock_in give.side) w give.pid in
    let keeps = starving_keeps (is_starved give.halt) counted give.pid give.calls in
    record {
      start = keeps.start ∙ ap (λ (p : Process). p.start) same;
      part = keeps.part ∙ ap (λ (p : Process). p.part) same;
    }

-- the rules' own way to count what was streamed, and to tell want of memory
stream_is : (request : Option Request) (give : Given) (w : World) →
    streamed_for request give.side w ≡ streamed_in request give w
stream_is None give w = refl
stream_is (Some request) give w = refl

-- what is recorded of a Give is the turn, put where these are told
pub turn_is_recorded : (w : World) (give : Given) →
    turn_put (before_turn w give) give.pid give.calls give.fuel give.halt ≡ recorded w give
turn_is_recorded w give =
    let before = before_turn w give in
    let keeps = before_keeps w give in
    ap (λ (start : Start). with_closed
    (with_moves
    (with_process before give.pid (turned_by (before.process give.pid) give.calls give.fuel give.halt))
    (moves_of give.pid start (before.process give.pid).part give.calls))
    (closings_of start (before.process give.pid).part give.calls)) keeps.start
    ∙ ap (λ (part : Part). with_closed
    (with_moves
    (with_process before give.pid (turned_by (before.process give.pid) give.calls give.fuel give.halt))
    (moves_of give.pid (w.process give.pid).start part give.calls))
    (closings_of (w.process give.pid).start part give.calls)) keeps.part
    ∙ ap (λ (s : World). with_closed
    (with_moves
    (with_process (starved_so (is_starved give.halt) s give.pid give.calls) give.pid
    (turned_by ((starved_so (is_starved give.halt) s give.pid give.calls).process give.pid) give.calls give.fuel
    give.halt))
    (moves_of give.pid (w.process give.pid).start (w.process give.pid).part give.calls))
    (closings_of (w.process give.pid).start (w.process give.pid).part give.calls))
    (stream_is (wanted_in (want_of give.halt) (w.process give.pid).owed) give (clocked give.side w))

-- the four steps of what is recorded, one behind another
pub record_done : (w timed counted starved new : World) (give : Given) → timed ≡ clocked give.side w →
    counted ≡ streamed_for (wanted_in (want_of give.halt) (timed.process give.pid).owed) give.side timed →
    starved ≡ starved_so (is_starved give.halt) counted give.pid give.calls →
    new ≡ turn_put starved give.pid give.calls give.fuel give.halt → new ≡ recorded w give
record_done w timed counted starved new give clock count starve turn =
    turn
    ∙ ap (λ (s : World). turn_put s give.pid give.calls give.fuel give.halt)
    (starve ∙ ap (λ (s : World). starved_so (is_starved give.halt) s give.pid give.calls)
    (count
    ∙ ap (λ (s : World). streamed_for (wanted_in (want_of give.halt) (s.process give.pid).owed) give.side s) clock
    ∙ ap (λ (p : Process). streamed_for (wanted_in (want_of give.halt) p.owed) give.side (clocked give.side w))
    (clock_keeps (clock_in give.side) w give.pid)))
    ∙ turn_is_recorded w give
