use Rattle.std.specs.Prelude.{ℕ, ◌+◌, List, [], ◌∷◌, ◌++◌, length, filter, Option, Some, None, Bool, true, false, not, nat_eq, is_some, if◌then◌else◌}
use Rattle.std.specs.Option.{option_map_or}
use Rattle.host_port.specs.declared.request.Request.{Request}
use Rattle.world_rules.specs.declared.entry.Entry.{Entry}
use Rattle.world_rules.specs.declared.life.Birth.{Birth}
use Rattle.world_rules.specs.declared.entry.Side.{Side}
use Rattle.world_rules.specs.Views.{Given, Deed, Taking, Giving, Timing, EndingAll, deed_of, end_by, Want, Goes, Wants, Retries, Ends, want_of, wanted_in, asked_in, is_starved, is_pending, is_opened, is_refused}
use Rattle.world_rules.specs.Calls.{HostCall, call_of, arg}
use Rattle.world_rules.specs.Calls as CallIs
use Rattle.world_rules.specs.Answers.{number_reply}
use Rattle.world_rules.specs.Part.{Part, is_among}
use Rattle.world_rules.specs.Judge.{charged}
use Rattle.world_rules.specs.Local.{part_after}
use Rattle.world_rules.specs.Handles.{moves_of, closings_of}
use Rattle.world_rules.specs.Streams.{streamed_by}
use Rattle.world_rules.specs.Arrivals as Came
use Rattle.world_rules.specs.World.{World, Process, Stage, Unborn, Ready, Out, Waiting, Doomed, Ended, with_process, with_moves, with_closed, is_live, is_ready, up_to}
use Rattle.world_rules.specs.Changes.{with_arrival, replied, pended}
use Rattle.world_rules.specs.Ends.{ended_from_outside, all_end, closed_with_first}
use Rattle.world_rules.specs.Time.{clocked, sleep_performed, due_processes, at_time, ticked}
use Rattle.world_rules.specs.Receive.{send_performed, receive_performed}
use Rattle.world_rules.specs.Links.{link_performed, unlink_performed, die_performed, ended_by_halt, kill_performed}
use Rattle.world_rules.specs.Registry.{put_performed, get_performed, remove_performed}
use Rattle.world_rules.specs.Spawn.{spawn_performed}
use Rattle.world_rules.specs.Outside.{opened_and_shut, outside_performed}

-- What one entry makes of the world.

-- PERFORMED

-- EXISTS. 1 where a live process has the number, else 0.
abbrev pub exists_performed : World → ℕ → Request → World
exists_performed w pid request =
    replied w pid request (number_reply (if is_live (w.process (arg request 0)).stage then 1 else 0))

-- a call of the world or of the outside is performed; a local call never is
abbrev pub call_performed : List Birth → HostCall → World → ℕ → Request → Side → World
call_performed births CallIs.Send w pid request side = send_performed w pid request (is_refused side)
call_performed births CallIs.Receive w pid request side = receive_performed w pid request
call_performed births CallIs.Exists w pid request side = exists_performed w pid request
call_performed births CallIs.Spawn w pid request side = spawn_performed births w pid request
call_performed births CallIs.Kill w pid request side = kill_performed w pid request
call_performed births CallIs.Link w pid request side = link_performed w pid request (is_refused side)
call_performed births CallIs.Unlink w pid request side = unlink_performed w pid request
call_performed births CallIs.DieWhenLinkDies w pid request side = die_performed w pid request
call_performed births CallIs.SleepMs w pid request side = sleep_performed w pid request
call_performed births CallIs.RegistryPut w pid request side = put_performed w pid request (is_refused side)
call_performed births CallIs.RegistryGet w pid request side = get_performed w pid request
call_performed births CallIs.RegistryRemove w pid request side = remove_performed w pid request
call_performed births CallIs.Bind w pid request side = outside_performed CallIs.Bind w pid request side
call_performed births CallIs.LocalPort w pid request side = outside_performed CallIs.LocalPort w pid request side
call_performed births CallIs.Accept w pid request side = outside_performed CallIs.Accept w pid request side
call_performed births CallIs.Connect w pid request side = outside_performed CallIs.Connect w pid request side
call_performed births CallIs.ReadStream w pid request side = outside_performed CallIs.ReadStream w pid request side
call_performed births CallIs.WriteStream w pid request side = outside_performed CallIs.WriteStream w pid request side
call_performed births _ w pid request side = w

abbrev pub performed : List Birth → Option HostCall → World → ℕ → Request → Side → World
performed births None w pid request side = w
performed births (Some call) w pid request side = call_performed births call w pid request side

-- a request that can't be answered yet is kept for the next turn; any other is performed
abbrev pub asked : Bool → List Birth → World → ℕ → Request → Side → World
asked true births w pid request side = pended w pid request
asked false births w pid request side = performed births (call_of request) w pid request side

-- the request that is owed is tried again
abbrev pub retried : Option Request → List Birth → World → ℕ → Side → World
retried None births w pid side = w
retried (Some request) births w pid side = asked (is_pending side) births w pid request side

-- HALT. A bound of the turn leaves the process ready, a request is performed, and every other halt ends the process.
abbrev pub halted : Want → List Birth → World → ℕ → Side → World
halted Goes births w pid side = w
halted (Wants request) births w pid side = asked (is_pending side) births w pid request side
halted Retries births w pid side = retried (w.process pid).owed births w pid side
halted (Ends end) births w pid side = ended_by_halt w pid end

-- GIVE

-- the part after a turn: after its local calls, and with the cost of the request that it asks for
abbrev pub part_after_turn : Process → Given → Part
part_after_turn p give =
    option_map_or (λ (request : Request). charged request (part_after p.start p.part give.calls))
    (asked_in give.halt) (part_after p.start p.part give.calls)

-- the turns that a process has given back; one that only tries a request again isn't counted
abbrev pub gives_after : Process → ℕ
gives_after p = if is_some p.owed then p.gives else p.gives + 1

-- the process after what is always recorded: its local calls with what they do to its part, and its fuel
abbrev pub turned : Process → Given → Process
turned p give = record p {
  part = part_after_turn p give;
  fuel = give.fuel;
  calls = p.calls ++ give.calls;
  gives = gives_after p;
}

-- want of memory arrives at the process, with the number of the turn's calls, before the turn is counted
abbrev pub starved_by : World → Given → World
starved_by w give = if is_starved give.halt then with_arrival w give.pid (Came.Starved (length give.calls)) else w

-- what was streamed by an answer is counted; the request is the one that the turn asks for, or the one that is owed
abbrev pub streamed_in : Option Request → Given → World → World
streamed_in None give w = w
streamed_in (Some request) give w = record w { streamed = streamed_by (call_of request) request give.side w.streamed }

-- RECORD. Of each Give is recorded: the time, what was streamed, the local calls with their moves and closings, and
-- the fuel.
abbrev pub recorded : World → Given → World
recorded w give =
    let p = w.process give.pid in
    let starved = starved_by (streamed_in (wanted_in (want_of give.halt) p.owed) give (clocked give.side w)) give in
    with_closed
    (with_moves (with_process starved give.pid (turned (starved.process give.pid) give))
    (moves_of give.pid p.start p.part give.calls))
    (closings_of p.start p.part give.calls)

-- while its Give is performed the giver is live but no longer out: where an end comes to it, it ends at once
abbrev pub home : World → ℕ → World
home w pid = with_process w pid (record (w.process pid) { stage = Ready })

-- a stream that was opened for a doomed process is closed
abbrev pub opening_shut : World → Given → World
opening_shut w give = if is_opened give.side then opened_and_shut w give.pid else w

-- GIVE. What is always recorded comes first. A process that isn't doomed then has its halt performed; a doomed one's
-- halt isn't performed, and it has the end that it was doomed to.
abbrev pub given : Stage → List Birth → World → Given → World
given Unborn births w give = w
given Ready births w give = w
given (Out worker) births w give =
    halted (want_of give.halt) births (home (recorded w give) give.pid) give.pid give.side
given (Waiting request) births w give = w
given (Doomed worker end) births w give =
    closed_with_first (ended_from_outside (opening_shut (recorded w give) give) give.pid end)
given (Ended end) births w give = w

-- TAKE. The process is then out to the worker.
abbrev pub taken : World → ℕ → ℕ → World
taken w worker pid = with_process w pid (record (w.process pid) { stage = Out worker })

-- what an entry does, but for the ready list and the row
abbrev pub happened : List Birth → World → Deed → World
happened births w (Taking worker pid) = taken w worker pid
happened births w (Giving give) = given (w.process give.pid).stage births w give
happened births w (Timing now) = ticked w now
happened births w (EndingAll cause) = all_end w (end_by cause)

-- THE ROW

-- a give of a process that is out, whose request can't be answered yet
abbrev pub is_pending_give : Stage → Side → Bool
is_pending_give Unborn side = false
is_pending_give Ready side = false
is_pending_give (Out worker) side = is_pending side
is_pending_give (Waiting request) side = false
is_pending_give (Doomed worker end) side = false
is_pending_give (Ended end) side = false

-- a Tick is early where it answers nobody
abbrev pub is_early : World → ℕ → Bool
is_early w now = nat_eq (length (due_processes (at_time now w))) 0

-- one more in the row, or the row is broken
abbrev pub row_with : Bool → ℕ → ℕ
row_with true row = row + 1
row_with false row = 0

-- ROW. How many Pending gives and early Ticks the last entries are, Takes left aside.
abbrev pub row_after : World → Deed → ℕ
row_after w (Taking worker pid) = w.row
row_after w (Giving give) = row_with (is_pending_give (w.process give.pid).stage give.side) w.row
row_after w (Timing now) = row_with (is_early w now) w.row
row_after w (EndingAll cause) = 0

-- THE READY LIST

-- the process that an entry gives back
abbrev pub giver_of : Deed → List ℕ
giver_of (Taking worker pid) = []
giver_of (Giving give) = give.pid ∷ []
giver_of (Timing now) = []
giver_of (EndingAll cause) = []

-- those of these processes that are ready
abbrev pub ready_among : World → List ℕ → List ℕ
ready_among w pids = filter (λ pid. is_ready (w.process pid).stage) pids

-- the processes that are not among these, by rising number
abbrev pub all_but : World → List ℕ → List ℕ
all_but w pids = filter (λ pid. not (is_among pids pid)) (up_to w.numbers_drawn)

-- BACK OF THE LIST. Those of the earlier ready list that are still ready keep their order; behind them come those that
-- the entry made ready, by rising number, a spawned child among them; the giver comes last.
abbrev pub queued : List ℕ → List ℕ → World → World
queued earlier giver w = record w {
  ready = ready_among w earlier ++ ready_among w (all_but w (earlier ++ giver)) ++ ready_among w giver;
}

-- the row stands as this number
abbrev pub with_row : ℕ → World → World
with_row row w = record w { row = row }

abbrev pub next_by : List Birth → World → Deed → World
next_by births w deed = with_row (row_after w deed) (queued w.ready (giver_of deed) (happened births w deed))

-- NEXT. The world after an entry; what spawns come to is taken from the births.
abbrev pub next : List Birth → World → Entry → World
next births w entry = next_by births w (deed_of entry)
