use Rattle.std.specs.Prelude.{ℕ, ◌+◌, ◌-◌, ◌&&◌, ◌^◌, List, [], ◌∷◌, min, max, filter, Option, Some, Bool, true, false, nat_lt, nat_le, if◌then◌else◌}
use Rattle.std.specs.Option.{option_map_or}
use Rattle.host_port.specs.declared.request.Request.{Request}
use Rattle.host_port.specs.declared.reply.Reply.{Reply}
use Rattle.world_rules.specs.declared.entry.Side.{Side}
use Rattle.world_rules.specs.Views.{clock_in}
use Rattle.world_rules.specs.Calls.{HostCall, call_of, arg}
use Rattle.world_rules.specs.Calls as CallIs
use Rattle.world_rules.specs.Answers.{empty_reply, number_reply}
use Rattle.world_rules.specs.World.{World, Process, Stage, Unborn, Ready, Out, Waiting, Doomed, Ended, is_waiting, up_to}
use Rattle.world_rules.specs.Changes.{replied, waiting}

-- Time and deadlines, in milliseconds.

-- the time never goes back: it is the greater of the old time and the clock's
abbrev pub at_time : ℕ → World → World
at_time now w = record w { time = max w.time now }

-- a Clock that comes beside a call sets the time
abbrev pub clocked : Side → World → World
clocked side w = option_map_or (λ now. at_time now w) (clock_in side) w

-- a limit of milliseconds is positive, as an i64
abbrev pub is_positive : ℕ → Bool
is_positive ms = nat_lt 0 ms && nat_lt ms (2 ^ 63)

-- the deadline of a wait that begins now: so many milliseconds later, at most 2^64 - 1
abbrev pub deadline_after : World → ℕ → ℕ
deadline_after w ms = min (w.time + ms) (2 ^ 64 - 1)

-- SLEEP. A positive number of milliseconds waits up to the deadline; any other is answered at once.
abbrev pub sleep_performed : World → ℕ → Request → World
sleep_performed w pid request =
    if is_positive (arg request 0)
    then waiting w pid request (Some (deadline_after w (arg request 0)))
    else replied w pid request empty_reply

-- what a wait is answered when its deadline has come: 9027 to a receive, nothing to a sleep
abbrev pub late_reply : Option HostCall → Reply
late_reply (Some CallIs.Receive) = number_reply 9027
late_reply _ = empty_reply

-- a process waits with a deadline, and with one that has come
abbrev pub has_deadline : Process → Bool
has_deadline p = is_waiting p.stage && option_map_or (λ (d : ℕ). true) p.deadline false

abbrev pub is_due : ℕ → Process → Bool
is_due time p = is_waiting p.stage && option_map_or (λ (d : ℕ). nat_le d time) p.deadline false

-- the processes that wait with a deadline, and those whose deadline has come, by rising number
abbrev pub timed_processes : World → List ℕ
timed_processes w = filter (λ pid. has_deadline (w.process pid)) (up_to w.numbers_drawn)

abbrev pub due_processes : World → List ℕ
due_processes w = filter (λ pid. is_due w.time (w.process pid)) (up_to w.numbers_drawn)

-- the wait of a process is over without what it waited for
abbrev pub timed_out : Stage → World → ℕ → World
timed_out Unborn w pid = w
timed_out Ready w pid = w
timed_out (Out worker) w pid = w
timed_out (Waiting request) w pid = replied w pid request (late_reply (call_of request))
timed_out (Doomed worker end) w pid = w
timed_out (Ended end) w pid = w

abbrev pub all_timed_out : World → List ℕ → World
all_timed_out w [] = w
all_timed_out w (pid ∷ pids) = all_timed_out (timed_out (w.process pid).stage w pid) pids

-- TICK. The time is set, and every wait whose deadline is at most the time is answered.
abbrev pub ticked : World → ℕ → World
ticked w now = all_timed_out (at_time now w) (due_processes (at_time now w))
