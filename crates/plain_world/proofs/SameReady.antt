-- What an entry does leaves the ready list as it was: only the last step of an entry, which queues, changes it.
use Rattle.std.specs.Prelude.{◌≡◌, ℕ, List, [], ◌∷◌, Option, Some, None, Bool, true, false, not, nat_eq, if◌then◌else◌, refl}
use Rattle.std.specs.Option.{option_map_or}
use Rattle.std.proofs.Common.{sym, ◌∙◌, ap}
use Rattle.host_port.specs.declared.start.Start.{Start}
use Rattle.host_port.specs.declared.request.Request.{Request}
use Rattle.host_port.specs.declared.reply.Reply.{Reply}
use Rattle.world_rules.specs.declared.entry.Side.{Side}
use Rattle.world_rules.specs.declared.halt.End.{End}
use Rattle.world_rules.specs.declared.halt.End.TheVariants as EndIs
use Rattle.world_rules.specs.declared.life.Birth.{Birth}
use Rattle.world_rules.specs.declared.life.Birth.TheVariants.{Born, Refused}
use Rattle.world_rules.specs.Views.{Given, Deed, Taking, Giving, Timing, EndingAll, end_by, Want, Goes, Wants, Retries, Ends, want_of, wanted_in, is_starved, is_pending, is_opened, is_refused, clock_in, answer_in}
use Rattle.world_rules.specs.Calls.{HostCall, call_of, arg}
use Rattle.world_rules.specs.Calls as CallIs
use Rattle.world_rules.specs.Answers.{empty_reply, number_reply, written_reply}
use Rattle.world_rules.specs.Arrivals.{What}
use Rattle.world_rules.specs.Arrivals as Came
use Rattle.world_rules.specs.Mail.{MailItem, Letter, Signal}
use Rattle.world_rules.specs.Part.{Scratch}
use Rattle.world_rules.specs.Moves.{Opened}
use Rattle.world_rules.specs.Settled.{settled, StreamOpened}
use Rattle.world_rules.specs.Streams.{has_result}
use Rattle.world_rules.specs.World.{World, Stage, Unborn, Ready, Out, Waiting, Doomed, Ended, is_home, is_live, live_processes, with_moves, with_process}
use Rattle.world_rules.specs.Changes.{with_part, with_arrival, answered, replied, pended, waiting, posted}
use Rattle.world_rules.specs.Time.{at_time, clocked, is_positive, sleep_performed, late_reply, timed_out, all_timed_out, ticked, due_processes}
use Rattle.world_rules.specs.Receive.{held, delivered, wanted_item, without_wanted, delivered_or, unmet, receive_performed, woken_from, woken, arrived, send_answer, sent_off, sent, send_performed}
use Rattle.world_rules.specs.Registry.{with_name, put_answer, put_performed, get_performed, remove_performed}
use Rattle.world_rules.specs.Outside.{stream_drawn, id_address, opened, opened_and_shut, bound, outside_performed}
use Rattle.world_rules.specs.Ends.{ended, ended_from_outside, doomed, struck, all_struck, all_end, over_with_first, closed_with_first}
use Rattle.world_rules.specs.Links.{Told, with_link, link_answer, link_performed, unlink_performed, die_performed, fallen_with, signals_of, all_told, fallen, ended_by_halt, killed, kill_performed}
use Rattle.world_rules.specs.Spawn.{next_birth, next_number, born, spawn_counted, spawned, spawn_performed}
use Rattle.world_rules.specs.Rules.{exists_performed, call_performed, performed, asked, retried, halted, starved_by, streamed_in, recorded, home, opening_shut, given, taken, happened}

-- the ready list of a world after something is still this one
abbrev Same : List ℕ → World → Type 0
Same ready after = after.ready ≡ ready

-- CHOICES

chosen : (b : Bool) (ready : List ℕ) (x y : World) → Same ready x → Same ready y → Same ready (if b then x else y)
chosen true ready x y one other = one
chosen false ready x y one other = other

mapped : {A : Type 0} (f : A → World) (o : Option A) (ready : List ℕ) (none : World) → ((a : A) → Same ready (f a)) → Same ready none
    → Same ready (option_map_or f o none)
mapped f None ready none some other = other
mapped f (Some a) ready none some other = some a

-- ANSWERS

answered_same : (w : World) (pid : ℕ) (request : Request) (reply : Reply) (what : What) → Same w.ready (answered w pid request reply what)
answered_same w pid request reply what = by (is_home (w.process pid).stage) refl
  where
    by : (b : Bool) → is_home (w.process pid).stage ≡ b → Same w.ready (answered w pid request reply what)
    by true e = rw e refl
    by false e = rw e refl

replied_same : (w : World) (pid : ℕ) (request : Request) (reply : Reply) → Same w.ready (replied w pid request reply)
replied_same w pid request reply = answered_same w pid request reply (Came.Answered reply)

-- TIME

clocked_same : (side : Side) (w : World) → Same w.ready (clocked side w)
clocked_same side w = mapped (λ now. at_time now w) (clock_in side) w.ready w (λ now. refl) refl

sleep_same : (w : World) (pid : ℕ) (request : Request) → Same w.ready (sleep_performed w pid request)
sleep_same w pid request =
    chosen (is_positive (arg request 0)) w.ready _ (replied w pid request empty_reply) refl (replied_same w pid request empty_reply)

timed_same : (s : Stage) (w : World) (pid : ℕ) → Same w.ready (timed_out s w pid)
timed_same Unborn w pid = refl
timed_same Ready w pid = refl
timed_same (Out worker) w pid = refl
timed_same (Waiting request) w pid = replied_same w pid request (late_reply (call_of request))
timed_same (Doomed worker end) w pid = refl
timed_same (Ended end) w pid = refl

all_timed_same : (w : World) (pids : List ℕ) → Same w.ready (all_timed_out w pids)
all_timed_same w [] = refl
all_timed_same w (pid ∷ pids) = all_timed_same (timed_out (w.process pid).stage w pid) pids ∙ timed_same (w.process pid).stage w pid

ticked_same : (w : World) (now : ℕ) → Same w.ready (ticked w now)
ticked_same w now = all_timed_same (at_time now w) (due_processes (at_time now w))

-- MESSAGES

delivered_same : (other w : World) (pid : ℕ) (request : Request) (item : Option MailItem) → Same w.ready other
    → Same w.ready (delivered_or other w pid request item)
delivered_same other w pid request None same = same
delivered_same other w pid request (Some item) same = answered_same (held (without_wanted w pid request) pid item) pid request _ _

unmet_same : (w : World) (pid : ℕ) (request : Request) → Same w.ready (unmet w pid request)
unmet_same w pid request =
    chosen (nat_eq (arg request 2) 0) w.ready (replied w pid request (number_reply 9027)) _ (replied_same w pid request (number_reply 9027)) refl

receive_same : (w : World) (pid : ℕ) (request : Request) → Same w.ready (receive_performed w pid request)
receive_same w pid request = delivered_same (unmet w pid request) w pid request (wanted_item w pid request) (unmet_same w pid request)

woken_from_same : (call : Option HostCall) (w : World) (pid : ℕ) (request : Request) → Same w.ready (woken_from call w pid request)
woken_from_same (Some CallIs.Receive) w pid request = delivered_same w w pid request (wanted_item w pid request) refl
woken_from_same _ w pid request = refl

woken_same : (s : Stage) (w : World) (pid : ℕ) → Same w.ready (woken s w pid)
woken_same Unborn w pid = refl
woken_same Ready w pid = refl
woken_same (Out worker) w pid = refl
woken_same (Waiting request) w pid = woken_from_same (call_of request) w pid request
woken_same (Doomed worker end) w pid = refl
woken_same (Ended end) w pid = refl

arrived_same : (w : World) (to : ℕ) (item : MailItem) → Same w.ready (arrived w to item)
arrived_same w to item = woken_same (w.process to).stage (posted w to item) to

sent_same : (w : World) (pid to : ℕ) (request : Request) (scratch : Option Scratch) → Same w.ready (sent w pid to request scratch)
sent_same w pid to request None = refl
sent_same w pid to request (Some scratch) =
    arrived_same (replied (sent_off w pid to) pid request (number_reply 0)) to (Letter w.sends scratch.message)
    ∙ replied_same (sent_off w pid to) pid request (number_reply 0)

send_same : (w : World) (pid : ℕ) (request : Request) (refused : Bool) → Same w.ready (send_performed w pid request refused)
send_same w pid request refused =
    let answer = send_answer (w.process (arg request 0)) refused in
    chosen (nat_eq answer 0) w.ready (sent w pid (arg request 0) request (w.process pid).part.scratch) (replied w pid request (number_reply answer))
    (sent_same w pid (arg request 0) request (w.process pid).part.scratch) (replied_same w pid request (number_reply answer))

-- THE REGISTRY

put_same : (w : World) (pid : ℕ) (request : Request) (refused : Bool) → Same w.ready (put_performed w pid request refused)
put_same w pid request refused =
    let answer = put_answer w (arg request 2) refused in
    replied_same (if nat_eq answer 0 then with_name w request.first (Some (arg request 2)) else w) pid request (number_reply answer)
    ∙ chosen (nat_eq answer 0) w.ready (with_name w request.first (Some (arg request 2))) w refl refl

-- ENDS

struck_same : (s : Stage) (w : World) (pid : ℕ) (end : End) → Same w.ready (struck s w pid end)
struck_same Unborn w pid end = refl
struck_same Ready w pid end = refl
struck_same (Out worker) w pid end = refl
struck_same (Waiting request) w pid end = refl
struck_same (Doomed worker earlier) w pid end = refl
struck_same (Ended earlier) w pid end = refl

all_struck_same : (w : World) (pids : List ℕ) (end : End) → Same w.ready (all_struck w pids end)
all_struck_same w [] end = refl
all_struck_same w (pid ∷ pids) end = all_struck_same (struck (w.process pid).stage w pid end) pids end ∙ struck_same (w.process pid).stage w pid end

all_end_same : (w : World) (end : End) → Same w.ready (all_end w end)
all_end_same w end = all_struck_same w (live_processes w) end

over_same : (s : Stage) (w : World) → Same w.ready (over_with_first s w)
over_same Unborn w = refl
over_same Ready w = refl
over_same (Out worker) w = refl
over_same (Waiting request) w = refl
over_same (Doomed worker end) w = refl
over_same (Ended end) w = all_end_same w EndIs.Closed

closed_same : (w : World) → Same w.ready (closed_with_first w)
closed_same w = over_same (w.process 1).stage w

-- LINKS

link_same : (w : World) (pid : ℕ) (request : Request) (refused : Bool) → Same w.ready (link_performed w pid request refused)
link_same w pid request refused =
    let other = arg request 1 in
    let answer = link_answer w pid other refused in
    replied_same (if nat_eq answer 0 then with_link w pid other (Some (arg request 0)) else w) pid request (number_reply answer)
    ∙ chosen (nat_eq answer 0) w.ready (with_link w pid other (Some (arg request 0))) w refl refl

all_told_same : (w : World) (told : List Told) → Same w.ready (all_told w told)
all_told_same w [] = refl
all_told_same w (told ∷ rest) = all_told_same (arrived w told.to (Signal told.tag)) rest ∙ arrived_same w told.to (Signal told.tag)

fallen_same : (before after : World) (pid : ℕ) (end : End) → Same after.ready (fallen before after pid end)
fallen_same before after pid end =
    let others = fallen_with before pid end in
    let struck = all_struck after others EndIs.Linked in
    closed_same (all_told struck (signals_of before (pid ∷ others) end))
    ∙ all_told_same struck (signals_of before (pid ∷ others) end)
    ∙ all_struck_same after others EndIs.Linked

halt_same : (w : World) (pid : ℕ) (end : End) → Same w.ready (ended_by_halt w pid end)
halt_same w pid end = fallen_same w (ended w pid end) pid end

killed_same : (b : Bool) (w : World) (pid : ℕ) → Same w.ready (killed b w pid)
killed_same true w pid =
    fallen_same w (struck (w.process pid).stage w pid EndIs.Killed) pid EndIs.Killed ∙ struck_same (w.process pid).stage w pid EndIs.Killed
killed_same false w pid = refl

kill_same : (w : World) (pid : ℕ) (request : Request) → Same w.ready (kill_performed w pid request)
kill_same w pid request =
    let live = is_live (w.process (arg request 0)).stage in
    replied_same (killed live w (arg request 0)) pid request empty_reply ∙ killed_same live w (arg request 0)

-- SPAWN

born_same : (w : World) (pid : ℕ) (request : Request) (start : Start) → Same w.ready (born w pid request start)
born_same w pid request start = chosen (nat_eq (arg request 0) 0) w.ready _ _ refl refl

spawned_same : (birth : Option Birth) (w : World) (pid : ℕ) (request : Request) → Same w.ready (spawned birth w pid request)
spawned_same None w pid request = replied_same (spawn_counted w) pid request (number_reply 12)
spawned_same (Some (Born start)) w pid request =
    replied_same (born (spawn_counted w) pid request start) pid request _ ∙ born_same (spawn_counted w) pid request start
spawned_same (Some (Refused reply)) w pid request = replied_same (spawn_counted w) pid request (number_reply reply)

-- THE OUTSIDE

bound_same : (call : HostCall) (w : World) (pid : ℕ) (reply : Reply) → Same w.ready (bound call w pid reply)
bound_same CallIs.Bind w pid reply = chosen (has_result 0 reply) w.ready _ w refl refl
bound_same _ w pid reply = refl

opened_same : (call : HostCall) (w : World) (pid : ℕ) (request : Request) → Same w.ready (opened call w pid request)
opened_same call w pid request =
    let reply : Reply = written_reply 0 (id_address call request) w.streams in
    answered_same
    (with_moves (with_part (stream_drawn w) pid (settled (w.process pid).part (StreamOpened w.streams))) (Opened w.streams pid ∷ [])) pid request
    reply (Came.Opened reply)

outside_same : (call : HostCall) (w : World) (pid : ℕ) (request : Request) (side : Side) → Same w.ready (outside_performed call w pid request side)
outside_same call w pid request side =
    chosen (is_opened side) w.ready (opened call w pid request) (option_map_or (λ (reply : Reply). replied (bound call w pid reply) pid request reply) (answer_in side) w)
    (opened_same call w pid request)
    (mapped (λ (reply : Reply). replied (bound call w pid reply) pid request reply) (answer_in side) w.ready w
    (λ reply. replied_same (bound call w pid reply) pid request reply ∙ bound_same call w pid reply) refl)

-- CALLS

call_same : (births : List Birth) (call : HostCall) (w : World) (pid : ℕ) (request : Request) (side : Side)
    → Same w.ready (call_performed births call w pid request side)
call_same births CallIs.Send w pid request side = send_same w pid request (is_refused side)
call_same births CallIs.Receive w pid request side = receive_same w pid request
call_same births CallIs.Exists w pid request side = replied_same w pid request _
call_same births CallIs.Spawn w pid request side = spawned_same (next_birth births w) w pid request
call_same births CallIs.Kill w pid request side = kill_same w pid request
call_same births CallIs.Link w pid request side = link_same w pid request (is_refused side)
call_same births CallIs.Unlink w pid request side = replied_same (with_link w pid (arg request 0) None) pid request empty_reply
call_same births CallIs.DieWhenLinkDies w pid request side =
    replied_same (with_process w pid (record (w.process pid) { dies = not (nat_eq (arg request 0) 0) })) pid request empty_reply
call_same births CallIs.SleepMs w pid request side = sleep_same w pid request
call_same births CallIs.RegistryPut w pid request side = put_same w pid request (is_refused side)
call_same births CallIs.RegistryGet w pid request side = replied_same w pid request _
call_same births CallIs.RegistryRemove w pid request side = replied_same (with_name w request.first None) pid request empty_reply
call_same births CallIs.Bind w pid request side = outside_same CallIs.Bind w pid request side
call_same births CallIs.LocalPort w pid request side = outside_same CallIs.LocalPort w pid request side
call_same births CallIs.Accept w pid request side = outside_same CallIs.Accept w pid request side
call_same births CallIs.Connect w pid request side = outside_same CallIs.Connect w pid request side
call_same births CallIs.ReadStream w pid request side = outside_same CallIs.ReadStream w pid request side
call_same births CallIs.WriteStream w pid request side = outside_same CallIs.WriteStream w pid request side
call_same births _ w pid request side = refl

performed_same : (births : List Birth) (call : Option HostCall) (w : World) (pid : ℕ) (request : Request) (side : Side)
    → Same w.ready (performed births call w pid request side)
performed_same births None w pid request side = refl
performed_same births (Some call) w pid request side = call_same births call w pid request side

asked_same : (b : Bool) (births : List Birth) (w : World) (pid : ℕ) (request : Request) (side : Side) → Same w.ready (asked b births w pid request side)
asked_same true births w pid request side = refl
asked_same false births w pid request side = performed_same births (call_of request) w pid request side

retried_same : (owed : Option Request) (births : List Birth) (w : World) (pid : ℕ) (side : Side) → Same w.ready (retried owed births w pid side)
retried_same None births w pid side = refl
retried_same (Some request) births w pid side = asked_same (is_pending side) births w pid request side

-- GIVES

halted_same : (want : Want) (births : List Birth) (w : World) (pid : ℕ) (side : Side) → Same w.ready (halted want births w pid side)
halted_same Goes births w pid side = refl
halted_same (Wants request) births w pid side = asked_same (is_pending side) births w pid request side
halted_same Retries births w pid side = retried_same (w.process pid).owed births w pid side
halted_same (Ends end) births w pid side = halt_same w pid end

streamed_same : (request : Option Request) (give : Given) (w : World) → Same w.ready (streamed_in request give w)
streamed_same None give w = refl
streamed_same (Some request) give w = refl

starved_same : (w : World) (give : Given) → Same w.ready (starved_by w give)
starved_same w give = chosen (is_starved give.halt) w.ready _ w refl refl

recorded_same : (w : World) (give : Given) → Same w.ready (recorded w give)
recorded_same w give =
    let wanted = wanted_in (want_of give.halt) (w.process give.pid).owed in
    starved_same (streamed_in wanted give (clocked give.side w)) give
    ∙ streamed_same wanted give (clocked give.side w)
    ∙ clocked_same give.side w

shut_same : (w : World) (give : Given) → Same w.ready (opening_shut w give)
shut_same w give = chosen (is_opened give.side) w.ready (opened_and_shut w give.pid) w refl refl

given_same : (s : Stage) (births : List Birth) (w : World) (give : Given) → Same w.ready (given s births w give)
given_same Unborn births w give = refl
given_same Ready births w give = refl
given_same (Out worker) births w give =
    halted_same (want_of give.halt) births (home (recorded w give) give.pid) give.pid give.side ∙ recorded_same w give
given_same (Waiting request) births w give = refl
given_same (Doomed worker end) births w give =
    closed_same (ended_from_outside (opening_shut (recorded w give) give) give.pid end) ∙ shut_same (recorded w give) give ∙ recorded_same w give
given_same (Ended end) births w give = refl

-- WHAT AN ENTRY DOES

pub happened_same : (births : List Birth) (w : World) (deed : Deed) → (happened births w deed).ready ≡ w.ready
happened_same births w (Taking worker pid) = refl
happened_same births w (Giving give) = given_same (w.process give.pid).stage births w give
happened_same births w (Timing now) = ticked_same w now
happened_same births w (EndingAll cause) = all_end_same w (end_by cause)
