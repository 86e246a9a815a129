use Rattle.std.proofs.Common.{◌≡◌, ◌≢◌, ℕ, List, [], ◌∷◌, length, Option, Some, None, Bool, true, false, nat_eq, refl, ◌∙◌, ap}
use Rattle.std.specs.Prelude.{not, if◌then◌else◌}
use Rattle.std.specs.Option.{option_map_or}
use Rattle.host_port.specs.declared.request.Request.{Request}
use Rattle.host_port.specs.declared.reply.Reply.{Reply}
use Rattle.world_rules.specs.declared.entry.Entry.{Entry}
use Rattle.world_rules.specs.declared.entry.Side.{Side}
use Rattle.world_rules.specs.declared.halt.End.{End}
use Rattle.world_rules.specs.declared.halt.End.TheVariants as EndIs
use Rattle.world_rules.specs.declared.life.Birth.{Birth}
use Rattle.world_rules.specs.declared.life.Birth.TheVariants.{Born, Refused}
use Rattle.world_rules.specs.Views.{Given, Deed, Taking, Giving, Timing, EndingAll, deed_of, end_by, Want, Goes, Wants, Retries, Ends, want_of, wanted_in, is_starved, is_opened, is_refused, is_pending, clock_in, answer_in}
use Rattle.world_rules.specs.Calls.{HostCall, call_of, arg}
use Rattle.world_rules.specs.Calls as CallIs
use Rattle.world_rules.specs.Answers.{empty_reply, number_reply, written_reply}
use Rattle.world_rules.specs.Arrivals.{What, arrival_of}
use Rattle.world_rules.specs.Arrivals as Came
use Rattle.world_rules.specs.Mail.{MailItem, Letter, Signal}
use Rattle.world_rules.specs.Part.{Scratch}
use Rattle.world_rules.specs.Moves.{Opened}
use Rattle.world_rules.specs.Settled.{settled, StreamOpened}
use Rattle.world_rules.specs.Streams.{Streamed, has_result}
use Rattle.world_rules.specs.World.{World, Stage, Unborn, Ready, Out, Waiting, Doomed, Ended, is_home, is_live, with_process, with_moves, live_processes}
use Rattle.world_rules.specs.Changes.{with_arrival, with_part, readied, answered, replied, waiting, posted}
use Rattle.world_rules.specs.Ends.{ended, ended_from_outside, struck, all_struck, all_end, over_with_first}
use Rattle.world_rules.specs.Time.{clocked, late_reply, timed_out, all_timed_out, due_processes, at_time, is_positive, deadline_after, sleep_performed}
use Rattle.world_rules.specs.Receive.{held, delivery_reply, delivered, wanted_item, without_wanted, delivered_or, unmet, receive_performed, woken_from, woken, arrived, send_answer, sent_off, sent, send_performed}
use Rattle.world_rules.specs.Links.{Told, with_link, link_answer, link_performed, fallen_with, signals_of, all_told, fallen, ended_by_halt, killed, kill_performed}
use Rattle.world_rules.specs.Registry.{with_name, put_answer, put_performed}
use Rattle.world_rules.specs.Spawn.{next_number, next_birth, born, spawn_counted, spawned}
use Rattle.world_rules.specs.Outside.{id_address, stream_drawn, opened, opened_and_shut, bound, outside_performed}
use Rattle.world_rules.specs.Rules.{call_performed, performed, asked, retried, halted, streamed_in, recorded, home, opening_shut, given, happened, next}
use Rattle.world_rules.specs.Allowed.{IsWith}
use Rattle.node_state.specs.Streaming.{streamed_beside, streamed_after}

-- What an entry does to what was streamed: a Give streams what came beside the request whose answer it wants; nothing
-- else streams.

-- the same was streamed
abbrev Same : World → World → Type 0
Same w after = after.streamed ≡ w.streamed

if_same : (b : Bool) (w x y : World) → Same w x → Same w y → Same w (if b then x else y)
if_same true w x y first second = first
if_same false w x y first second = second

-- ANSWERS

answered_by : (b : Bool) (w : World) (pid : ℕ) (request : Request) (reply : Reply) (what : What)
    → Same w (if b then with_arrival (with_process w pid (readied (w.process pid) request reply)) pid what else w)
answered_by true w pid request reply what = refl
answered_by false w pid request reply what = refl

answered_same : (w : World) (pid : ℕ) (request : Request) (reply : Reply) (what : What) → Same w (answered w pid request reply what)
answered_same w pid request reply what = answered_by (is_home (w.process pid).stage) w pid request reply what

replied_same : (w : World) (pid : ℕ) (request : Request) (reply : Reply) → Same w (replied w pid request reply)
replied_same w pid request reply = answered_same w pid request reply (Came.Answered reply)

then_replied : (w mid : World) (pid : ℕ) (request : Request) (reply : Reply) → Same w mid → Same w (replied mid pid request reply)
then_replied w mid pid request reply first = replied_same mid pid request reply ∙ first

-- MAIL

delivered_same : (w : World) (pid : ℕ) (request : Request) (item : MailItem) → Same w (delivered w pid request item)
delivered_same w pid request item = answered_same (held w pid item) pid request (delivery_reply item) (arrival_of item)

found_same : (other w : World) (pid : ℕ) (request : Request) (found : Option MailItem) → Same w other → Same w (delivered_or other w pid request found)
found_same other w pid request None first = first
found_same other w pid request (Some item) first = delivered_same (without_wanted w pid request) pid request item

woken_from_same : (call : Option HostCall) (w : World) (pid : ℕ) (request : Request) → Same w (woken_from call w pid request)
woken_from_same (Some CallIs.Receive) w pid request = found_same w w pid request (wanted_item w pid request) refl
woken_from_same _ w pid request = refl

woken_same : (stage : Stage) (w : World) (pid : ℕ) → Same w (woken stage w pid)
woken_same Unborn w pid = refl
woken_same Ready w pid = refl
woken_same (Out worker) w pid = refl
woken_same (Waiting request) w pid = woken_from_same (call_of request) w pid request
woken_same (Doomed worker end) w pid = refl
woken_same (Ended end) w pid = refl

arrived_same : (w : World) (to : ℕ) (item : MailItem) → Same w (arrived w to item)
arrived_same w to item = woken_same (w.process to).stage (posted w to item) to

sent_same : (w : World) (pid to : ℕ) (request : Request) (scratch : Option Scratch) → Same w (sent w pid to request scratch)
sent_same w pid to request None = refl
sent_same w pid to request (Some scratch) =
    arrived_same (replied (sent_off w pid to) pid request (number_reply 0)) to (Letter w.sends scratch.message)
    ∙ replied_same (sent_off w pid to) pid request (number_reply 0)

send_same : (w : World) (pid : ℕ) (request : Request) (refused : Bool) → Same w (send_performed w pid request refused)
send_same w pid request refused =
    let answer : ℕ = send_answer (w.process (arg request 0)) refused in
    if_same (nat_eq answer 0) w (sent w pid (arg request 0) request (w.process pid).part.scratch) (replied w pid request (number_reply answer))
    (sent_same w pid (arg request 0) request (w.process pid).part.scratch) (replied_same w pid request (number_reply answer))

receive_same : (w : World) (pid : ℕ) (request : Request) → Same w (receive_performed w pid request)
receive_same w pid request =
    found_same (unmet w pid request) w pid request (wanted_item w pid request)
    (if_same (nat_eq (arg request 2) 0) w (replied w pid request (number_reply 9027))
    (waiting w pid request (if is_positive (arg request 2) then Some (deadline_after w (arg request 2)) else None))
    (replied_same w pid request (number_reply 9027)) refl)

sleep_same : (w : World) (pid : ℕ) (request : Request) → Same w (sleep_performed w pid request)
sleep_same w pid request =
    if_same (is_positive (arg request 0)) w (waiting w pid request (Some (deadline_after w (arg request 0)))) (replied w pid request empty_reply)
    refl (replied_same w pid request empty_reply)

-- ENDS

struck_same : (stage : Stage) (w : World) (pid : ℕ) (end : End) → Same w (struck stage w pid end)
struck_same Unborn w pid end = refl
struck_same Ready w pid end = refl
struck_same (Out worker) w pid end = refl
struck_same (Waiting request) w pid end = refl
struck_same (Doomed worker earlier) w pid end = refl
struck_same (Ended earlier) w pid end = refl

all_struck_same : (w : World) (pids : List ℕ) (end : End) → Same w (all_struck w pids end)
all_struck_same w [] end = refl
all_struck_same w (pid ∷ pids) end =
    all_struck_same (struck (w.process pid).stage w pid end) pids end ∙ struck_same (w.process pid).stage w pid end

all_end_same : (w : World) (end : End) → Same w (all_end w end)
all_end_same w end = all_struck_same w (live_processes w) end

first_same : (stage : Stage) (w : World) → Same w (over_with_first stage w)
first_same Unborn w = refl
first_same Ready w = refl
first_same (Out worker) w = refl
first_same (Waiting request) w = refl
first_same (Doomed worker end) w = refl
first_same (Ended end) w = all_end_same w EndIs.Closed

told_same : (w : World) (signals : List Told) → Same w (all_told w signals)
told_same w [] = refl
told_same w (told ∷ rest) =
    told_same (arrived w told.to (Signal told.tag)) rest ∙ arrived_same w told.to (Signal told.tag)

fallen_same : (before after : World) (pid : ℕ) (end : End) → Same after (fallen before after pid end)
fallen_same before after pid end =
    let others : List ℕ = fallen_with before pid end in
    let struck_all : World = all_struck after others EndIs.Linked in
    let signalled : World = all_told struck_all (signals_of before (pid ∷ others) end) in
    first_same (signalled.process 1).stage signalled ∙ told_same struck_all (signals_of before (pid ∷ others) end)
    ∙ all_struck_same after others EndIs.Linked

halt_same : (w : World) (pid : ℕ) (end : End) → Same w (ended_by_halt w pid end)
halt_same w pid end = fallen_same w (ended w pid end) pid end

killed_same : (live : Bool) (w : World) (pid : ℕ) → Same w (killed live w pid)
killed_same true w pid =
    fallen_same w (struck (w.process pid).stage w pid EndIs.Killed) pid EndIs.Killed ∙ struck_same (w.process pid).stage w pid EndIs.Killed
killed_same false w pid = refl

kill_same : (w : World) (pid : ℕ) (request : Request) → Same w (kill_performed w pid request)
kill_same w pid request =
    let live : Bool = is_live (w.process (arg request 0)).stage in
    then_replied w (killed live w (arg request 0)) pid request empty_reply (killed_same live w (arg request 0))

-- LINKS, NAMES AND CHILDREN

link_same : (w : World) (pid : ℕ) (request : Request) (refused : Bool) → Same w (link_performed w pid request refused)
link_same w pid request refused =
    let answer : ℕ = link_answer w pid (arg request 1) refused in
    then_replied w (if nat_eq answer 0 then with_link w pid (arg request 1) (Some (arg request 0)) else w) pid request (number_reply answer)
    (if_same (nat_eq answer 0) w (with_link w pid (arg request 1) (Some (arg request 0))) w refl refl)

put_same : (w : World) (pid : ℕ) (request : Request) (refused : Bool) → Same w (put_performed w pid request refused)
put_same w pid request refused =
    let answer : ℕ = put_answer w (arg request 2) refused in
    then_replied w (if nat_eq answer 0 then with_name w request.first (Some (arg request 2)) else w) pid request (number_reply answer)
    (if_same (nat_eq answer 0) w (with_name w request.first (Some (arg request 2))) w refl refl)

born_by : (b : Bool) (w there : World) (pid child tag : ℕ) → Same w there → Same w (if b then there else with_link there pid child (Some tag))
born_by true w there pid child tag same = same
born_by false w there pid child tag same = same

spawned_same : (birth : Option Birth) (w : World) (pid : ℕ) (request : Request) → Same w (spawned birth w pid request)
spawned_same None w pid request = replied_same (spawn_counted w) pid request (number_reply 12)
spawned_same (Some (Born start)) w pid request =
    then_replied w (born (spawn_counted w) pid request start) pid request (written_reply 0 (arg request 7) (next_number w))
    (born_by (nat_eq (arg request 0) 0) w _ pid (next_number w) (arg request 0) refl)
spawned_same (Some (Refused reply)) w pid request = replied_same (spawn_counted w) pid request (number_reply reply)

-- THE OUTSIDE

bound_by : (b : Bool) (w x : World) → Same w x → Same w (if b then x else w)
bound_by true w x same = same
bound_by false w x same = refl

bound_same : (call : HostCall) (w : World) (pid : ℕ) (reply : Reply) → Same w (bound call w pid reply)
bound_same CallIs.Bind w pid reply = bound_by (has_result 0 reply) w _ refl
bound_same _ w pid reply = refl

answer_same : (call : HostCall) (w : World) (pid : ℕ) (request : Request) (answer : Option Reply)
    → Same w (option_map_or (λ (reply : Reply). replied (bound call w pid reply) pid request reply) answer w)
answer_same call w pid request None = refl
answer_same call w pid request (Some reply) = then_replied w (bound call w pid reply) pid request reply (bound_same call w pid reply)

opened_same : (call : HostCall) (w : World) (pid : ℕ) (request : Request) → Same w (opened call w pid request)
opened_same call w pid request =
    answered_same (with_moves (with_part (stream_drawn w) pid (settled (w.process pid).part (StreamOpened w.streams))) (Opened w.streams pid ∷ [])) pid request
    (written_reply 0 (id_address call request) w.streams) (Came.Opened (written_reply 0 (id_address call request) w.streams))

outside_same : (call : HostCall) (w : World) (pid : ℕ) (request : Request) (side : Side) → Same w (outside_performed call w pid request side)
outside_same call w pid request side =
    if_same (is_opened side) w (opened call w pid request)
    (option_map_or (λ (reply : Reply). replied (bound call w pid reply) pid request reply) (answer_in side) w)
    (opened_same call w pid request) (answer_same call w pid request (answer_in side))

-- WHAT A GIVE WANTS

call_same : (births : List Birth) (call : HostCall) (w : World) (pid : ℕ) (request : Request) (side : Side) → Same w (call_performed births call w pid request side)
call_same births CallIs.Send w pid request side = send_same w pid request (is_refused side)
call_same births CallIs.Receive w pid request side = receive_same w pid request
call_same births CallIs.Exists w pid request side = replied_same w pid request (number_reply (if is_live (w.process (arg request 0)).stage then 1 else 0))
call_same births CallIs.Spawn w pid request side = spawned_same (next_birth births w) w pid request
call_same births CallIs.Kill w pid request side = kill_same w pid request
call_same births CallIs.Link w pid request side = link_same w pid request (is_refused side)
call_same births CallIs.Unlink w pid request side = replied_same (with_link w pid (arg request 0) None) pid request empty_reply
call_same births CallIs.DieWhenLinkDies w pid request side =
    then_replied w (with_process w pid (record (w.process pid) { dies = not (nat_eq (arg request 0) 0) })) pid request empty_reply refl
call_same births CallIs.SleepMs w pid request side = sleep_same w pid request
call_same births CallIs.RegistryPut w pid request side = put_same w pid request (is_refused side)
call_same births CallIs.RegistryGet w pid request side =
    replied_same w pid request (option_map_or (λ (named : ℕ). written_reply 0 (arg request 2) named) (w.names request.first) (number_reply 1))
call_same births CallIs.RegistryRemove w pid request side = replied_same (with_name w request.first None) pid request empty_reply
call_same births CallIs.Bind w pid request side = outside_same CallIs.Bind w pid request side
call_same births CallIs.LocalPort w pid request side = outside_same CallIs.LocalPort w pid request side
call_same births CallIs.Accept w pid request side = outside_same CallIs.Accept w pid request side
call_same births CallIs.Connect w pid request side = outside_same CallIs.Connect w pid request side
call_same births CallIs.ReadStream w pid request side = outside_same CallIs.ReadStream w pid request side
call_same births CallIs.WriteStream w pid request side = outside_same CallIs.WriteStream w pid request side
call_same births _ w pid request side = refl

performed_same : (births : List Birth) (call : Option HostCall) (w : World) (pid : ℕ) (request : Request) (side : Side) → Same w (performed births call w pid request side)
performed_same births None w pid request side = refl
performed_same births (Some call) w pid request side = call_same births call w pid request side

asked_same : (pending : Bool) (births : List Birth) (w : World) (pid : ℕ) (request : Request) (side : Side) → Same w (asked pending births w pid request side)
asked_same true births w pid request side = refl
asked_same false births w pid request side = performed_same births (call_of request) w pid request side

retried_same : (owed : Option Request) (births : List Birth) (w : World) (pid : ℕ) (side : Side) → Same w (retried owed births w pid side)
retried_same None births w pid side = refl
retried_same (Some request) births w pid side = asked_same (is_pending side) births w pid request side

halted_same : (want : Want) (births : List Birth) (w : World) (pid : ℕ) (side : Side) → Same w (halted want births w pid side)
halted_same Goes births w pid side = refl
halted_same (Wants request) births w pid side = asked_same (is_pending side) births w pid request side
halted_same Retries births w pid side = retried_same (w.process pid).owed births w pid side
halted_same (Ends end) births w pid side = halt_same w pid end

-- WHAT IS RECORDED

clocked_same : (clock : Option ℕ) (w : World) → Same w (option_map_or (λ now. at_time now w) clock w)
clocked_same None w = refl
clocked_same (Some now) w = refl

streamed_in_is : (request : Option Request) (give : Given) (w : World) → (streamed_in request give w).streamed ≡ streamed_beside request give.side w.streamed
streamed_in_is None give w = refl
streamed_in_is (Some request) give w = refl

starved_same : (starved : Bool) (give : Given) (w : World) → Same w (if starved then with_arrival w give.pid (Came.Starved (length give.calls)) else w)
starved_same true give w = refl
starved_same false give w = refl

recorded_is : (w : World) (give : Given) → (recorded w give).streamed ≡ streamed_after (w.process give.pid) give w.streamed
recorded_is w give =
    let request : Option Request = wanted_in (want_of give.halt) (w.process give.pid).owed in
    let timed : World = clocked give.side w in
    starved_same (is_starved give.halt) give (streamed_in request give timed) ∙ streamed_in_is request give timed
    ∙ ap (λ (s : ℕ → Streamed). streamed_beside request give.side s) (clocked_same (clock_in give.side) w)

shut_same : (opening : Bool) (w : World) (give : Given) → Same w (if opening then opened_and_shut w give.pid else w)
shut_same true w give = refl
shut_same false w give = refl

given_is : (births : List Birth) (w : World) (give : Given) (stage : Stage) → IsWith stage give.worker
    → (given stage births w give).streamed ≡ streamed_after (w.process give.pid) give w.streamed
given_is births w give Unborn away = absurd away
given_is births w give Ready away = absurd away
given_is births w give (Out worker) away =
    halted_same (want_of give.halt) births (home (recorded w give) give.pid) give.pid give.side ∙ recorded_is w give
given_is births w give (Waiting request) away = absurd away
given_is births w give (Doomed worker end) away =
    let shut : World = opening_shut (recorded w give) give in
    let gone : World = ended_from_outside shut give.pid end in
    first_same (gone.process 1).stage gone ∙ shut_same (is_opened give.side) (recorded w give) give ∙ recorded_is w give
given_is births w give (Ended end) away = absurd away

-- ENTRIES

timed_out_same : (stage : Stage) (w : World) (pid : ℕ) → Same w (timed_out stage w pid)
timed_out_same Unborn w pid = refl
timed_out_same Ready w pid = refl
timed_out_same (Out worker) w pid = refl
timed_out_same (Waiting request) w pid = replied_same w pid request (late_reply (call_of request))
timed_out_same (Doomed worker end) w pid = refl
timed_out_same (Ended end) w pid = refl

all_timed_out_same : (w : World) (pids : List ℕ) → Same w (all_timed_out w pids)
all_timed_out_same w [] = refl
all_timed_out_same w (pid ∷ pids) =
    all_timed_out_same (timed_out (w.process pid).stage w pid) pids ∙ timed_out_same (w.process pid).stage w pid

happened_same : (births : List Birth) (w : World) (deed : Deed) → ((give : Given) → deed ≢ Giving give) → Same w (happened births w deed)
happened_same births w (Taking worker pid) other = refl
happened_same births w (Giving give) other = absurd (other give refl)
happened_same births w (Timing now) other = all_timed_out_same (at_time now w) (due_processes (at_time now w))
happened_same births w (EndingAll cause) other = all_end_same w (end_by cause)

-- an entry that is no Give streams nothing
pub others-stream-nothing : (births : List Birth) (w : World) (entry : Entry) → ((give : Given) → deed_of entry ≢ Giving give) → (next births w entry).streamed ≡ w.streamed
others-stream-nothing births w entry other = happened_same births w (deed_of entry) other

-- a Give of a process that a worker has streams what came beside the request whose answer it wants
pub gives-stream : (births : List Birth) (w : World) (give : Given) (entry : Entry) → deed_of entry ≡ Giving give → IsWith (w.process give.pid).stage give.worker
    → (next births w entry).streamed ≡ streamed_after (w.process give.pid) give w.streamed
gives-stream births w give entry is away =
    ap (λ (deed : Deed). (happened births w deed).streamed) is ∙ given_is births w give (w.process give.pid).stage away
