use Rattle.std.specs.Prelude.{◌≡◌, ◌≢◌, ◌⊎◌, ℕ, ◌+◌, List, [], ◌∷◌, length, Option, Some, None, Bool, true, false, not, nat_eq, if◌then◌else◌, refl}
use Rattle.std.specs.Option.{option_map_or}
use Rattle.std.proofs.Common.{subst, sym, ◌∙◌, ap, inl, inr, arith}
use Rattle.std.proofs.lemmas.Bool.Decides.{eqb_tells}
use Rattle.host_port.specs.declared.start.Start.{Start}
use Rattle.host_port.specs.declared.request.Request.{Request}
use Rattle.host_port.specs.declared.reply.Reply.{Reply}
use Rattle.world_rules.specs.declared.entry.Entry.{Entry}
use Rattle.world_rules.specs.declared.entry.Side.{Side}
use Rattle.world_rules.specs.declared.life.Birth.{Birth}
use Rattle.world_rules.specs.declared.life.Birth.TheVariants.{Born, Refused}
use Rattle.world_rules.specs.Views.{Given, Deed, Taking, Giving, Timing, EndingAll, deed_of, end_by, Want, Goes, Wants, Retries, Ends, want_of, is_starved, is_opened, is_refused, is_pending, clock_in, answer_in}
use Rattle.world_rules.specs.Calls.{HostCall, call_of, arg}
use Rattle.world_rules.specs.Calls as CallIs
use Rattle.world_rules.specs.Answers.{empty_reply, number_reply, written_reply}
use Rattle.world_rules.specs.Arrivals.{What, arrival_of}
use Rattle.world_rules.specs.Arrivals as Came
use Rattle.world_rules.specs.Settled.{settled, StreamOpened, ListenerBound}
use Rattle.world_rules.specs.Streams.{has_result}
use Rattle.world_rules.specs.World.{World, Process, core_of, Stage, Unborn, Ready, Out, Waiting, Doomed, Ended, is_away, is_live, with_process, with_moves, fresh_process}
use Rattle.world_rules.specs.Changes.{reached, with_arrival, with_part, replied}
use Rattle.world_rules.specs.Ends.{ended_from_outside, closed_with_first}
use Rattle.world_rules.specs.Moves.{Opened}
use Rattle.world_rules.specs.Time.{clocked, late_reply, timed_out, all_timed_out, due_processes, at_time}
use Rattle.world_rules.specs.Links.{with_link, link_answer, link_performed, unlink_performed, die_performed, killed, kill_performed}
use Rattle.world_rules.specs.Registry.{with_name, put_answer, put_performed, remove_performed}
use Rattle.world_rules.specs.Spawn.{next_number, next_birth, born, spawn_counted, spawned}
use Rattle.world_rules.specs.Outside.{id_address, stream_drawn, opened, opened_and_shut, bound, outside_performed}
use Rattle.world_rules.specs.Rules.{exists_performed, call_performed, performed, asked, retried, halted, turned, starved_by, streamed_in, recorded, home, opening_shut, given, taken, happened, next}
use Rattle.world_rules.specs.laws.BirthLaws.{counted, process_counted, wanted_by}
use Rattle.world_rules.specs.laws.KeepingLaws.{Keeps, KeepsBut, keeps_self, false_is_true, but_self, but_then, if_keeps, put_keeps, giver_keeps, home_keeps, giver_home, answered_keeps, replied_keeps, then_replied, send_keeps, receive_keeps, sleep_keeps, outside_end_keeps, all_end_keeps, first_keeps, halt_keeps, killed_keeps}

-- CARRY. While a worker has a process, no entry but that process's own Give changes what the worker relies on.

-- THE CALLS OF THE WORLD

-- where the processes stay, everything is kept
same_keeps : (giver : ℕ) (w : World) → KeepsBut giver w w
same_keeps giver w = but_self giver w

exists_keeps : (w : World) (pid : ℕ) (request : Request) → KeepsBut pid w (exists_performed w pid request)
exists_keeps w pid request =
    replied_keeps pid w pid request (number_reply (if is_live (w.process (arg request 0)).stage then 1 else 0))

kill_keeps : (w : World) (pid : ℕ) (request : Request) → KeepsBut pid w (kill_performed w pid request)
kill_keeps w pid request =
    let live : Bool = is_live (w.process (arg request 0)).stage in
    then_replied pid w (killed live w (arg request 0)) pid request empty_reply (killed_keeps pid live w (arg request 0))

link_keeps : (w : World) (pid : ℕ) (request : Request) (refused : Bool) →
    KeepsBut pid w (link_performed w pid request refused)
link_keeps w pid request refused =
    let answer : ℕ = link_answer w pid (arg request 1) refused in
    let there : World = with_link w pid (arg request 1) (Some (arg request 0)) in
    then_replied pid w (if nat_eq answer 0 then there else w) pid request (number_reply answer)
    (if_keeps pid (nat_eq answer 0) w there w (same_keeps pid w) (same_keeps pid w))

unlink_keeps : (w : World) (pid : ℕ) (request : Request) → KeepsBut pid w (unlink_performed w pid request)
unlink_keeps w pid request =
    then_replied pid w (with_link w pid (arg request 0) None) pid request empty_reply (same_keeps pid w)

die_keeps : (w : World) (pid : ℕ) (request : Request) → KeepsBut pid w (die_performed w pid request)
die_keeps w pid request =
    let minded : Process = record (w.process pid) { dies = not (nat_eq (arg request 0) 0) } in
    then_replied pid w (with_process w pid minded) pid request empty_reply (giver_keeps pid w minded)

put_name_keeps : (w : World) (pid : ℕ) (request : Request) (refused : Bool) →
    KeepsBut pid w (put_performed w pid request refused)
put_name_keeps w pid request refused =
    let answer : ℕ = put_answer w (arg request 2) refused in
    let there : World = with_name w request.first (Some (arg request 2)) in
    then_replied pid w (if nat_eq answer 0 then there else w) pid request (number_reply answer)
    (if_keeps pid (nat_eq answer 0) w there w (same_keeps pid w) (same_keeps pid w))

remove_keeps : (w : World) (pid : ℕ) (request : Request) → KeepsBut pid w (remove_performed w pid request)
remove_keeps w pid request =
    then_replied pid w (with_name w request.first None) pid request empty_reply (same_keeps pid w)

-- the next number is nobody's whom a worker has
abbrev pub IsFresh : World → Type 0
IsFresh w = is_away (w.process (next_number w)).stage ≡ false

born_keeps : (w : World) (pid : ℕ) (request : Request) (start : Start) → IsFresh w →
    KeepsBut pid w (born w pid request start)
born_keeps w pid request start fresh =
    let child : ℕ = next_number w in
    let there : World = record (with_process w child (fresh_process start Ready)) { numbers_drawn = child } in
    let keeps : KeepsBut pid w there = home_keeps pid w child (fresh_process start Ready) (λ other. fresh) in
    if_keeps pid (nat_eq (arg request 0) 0) w there (with_link there pid child (Some (arg request 0))) keeps keeps

spawned_keeps : (birth : Option Birth) (w : World) (pid : ℕ) (request : Request) → IsFresh w →
    KeepsBut pid w (spawned birth w pid request)
spawned_keeps None w pid request fresh =
    then_replied pid w (spawn_counted w) pid request (number_reply 12) (same_keeps pid w)
spawned_keeps (Some (Born start)) w pid request fresh =
    then_replied pid w (born (spawn_counted w) pid request start) pid request (written_reply 0 (arg request 7)
    (next_number w))
    (born_keeps (spawn_counted w) pid request start fresh)
spawned_keeps (Some (Refused reply)) w pid request fresh =
    then_replied pid w (spawn_counted w) pid request (number_reply reply) (same_keeps pid w)

-- THE CALLS OF THE OUTSIDE

opened_keeps : (call : HostCall) (w : World) (pid : ℕ) (request : Request) → KeepsBut pid w (opened call w pid request)
opened_keeps call w pid request =
    let p : Process = record (w.process pid) { part = settled (w.process pid).part (StreamOpened w.streams) } in
    let mid : World = with_process w pid p in
    let drawn : World =
    with_moves (with_part (stream_drawn w) pid (settled (w.process pid).part (StreamOpened w.streams)))
    (Opened w.streams pid ∷ []) in
    let reply : Reply = written_reply 0 (id_address call request) w.streams in
    but_then pid w drawn (opened call w pid request) (giver_keeps pid w p)
    (answered_keeps pid drawn pid request reply (Came.Opened reply))

bound_keeps : (call : HostCall) (w : World) (pid : ℕ) (reply : Reply) → KeepsBut pid w (bound call w pid reply)
bound_keeps CallIs.Bind w pid reply =
    if_keeps pid (has_result 0 reply) w (with_part w pid (settled (w.process pid).part ListenerBound)) w
    (giver_keeps pid w (record (w.process pid) {
      part =
          settled (w.process pid).part ListenerBound;
    })) (same_keeps pid w)
bound_keeps _ w pid reply = same_keeps pid w

answer_keeps : (call : HostCall) (w : World) (pid : ℕ) (request : Request) (answer : Option Reply)
    → KeepsBut pid w (option_map_or (λ (reply : Reply). replied (bound call w pid reply) pid request reply) answer w)
answer_keeps call w pid request None = same_keeps pid w
answer_keeps call w pid request (Some reply) =
    then_replied pid w (bound call w pid reply) pid request reply (bound_keeps call w pid reply)

outside_keeps : (call : HostCall) (w : World) (pid : ℕ) (request : Request) (side : Side) →
    KeepsBut pid w (outside_performed call w pid request side)
outside_keeps call w pid request side =
    if_keeps pid (is_opened side) w (opened call w pid request)
    (option_map_or (λ (reply : Reply). replied (bound call w pid reply) pid request reply) (answer_in side) w)
    (opened_keeps call w pid request) (answer_keeps call w pid request (answer_in side))

-- GIVES

call_keeps : (births : List Birth) (call : HostCall) (w : World) (pid : ℕ) (request : Request) (side : Side) → IsFresh w
    → KeepsBut pid w (call_performed births call w pid request side)
call_keeps births CallIs.Send w pid request side fresh = send_keeps w pid request (is_refused side)
call_keeps births CallIs.Receive w pid request side fresh = receive_keeps w pid request
call_keeps births CallIs.Exists w pid request side fresh = exists_keeps w pid request
call_keeps births CallIs.Spawn w pid request side fresh = spawned_keeps (next_birth births w) w pid request fresh
call_keeps births CallIs.Kill w pid request side fresh = kill_keeps w pid request
call_keeps births CallIs.Link w pid request side fresh = link_keeps w pid request (is_refused side)
call_keeps births CallIs.Unlink w pid request side fresh = unlink_keeps w pid request
call_keeps births CallIs.DieWhenLinkDies w pid request side fresh = die_keeps w pid request
call_keeps births CallIs.SleepMs w pid request side fresh = sleep_keeps w pid request
call_keeps births CallIs.RegistryPut w pid request side fresh = put_name_keeps w pid request (is_refused side)
call_keeps births CallIs.RegistryGet w pid request side fresh =
    replied_keeps pid w pid request
    (option_map_or (λ (named : ℕ). written_reply 0 (arg request 2) named) (w.names request.first) (number_reply 1))
call_keeps births CallIs.RegistryRemove w pid request side fresh = remove_keeps w pid request
call_keeps births CallIs.Bind w pid request side fresh = outside_keeps CallIs.Bind w pid request side
call_keeps births CallIs.LocalPort w pid request side fresh = outside_keeps CallIs.LocalPort w pid request side
call_keeps births CallIs.Accept w pid request side fresh = outside_keeps CallIs.Accept w pid request side
call_keeps births CallIs.Connect w pid request side fresh = outside_keeps CallIs.Connect w pid request side
call_keeps births CallIs.ReadStream w pid request side fresh = outside_keeps CallIs.ReadStream w pid request side
call_keeps births CallIs.WriteStream w pid request side fresh = outside_keeps CallIs.WriteStream w pid request side
call_keeps births _ w pid request side fresh = same_keeps pid w

request_keeps : (births : List Birth) (call : Option HostCall) (w : World) (pid : ℕ) (request : Request)
    (side : Side) → IsFresh w
    → KeepsBut pid w (performed births call w pid request side)
request_keeps births None w pid request side fresh = same_keeps pid w
request_keeps births (Some call) w pid request side fresh = call_keeps births call w pid request side fresh

ask_keeps : (pending : Bool) (births : List Birth) (w : World) (pid : ℕ) (request : Request) (side : Side) → IsFresh w
    → KeepsBut pid w (asked pending births w pid request side)
ask_keeps true births w pid request side fresh =
    giver_keeps pid w (record (w.process pid) { stage = Ready; owed = Some request })
ask_keeps false births w pid request side fresh = request_keeps births (call_of request) w pid request side fresh

retry_keeps : (owed : Option Request) (births : List Birth) (w : World) (pid : ℕ) (side : Side) → IsFresh w →
    KeepsBut pid w (retried owed births w pid side)
retry_keeps None births w pid side fresh = same_keeps pid w
retry_keeps (Some request) births w pid side fresh = ask_keeps (is_pending side) births w pid request side fresh

want_keeps : (want : Want) (births : List Birth) (w : World) (pid : ℕ) (side : Side) → IsFresh w →
    KeepsBut pid w (halted want births w pid side)
want_keeps Goes births w pid side fresh = same_keeps pid w
want_keeps (Wants request) births w pid side fresh = ask_keeps (is_pending side) births w pid request side fresh
want_keeps Retries births w pid side fresh = retry_keeps (w.process pid).owed births w pid side fresh
want_keeps (Ends end) births w pid side fresh = halt_keeps w pid end

-- what is recorded changes no other process, and no number is drawn

put_other_at : (w : World) (pid : ℕ) (p : Process) (q : ℕ) →
    ((nat_eq q pid ≡ true) × (q ≡ pid)) ⊎ ((nat_eq q pid ≡ false) × (q ≢ pid))
    → q ≢ pid → (if nat_eq q pid then p else w.process q) ≡ w.process q
put_other_at w pid p q (inl same) other = absurd (other same.1)
put_other_at w pid p q (inr differs) other = ap (λ (b : Bool). if b then p else w.process q) differs.0

pub put_other : (w : World) (pid : ℕ) (p : Process) (q : ℕ) → q ≢ pid → (with_process w pid p).process q ≡ w.process q
put_other w pid p q other = put_other_at w pid p q (eqb_tells q pid) other

starved_other : (starved : Bool) (give : Given) (w : World) (q : ℕ) → q ≢ give.pid
    → ((if starved then with_arrival w give.pid (Came.Starved (length give.calls)) else w).process q) ≡ w.process q
starved_other true give w q other =
    put_other w give.pid (reached (w.process give.pid) (Came.Starved (length give.calls))) q other
starved_other false give w q other = refl

recorded_other : (w : World) (give : Given) (q : ℕ) → q ≢ give.pid → (recorded w give).process q ≡ w.process q
recorded_other w give q other =
    let starved : World = starved_by (counted w give) give in
    put_other starved give.pid (turned (starved.process give.pid) give) q other
    ∙ starved_other (is_starved give.halt) give (counted w give) q other
    ∙ ap (λ (ps : ℕ → Process). ps q) (process_counted w give)

pub home_other : (w : World) (give : Given) (q : ℕ) → q ≢ give.pid →
    (home (recorded w give) give.pid).process q ≡ w.process q
home_other w give q other =
    put_other (recorded w give) give.pid (record ((recorded w give).process give.pid) {
      stage =
          Ready;
    }) q other ∙ recorded_other w give q other

same_is_kept : (p after : Process) → after ≡ p → Keeps p after
same_is_kept p after same = let P : Process → Type 0 = λ r. Keeps p r in subst P (sym same) (keeps_self p)

pub numbers_clocked : (clock : Option ℕ) (w : World) →
    (option_map_or (λ now. at_time now w) clock w).numbers_drawn ≡ w.numbers_drawn
numbers_clocked None w = refl
numbers_clocked (Some now) w = refl

numbers_streamed : (request : Option Request) (give : Given) (w : World) →
    (streamed_in request give w).numbers_drawn ≡ w.numbers_drawn
numbers_streamed None give w = refl
numbers_streamed (Some request) give w = refl

numbers_starved : (starved : Bool) (give : Given) (w : World)
    → (if starved then with_arrival w give.pid (Came.Starved (length give.calls)) else w).numbers_drawn ≡ w.numbers_drawn
numbers_starved true give w = refl
numbers_starved false give w = refl

pub numbers_recorded : (w : World) (give : Given) → (recorded w give).numbers_drawn ≡ w.numbers_drawn
numbers_recorded w give =
    numbers_starved (is_starved give.halt) give (counted w give)
    ∙ numbers_streamed (wanted_by w give) give (clocked give.side w) ∙ numbers_clocked (clock_in give.side) w

-- a number that is nobody's whom a worker has isn't the giver's
fresh_is_other : (w : World) (give : Given) (worker : ℕ) → (w.process give.pid).stage ≡ Out worker → IsFresh w →
    next_number w ≢ give.pid
fresh_is_other w give worker at fresh same =
    let away : is_away (w.process (next_number w)).stage ≡ true = ap (λ (q : ℕ). is_away
    (w.process q).stage) same ∙ ap (λ (s : Stage). is_away s) at in
    false_is_true (sym fresh ∙ away)

fresh_at_home : (w : World) (give : Given) (worker : ℕ) → (w.process give.pid).stage ≡ Out worker → IsFresh w →
    IsFresh (home (recorded w give) give.pid)
fresh_at_home w give worker at fresh =
    let after : World = home (recorded w give) give.pid in
    ap (λ (n : ℕ). is_away (after.process (n + 1)).stage) (numbers_recorded w give)
    ∙ ap (λ (p : Process). is_away p.stage) (home_other w give (next_number w) (fresh_is_other w give worker at fresh))
    ∙ fresh

home_recorded_keeps : (w : World) (give : Given) → KeepsBut give.pid w (home (recorded w give) give.pid)
home_recorded_keeps w give q other =
    same_is_kept (w.process q) ((home (recorded w give) give.pid).process q) (home_other w give q other)

shut_keeps : (opening : Bool) (w : World) (give : Given) →
    KeepsBut give.pid w (if opening then opened_and_shut w give.pid else w)
shut_keeps true w give = same_keeps give.pid w
shut_keeps false w give = same_keeps give.pid w

given_keeps : (births : List Birth) (w : World) (give : Given) (stage : Stage) →
    (w.process give.pid).stage ≡ stage → IsFresh w
    → KeepsBut give.pid w (given stage births w give)
given_keeps births w give Unborn at fresh = same_keeps give.pid w
given_keeps births w give Ready at fresh = same_keeps give.pid w
given_keeps births w give (Out worker) at fresh =
    let after : World = home (recorded w give) give.pid in
    but_then give.pid w after (halted (want_of give.halt) births after give.pid give.side) (home_recorded_keeps w give)
    (want_keeps (want_of give.halt) births after give.pid give.side (fresh_at_home w give worker at fresh))
given_keeps births w give (Waiting request) at fresh = same_keeps give.pid w
given_keeps births w give (Doomed worker end) at fresh =
    let written : World = recorded w give in
    let shut : World = opening_shut written give in
    let gone : World = ended_from_outside shut give.pid end in
    let recorded_keeps : KeepsBut give.pid w written =
    λ q other. same_is_kept (w.process q) (written.process q) (recorded_other w give q other) in
    but_then give.pid w written (closed_with_first gone) recorded_keeps
    (but_then give.pid written shut (closed_with_first gone) (shut_keeps (is_opened give.side) written give)
    (but_then give.pid shut gone (closed_with_first gone) (outside_end_keeps give.pid shut give.pid end
    (giver_home give.pid shut))
    (first_keeps give.pid (gone.process 1).stage gone)))
given_keeps births w give (Ended end) at fresh = same_keeps give.pid w

-- TICKS

timed_out_keeps : (giver : ℕ) (stage : Stage) (w : World) (pid : ℕ) → KeepsBut giver w (timed_out stage w pid)
timed_out_keeps giver Unborn w pid = but_self giver w
timed_out_keeps giver Ready w pid = but_self giver w
timed_out_keeps giver (Out worker) w pid = but_self giver w
timed_out_keeps giver (Waiting request) w pid = replied_keeps giver w pid request (late_reply (call_of request))
timed_out_keeps giver (Doomed worker end) w pid = but_self giver w
timed_out_keeps giver (Ended end) w pid = but_self giver w

all_timed_out_keeps : (giver : ℕ) (w : World) (pids : List ℕ) → KeepsBut giver w (all_timed_out w pids)
all_timed_out_keeps giver w [] = but_self giver w
all_timed_out_keeps giver w (pid ∷ pids) =
    let mid : World = timed_out (w.process pid).stage w pid in
    but_then giver w mid (all_timed_out mid pids) (timed_out_keeps giver (w.process pid).stage w pid)
    (all_timed_out_keeps giver mid pids)

-- ENTRIES

-- the process that an entry gives back, if it gives one back
abbrev pub IsItsGive : ℕ → Deed → Type 0
IsItsGive q (Taking worker pid) = ⊥
IsItsGive q (Giving give) = q ≡ give.pid
IsItsGive q (Timing now) = ⊥
IsItsGive q (EndingAll cause) = ⊥

other_number : (q : ℕ) → q ≢ q + 1
other_number q same = omega (arith, same)

taken_keeps : (giver : ℕ) (w : World) (worker pid : ℕ) → KeepsBut giver w (taken w worker pid)
taken_keeps giver w worker pid =
    put_keeps giver w pid (record (w.process pid) { stage = Out worker }) (λ other away. (refl, refl))

deed_keeps : (births : List Birth) (w : World) (deed : Deed) (q : ℕ) → IsFresh w → (IsItsGive q deed → ⊥)
    → Keeps (w.process q) ((happened births w deed).process q)
deed_keeps births w (Taking worker pid) q fresh other = taken_keeps (q + 1) w worker pid q (other_number q)
deed_keeps births w (Giving give) q fresh other =
    given_keeps births w give (w.process give.pid).stage refl fresh q other
deed_keeps births w (Timing now) q fresh other =
    all_timed_out_keeps (q + 1) (at_time now w) (due_processes (at_time now w)) q (other_number q)
deed_keeps births w (EndingAll cause) q fresh other = all_end_keeps (q + 1) w (end_by cause) q (other_number q)

-- CARRY. A process that a worker has keeps its start, its calls, its fuel, its part and what it owes through every
-- entry but its own Give, and the worker keeps it, alive or doomed. (The next number must be nobody's whom a worker
-- has.)
pub carry : (births : List Birth) (w : World) (entry : Entry) (q : ℕ) → IsFresh w → (IsItsGive q (deed_of entry) → ⊥)
    → is_away (w.process q).stage ≡ true
    → (core_of ((next births w entry).process q) ≡ core_of (w.process q))
    × (is_away ((next births w entry).process q).stage ≡ true)
carry births w entry q fresh other away = deed_keeps births w (deed_of entry) q fresh other away
