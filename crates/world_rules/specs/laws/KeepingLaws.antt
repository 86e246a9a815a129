use Rattle.std.specs.Prelude.{◌≡◌, ◌≢◌, ◌⊎◌, ℕ, List, [], ◌∷◌, ◌++◌, Option, Some, None, Bool, true, false, nat_eq, if◌then◌else◌, refl}
use Rattle.std.proofs.Common.{subst, sym, ◌∙◌, ap, inl, inr}
use Rattle.std.proofs.lemmas.Bool.Decides.{eqb_tells}
use Rattle.host_port.specs.declared.request.Request.{Request}
use Rattle.host_port.specs.declared.reply.Reply.{Reply}
use Rattle.world_rules.specs.declared.halt.End.{End}
use Rattle.world_rules.specs.declared.halt.End.TheVariants as EndIs
use Rattle.world_rules.specs.Calls.{HostCall, call_of, arg}
use Rattle.world_rules.specs.Calls as CallIs
use Rattle.world_rules.specs.Answers.{empty_reply, number_reply}
use Rattle.world_rules.specs.Arrivals.{What, arrival_of}
use Rattle.world_rules.specs.Arrivals as Came
use Rattle.world_rules.specs.Part.{Scratch}
use Rattle.world_rules.specs.Mail.{MailItem, Letter, Signal, tags_in, unpicked}
use Rattle.world_rules.specs.Settled.{settled, Delivered, SentOff}
use Rattle.world_rules.specs.World.{World, Process, core_of, Stage, Unborn, Ready, Out, Waiting, Doomed, Ended, is_away, is_home, with_process, live_processes}
use Rattle.world_rules.specs.Changes.{reached, with_arrival, readied, answered, replied, waiting, posted}
use Rattle.world_rules.specs.Ends.{stripped, fated, ended, ended_from_outside, doomed, struck, all_struck, all_end, over_with_first, closed_with_first}
use Rattle.world_rules.specs.Time.{is_positive, deadline_after, sleep_performed}
use Rattle.world_rules.specs.Receive.{held, delivery_reply, delivered, wanted_item, without_wanted, delivered_or, unmet, receive_performed, woken_from, woken, arrived, send_answer, sent_off, sent, send_performed}
use Rattle.world_rules.specs.Links.{fallen_with, signals_of, Told, all_told, fallen, ended_by_halt, killed}
use Rattle.world_rules.specs.laws.BirthLaws.{put_here}

-- KEEPING. The changes of which the rules are made leave what a worker relies on, of each process but the one that is
-- given back.

-- a process that a worker has keeps its core, and the worker keeps it
abbrev pub Keeps : Process → Process → Type 0
Keeps p after = is_away p.stage ≡ true → (core_of after ≡ core_of p) × (is_away after.stage ≡ true)

-- so it is with each process but this one
abbrev pub KeepsBut : ℕ → World → World → Type 0
KeepsBut giver w after = (q : ℕ) → q ≢ giver → Keeps (w.process q) (after.process q)

pub keeps_self : (p : Process) → Keeps p p
keeps_self p away = (refl, away)

pub keeps_then : (a b c : Process) → Keeps a b → Keeps b c → Keeps a c
keeps_then a b c first second away =
    let x : (core_of b ≡ core_of a) × (is_away b.stage ≡ true) = first away in
    let y : (core_of c ≡ core_of b) × (is_away c.stage ≡ true) = second x.1 in
    (y.0 ∙ x.0, y.1)

pub false_is_true : {X : Type 0} → false ≡ true → X
false_is_true e = absurd cc

-- who is at home keeps nothing
pub keeps_home : (p after : Process) → is_away p.stage ≡ false → Keeps p after
keeps_home p after there away = false_is_true (sym there ∙ away)

pub but_self : (giver : ℕ) (w : World) → KeepsBut giver w w
but_self giver w q other = keeps_self (w.process q)

pub but_then : (giver : ℕ) (a b c : World) → KeepsBut giver a b → KeepsBut giver b c → KeepsBut giver a c
but_then giver a b c first second q other =
    keeps_then (a.process q) (b.process q) (c.process q) (first q other) (second q other)

pub if_keeps : (giver : ℕ) (b : Bool) (w x y : World) → KeepsBut giver w x → KeepsBut giver w y →
    KeepsBut giver w (if b then x else y)
if_keeps giver true w x y first second = first
if_keeps giver false w x y first second = second

-- ONE PROCESS REPLACED

pub put_keeps_at : (giver : ℕ) (w : World) (pid : ℕ) (p : Process) (q : ℕ) →
    ((nat_eq q pid ≡ true) × (q ≡ pid)) ⊎ ((nat_eq q pid ≡ false) × (q ≢ pid))
    → (pid ≢ giver → Keeps (w.process pid) p) → q ≢ giver → Keeps (w.process q) (if nat_eq q pid then p else w.process q)
put_keeps_at giver w pid p q (inl same) keeps other =
    let P : Bool → Type 0 = λ b. Keeps (w.process q) (if b then p else w.process q) in
    let Q : ℕ → Type 0 = λ k. k ≢ giver → Keeps (w.process k) p in
    subst P (sym same.0) (subst Q (sym same.1) keeps other)
put_keeps_at giver w pid p q (inr differs) keeps other =
    let P : Bool → Type 0 = λ b. Keeps (w.process q) (if b then p else w.process q) in
    subst P (sym differs.0) (keeps_self (w.process q))

pub put_keeps : (giver : ℕ) (w : World) (pid : ℕ) (p : Process) → (pid ≢ giver → Keeps (w.process pid) p) →
    KeepsBut giver w (with_process w pid p)
put_keeps giver w pid p keeps q other = put_keeps_at giver w pid p q (eqb_tells q pid) keeps other

pub giver_keeps : (giver : ℕ) (w : World) (p : Process) → KeepsBut giver w (with_process w giver p)
giver_keeps giver w p = put_keeps giver w giver p (λ other. absurd (other refl))

-- the process is the giver, or is at home
abbrev pub IsHome : ℕ → World → ℕ → Type 0
IsHome giver w pid = pid ≢ giver → is_away (w.process pid).stage ≡ false

pub home_keeps : (giver : ℕ) (w : World) (pid : ℕ) (p : Process) → IsHome giver w pid →
    KeepsBut giver w (with_process w pid p)
home_keeps giver w pid p there = put_keeps giver w pid p (λ other. keeps_home (w.process pid) p (there other))

-- it stays at home where a process of the same stage is put in its place
pub still_home : (giver : ℕ) (w : World) (pid : ℕ) (p : Process) → p.stage ≡ (w.process pid).stage →
    IsHome giver w pid → IsHome giver (with_process w pid p) pid
still_home giver w pid p same there other =
    ap (λ (r : Process). is_away r.stage) (put_here w.process pid p) ∙ ap (λ (s : Stage). is_away s) same ∙ there other

pub giver_home : (giver : ℕ) (w : World) → IsHome giver w giver
giver_home giver w other = absurd (other refl)

-- ANSWERS

pub arrival_keeps : (giver : ℕ) (w : World) (pid : ℕ) (what : What) → KeepsBut giver w (with_arrival w pid what)
arrival_keeps giver w pid what = put_keeps giver w pid (reached (w.process pid) what) (λ other away. (refl, away))

pub home_not_away : (stage : Stage) → is_home stage ≡ true → is_away stage ≡ false
home_not_away Unborn e = refl
home_not_away Ready e = refl
home_not_away (Out worker) e = false_is_true e
home_not_away (Waiting request) e = refl
home_not_away (Doomed worker end) e = false_is_true e
home_not_away (Ended end) e = refl

pub answered_by : (giver : ℕ) (w : World) (pid : ℕ) (request : Request) (reply : Reply) (what : What) (b : Bool) →
    is_home (w.process pid).stage ≡ b
    → KeepsBut giver w (if b
    then with_arrival (with_process w pid (readied (w.process pid) request reply)) pid what else w)
answered_by giver w pid request reply what true there =
    let mid : World = with_process w pid (readied (w.process pid) request reply) in
    but_then giver w mid (with_arrival mid pid what)
    (home_keeps giver w pid (readied (w.process pid) request reply) (λ other. home_not_away
    (w.process pid).stage there))
    (arrival_keeps giver mid pid what)
answered_by giver w pid request reply what false there = but_self giver w

pub answered_keeps : (giver : ℕ) (w : World) (pid : ℕ) (request : Request) (reply : Reply) (what : What) →
    KeepsBut giver w (answered w pid request reply what)
answered_keeps giver w pid request reply what =
    answered_by giver w pid request reply what (is_home (w.process pid).stage) refl

pub replied_keeps : (giver : ℕ) (w : World) (pid : ℕ) (request : Request) (reply : Reply) →
    KeepsBut giver w (replied w pid request reply)
replied_keeps giver w pid request reply = answered_keeps giver w pid request reply (Came.Answered reply)

-- a reply after something else
pub then_replied : (giver : ℕ) (w mid : World) (pid : ℕ) (request : Request) (reply : Reply) → KeepsBut giver w mid →
    KeepsBut giver w (replied mid pid request reply)
then_replied giver w mid pid request reply first =
    but_then giver w mid (replied mid pid request reply) first (replied_keeps giver mid pid request reply)

-- MAIL

pub delivered_keeps : (giver : ℕ) (w : World) (pid : ℕ) (request : Request) (item : MailItem) → IsHome giver w pid →
    KeepsBut giver w (delivered w pid request item)
delivered_keeps giver w pid request item there =
    but_then giver w (held w pid item) (delivered w pid request item)
    (home_keeps giver w pid (record (w.process pid) { part = settled (w.process pid).part (Delivered item) }) there)
    (answered_keeps giver (held w pid item) pid request (delivery_reply item) (arrival_of item))

pub found_keeps : (giver : ℕ) (other w : World) (pid : ℕ) (request : Request) (found : Option MailItem) →
    KeepsBut giver w other → IsHome giver w pid
    → KeepsBut giver w (delivered_or other w pid request found)
found_keeps giver other w pid request None first there = first
found_keeps giver other w pid request (Some item) first there =
    let p : Process = record (w.process pid) { mail = unpicked (tags_in request.first) (w.process pid).mail } in
    but_then giver w (without_wanted w pid request) (delivered (without_wanted w pid request) pid request item)
    (home_keeps giver w pid p there)
    (delivered_keeps giver (without_wanted w pid request) pid request item (still_home giver w pid p refl there))

pub woken_from_keeps : (giver : ℕ) (call : Option HostCall) (w : World) (pid : ℕ) (request : Request) →
    IsHome giver w pid → KeepsBut giver w (woken_from call w pid request)
woken_from_keeps giver (Some CallIs.Receive) w pid request there =
    found_keeps giver w w pid request (wanted_item w pid request) (but_self giver w) there
woken_from_keeps giver _ w pid request there = but_self giver w

pub woken_keeps : (giver : ℕ) (stage : Stage) (w : World) (pid : ℕ) → (w.process pid).stage ≡ stage →
    KeepsBut giver w (woken stage w pid)
woken_keeps giver Unborn w pid at = but_self giver w
woken_keeps giver Ready w pid at = but_self giver w
woken_keeps giver (Out worker) w pid at = but_self giver w
woken_keeps giver (Waiting request) w pid at =
    woken_from_keeps giver (call_of request) w pid request (λ other. ap (λ (s : Stage). is_away s) at)
woken_keeps giver (Doomed worker end) w pid at = but_self giver w
woken_keeps giver (Ended end) w pid at = but_self giver w

pub arrived_keeps : (giver : ℕ) (w : World) (to : ℕ) (item : MailItem) → KeepsBut giver w (arrived w to item)
arrived_keeps giver w to item =
    let p : Process = record (w.process to) { mail = (w.process to).mail ++ item ∷ [] } in
    but_then giver w (posted w to item) (arrived w to item)
    (put_keeps giver w to p (λ other away. (refl, away)))
    (woken_keeps giver (w.process to).stage (posted w to item) to (ap (λ (r : Process). r.stage)
    (put_here w.process to p)))

pub sent_keeps : (w : World) (pid to : ℕ) (request : Request) (scratch : Option Scratch) →
    KeepsBut pid w (sent w pid to request scratch)
sent_keeps w pid to request None = but_self pid w
sent_keeps w pid to request (Some scratch) =
    let off : World = sent_off w pid to in
    let told : World = replied off pid request (number_reply 0) in
    but_then pid w told (arrived told to (Letter w.sends scratch.message))
    (then_replied pid w off pid request (number_reply 0) (giver_keeps pid w (record (w.process pid) {
      part =
          settled (w.process pid).part SentOff;
    })))
    (arrived_keeps pid told to (Letter w.sends scratch.message))

pub send_keeps : (w : World) (pid : ℕ) (request : Request) (refused : Bool) →
    KeepsBut pid w (send_performed w pid request refused)
send_keeps w pid request refused =
    let answer : ℕ = send_answer (w.process (arg request 0)) refused in
    if_keeps pid (nat_eq answer 0) w (sent w pid (arg request 0) request (w.process pid).part.scratch)
    (replied w pid request (number_reply answer))
    (sent_keeps w pid (arg request 0) request (w.process pid).part.scratch) (replied_keeps pid w pid request
    (number_reply answer))

pub waiting_keeps : (w : World) (pid : ℕ) (request : Request) (deadline : Option ℕ) →
    KeepsBut pid w (waiting w pid request deadline)
waiting_keeps w pid request deadline =
    giver_keeps pid w (record (w.process pid) { stage = Waiting request; deadline = deadline })

pub receive_keeps : (w : World) (pid : ℕ) (request : Request) → KeepsBut pid w (receive_performed w pid request)
receive_keeps w pid request =
    let deadline : Option ℕ = if is_positive (arg request 2) then Some (deadline_after w (arg request 2)) else None in
    found_keeps pid (unmet w pid request) w pid request (wanted_item w pid request)
    (if_keeps pid (nat_eq (arg request 2) 0) w (replied w pid request (number_reply 9027))
    (waiting w pid request deadline)
    (replied_keeps pid w pid request (number_reply 9027)) (waiting_keeps w pid request deadline))
    (giver_home pid w)

pub sleep_keeps : (w : World) (pid : ℕ) (request : Request) → KeepsBut pid w (sleep_performed w pid request)
sleep_keeps w pid request =
    let deadline : Option ℕ = Some (deadline_after w (arg request 0)) in
    if_keeps pid (is_positive (arg request 0)) w (waiting w pid request deadline) (replied w pid request empty_reply)
    (waiting_keeps w pid request deadline) (replied_keeps pid w pid request empty_reply)

-- ENDS

pub ended_keeps : (giver : ℕ) (w : World) (pid : ℕ) (end : End) → IsHome giver w pid →
    KeepsBut giver w (ended w pid end)
ended_keeps giver w pid end there = home_keeps giver w pid (stripped (w.process pid) end) there

pub outside_end_keeps : (giver : ℕ) (w : World) (pid : ℕ) (end : End) → IsHome giver w pid →
    KeepsBut giver w (ended_from_outside w pid end)
outside_end_keeps giver w pid end there =
    let mid : World = with_arrival w pid (Came.Doomed end) in
    but_then giver w mid (ended mid pid end) (arrival_keeps giver w pid (Came.Doomed end))
    (ended_keeps giver mid pid end (still_home giver w pid (reached (w.process pid) (Came.Doomed end)) refl there))

pub doomed_keeps : (giver : ℕ) (w : World) (pid worker : ℕ) (end : End) → KeepsBut giver w (doomed w pid worker end)
doomed_keeps giver w pid worker end =
    put_keeps giver w pid (fated (w.process pid) worker end) (λ other away. (refl, refl))

pub struck_keeps : (giver : ℕ) (stage : Stage) (w : World) (pid : ℕ) (end : End) → (w.process pid).stage ≡ stage →
    KeepsBut giver w (struck stage w pid end)
struck_keeps giver Unborn w pid end at = but_self giver w
struck_keeps giver Ready w pid end at = outside_end_keeps giver w pid end (λ other. ap (λ (s : Stage). is_away s) at)
struck_keeps giver (Out worker) w pid end at = doomed_keeps giver w pid worker end
struck_keeps giver (Waiting request) w pid end at =
    outside_end_keeps giver w pid end (λ other. ap (λ (s : Stage). is_away s) at)
struck_keeps giver (Doomed worker earlier) w pid end at = but_self giver w
struck_keeps giver (Ended earlier) w pid end at = but_self giver w

pub all_struck_keeps : (giver : ℕ) (w : World) (pids : List ℕ) (end : End) → KeepsBut giver w (all_struck w pids end)
all_struck_keeps giver w [] end = but_self giver w
all_struck_keeps giver w (pid ∷ pids) end =
    let mid : World = struck (w.process pid).stage w pid end in
    but_then giver w mid (all_struck mid pids end) (struck_keeps giver (w.process pid).stage w pid end refl)
    (all_struck_keeps giver mid pids end)

pub all_end_keeps : (giver : ℕ) (w : World) (end : End) → KeepsBut giver w (all_end w end)
all_end_keeps giver w end = all_struck_keeps giver w (live_processes w) end

pub first_keeps : (giver : ℕ) (stage : Stage) (w : World) → KeepsBut giver w (over_with_first stage w)
first_keeps giver Unborn w = but_self giver w
first_keeps giver Ready w = but_self giver w
first_keeps giver (Out worker) w = but_self giver w
first_keeps giver (Waiting request) w = but_self giver w
first_keeps giver (Doomed worker end) w = but_self giver w
first_keeps giver (Ended end) w = all_end_keeps giver w EndIs.Closed

pub told_keeps : (giver : ℕ) (w : World) (signals : List Told) → KeepsBut giver w (all_told w signals)
told_keeps giver w [] = but_self giver w
told_keeps giver w (told ∷ rest) =
    let mid : World = arrived w told.to (Signal told.tag) in
    but_then giver w mid (all_told mid rest) (arrived_keeps giver w told.to (Signal told.tag))
    (told_keeps giver mid rest)

pub fallen_keeps : (giver : ℕ) (w before after : World) (pid : ℕ) (end : End) → KeepsBut giver w after →
    KeepsBut giver w (fallen before after pid end)
fallen_keeps giver w before after pid end first =
    let others : List ℕ = fallen_with before pid end in
    let struck_all : World = all_struck after others EndIs.Linked in
    let signalled : World = all_told struck_all (signals_of before (pid ∷ others) end) in
    but_then giver w after (closed_with_first signalled) first
    (but_then giver after struck_all (closed_with_first signalled) (all_struck_keeps giver after others EndIs.Linked)
    (but_then giver struck_all signalled (closed_with_first signalled) (told_keeps giver struck_all
    (signals_of before (pid ∷ others) end))
    (first_keeps giver (signalled.process 1).stage signalled)))

pub halt_keeps : (w : World) (pid : ℕ) (end : End) → KeepsBut pid w (ended_by_halt w pid end)
halt_keeps w pid end = fallen_keeps pid w w (ended w pid end) pid end (ended_keeps pid w pid end (giver_home pid w))

pub killed_keeps : (giver : ℕ) (live : Bool) (w : World) (pid : ℕ) → KeepsBut giver w (killed live w pid)
killed_keeps giver true w pid =
    fallen_keeps giver w w (struck (w.process pid).stage w pid EndIs.Killed) pid EndIs.Killed
    (struck_keeps giver (w.process pid).stage w pid EndIs.Killed refl)
killed_keeps giver false w pid = but_self giver w
