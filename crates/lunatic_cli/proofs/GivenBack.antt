-- What a Give of process 1 makes of a world in which nobody else was born.
use Rattle.std.proofs.Common.{◌≡◌, ◌≢◌, ℕ, List, [], ◌∷◌, ◌++◌, length, Option, Some, None, Bool, true, false, cond, nat_eq, refl, sym, ◌∙◌, ap, subst, ◌⊎◌, inl, inr}
use Rattle.std.proofs.lemmas.Bool.Decides.{eqb_tells}
use Rattle.host_port.specs.declared.reply.Reply.{Reply}
use Rattle.host_port.specs.declared.request.Request.{Request}
use Rattle.host_port.specs.declared.start.Start.{Start}
use Rattle.world_rules.specs.declared.entry.Side.{Side}
use Rattle.world_rules.specs.declared.entry.Side.TheVariants as SideIs
use Rattle.world_rules.specs.declared.halt.End.{End}
use Rattle.world_rules.specs.declared.life.Birth.{Birth}
use Rattle.world_rules.specs.Answers.{empty_reply, number_reply, written_reply}
use Rattle.world_rules.specs.Arrivals.{What, arrival_of}
use Rattle.world_rules.specs.Arrivals as Came
use Rattle.world_rules.specs.Calls.{HostCall, call_of, arg}
use Rattle.world_rules.specs.Calls as CallIs
use Rattle.world_rules.specs.Outside.{id_address, bound, outside_performed}
use Rattle.world_rules.specs.Part.{Scratch}
use Rattle.world_rules.specs.Mail.{MailItem, Letter, tags_in, unpicked}
use Rattle.world_rules.specs.Settled.{settled, SentOff, Delivered, StreamOpened, ListenerBound}
use Rattle.world_rules.specs.Streams.{has_result}
use Rattle.world_rules.specs.Views.{Given, Want, Goes, Wants, Retries, Ends, want_of, wanted_in, is_pending, is_refused, is_starved}
use Rattle.world_rules.specs.World.{World, Process, Stage, Unborn, Ready, Out, Waiting, Ended, is_home, with_process}
use Rattle.world_rules.specs.Changes.{reached, readied, with_arrival, answered, replied, waiting, pended, posted}
use Rattle.world_rules.specs.Time.{is_positive, deadline_after, sleep_performed, clocked}
use Rattle.world_rules.specs.Receive.{held, without_wanted, wanted_item, delivered_or, delivery_reply, unmet, send_answer, send_performed, sent, sent_off, woken}
use Rattle.world_rules.specs.Ends.{stripped, ended}
use Rattle.world_rules.specs.Links.{ended_by_halt}
use Rattle.world_rules.specs.Rules.{turned, starved_by, streamed_in, recorded, home, performed, asked, retried, halted, given}
use Rattle.node_laws.proofs.ReadyList.{nat_eq_other}
use Rattle.node_laws.proofs.Falls.{fallen-alone, closed-alone}
use Rattle.lunatic_cli.proofs.ServedCalls.{IsServed, IsTriable, send-called, receive-called, sleep-called, bind-called, port-called, accept-called, connect-called, read-called, write-called}

-- process 1 is this, all others are as they were, nobody is born, and the run goes on as before
pub record Becomes (w v : World) (p : Process) : Type 0 where
  pub at : v.process 1 ≡ p
  pub others : (q : ℕ) → q ≢ 1 → v.process q ≡ w.process q
  pub drawn : v.numbers_drawn ≡ w.numbers_drawn
  pub over : v.over ≡ w.over

-- nothing else that counts is changed
becomes-like : (w u v : World) (p : Process) → u.process ≡ v.process → u.numbers_drawn ≡ v.numbers_drawn → u.over ≡ v.over → Becomes w v p → Becomes w u p
becomes-like w u v p processes drawn over b = record {
  at = ap (λ (ps : ℕ → Process). ps 1) processes ∙ b.at;
  others = λ q other. ap (λ (ps : ℕ → Process). ps q) processes ∙ b.others q other;
  drawn = drawn ∙ b.drawn;
  over = over ∙ b.over;
}

becomes-same : (w v : World) → v.process ≡ w.process → v.numbers_drawn ≡ w.numbers_drawn → v.over ≡ w.over → Becomes w v (w.process 1)
becomes-same w v processes drawn over = record {
  at = ap (λ (ps : ℕ → Process). ps 1) processes;
  others = λ q other. ap (λ (ps : ℕ → Process). ps q) processes;
  drawn = drawn;
  over = over;
}

-- process 1 is changed so
becomes-change : (w v : World) (p : Process) (f : Process → Process) → Becomes w v p → Becomes w (with_process v 1 (f (v.process 1))) (f p)
becomes-change w v p f b = record {
  at = ap f b.at;
  others = λ q other. rw (nat_eq_other q 1 other) (b.others q other);
  drawn = b.drawn;
  over = b.over;
}

-- ANSWERS

if_so : (b : Bool) (x y : World) → b ≡ true → cond b x y ≡ x
if_so true x y so = refl
if_so false x y so = absurd cc

abbrev with_reply : Process → Request → Reply → What → Process
with_reply p request reply what = reached (readied p request reply) what

becomes-answered : (w v : World) (p : Process) (request : Request) (reply : Reply) (what : What) → Becomes w v p → p.stage ≡ Ready → Becomes w (answered v 1 request reply what)
    (with_reply p request reply what)
becomes-answered w v p request reply what b ready =
    let u : World = with_process v 1 (readied (v.process 1) request reply) in
    let is : answered v 1 request reply what ≡ with_arrival u 1 what =
    if_so (is_home (v.process 1).stage) (with_arrival u 1 what) v (ap (λ (x : Process). is_home x.stage) b.at ∙ ap is_home ready) in
    rw is (becomes-change w u (readied p request reply) (λ x. reached x what) (becomes-change w v p (λ x. readied x request reply) b))

-- process 1 is ready, with this start and this fuel, and the run goes on as before
pub record IsBack (w v : World) (start : Start) (fuel : ℕ) : Type 0 where
  pub process : Process
  pub becomes : Becomes w v process
  pub ready : process.stage ≡ Ready
  pub start_is : process.start ≡ start
  pub fuel_is : process.fuel ≡ fuel

-- the same, or it waits for the answer to its request
pub record HasAsked (w v : World) (start : Start) (fuel : ℕ) (request : Request) : Type 0 where
  pub process : Process
  pub becomes : Becomes w v process
  pub stage : (process.stage ≡ Ready) ⊎ (process.stage ≡ Waiting request)
  pub start_is : process.start ≡ start
  pub fuel_is : process.fuel ≡ fuel

-- the same, where it has tried the request again that it owed: it owes nothing, unless there is no answer yet
pub record HasTried (w v : World) (start : Start) (fuel : ℕ) (side : Side) : Type 0 where
  pub process : Process
  pub becomes : Becomes w v process
  pub ready : process.stage ≡ Ready
  pub start_is : process.start ≡ start
  pub fuel_is : process.fuel ≡ fuel
  pub free : is_pending side ≡ false → process.owed ≡ None

back-if : (b : Bool) (w u v : World) (start : Start) (fuel : ℕ) → IsBack w u start fuel → IsBack w v start fuel → IsBack w (cond b u v) start fuel
back-if true w u v start fuel one other = one
back-if false w u v start fuel one other = other

asked-if : (b : Bool) (w u v : World) (start : Start) (fuel : ℕ) (request : Request) → HasAsked w u start fuel request → HasAsked w v start fuel request → HasAsked w (cond b u v) start fuel request
asked-if true w u v start fuel request one other = one
asked-if false w u v start fuel request one other = other

asked-back : (w v : World) (start : Start) (fuel : ℕ) (request : Request) → IsBack w v start fuel → HasAsked w v start fuel request
asked-back w v start fuel request back =
    record { process = back.process; becomes = back.becomes; stage = inl back.ready; start_is = back.start_is; fuel_is = back.fuel_is }

back-answered : (w v : World) (start : Start) (fuel : ℕ) (request : Request) (reply : Reply) (what : What) → IsBack w v start fuel → IsBack w (answered v 1 request reply what) start fuel
back-answered w v start fuel request reply what back = record {
  process = with_reply back.process request reply what;
  becomes = becomes-answered w v back.process request reply what back.becomes back.ready;
  ready = refl;
  start_is = back.start_is;
  fuel_is = back.fuel_is;
}

tried-answered : (w v : World) (start : Start) (fuel : ℕ) (request : Request) (reply : Reply) (what : What) (side : Side) → IsBack w v start fuel
    → HasTried w (answered v 1 request reply what) start fuel side
tried-answered w v start fuel request reply what side back = record {
  process = with_reply back.process request reply what;
  becomes = becomes-answered w v back.process request reply what back.becomes back.ready;
  ready = refl;
  start_is = back.start_is;
  fuel_is = back.fuel_is;
  free = λ _. refl;
}

-- process 1 is changed so, and is as ready as before
back-change : (w v : World) (start : Start) (fuel : ℕ) (f : Process → Process) → ((p : Process) → (f p).stage ≡ p.stage) → ((p : Process) → (f p).start ≡ p.start) →
    ((p : Process) → (f p).fuel ≡ p.fuel) → IsBack w v start fuel → IsBack w (with_process v 1 (f (v.process 1))) start fuel
back-change w v start fuel f stage started burnt back = record {
  process = f back.process;
  becomes = becomes-change w v back.process f back.becomes;
  ready = stage back.process ∙ back.ready;
  start_is = started back.process ∙ back.start_is;
  fuel_is = burnt back.process ∙ back.fuel_is;
}

back-like : (w u v : World) (start : Start) (fuel : ℕ) → u.process ≡ v.process → u.numbers_drawn ≡ v.numbers_drawn → u.over ≡ v.over → IsBack w v start fuel → IsBack w u start fuel
back-like w u v start fuel processes drawn over back = record {
  process = back.process;
  becomes = becomes-like w u v back.process processes drawn over back.becomes;
  ready = back.ready;
  start_is = back.start_is;
  fuel_is = back.fuel_is;
}

asked-waiting : (w v : World) (start : Start) (fuel : ℕ) (request : Request) (deadline : Option ℕ) → IsBack w v start fuel → HasAsked w (waiting v 1 request deadline) start fuel request
asked-waiting w v start fuel request deadline back = record {
  process = record back.process { stage = Waiting request; deadline = deadline };
  becomes = becomes-change w v back.process (λ x. record x { stage = Waiting request; deadline = deadline }) back.becomes;
  stage = inr refl;
  start_is = back.start_is;
  fuel_is = back.fuel_is;
}

-- a request that can't be answered yet is owed
asked-pended : (w v : World) (start : Start) (fuel : ℕ) (request asks : Request) → IsBack w v start fuel → HasAsked w (pended v 1 request) start fuel asks
asked-pended w v start fuel request asks back = record {
  process = record back.process { stage = Ready; owed = Some request };
  becomes = becomes-change w v back.process (λ x. record x { stage = Ready; owed = Some request }) back.becomes;
  stage = inl refl;
  start_is = back.start_is;
  fuel_is = back.fuel_is;
}

tried-pended : (w v : World) (start : Start) (fuel : ℕ) (request : Request) (side : Side) → is_pending side ≡ true → IsBack w v start fuel → HasTried w (pended v 1 request) start fuel side
tried-pended w v start fuel request side pends back = record {
  process = record back.process { stage = Ready; owed = Some request };
  becomes = becomes-change w v back.process (λ x. record x { stage = Ready; owed = Some request }) back.becomes;
  ready = refl;
  start_is = back.start_is;
  fuel_is = back.fuel_is;
  free = λ answers. absurd (let e : true ≡ false = sym pends ∙ answers in cc);
}

-- THE OUTSIDE

-- a stream is in the table
back-opened : (w v : World) (start : Start) (fuel : ℕ) (u : World) → u.process ≡ (with_process v 1 (record (v.process 1) { part = settled (v.process 1).part (StreamOpened v.streams) })).process →
    u.numbers_drawn ≡ v.numbers_drawn → u.over ≡ v.over → IsBack w v start fuel → IsBack w u start fuel
back-opened w v start fuel u processes drawn over back =
    let x : World = with_process v 1 (record (v.process 1) { part = settled (v.process 1).part (StreamOpened v.streams) }) in
    back-like w u x start fuel processes drawn over
    (back-change w v start fuel (λ p. record p { part = settled p.part (StreamOpened v.streams) }) (λ _. refl) (λ _. refl) (λ _. refl) back)

-- a bind that was answered 0 has brought a listener
back-bound : (w v : World) (start : Start) (fuel : ℕ) (reply : Reply) → IsBack w v start fuel → IsBack w (bound CallIs.Bind v 1 reply) start fuel
back-bound w v start fuel reply back =
    back-if (has_result 0 reply) w (with_process v 1 (record (v.process 1) { part = settled (v.process 1).part ListenerBound })) v start fuel
    (back-change w v start fuel (λ p. record p { part = settled p.part ListenerBound }) (λ _. refl) (λ _. refl) (λ _. refl) back) back

back-outside : (call : HostCall) (w v : World) (start : Start) (fuel : ℕ) (request : Request) (side : Side) → ((reply : Reply) → IsBack w (bound call v 1 reply) start fuel) → IsBack w v start fuel →
    IsBack w (outside_performed call v 1 request side) start fuel
back-outside call w v start fuel request SideIs.Nothing binds back = back
back-outside call w v start fuel request (SideIs.Clock now) binds back = back
back-outside call w v start fuel request SideIs.Pending binds back = back
back-outside call w v start fuel request SideIs.NoMemory binds back = back
back-outside call w v start fuel request (SideIs.Answer reply) binds back =
    back-answered w (bound call v 1 reply) start fuel request reply (Came.Answered reply) (binds reply)
back-outside call w v start fuel request SideIs.Opened binds back =
    let reply : Reply = written_reply 0 (id_address call request) v.streams in
    back-answered w _ start fuel request reply (Came.Opened reply) (back-opened w v start fuel _ refl refl refl back)

-- something came from outside: an answer, or a stream, or that there is none yet
abbrev pub has_come : Side → Bool
has_come SideIs.Nothing = false
has_come (SideIs.Clock now) = false
has_come SideIs.Pending = true
has_come SideIs.NoMemory = false
has_come (SideIs.Answer reply) = true
has_come SideIs.Opened = true

tried-outside : (call : HostCall) (births : List Birth) (w v : World) (start : Start) (fuel : ℕ) (request : Request) (side : Side) → has_come side ≡ true →
    ((reply : Reply) → IsBack w (bound call v 1 reply) start fuel) → performed births (call_of request) v 1 request side ≡ outside_performed call v 1 request side → IsBack w v start fuel →
    HasTried w (asked (is_pending side) births v 1 request side) start fuel side
tried-outside call births w v start fuel request SideIs.Nothing came binds performs back = absurd (cc)
tried-outside call births w v start fuel request (SideIs.Clock now) came binds performs back = absurd (cc)
tried-outside call births w v start fuel request SideIs.NoMemory came binds performs back = absurd (cc)
tried-outside call births w v start fuel request SideIs.Pending came binds performs back = tried-pended w v start fuel request SideIs.Pending refl back
tried-outside call births w v start fuel request (SideIs.Answer reply) came binds performs back =
    subst (λ (x : World). HasTried w x start fuel (SideIs.Answer reply)) (sym performs)
    (tried-answered w (bound call v 1 reply) start fuel request reply (Came.Answered reply) (SideIs.Answer reply) (binds reply))
tried-outside call births w v start fuel request SideIs.Opened came binds performs back =
    let reply : Reply = written_reply 0 (id_address call request) v.streams in
    subst (λ (x : World). HasTried w x start fuel SideIs.Opened) (sym performs)
    (tried-answered w _ start fuel request reply (Came.Opened reply) SideIs.Opened (back-opened w v start fuel _ refl refl refl back))

-- the request that is owed is tried again
tried-again : (births : List Birth) (w v : World) (start : Start) (fuel : ℕ) (request : Request) (side : Side) → IsTriable request.ask.call → has_come side ≡ true → IsBack w v start fuel →
    HasTried w (asked (is_pending side) births v 1 request side) start fuel side
tried-again births w v start fuel request side (inl call) came back =
    tried-outside CallIs.Accept births w v start fuel request side came (λ _. back) (ap (λ (c : Option HostCall). performed births c v 1 request side) (accept-called request call)) back
tried-again births w v start fuel request side (inr (inl call)) came back =
    tried-outside CallIs.ReadStream births w v start fuel request side came (λ _. back) (ap (λ (c : Option HostCall). performed births c v 1 request side) (read-called request call)) back
tried-again births w v start fuel request side (inr (inr call)) came back =
    tried-outside CallIs.WriteStream births w v start fuel request side came (λ _. back) (ap (λ (c : Option HostCall). performed births c v 1 request side) (write-called request call)) back

-- SEND

woken_ready : (stage : Stage) (v : World) (pid : ℕ) → stage ≡ Ready → woken stage v pid ≡ v
woken_ready stage v pid is = rw is refl

back-sent : (w v : World) (start : Start) (fuel : ℕ) (request : Request) (scratch : Option Scratch) → IsBack w v start fuel → IsBack w (sent v 1 1 request scratch) start fuel
back-sent w v start fuel request None back = back
back-sent w v start fuel request (Some scratch) back =
    let reply : Reply = number_reply 0 in
    let item : MailItem = Letter v.sends scratch.message in
    let off : IsBack w (sent_off v 1 1) start fuel =
    back-like w (sent_off v 1 1) (with_process v 1 (record (v.process 1) { part = settled (v.process 1).part SentOff })) start fuel refl refl refl
    (back-change w v start fuel (λ p. record p { part = settled p.part SentOff }) (λ _. refl) (λ _. refl) (λ _. refl) back) in
    let told : IsBack w (replied (sent_off v 1 1) 1 request reply) start fuel = back-answered w (sent_off v 1 1) start fuel request reply (Came.Answered reply) off in
    let u : World = replied (sent_off v 1 1) 1 request reply in
    let here : (u.process 1).stage ≡ Ready = ap (λ (x : Process). x.stage) told.becomes.at ∙ told.ready in
    subst (λ (x : World). IsBack w x start fuel) (sym (woken_ready (u.process 1).stage (posted u 1 item) 1 here))
    (back-change w u start fuel (λ p. record p { mail = p.mail ++ item ∷ [] }) (λ _. refl) (λ _. refl) (λ _. refl) told)

nobody-answers : (p : Process) (refused : Bool) → p.stage ≡ Unborn → send_answer p refused ≡ 1
nobody-answers p refused e = rw e refl

back-send : (w v : World) (start : Start) (fuel : ℕ) (to : ℕ) (request : Request) (refused : Bool) (scratch : Option Scratch) →
    ((q : ℕ) → q ≢ 1 → (w.process q).stage ≡ Unborn) → IsBack w v start fuel →
    ((nat_eq to 1 ≡ true) × (to ≡ 1)) ⊎ ((nat_eq to 1 ≡ false) × (to ≢ 1)) →
    IsBack w (cond (nat_eq (send_answer (v.process to) refused) 0) (sent v 1 to request scratch) (replied v 1 request (number_reply (send_answer (v.process to) refused)))) start fuel
back-send w v start fuel to request refused scratch others back (inl same) =
    let answer : ℕ = send_answer (v.process to) refused in
    back-if (nat_eq answer 0) w (sent v 1 to request scratch) (replied v 1 request (number_reply answer)) start fuel
    (subst (λ (k : ℕ). IsBack w (sent v 1 k request scratch) start fuel) (sym same.1) (back-sent w v start fuel request scratch back))
    (back-answered w v start fuel request (number_reply answer) (Came.Answered (number_reply answer)) back)
back-send w v start fuel to request refused scratch others back (inr other) =
    let unborn : (v.process to).stage ≡ Unborn = ap (λ (x : Process). x.stage) (back.becomes.others to other.1) ∙ others to other.1 in
    subst (λ (n : ℕ). IsBack w (cond (nat_eq n 0) (sent v 1 to request scratch) (replied v 1 request (number_reply n))) start fuel) (sym (nobody-answers (v.process to) refused unborn))
    (back-answered w v start fuel request (number_reply 1) (Came.Answered (number_reply 1)) back)

send-back : (w v : World) (start : Start) (fuel : ℕ) (request : Request) (refused : Bool) →
    ((q : ℕ) → q ≢ 1 → (w.process q).stage ≡ Unborn) → IsBack w v start fuel → IsBack w (send_performed v 1 request refused) start fuel
send-back w v start fuel request refused others back =
    back-send w v start fuel (arg request 0) request refused (v.process 1).part.scratch others back (eqb_tells (arg request 0) 1)

-- RECEIVE

back-found : (w v : World) (start : Start) (fuel : ℕ) (request : Request) (found : Option MailItem) → IsBack w v start fuel
    → HasAsked w (delivered_or (unmet v 1 request) v 1 request found) start fuel request
back-found w v start fuel request None back =
    let ms : ℕ = arg request 2 in
    let deadline : Option ℕ = cond (is_positive ms) (Some (deadline_after v ms)) None in
    asked-if (nat_eq ms 0) w (replied v 1 request (number_reply 9027)) (waiting v 1 request deadline) start fuel request
    (asked-back w (replied v 1 request (number_reply 9027)) start fuel request (back-answered w v start fuel request (number_reply 9027) (Came.Answered (number_reply 9027)) back))
    (asked-waiting w v start fuel request deadline back)
back-found w v start fuel request (Some item) back =
    let u : World = held (without_wanted v 1 request) 1 item in
    let without : IsBack w (without_wanted v 1 request) start fuel =
    back-change w v start fuel (λ p. record p { mail = unpicked (tags_in request.first) p.mail }) (λ _. refl) (λ _. refl) (λ _. refl) back in
    let x : World = without_wanted v 1 request in
    let holds : IsBack w u start fuel =
    back-like w u (with_process x 1 (record (x.process 1) { part = settled (x.process 1).part (Delivered item) })) start fuel refl refl refl
    (back-change w x start fuel (λ p. record p { part = settled p.part (Delivered item) }) (λ _. refl) (λ _. refl) (λ _. refl) without) in
    asked-back w (answered u 1 request (delivery_reply item) (arrival_of item)) start fuel request
    (back-answered w u start fuel request (delivery_reply item) (arrival_of item) holds)

-- SLEEP

asked-sleep : (w v : World) (start : Start) (fuel : ℕ) (request : Request) → IsBack w v start fuel → HasAsked w (sleep_performed v 1 request) start fuel request
asked-sleep w v start fuel request back =
    let ms : ℕ = arg request 0 in
    asked-if (is_positive ms) w (waiting v 1 request (Some (deadline_after v ms))) (replied v 1 request empty_reply) start fuel request
    (asked-waiting w v start fuel request (Some (deadline_after v ms)) back)
    (asked-back w (replied v 1 request empty_reply) start fuel request (back-answered w v start fuel request empty_reply (Came.Answered empty_reply) back))

-- a request of process 1 is performed
asked-performed : (births : List Birth) (w v : World) (start : Start) (fuel : ℕ) (request : Request) (side : Side) →
    ((q : ℕ) → q ≢ 1 → (w.process q).stage ≡ Unborn) → IsServed request.ask.call → IsBack w v start fuel → HasAsked w (performed births (call_of request) v 1 request side) start fuel request
asked-performed births w v start fuel request side others served back = by served
  where
    -- what is performed, by the name of the call
    named : (call : HostCall) → call_of request ≡ Some call → HasAsked w (performed births (Some call) v 1 request side) start fuel request
        → HasAsked w (performed births (call_of request) v 1 request side) start fuel request
    named call is h = subst (λ (c : Option HostCall). HasAsked w (performed births c v 1 request side) start fuel request) (sym is) h

    out : (call : HostCall) → ((reply : Reply) → IsBack w (bound call v 1 reply) start fuel) → HasAsked w (outside_performed call v 1 request side) start fuel request
    out call binds = asked-back w _ start fuel request (back-outside call w v start fuel request side binds back)

    by : IsServed request.ask.call → HasAsked w (performed births (call_of request) v 1 request side) start fuel request
    by (inl (inl call)) =
        named CallIs.Send (send-called request call) (asked-back w _ start fuel request (send-back w v start fuel request (is_refused side) others back))
    by (inl (inr (inl call))) = named CallIs.Receive (receive-called request call) (back-found w v start fuel request (wanted_item v 1 request) back)
    by (inl (inr (inr call))) = named CallIs.SleepMs (sleep-called request call) (asked-sleep w v start fuel request back)
    by (inr (inl (inl call))) = named CallIs.Bind (bind-called request call) (out CallIs.Bind (λ reply. back-bound w v start fuel reply back))
    by (inr (inl (inr (inl call)))) = named CallIs.LocalPort (port-called request call) (out CallIs.LocalPort (λ _. back))
    by (inr (inl (inr (inr call)))) = named CallIs.Connect (connect-called request call) (out CallIs.Connect (λ _. back))
    by (inr (inr (inl call))) = named CallIs.Accept (accept-called request call) (out CallIs.Accept (λ _. back))
    by (inr (inr (inr (inl call)))) = named CallIs.ReadStream (read-called request call) (out CallIs.ReadStream (λ _. back))
    by (inr (inr (inr (inr call)))) = named CallIs.WriteStream (write-called request call) (out CallIs.WriteStream (λ _. back))

asked-by : (pends : Bool) (births : List Birth) (w v : World) (start : Start) (fuel : ℕ) (request : Request) (side : Side) →
    ((q : ℕ) → q ≢ 1 → (w.process q).stage ≡ Unborn) → IsServed request.ask.call → IsBack w v start fuel → HasAsked w (asked pends births v 1 request side) start fuel request
asked-by true births w v start fuel request side others served back = asked-pended w v start fuel request request back
asked-by false births w v start fuel request side others served back = asked-performed births w v start fuel request side others served back

-- ENDS

-- process 1 has ended so, with this start and this fuel, and the run is over
pub record IsEndedBy (end : End) (w v : World) (start : Start) (fuel : ℕ) : Type 0 where
  pub stage : (v.process 1).stage ≡ Ended end
  pub start_is : (v.process 1).start ≡ start
  pub fuel_is : (v.process 1).fuel ≡ fuel
  pub others : (q : ℕ) → q ≢ 1 → v.process q ≡ w.process q
  pub drawn : v.numbers_drawn ≡ w.numbers_drawn
  pub over : v.over ≡ true

over-ended : (v : World) (end : End) → v.numbers_drawn ≡ 1 → ((ended v 1 end).process 1).stage ≡ Ended end → ended_by_halt v 1 end ≡ record (ended v 1 end) { over = true }
over-ended v end drawn stage = fallen-alone v (ended v 1 end) end drawn ∙ closed-alone (ended v 1 end) end drawn stage

ended-by : (w v : World) (start : Start) (fuel : ℕ) (end : End) → w.numbers_drawn ≡ 1 → IsBack w v start fuel → IsEndedBy end w (ended_by_halt v 1 end) start fuel
ended-by w v start fuel end drawn back =
    let c = becomes-change w v back.process (λ x. stripped x end) back.becomes in
    let stage : ((ended v 1 end).process 1).stage ≡ Ended end = ap (λ (x : Process). x.stage) c.at in
    let is : IsEndedBy end w (record (ended v 1 end) { over = true }) start fuel = record {
      stage = stage;
      start_is = ap (λ (x : Process). x.start) c.at ∙ back.start_is;
      fuel_is = ap (λ (x : Process). x.fuel) c.at ∙ back.fuel_is;
      others = c.others;
      drawn = c.drawn;
      over = refl;
    } in
    subst (λ (x : World). IsEndedBy end w x start fuel) (sym (over-ended v end (back.becomes.drawn ∙ drawn) stage)) is

-- what becomes of process 1 and of the run, by what the process wants
abbrev pub GoesBy : Want → World → World → Start → ℕ → Side → Type 0
GoesBy Goes w v start fuel side = IsBack w v start fuel
GoesBy (Wants request) w v start fuel side = HasAsked w v start fuel request
GoesBy Retries w v start fuel side = HasTried w v start fuel side
GoesBy (Ends end) w v start fuel side = IsEndedBy end w v start fuel

-- what it asks for is a call that is served; what it tries again is one that may have had no answer, and something came
abbrev pub AsksServed : Want → Option Request → Side → Type 0
AsksServed Goes owed side = Unit {0}
AsksServed (Wants request) owed side = IsServed request.ask.call
AsksServed Retries owed side = (request : Request) × (owed ≡ Some request) × IsTriable request.ask.call × (has_come side ≡ true)
AsksServed (Ends end) owed side = Unit {0}

goes-by : (births : List Birth) (want : Want) (w v : World) (start : Start) (fuel : ℕ) (side : Side) → w.numbers_drawn ≡ 1 → ((q : ℕ) → q ≢ 1 → (w.process q).stage ≡ Unborn) →
    AsksServed want (w.process 1).owed side → (v.process 1).owed ≡ (w.process 1).owed → IsBack w v start fuel → GoesBy want w (halted want births v 1 side) start fuel side
goes-by births Goes w v start fuel side drawn others served owes back = back
goes-by births (Wants request) w v start fuel side drawn others served owes back = asked-by (is_pending side) births w v start fuel request side others served back
goes-by births Retries w v start fuel side drawn others served owes back =
    subst (λ (o : Option Request). HasTried w (retried o births v 1 side) start fuel side) (sym (owes ∙ served.1))
    (tried-again births w v start fuel served.0 side served.2 served.3 back)
goes-by births (Ends end) w v start fuel side drawn others served owes back = ended-by w v start fuel end drawn back

-- THE TURN

-- the process at whose turn's end want of memory has arrived, where it has
abbrev starved : Process → Given → Process
starved p give = cond (is_starved give.halt) (reached p (Came.Starved (length give.calls))) p

-- nobody is another
record IsLike (w v : World) : Type 0 where
  process : v.process ≡ w.process
  drawn : v.numbers_drawn ≡ w.numbers_drawn
  over : v.over ≡ w.over

like-clocked : (w : World) (side : Side) → IsLike w (clocked side w)
like-clocked w SideIs.Nothing = record { process = refl; drawn = refl; over = refl }
like-clocked w (SideIs.Clock now) = record { process = refl; drawn = refl; over = refl }
like-clocked w SideIs.Pending = record { process = refl; drawn = refl; over = refl }
like-clocked w (SideIs.Answer reply) = record { process = refl; drawn = refl; over = refl }
like-clocked w SideIs.Opened = record { process = refl; drawn = refl; over = refl }
like-clocked w SideIs.NoMemory = record { process = refl; drawn = refl; over = refl }

like-streamed : (w v : World) (wanted : Option Request) (give : Given) → IsLike w v → IsLike w (streamed_in wanted give v)
like-streamed w v None give l = l
like-streamed w v (Some request) give l = record { process = l.process; drawn = l.drawn; over = l.over }

becomes-starved : (lacks : Bool) (w v : World) (p : Process) (what : What) → Becomes w v p → Becomes w (cond lacks (with_arrival v 1 what) v) (cond lacks (reached p what) p)
becomes-starved true w v p what b = becomes-change w v p (λ x. reached x what) b
becomes-starved false w v p what b = b

-- process 1 is home, after what is always recorded of its turn
becomes-home : (w : World) (give : Given) → give.pid ≡ 1 → Becomes w (home (recorded w give) 1) (record (turned (starved (w.process 1) give) give) { stage = Ready })
becomes-home w give one =
    let v : World = streamed_in (wanted_in (want_of give.halt) (w.process give.pid).owed) give (clocked give.side w) in
    let l : IsLike w v = like-streamed w (clocked give.side w) (wanted_in (want_of give.halt) (w.process give.pid).owed) give (like-clocked w give.side) in
    let lacks : Becomes w (cond (is_starved give.halt) (with_arrival v 1 (Came.Starved (length give.calls))) v) (starved (w.process 1) give) =
    becomes-starved (is_starved give.halt) w v (w.process 1) (Came.Starved (length give.calls)) (becomes-same w v l.process l.drawn l.over) in
    let x : World = starved_by v give in
    let here : Becomes w x (starved (w.process 1) give) = subst (λ (k : ℕ). Becomes w (cond (is_starved give.halt) (with_arrival v k (Came.Starved (length give.calls))) v)
    (starved (w.process 1) give)) (sym one) lacks in
    let turns : Becomes w (with_process x 1 (turned (x.process 1) give)) (turned (starved (w.process 1) give) give) =
    becomes-change w x (starved (w.process 1) give) (λ p. turned p give) here in
    let there : Becomes w (with_process x give.pid (turned (x.process give.pid) give)) (turned (starved (w.process 1) give) give) =
    subst (λ (k : ℕ). Becomes w (with_process x k (turned (x.process k) give)) (turned (starved (w.process 1) give) give)) (sym one) turns in
    let all : Becomes w (recorded w give) (turned (starved (w.process 1) give) give) = becomes-like w (recorded w give) _ _ refl refl refl there in
    becomes-change w (recorded w give) (turned (starved (w.process 1) give) give) (λ p. record p { stage = Ready }) all

starved-start : (lacks : Bool) (p : Process) (what : What) → (cond lacks (reached p what) p).start ≡ p.start
starved-start true p what = refl
starved-start false p what = refl

starved-owed : (lacks : Bool) (p : Process) (what : What) → (cond lacks (reached p what) p).owed ≡ p.owed
starved-owed true p what = refl
starved-owed false p what = refl

-- a Give of a process that is out
given-out : (stage : Stage) (worker : ℕ) (births : List Birth) (w : World) (give : Given) → stage ≡ Out worker
    → given stage births w give ≡ halted (want_of give.halt) births (home (recorded w give) give.pid) give.pid give.side
given-out stage worker births w give is = rw is refl

-- GIVE. What becomes of process 1, which is out to worker 0, by its Give, but for the ready list and the row.
pub goes-by-give : (births : List Birth) (w : World) (give : Given) → give.pid ≡ 1 →
    (w.process 1).stage ≡ Out 0 → w.numbers_drawn ≡ 1 → ((q : ℕ) → q ≢ 1 → (w.process q).stage ≡ Unborn) →
    AsksServed (want_of give.halt) (w.process 1).owed give.side →
    GoesBy (want_of give.halt) w (given (w.process give.pid).stage births w give) (w.process 1).start give.fuel give.side
goes-by-give births w give one out drawn others served =
    let at_one : (w.process give.pid).stage ≡ Out 0 = ap (λ (k : ℕ). (w.process k).stage) one ∙ out in
    let v : World = home (recorded w give) 1 in
    let b = becomes-home w give one in
    let back : IsBack w v (w.process 1).start give.fuel = record {
      process = record (turned (starved (w.process 1) give) give) { stage = Ready };
      becomes = b;
      ready = refl;
      start_is = starved-start (is_starved give.halt) (w.process 1) (Came.Starved (length give.calls));
      fuel_is = refl;
    } in
    let owes : (v.process 1).owed ≡ (w.process 1).owed =
    ap (λ (x : Process). x.owed) b.at ∙ starved-owed (is_starved give.halt) (w.process 1) (Came.Starved (length give.calls)) in
    subst (λ (x : World). GoesBy (want_of give.halt) w x (w.process 1).start give.fuel give.side) (sym (given-out (w.process give.pid).stage 0 births w give at_one))
    (subst (λ (k : ℕ). GoesBy (want_of give.halt) w (halted (want_of give.halt) births (home (recorded w give) k) k give.side) (w.process 1).start give.fuel give.side) (sym one)
    (goes-by births (want_of give.halt) w v (w.process 1).start give.fuel give.side drawn others served owes back))
