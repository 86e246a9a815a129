use Rattle.std.proofs.Common.{◌≡◌, ◌≢◌, ◌<◌, ◌≤◌, ℕ, zero, suc, ◌+◌, ◌-◌, ◌*◌, ◌%◌, ◌&&◌, ◌^◌, min, List, [], ◌∷◌, length, take, drop, Contains, IsSome, is_some, vec_capacity, slice_get, slice_index, nat_eq, nat_le}
use Rattle.std.proofs.Common.{Option, Some, None, Bool, true, false, cond, not, length-take, length-drop, refl, arith, sym, ◌∙◌, ap, subst, ◌⊎◌, inl, inr}
use Rattle.std.proofs.Math.Logic.{∥∥₁_elim, ∥∥₁_prop}
use Rattle.std.proofs.lemmas.Bool.Decides.{eqb_tells, nat_tests}
use Rattle.std.specs.List.{list_all}
use Rattle.host_port.specs.declared.ask.Ask.{Ask}
use Rattle.host_port.specs.declared.request.Request.{Request}
use Rattle.host_port.specs.HostTable.{Area, areas_of, areas_read, are_sound}
use Rattle.host_port.specs.Areas.{areas_fit, fits_in, bytes_at, request_of}
use Rattle.host_port.specs.Standing.{Phase}
use Rattle.host_port.specs.Steps.{IsAnswerable}
use Rattle.host_port.proofs.HostLaws.{receive-areas, receive-reads}
use Rattle.resource_table.specs.Handles.{Handle}
use Rattle.resource_table.specs.Steps.{IsShut, Told}
use Rattle.world_rules.specs.declared.entry.Side.{Side}
use Rattle.world_rules.specs.declared.halt.HostFault.TheVariants.{NoMessage}
use Rattle.world_rules.specs.declared.life.Birth.{Birth}
use Rattle.world_rules.specs.declared.life.Ended.{Ended as EndMemory}
use Rattle.world_rules.specs.Answers.{empty_reply, number_reply}
use Rattle.world_rules.specs.Calls.{HostCall, all_calls, arg, call_of}
use Rattle.world_rules.specs.Calls as CallIs
use Rattle.world_rules.specs.Changes.{replied, waiting}
use Rattle.world_rules.specs.Judge.{fault_of, unless}
use Rattle.world_rules.specs.Lives.{Setting}
use Rattle.world_rules.specs.Mail.{MailItem, pick, tags_in}
use Rattle.world_rules.specs.Receive.{delivered_or, receive_performed, unmet}
use Rattle.world_rules.specs.Rules.{performed}
use Rattle.world_rules.specs.Time.{deadline_after, is_positive, sleep_performed}
use Rattle.world_rules.specs.Views.{is_refused}
use Rattle.world_rules.specs.World.{World}
use Rattle.node_state.specs.Posts.{deadline_of}
use Rattle.node_state.specs.Seats.{Meaning, Seat}
use Rattle.node_state.specs.Streaming.{Kept}
use Rattle.node_mirror.specs.Slots.{Slot, Nobody, Home, Asleep, Giving, Away, Fated, Gone, is_giving, is_home}
use Rattle.node_mirror.specs.Held.{Held, Mirrors}
use Rattle.node_mirror.specs.Replies.{told_numbers, tells_nothing}
use Rattle.node_mirror.specs.Steps.{replaced}
use Rattle.plain_part.specs.declared.calls.HostCall.{HostCall as Plain}
use Rattle.plain_part.specs.declared.calls.HostCall.TheVariants as PlainIs
use Rattle.plain_part.specs.Shown.{shown_call}
use Rattle.process_store.specs.declared.store.Store.{Store}
use Rattle.process_store.specs.Holds.{Becomes, held_of, place_at}
use Rattle.process_store.specs.Keeps.{StoreKeeps}
use Rattle.process_store.specs.PassOn.{PassesOn, Stood, WasClosed}
use Rattle.process_store.specs.Performing.{GivesStay, IsPerformed, IsRefusedSend, MayPerform, Performs, PerformsAt, StayGone, StaysBeside}
use Rattle.process_store.specs.Telling.{HasScratch, MayBeTold}
use Rattle.process_store.proofs.Passing.{stood_hand, stood_mail}
use Rattle.process_store.proofs.StrikingAll.{mirrors_becomes}

-- A call of the world that is performed on a store.

-- THE NUMBER OF A CALL

abbrev none_of : (HostCall → Bool) → List HostCall → Bool
none_of test [] = true
none_of test (x ∷ xs) = not (test x) && none_of test xs

-- of these calls, one alone passes the test, at this place
abbrev alone : (HostCall → Bool) → List HostCall → (place : ℕ) → Bool
alone test [] place = true
alone test (x ∷ xs) zero = none_of test xs
alone test (x ∷ xs) (suc place) = not (test x) && alone test xs place

both : (a b : Bool) → (a && b) ≡ true → (a ≡ true) × (b ≡ true)
both true true e = (refl, refl)
both true false e = let h : ⊥ = cc in absurd h
both false b e = let h : ⊥ = cc in absurd h

not_both : (a : Bool) → not a ≡ true → a ≡ true → ⊥
not_both true e f = cc
not_both false e f = cc

nowhere : (test : HostCall → Bool) (xs : List HostCall) → none_of test xs ≡ true → (n : ℕ) (x : HostCall) → slice_get xs n ≡ Some x → test x ≡ true → ⊥
nowhere test [] none n x is passes = cc
nowhere test (y ∷ xs) none zero x is passes = let same : y ≡ x = cc in not_both (test y) (both (not (test y)) (none_of test xs) none).0 (ap test same ∙ passes)
nowhere test (y ∷ xs) none (suc n) x is passes = nowhere test xs (both (not (test y)) (none_of test xs) none).1 n x is passes

only_at : (test : HostCall → Bool) (xs : List HostCall) (place : ℕ) → alone test xs place ≡ true → (n : ℕ) (x : HostCall) → slice_get xs n ≡ Some x → test x ≡ true → n ≡ place
only_at test [] place one n x is passes = let h : ⊥ = cc in absurd h
only_at test (y ∷ xs) zero one zero x is passes = refl
only_at test (y ∷ xs) zero one (suc n) x is passes = absurd (nowhere test xs one n x is passes)
only_at test (y ∷ xs) (suc place) one zero x is passes =
    let same : y ≡ x = cc in absurd (not_both (test y) (both (not (test y)) (alone test xs place) one).0 (ap test same ∙ passes))
only_at test (y ∷ xs) (suc place) one (suc n) x is passes = ap suc (only_at test xs place (both (not (test y)) (alone test xs place) one).1 n x is passes)

abbrev is_receive : HostCall → Bool
is_receive CallIs.Receive = true
is_receive _ = false

abbrev is_sleep : HostCall → Bool
is_sleep CallIs.SleepMs = true
is_sleep _ = false

abbrev is_send : HostCall → Bool
is_send CallIs.Send = true
is_send _ = false

pub called_send : (request : Request) → call_of request ≡ Some CallIs.Send → request.ask.call ≡ 8
called_send request call = only_at is_send all_calls 8 refl request.ask.call CallIs.Send call refl

pub called_receive : (request : Request) → call_of request ≡ Some CallIs.Receive → request.ask.call ≡ 9
called_receive request call = only_at is_receive all_calls 9 refl request.ask.call CallIs.Receive call refl

pub called_sleep : (request : Request) → call_of request ≡ Some CallIs.SleepMs → request.ask.call ≡ 17
called_sleep request call = only_at is_sleep all_calls 17 refl request.ask.call CallIs.SleepMs call refl

-- WHO PERFORMS

-- the seat of the process whose Give is being performed, and the ask that it made
pub performing_at : {E : Type 0} (phase : E → Phase) (memory : E → List ℕ) (slot : Slot E) (request : Request) → PerformsAt phase memory slot request
    → (seat : Seat E) × (ask : Ask) × (slot ≡ Giving seat ask) × MayPerform phase memory seat ask request
performing_at phase memory Nobody request may = absurd may
performing_at phase memory (Home seat) request may = absurd may
performing_at phase memory (Asleep seat ask) request may = absurd may
performing_at phase memory (Giving seat ask) request may = (seat, ask, refl, may)
performing_at phase memory (Away worker) request may = absurd may
performing_at phase memory (Fated worker end) request may = absurd may
performing_at phase memory Gone request may = absurd may

pub is_performing : {E : Type 0} (phase : E → Phase) (memory : E → List ℕ) (slot : Slot E) (request : Request) → PerformsAt phase memory slot request → is_giving slot ≡ true
is_performing phase memory slot request may = let at = performing_at phase memory slot request may in ap is_giving at.2

-- its request is that of the ask at its memory
pub request_is : {E : Type 0} (phase : E → Phase) (memory : E → List ℕ) (seat : Seat E) (ask : Ask) (request : Request) → MayPerform phase memory seat ask request
    → request_of (memory seat.engine) ask ≡ request
request_is phase memory seat ask request may = ap (request_of (memory seat.engine)) (sym may.asked) ∙ sym may.fitting.bytes

pub may_tell_number : {E : Type 0} (phase : E → Phase) (memory : E → List ℕ) (slot : Slot E) (request : Request) (call : Option HostCall) (n : ℕ) → PerformsAt phase memory slot request
    → call_of request ≡ call → Contains (told_numbers call) n → MayBeTold phase memory slot (number_reply n)
may_tell_number phase memory slot request call n may is has =
    let at = performing_at phase memory slot request may in
    subst (λ s. MayBeTold phase memory s (number_reply n)) (sym at.2) (at.3.numbers n (subst (λ (c : Option HostCall). Contains (told_numbers c) n) (sym is) has))

pub may_tell_nothing : {E : Type 0} (phase : E → Phase) (memory : E → List ℕ) (slot : Slot E) (request : Request) (call : Option HostCall) → PerformsAt phase memory slot request
    → call_of request ≡ call → tells_nothing call ≡ true → MayBeTold phase memory slot empty_reply
may_tell_nothing phase memory slot request call may is silent =
    let at = performing_at phase memory slot request may in
    subst (λ s. MayBeTold phase memory s empty_reply) (sym at.2) (at.3.nothing (ap tells_nothing is ∙ silent))

message_there : (b : Bool) → unless b NoMessage ≡ None → b ≡ true
message_there true none = refl
message_there false none = let h : ⊥ = cc in absurd h

-- who asks for a send has a scratch message
pub has_scratch : {E : Type 0} (phase : E → Phase) (memory : E → List ℕ) (slot : Slot E) (request : Request) → PerformsAt phase memory slot request → call_of request ≡ Some CallIs.Send
    → HasScratch slot
has_scratch phase memory slot request may call =
    let at = performing_at phase memory slot request may in
    subst (λ s. HasScratch s) (sym at.2)
    (message_there (is_some at.0.part.scratch) (subst (λ (c : Option HostCall). fault_of c at.0.part request ≡ None) call at.3.faultless))

-- THE TAGS OF A RECEIVE

and_right : (a b : Bool) → (a && (b && true)) ≡ true → b ≡ true
and_right true true e = refl
and_right true false e = e
and_right false b e = let h : ⊥ = cc in absurd h

eights : (n k : ℕ) → k ≡ 8 * n → k % 8 ≡ 0
eights n k e = omega (arith, e)

taken_whole : (memory : List ℕ) (area : Area) (n : ℕ) → area.len ≡ 8 * n → nat_le (area.addr + area.len) (length memory) ≡ true → length (bytes_at memory area) % 8 ≡ 0
taken_whole memory area n whole within =
    let fits : area.addr + area.len ≤ length memory = grind (arith, nat_tests, within) in
    let all : length (bytes_at memory area) ≡ area.len = simp (length-take, length-drop) (omega (arith, fits)) in
    eights n (length (bytes_at memory area)) (all ∙ whole)

-- the bytes that a receive reads are whole tags
tags_read : (memory : List ℕ) (ask : Ask) → ask.call ≡ 9 → areas_fit memory ask ≡ true → length (request_of memory ask).first % 8 ≡ 0
tags_read memory ask call fits =
    let area : Area = record { addr = slice_index ask.args 0; len = 8 * slice_index ask.args 1 } in
    let within : nat_le (area.addr + area.len) (length memory) ≡ true = and_right (are_sound ask) (fits_in memory area) (rw (receive-areas ask call) at fits) in
    rw (fits, receive-reads ask call) (taken_whole memory area (slice_index ask.args 1) refl within)

pub tags_whole : {E : Type 0} (phase : E → Phase) (memory : E → List ℕ) (slot : Slot E) (request : Request) → PerformsAt phase memory slot request → call_of request ≡ Some CallIs.Receive
    → length request.first % 8 ≡ 0
tags_whole phase memory slot request may call =
    let at = performing_at phase memory slot request may in
    let bytes = at.3.fitting.bytes in
    let there : areas_fit (memory at.0.engine) request.ask ≡ true = ap (λ (r : Request). r.fits) (sym bytes) ∙ at.3.fitting.fits in
    subst (λ (r : Request). length r.first % 8 ≡ 0) (sym bytes) (tags_read (memory at.0.engine) request.ask (called_receive request call) there)

-- WHAT THE RULES SAY

pub sleep_waits : (w : World) (pid : ℕ) (request : Request) (at : ℕ) → deadline_of w.time (arg request 0) ≡ Some at → sleep_performed w pid request ≡ waiting w pid request (Some at)
sleep_waits w pid request at is = by (is_positive (arg request 0)) is
  where
    by : (b : Bool) → cond b (Some (min (w.time + arg request 0) (2 ^ 64 - 1))) None ≡ Some at
        → cond b (waiting w pid request (Some (deadline_after w (arg request 0)))) (replied w pid request empty_reply) ≡ waiting w pid request (Some at)
    by true e = ap (λ (o : Option ℕ). waiting w pid request o) e
    by false e = let h : ⊥ = cc in absurd h

pub sleep_is_over : (w : World) (pid : ℕ) (request : Request) → deadline_of w.time (arg request 0) ≡ None → sleep_performed w pid request ≡ replied w pid request empty_reply
sleep_is_over w pid request is = by (is_positive (arg request 0)) is
  where
    by : (b : Bool) → cond b (Some (min (w.time + arg request 0) (2 ^ 64 - 1))) None ≡ None
        → cond b (waiting w pid request (Some (deadline_after w (arg request 0)))) (replied w pid request empty_reply) ≡ replied w pid request empty_reply
    by true e = let h : ⊥ = cc in absurd h
    by false e = refl

pub unmet_is : (w : World) (pid : ℕ) (request : Request) → pick (tags_in request.first) (w.process pid).mail ≡ None → receive_performed w pid request ≡ unmet w pid request
unmet_is w pid request none = ap (λ (o : Option MailItem). delivered_or (unmet w pid request) w pid request o) none

pub unmet_at_once : (w : World) (pid : ℕ) (request : Request) → arg request 2 ≡ 0 → unmet w pid request ≡ replied w pid request (number_reply 9027)
unmet_at_once w pid request none = by (nat_eq (arg request 2) 0) (ap (λ n. nat_eq n 0) none)
  where
    by : (b : Bool) → b ≡ true → cond b (replied w pid request (number_reply 9027)) (waiting w pid request (deadline_of w.time (arg request 2))) ≡ replied w pid request (number_reply 9027)
    by true e = refl
    by false e = let h : ⊥ = cc in absurd h

pub unmet_waits : (w : World) (pid : ℕ) (request : Request) (deadline : Option ℕ) → arg request 2 ≢ 0 → deadline_of w.time (arg request 2) ≡ deadline
    → unmet w pid request ≡ waiting w pid request deadline
unmet_waits w pid request deadline some is = by (eqb_tells (arg request 2) 0) ∙ ap (λ (o : Option ℕ). waiting w pid request o) is
  where
    off : (b : Bool) → b ≡ false → cond b (replied w pid request (number_reply 9027)) (waiting w pid request (deadline_of w.time (arg request 2)))
        ≡ waiting w pid request (deadline_of w.time (arg request 2))
    off true e = let h : ⊥ = cc in absurd h
    off false e = refl

    by : ((nat_eq (arg request 2) 0 ≡ true) × (arg request 2 ≡ 0)) ⊎ ((nat_eq (arg request 2) 0 ≡ false) × (arg request 2 ≢ 0))
        → unmet w pid request ≡ waiting w pid request (deadline_of w.time (arg request 2))
    by (inl same) = absurd (some same.1)
    by (inr differs) = off (nat_eq (arg request 2) 0) differs.0

-- WHAT STAYS BESIDE

-- all but these stays
abbrev beside_these : {E O P S L : Type 0} → Store E O P S L → Store E O P S L → Store E O P S L
beside_these old new = record old {
  places = new.places;
  mail = new.mail;
  queue = new.queue;
  came = new.came;
  giver = new.giver;
  sends = new.sends;
  closed = new.closed;
}

same_length : (a b : ℕ) → 1 ≤ a → 1 ≤ b → a - 1 ≡ b - 1 → a ≡ b
same_length a b x y e = omega (arith, x, y, e)

-- there are as many places
pub numbers_stay : {E O P S L : Type 0} (old new : Store E O P S L) (held : Held E) → StoreKeeps old → StoreKeeps new → Becomes new held → held.numbers ≡ length old.places.items - 1
    → length new.places.items ≡ length old.places.items
numbers_stay old new held before after becomes same = same_length (length new.places.items) (length old.places.items) after.some before.some (ap (λ (h : Held _). h.numbers) becomes ∙ same)

pub beside_answer : {E O P S L : Type 0} (old new : Store E O P S L) → new ≡ record old { places = new.places } → length new.places.items ≡ length old.places.items → StaysBeside old new
beside_answer {E} {O} {P} {S} {L} old new same long =
    (subst (λ (s : Store E O P S L). s ≡ beside_these old s) (sym same) refl, long, ap (λ (s : Store E O P S L). s.queue.ready) same, ap (λ (s : Store E O P S L). vec_capacity s.closed) same)

pub beside_wait : {E O P S L : Type 0} (old new : Store E O P S L) → new ≡ record old { places = new.places; queue = new.queue; giver = new.giver }
    → length new.places.items ≡ length old.places.items → new.queue.ready ≡ old.queue.ready → StaysBeside old new
beside_wait {E} {O} {P} {S} {L} old new same long ready =
    (subst (λ (s : Store E O P S L). s ≡ beside_these old s) (sym same) refl, long, ready, ap (λ (s : Store E O P S L). vec_capacity s.closed) same)

pub beside_receive : {E O P S L : Type 0} (old new : Store E O P S L) → new ≡ record old { places = new.places; mail = new.mail; closed = new.closed; shed = new.shed } → new.shed ≡ old.shed
    → length new.places.items ≡ length old.places.items → vec_capacity new.closed ≡ vec_capacity old.closed → StaysBeside old new
beside_receive {E} {O} {P} {S} {L} old new same shed long rooms =
    let now = same ∙ ap (λ x. record old { places = new.places; mail = new.mail; closed = new.closed; shed = x }) shed in
    (subst (λ (s : Store E O P S L). s ≡ beside_these old s) (sym now) refl, long, ap (λ (s : Store E O P S L). s.queue.ready) same, rooms)

pub beside_post : {E O P S L : Type 0} (old new : Store E O P S L) → new ≡ record old { mail = new.mail } → StaysBeside old new
beside_post {E} {O} {P} {S} {L} old new same = (
  subst (λ (s : Store E O P S L). s ≡ beside_these old s) (sym same) refl,
  ap (λ (s : Store E O P S L). length s.places.items) same,
  ap (λ (s : Store E O P S L). s.queue.ready) same,
  ap (λ (s : Store E O P S L). vec_capacity s.closed) same,
)

pub beside_send : {E O P S L : Type 0} (old new : Store E O P S L) → new ≡ record old { places = new.places; sends = new.sends } → length new.places.items ≡ length old.places.items
    → StaysBeside old new
beside_send {E} {O} {P} {S} {L} old new same long =
    (subst (λ (s : Store E O P S L). s ≡ beside_these old s) (sym same) refl, long, ap (λ (s : Store E O P S L). s.queue.ready) same, ap (λ (s : Store E O P S L). vec_capacity s.closed) same)

-- one change after another
pub beside_both : {E O P S L : Type 0} (old mid new : Store E O P S L) → StaysBeside old mid → StaysBeside mid new → StaysBeside old new
beside_both {E} {O} {P} {S} {L} old mid new first second =
    (second.0 ∙ ap (λ (s : Store E O P S L). beside_these s new) first.0, second.1 ∙ first.1, second.2 ∙ first.2, second.3 ∙ first.3)

-- PERFORMED

replaced_here : {X : Type 0} (f : ℕ → X) (pid : ℕ) (x : X) (q : ℕ) → nat_eq q pid ≡ true → replaced f pid x q ≡ x
replaced_here {X = X} f pid x q same = by (nat_eq q pid) same
  where
    by : (b : Bool) → b ≡ true → cond b x (f q) ≡ x
    by true e = refl
    by false e = let h : ⊥ = cc in absurd h

replaced_there : {X : Type 0} (f : ℕ → X) (pid : ℕ) (x : X) (q : ℕ) → nat_eq q pid ≡ false → replaced f pid x q ≡ f q
replaced_there {X = X} f pid x q differs = by (nat_eq q pid) differs
  where
    by : (b : Bool) → b ≡ false → cond b x (f q) ≡ f q
    by false e = refl
    by true e = let h : ⊥ = cc in absurd h

-- the slot of one number alone changes, where a Give was being performed
module _ {E O P S L : Type 0} (old new : Store E O P S L) (pid : ℕ) (slot : Slot E) (seat : Seat E) (ask : Ask) (at : place_at old pid ≡ Giving seat ask)
    (slots : place_at new ≡ replaced (place_at old) pid slot) where
  -- what holds of the new slot, and of all old ones, holds of each
  pub each_slot : (Is : ℕ → Slot E → Type 0) → Is pid slot → ((q : ℕ) → q ≢ pid → Is q (place_at old q)) → (q : ℕ) → Is q (place_at new q)
  each_slot Is here others q = by (eqb_tells q pid)
    where
      now : place_at new q ≡ replaced (place_at old) pid slot q
      now = ap (λ (f : ℕ → Slot E). f q) slots

      by : ((nat_eq q pid ≡ true) × (q ≡ pid)) ⊎ ((nat_eq q pid ≡ false) × (q ≢ pid)) → Is q (place_at new q)
      by (inl same) = subst (Is q) (sym (now ∙ replaced_here (place_at old) pid slot q same.0)) (subst (λ n. Is n slot) (sym same.1) here)
      by (inr differs) = subst (Is q) (sym (now ∙ replaced_there (place_at old) pid slot q differs.0)) (others q differs.1)

  pub gives_stay : GivesStay old new
  gives_stay = each_slot (λ q s. is_giving s ≡ true → is_giving (place_at old q) ≡ true) (λ is. ap is_giving at) (λ q differs is. is)

  pub stay_gone : StayGone old new
  stay_gone = each_slot (λ q s. place_at old q ≡ Gone → s ≡ Gone) (λ gone. let h : ⊥ = giving_not_gone (sym at ∙ gone) in absurd h) (λ q differs gone. gone)
    where
      giving_not_gone : Giving seat ask ≡ Gone → ⊥
      giving_not_gone e = cc

  pub here_now : place_at new pid ≡ slot
  here_now = ap (λ (f : ℕ → Slot E). f pid) slots ∙ by (eqb_tells pid pid)
    where
      by : ((nat_eq pid pid ≡ true) × (pid ≡ pid)) ⊎ ((nat_eq pid pid ≡ false) × (pid ≢ pid)) → replaced (place_at old) pid slot pid ≡ slot
      by (inl same) = replaced_here (place_at old) pid slot pid same.0
      by (inr differs) = absurd (differs.1 refl)

-- a call is performed where what is held became what the rules say
pub performs_by : {E O P S L : Type 0} (engines : Meaning E P) (old new : Store E O P S L) (pid : ℕ) (request : Request) (refused : Bool) (held : Held E) (slot : Slot E) (seat : Seat E) (ask : Ask)
    → place_at old pid ≡ Giving seat ask → Becomes new held → held.slots ≡ replaced (place_at old) pid slot → is_giving slot ≡ false
    → ((setting : Setting P) (w : World) (ends : List EndMemory) (births : List Birth) (side : Side) → is_refused side ≡ refused → Mirrors engines setting w (held_of old) ends
    → Mirrors engines setting (performed births (call_of request) w pid request side) held ends)
    → (refused ≡ true → IsRefusedSend old request) → StaysBeside old new → ∥ (new.giver ≡ Some pid) ⊎ ((new.giver ≡ None) × (is_home slot ≡ false)) ∥₁
    → Performs engines old new pid request refused
performs_by engines old new pid request refused held slot seat ask at becomes slots awake mirrors refusable beside giver =
    let now = ap (λ (h : Held _). h.slots) becomes ∙ slots in
    record {
      mirrors = λ setting w ends births side is m.
          mirrors_becomes engines setting (performed births (call_of request) w pid request side) new held ends becomes (mirrors setting w ends births side is m);
      refusable = refusable;
      performed_is = ap is_giving (here_now old new pid slot seat ask at now) ∙ awake;
      gives_stay = gives_stay old new pid slot seat ask at now;
      stay_gone = stay_gone old new pid slot seat ask at now;
      beside = beside;
      giver = subst (λ (s : Slot _). ∥ (new.giver ≡ Some pid) ⊎ ((new.giver ≡ None) × (is_home s ≡ false)) ∥₁) (sym (here_now old new pid slot seat ask at now)) giver;
    }

-- STREAMS

-- streams that came stood in hand or in a mailbox before
pub passes_within : {S : Type 0} (tells : Told S) (was is : Kept S) (pool shed : List (Handle S)) → PassesOn tells was is pool shed → ((h : Handle S) → Contains pool h → Stood was [] h)
    → PassesOn tells was is [] shed
passes_within {S} tells was is pool shed passes from = record {
  in_hand = λ pid handle has. narrower handle (passes.in_hand pid handle has);
  in_mail = λ pid handle has. narrower handle (passes.in_mail pid handle has);
  more = passes.more;
  closed = passes.closed;
  shut = λ handle has. closed_narrower handle (passes.shut handle has);
}
  where
    narrower : (handle : Handle S) → Stood was pool handle → Stood was [] handle
    narrower handle stood = ∥∥₁_elim stood ∥∥₁_prop by
      where
        by : ((pid : ℕ) × Contains (was.hands pid) handle) ⊎ ((pid : ℕ) × Contains (was.mail pid) handle) ⊎ (Contains pool handle) → Stood was [] handle
        by (inl hand) = stood_hand was [] hand.0 handle hand.1
        by (inr (inl mail)) = stood_mail was [] mail.0 handle mail.1
        by (inr (inr has)) = from handle has

    closed_narrower : (handle : Handle S) → WasClosed tells was pool shed handle → WasClosed tells was [] shed handle
    closed_narrower handle closed = ∥∥₁_elim closed ∥∥₁_prop by
      where
        by : (Contains shed handle) ⊎ ((before : Handle S) × Stood was pool before × IsShut tells before handle) → WasClosed tells was [] shed handle
        by (inl has) = ∣ inl has ∣₁
        by (inr step) = ∣ inr (step.0, narrower step.0 step.1, step.2) ∣₁

-- THE CALLS

-- a call that is performed is one of these
pub no_other_call : (found : Plain) → IsPerformed (Some (shown_call found)) → (found ≡ PlainIs.Send → ⊥) → (found ≡ PlainIs.Receive → ⊥) → (found ≡ PlainIs.SleepMs → ⊥) → ⊥
no_other_call PlainIs.Send performed send receive sleep = send refl
no_other_call PlainIs.Receive performed send receive sleep = receive refl
no_other_call PlainIs.SleepMs performed send receive sleep = sleep refl
no_other_call _ performed send receive sleep = performed
