use Rattle.std.proofs.Common.{◌≡◌, ◌≢◌, ◌<◌, ℕ, List, Contains, Option, Some, None, IsSome, Bool, true, false, cond, nat_eq, if◌then◌else◌, append-nil, refl, sym, ◌∙◌, ap, subst, ◌⊎◌, inl, inr}
use Rattle.std.specs.Prelude.{◌++◌, []}
use Rattle.std.proofs.lemmas.Bool.Decides.{eqb_tells}
use Rattle.host_port.specs.declared.ask.Ask.{Ask}
use Rattle.host_port.specs.declared.call.Call.{Call}
use Rattle.host_port.specs.declared.request.Request.{Request}
use Rattle.host_port.specs.declared.row.Kind.TheVariants as KindIs
use Rattle.host_port.specs.declared.row.MayCome.{MayCome}
use Rattle.host_port.specs.declared.row.MayCome.TheVariants as Beside
use Rattle.host_port.specs.Areas.{request_of}
use Rattle.host_port.specs.HostTable.{all_rows, known_row_of, row_of, receive, send}
use Rattle.host_port.specs.ProcessRows.{sleep_ms}
use Rattle.host_port.specs.Steps.{IsAnswerable}
use Rattle.host_port.proofs.HostLaws.{receive-row, send-row}
use Rattle.world_rules.specs.declared.entry.Side.{Side}
use Rattle.world_rules.specs.declared.entry.Side.TheVariants as SideIs
use Rattle.world_rules.specs.declared.halt.Halt.TheVariants as HaltIs
use Rattle.world_rules.specs.declared.halt.HostFault.{HostFault}
use Rattle.world_rules.specs.declared.halt.HostFault.TheVariants.{BadPointer}
use Rattle.world_rules.specs.declared.life.Birth.{Birth}
use Rattle.world_rules.specs.declared.life.Ended.{Ended as EndMemory}
use Rattle.world_rules.specs.Allowed.{Allowed, GiveFits, GivesTurn, SideFits, SpawnFits, plain_answer}
use Rattle.world_rules.specs.Allowed.{TurnFits as IsAllowedTurn}
use Rattle.world_rules.specs.Answers.{empty_reply, number_reply}
use Rattle.world_rules.specs.Births.{Terms}
use Rattle.world_rules.specs.Book.{Book}
use Rattle.world_rules.specs.Calls.{HostCall, arg, call_numbered, call_of}
use Rattle.world_rules.specs.Calls as CallIs
use Rattle.world_rules.specs.Judge.{Fit, Overdrawn, Faulty, charged, fault_of, judgement_of}
use Rattle.world_rules.specs.Kinds.{is_refusable, kind_of, may_come}
use Rattle.world_rules.specs.Lives.{Setting, IsRun, TurnIsRun, terms_of}
use Rattle.world_rules.specs.Local.{part_after}
use Rattle.world_rules.specs.Mail.{MailItem, message_count, most_messages}
use Rattle.world_rules.specs.Part.{Part}
use Rattle.world_rules.specs.Receive.{delivery_reply}
use Rattle.world_rules.specs.Rules.{turned}
use Rattle.world_rules.specs.Settled.{settled, ListenerBound}
use Rattle.world_rules.specs.Time.{late_reply}
use Rattle.world_rules.specs.Told.{told}
use Rattle.world_rules.specs.Views.{Given, deed_of, is_pending, is_refused}
use Rattle.world_rules.specs.World.{World, Process, Stage, Out}
use Rattle.node_state.specs.declared.outcome.Post.TheVariants as PostIs
use Rattle.node_state.specs.Seats.{Meaning, Seat, IsFitting}
use Rattle.node_state.specs.Fits.{Brought, entry_of, give_of, is_bound}
use Rattle.node_state.specs.Posts.{time_beside}
use Rattle.node_laws.proofs.Gives.{bring, give_as, own-asks}
use Rattle.node_laws.proofs.HostRows.{send-beside, send-refusable, sleep-row}
use Rattle.node_mirror.specs.Slots.{Slot, SlotFits, Nobody, Home, Asleep, Giving, Away, Fated, Gone, is_live_slot}
use Rattle.node_mirror.specs.Held.{Held, Mirrors, StandsFor}
use Rattle.node_mirror.specs.Fits.{TurnFits}
use Rattle.node_mirror.specs.Replies.{told_numbers, tells_nothing}
use Rattle.node_mirror.specs.Steps.{back, replaced}
use Rattle.node_mirror.proofs.MayGive.{refusing, may-give}
use Rattle.process_store.specs.declared.store.Store.{Store}
use Rattle.process_store.specs.Holds.{Becomes, held_of, place_at}
use Rattle.process_store.specs.Performing.{IsPerformed, IsRefusedSend, MayBeWoken, PerformsAt}
use Rattle.process_store.proofs.NodeStanding.{AllowedLaw}
use Rattle.process_store.proofs.Performed.{called_receive, called_send, called_sleep}
use Rattle.process_store.proofs.PerformedCalls.{send_code}

-- What is known of a request that a process comes back with, which asks for a call that is performed.

-- THE CALLS

by_call : (Is : Option HostCall → Type 0) → Is (Some CallIs.Send) → Is (Some CallIs.Receive) → Is (Some CallIs.SleepMs) → (call : Option HostCall) → IsPerformed call → Is call
by_call Is a b c (Some CallIs.Send) performed = a
by_call Is a b c (Some CallIs.Receive) performed = b
by_call Is a b c (Some CallIs.SleepMs) performed = c
by_call Is a b c _ performed = absurd performed

known_send : known_row_of 8 ≡ Some send
unfolding known_row_of all_rows
known_send = refl

known_receive : known_row_of 9 ≡ Some receive
unfolding known_row_of all_rows
known_receive = refl

known_sleep : known_row_of 17 ≡ Some sleep_ms
unfolding known_row_of all_rows
known_sleep = refl

-- each is the world's, and has a row that is served
pub kind_performed : (request : Request) → IsPerformed (call_of request) → kind_of request ≡ Some KindIs.World
kind_performed request performed =
    by_call (λ (c : Option HostCall). call_of request ≡ c → kind_of request ≡ Some KindIs.World)
    (λ is. rw (called_send request is, known_send) refl) (λ is. rw (called_receive request is, known_receive) refl) (λ is. rw (called_sleep request is, known_sleep) refl)
    (call_of request) performed refl

pub row_performed : (request : Request) → IsPerformed (call_of request) → IsSome (row_of request.ask.call)
row_performed request performed =
    by_call (λ (c : Option HostCall). call_of request ≡ c → IsSome (row_of request.ask.call))
    (λ is. rw (called_send request is, send-row) refl) (λ is. rw (called_receive request is, receive-row) refl) (λ is. rw (called_sleep request is, sleep-row) refl)
    (call_of request) performed refl

receive_beside : (request : Request) → request.ask.call ≡ 9 → may_come request ≡ Some Beside.Clock
receive_beside request call = rw (call, known_receive) refl

sleep_beside : (request : Request) → request.ask.call ≡ 17 → may_come request ≡ Some Beside.Clock
sleep_beside request call = rw (call, known_sleep) refl

-- none is a spawn
pub spawns_not : (terms : Option Terms) (births : List Birth) (call : Option HostCall) (stage : Stage) (w : World) (parent : Process) (request : Request) (side : Side) → IsPerformed call
    → SpawnFits terms births call stage w parent request side
spawns_not terms births (Some CallIs.Spawn) (Out worker) w parent request side performed = absurd performed
spawns_not terms births _ _ w parent request side performed = tt

-- WHAT COMES BESIDE THEM

nothing_beside : (w : World) (pid : ℕ) (part : Part) (request : Request) (side : Side) → SideFits (Some Beside.Nothing) w pid part request side → side ≢ SideIs.NoMemory → side ≡ SideIs.Nothing
nothing_beside w pid part request SideIs.Nothing fits asked = refl
nothing_beside w pid part request (SideIs.Clock now) fits asked = absurd fits
nothing_beside w pid part request SideIs.Pending fits asked = absurd fits
nothing_beside w pid part request (SideIs.Answer reply) fits asked = absurd fits
nothing_beside w pid part request SideIs.Opened fits asked = absurd fits
nothing_beside w pid part request SideIs.NoMemory fits asked = absurd (asked refl)

clock_beside : (w : World) (pid : ℕ) (part : Part) (request : Request) (side : Side) → SideFits (Some Beside.Clock) w pid part request side → (now : ℕ) × (side ≡ SideIs.Clock now)
clock_beside w pid part request SideIs.Nothing fits = absurd fits
clock_beside w pid part request (SideIs.Clock now) fits = (now, refl)
clock_beside w pid part request SideIs.Pending fits = absurd fits
clock_beside w pid part request (SideIs.Answer reply) fits = absurd fits
clock_beside w pid part request SideIs.Opened fits = absurd fits
clock_beside w pid part request SideIs.NoMemory fits = absurd fits

-- nothing but the clock came, and beside a send not even that
pub record CameBeside (request : Request) (side : Side) : Type 0 where
  pub pending : is_pending side ≡ false
  pub unrefused : is_refused side ≡ false
  pub send : call_of request ≡ Some CallIs.Send → side ≡ SideIs.Nothing

clock_came : (request : Request) (side : Side) (call : HostCall) → call_of request ≡ Some call → (Some call ≡ Some CallIs.Send → ⊥) → (now : ℕ) × (side ≡ SideIs.Clock now) → CameBeside request side
clock_came request side call is other clock = record {
  pending = ap is_pending clock.1;
  unrefused = ap is_refused clock.1;
  send = λ sends. absurd (other (sym is ∙ sends));
}

receive_other : Some CallIs.Receive ≡ Some CallIs.Send → ⊥
receive_other e = cc

sleep_other : Some CallIs.SleepMs ≡ Some CallIs.Send → ⊥
sleep_other e = cc

came_beside : (w : World) (pid : ℕ) (part : Part) (request : Request) (side : Side) → IsPerformed (call_of request) → SideFits (may_come request) w pid part request side → side ≢ SideIs.NoMemory
    → CameBeside request side
came_beside w pid part request side performed fits asked =
    by_call (λ (c : Option HostCall). call_of request ≡ c → CameBeside request side) sends
    (λ is. clock_came request side CallIs.Receive is receive_other
    (clock_beside w pid part request side (subst (λ (m : Option MayCome). SideFits m w pid part request side) (receive_beside request (called_receive request is)) fits)))
    (λ is. clock_came request side CallIs.SleepMs is sleep_other
    (clock_beside w pid part request side (subst (λ (m : Option MayCome). SideFits m w pid part request side) (sleep_beside request (called_sleep request is)) fits)))
    (call_of request) performed refl
  where
    sends : call_of request ≡ Some CallIs.Send → CameBeside request side
    sends is =
        let none = nothing_beside w pid part request side
        (subst (λ (m : Option MayCome). SideFits m w pid part request side) (send-beside request (called_send request is)) fits) asked in
        record { pending = ap is_pending none; unrefused = ap is_refused none; send = λ sends. none }

-- THE TURN

fit_faultless : (fits within : Bool) (fault : Option HostFault) → cond fits (cond within (judgement_of fault) Overdrawn) (Faulty BadPointer) ≡ Fit → (fits ≡ true) × (fault ≡ None)
fit_faultless true true None e = (refl, refl)
fit_faultless true true (Some fault) e = let h : ⊥ = cc in absurd h
fit_faultless true false fault e = let h : ⊥ = cc in absurd h
fit_faultless false within fault e = let h : ⊥ = cc in absurd h

-- the cost of the request makes no fault
charged_faultless : (call : Option HostCall) (after : Part) (request : Request) (side : Side) → IsPerformed call → fault_of call after request ≡ None
    → fault_of call (if is_bound call side then settled (charged request after) ListenerBound else charged request after) request ≡ None
charged_faultless call after request side performed =
    by_call (λ (c : Option HostCall). fault_of c after request ≡ None → fault_of c (if is_bound c side then settled (charged request after) ListenerBound else charged request after) request ≡ None)
    (λ e. e) (λ e. e) (λ e. e) call performed

module _ {E P : Type 0} {engines : Meaning E P} {setting : Setting P} (old : Book) (worker pid : ℕ) (seat : Seat E) (calls : List Call) (request : Request) (side : Side) (shed : List ℕ)
    (run : IsRun setting old) (fits : TurnFits engines setting old.births (told old) worker pid (bring seat calls (HaltIs.Asks request) side shed)) where
  asked_turn : IsAllowedTurn None (refusing old.births) (told old) ((told old).process pid) (give_as worker pid calls seat.fuel (HaltIs.Asks request) side)
  asked_turn =
      let w : World = told old in
      let p : Process = w.process pid in
      let births : List Birth = refusing old.births in
      let give : Given = give_as worker pid calls seat.fuel (HaltIs.Asks request) side in
      let may : GiveFits None births w give = may-give old worker pid (bring seat calls (HaltIs.Asks request) side shed) run fits in
      subst (λ (o : Option Request). GivesTurn None births w p give o) (own-asks None births w p give p.owed request refl may.turn) may.turn

  pub asked_beside : IsPerformed (call_of request) → CameBeside request side
  asked_beside performed =
      came_beside (told old) pid (turned ((told old).process pid) (give_as worker pid calls seat.fuel (HaltIs.Asks request) side)).part request side performed asked_turn.halted.beside.side fits.asked

  judged_fit : (request.fits ≡ true) × (fault_of (call_of request) (part_after ((told old).process pid).start ((told old).process pid).part calls) request ≡ None)
  judged_fit = fit_faultless request.fits _ (fault_of (call_of request) (part_after ((told old).process pid).start ((told old).process pid).part calls) request) asked_turn.halted.judged

  pub asked_fitting : IsFitting (engines.memory seat.engine) request
  asked_fitting = record { bytes = fits.phase.0.bytes; fits = judged_fit.0 }

  pub asked_faultless : IsPerformed (call_of request) → fault_of (call_of request) seat.part request ≡ None
  asked_faultless performed =
      subst (λ (part : Part). fault_of (call_of request) part request ≡ None) (sym fits.seated.part)
      (charged_faultless (call_of request) (part_after ((told old).process pid).start ((told old).process pid).part calls) request side performed judged_fit.1)

-- WHAT MAY BE TOLD

abbrev pub NumbersLaw : {E P : Type 0} → Meaning E P → Type 0
NumbersLaw {E = E} {P = P} engines =
    (setting : Setting P) (w : World) (held : Held E) (ends : List EndMemory) (pid : ℕ) (seat : Seat E) (ask : Ask) (n : ℕ) → Mirrors engines setting w held ends → held.slots pid ≡ Giving seat ask →
    IsSome (row_of ask.call) → Contains (told_numbers (call_numbered ask.call)) n → IsAnswerable (engines.phase seat.engine) (engines.memory seat.engine) (number_reply n)

abbrev pub NothingLaw : {E P : Type 0} → Meaning E P → Type 0
NothingLaw {E = E} {P = P} engines =
    (setting : Setting P) (w : World) (held : Held E) (ends : List EndMemory) (pid : ℕ) (seat : Seat E) (ask : Ask) → Mirrors engines setting w held ends → held.slots pid ≡ Giving seat ask →
    IsSome (row_of ask.call) → tells_nothing (call_numbered ask.call) ≡ true → IsAnswerable (engines.phase seat.engine) (engines.memory seat.engine) empty_reply

abbrev pub LateLaw : {E P : Type 0} → Meaning E P → Type 0
LateLaw {E = E} {P = P} engines =
    (setting : Setting P) (w : World) (held : Held E) (ends : List EndMemory) (pid : ℕ) (seat : Seat E) (ask : Ask) → Mirrors engines setting w held ends → held.slots pid ≡ Asleep seat ask →
    IsAnswerable (engines.phase seat.engine) (engines.memory seat.engine) (late_reply (call_of (request_of (engines.memory seat.engine) ask)))

abbrev pub DeliveryLaw : {E P : Type 0} → Meaning E P → Type 0
DeliveryLaw {E = E} {P = P} engines =
    (setting : Setting P) (w : World) (held : Held E) (ends : List EndMemory) (pid : ℕ) (seat : Seat E) (ask : Ask) (item : MailItem) → Mirrors engines setting w held ends →
    held.slots pid ≡ Asleep seat ask → ask.call ≡ 9 → IsAnswerable (engines.phase seat.engine) (engines.memory seat.engine) (delivery_reply item)

-- each that waits may be told what it waits for
waits_by : {E P : Type 0} {engines : Meaning E P} {setting : Setting P} (w : World) (held : Held E) (ends : List EndMemory) (pid : ℕ) (slot : Slot E) → LateLaw engines → DeliveryLaw engines
    → Mirrors engines setting w held ends → held.slots pid ≡ slot → SlotFits engines setting.programs (w.process pid) slot → MayBeWoken engines.phase engines.memory slot
waits_by w held ends pid Nobody late delivered m at fits = tt
waits_by w held ends pid (Home seat) late delivered m at fits = tt
waits_by {setting = setting} w held ends pid (Asleep seat ask) late delivered m at fits = record {
  fitting = fits.fitting;
  late = late setting w held ends pid seat ask m at;
  delivered = λ item call. delivered setting w held ends pid seat ask item m at call;
  call = fits.call;
}
waits_by w held ends pid (Giving seat ask) late delivered m at fits = tt
waits_by w held ends pid (Away worker) late delivered m at fits = tt
waits_by w held ends pid (Fated worker end) late delivered m at fits = tt
waits_by w held ends pid Gone late delivered m at fits = tt

pub each_may_wake : {E P : Type 0} {engines : Meaning E P} {setting : Setting P} (w : World) (held : Held E) (ends : List EndMemory) → LateLaw engines → DeliveryLaw engines
    → Mirrors engines setting w held ends → (pid : ℕ) → MayBeWoken engines.phase engines.memory (held.slots pid)
each_may_wake w held ends late delivered m pid = waits_by w held ends pid (held.slots pid) late delivered m refl (m.slots pid)

-- the process that has come back may be told what its call tells
pub may_perform : {E P : Type 0} {engines : Meaning E P} {setting : Setting P} (old : Book) (worker pid : ℕ) (seat : Seat E) (calls : List Call) (request : Request) (side : Side) (shed : List ℕ)
    (w : World) (held : Held E) (ends : List EndMemory) → NumbersLaw engines → NothingLaw engines → IsRun setting old
    → TurnFits engines setting old.births (told old) worker pid (bring seat calls (HaltIs.Asks request) side shed)
    → IsPerformed (call_of request) → Mirrors engines setting w held ends → held.slots pid ≡ Giving seat request.ask → PerformsAt engines.phase engines.memory (held.slots pid) request
may_perform {engines = engines} {setting = setting} old worker pid seat calls request side shed w held ends numbers nothing run fits performed m at =
    subst (λ (s : Slot _). PerformsAt engines.phase engines.memory s request) (sym at) (record {
      asked = refl;
      fitting = asked_fitting old worker pid seat calls request side shed run fits;
      faultless = asked_faultless old worker pid seat calls request side shed run fits performed;
      numbers = λ n has. numbers setting w held ends pid seat request.ask n m at (row_performed request performed) has;
      nothing = λ tells. nothing setting w held ends pid seat request.ask m at (row_performed request performed) tells;
    })

-- WHAT IT IS RECORDED BESIDE

pub slot_here : {E : Type 0} (slots : ℕ → Slot E) (pid : ℕ) (slot : Slot E) → replaced slots pid slot pid ≡ slot
slot_here {E = E} slots pid slot = by (eqb_tells pid pid)
  where
    by : ((nat_eq pid pid ≡ true) × (pid ≡ pid)) ⊎ ((nat_eq pid pid ≡ false) × (pid ≢ pid)) → (if nat_eq pid pid then slot else slots pid) ≡ slot
    by (inl same) = ap (λ (b : Bool). if b then slot else slots pid) same.0
    by (inr other) = absurd (other.1 refl)

-- a send that is refused when its process has come back was to be answered 0 before that
refused_plain : {E O P S L : Type 0} {engines : Meaning E P} {setting : Setting P} (old : Book) (s0 s1 : Store E O P S L) (worker pid : ℕ) (seat : Seat E) (request : Request) (time : ℕ)
    (shed : List ℕ) → StandsFor engines setting old (told old) (held_of s0) → place_at s0 pid ≡ Away worker → Becomes s1 (back (held_of s0) pid (Giving seat request.ask) time shed)
    → IsRefusedSend s1 request → plain_answer (call_of request) (told old) pid request ≡ 0
refused_plain {engines = engines} {setting = setting} old s0 s1 worker pid seat request time shed stands away becomes refused =
    let w : World = told old in
    let to : ℕ = arg request 0 in
    subst (λ (c : Option HostCall). plain_answer c w pid request ≡ 0) (sym refused.call)
    (send_code engines setting.programs (w.process to) (place_at s0 to) ((held_of s0).mail to) PostIs.Put false (stands.mirrors.slots to) (stands.mirrors.mail to)
    (live (eqb_tells to pid), subst (λ (items : List MailItem). message_count items < most_messages) (ap (λ (h : Held _). h.mail to) becomes) refused.count) refl)
  where
    live : ((nat_eq (arg request 0) pid ≡ true) × (arg request 0 ≡ pid)) ⊎ ((nat_eq (arg request 0) pid ≡ false) × (arg request 0 ≢ pid)) → is_live_slot (place_at s0 (arg request 0)) ≡ true
    live (inl same) = ap (λ (n : ℕ). is_live_slot (place_at s0 n)) same.1 ∙ ap is_live_slot away
    live (inr other) =
        sym (ap (λ (b : Bool). is_live_slot (if b then Giving seat request.ask else place_at s0 (arg request 0))) other.0) ∙ sym (ap (λ (h : Held _). is_live_slot (h.slots (arg request 0))) becomes)
        ∙ refused.live

abbrev pub RefusedLaw : {E P : Type 0} → Meaning E P → Type 0
RefusedLaw {E = E} {P = P} engines =
    (setting : Setting P) (old : Book) (was : Held E) (more : List Birth) (pid worker : ℕ) (brought : Brought E) (request : Request) →
    StandsFor engines setting old (told old) was → was.slots pid ≡ Away worker → TurnFits engines setting old.births (told old) worker pid brought →
    brought.halt ≡ HaltIs.Asks request → brought.side ≡ SideIs.Nothing → is_refusable request ≡ true → plain_answer (call_of request) (told old) pid request ≡ 0 →
    SpawnFits (Some (terms_of setting)) (old.births ++ more) (call_of request) (Out worker) (told old) (turned ((told old).process pid) (give_of worker pid brought)) request SideIs.NoMemory →
    Allowed (Some (terms_of setting)) (old.births ++ more) (told old) (entry_of worker pid brought SideIs.NoMemory)
    × TurnIsRun setting (told old) (deed_of (entry_of worker pid brought SideIs.NoMemory))

-- the Give may be recorded beside this
pub record IsBeside {E P : Type 0} (setting : Setting P) (old : Book) (worker pid : ℕ) (brought : Brought E) (refused : Bool) (side : Side) : Type 0 where
  pub how : ∥ (side ≡ brought.side) ⊎ ((brought.side ≡ SideIs.Nothing) × (side ≡ SideIs.NoMemory)) ∥₁
  pub refusal : is_refused side ≡ refused
  pub pending : is_pending side ≡ false
  pub time : (now : ℕ) → time_beside side now ≡ time_beside brought.side now
  pub allowed : Allowed (Some (terms_of setting)) old.births (told old) (entry_of worker pid brought side)
  pub run : TurnIsRun setting (told old) (deed_of (entry_of worker pid brought side))

module _ {E O P S L : Type 0} {engines : Meaning E P} {setting : Setting P} (allowed_law : AllowedLaw engines) (refused_law : RefusedLaw engines) (old : Book) (s0 s1 : Store E O P S L)
    (worker pid : ℕ) (seat : Seat E) (calls : List Call) (request : Request) (side : Side) (shed closed : List ℕ) (now : ℕ) (stands : StandsFor engines setting old (told old) (held_of s0))
    (away : place_at s0 pid ≡ Away worker) (becomes : Becomes s1 (back (held_of s0) pid (Giving seat request.ask) now closed)) (performed : IsPerformed (call_of request))
    (fits : TurnFits engines setting old.births (told old) worker pid (bring seat calls (HaltIs.Asks request) side shed)) where
  plain_side : IsBeside setting old worker pid (bring seat calls (HaltIs.Asks request) side shed) false side
  plain_side =
      let came = asked_beside old worker pid seat calls request side shed stands.run fits performed in
      let w : World = told old in
      let give : Given = give_as worker pid calls seat.fuel (HaltIs.Asks request) side in
      let may = allowed_law setting old [] pid worker (bring seat calls (HaltIs.Asks request) side shed) fits
      (spawns_not (Some (terms_of setting)) (old.births ++ []) (call_of request) (w.process pid).stage w (turned (w.process pid) give) request SideIs.Nothing performed) in
      record {
        how = ∣ inl refl ∣₁;
        refusal = came.unrefused;
        pending = came.pending;
        time = λ now. refl;
        allowed = subst (λ (bs : List Birth). Allowed (Some (terms_of setting)) bs w (entry_of worker pid (bring seat calls (HaltIs.Asks request) side shed) side)) (append-nil old.births) may.0;
        run = may.1;
      }

  refused_side : IsRefusedSend s1 request → IsBeside setting old worker pid (bring seat calls (HaltIs.Asks request) side shed) true SideIs.NoMemory
  refused_side refused =
      let none = (asked_beside old worker pid seat calls request side shed stands.run fits performed).send refused.call in
      let w : World = told old in
      let brought : Brought E = bring seat calls (HaltIs.Asks request) side shed in
      let may = refused_law setting old (held_of s0) [] pid worker brought request stands away fits refl none (send-refusable request (called_send request refused.call))
      (refused_plain old s0 s1 worker pid seat request now closed stands away becomes refused)
      (spawns_not (Some (terms_of setting)) (old.births ++ []) (call_of request) (Out worker) w (turned (w.process pid) (give_of worker pid brought)) request SideIs.NoMemory performed) in
      record {
        how = ∣ inr (none, refl) ∣₁;
        refusal = refl;
        pending = refl;
        time = λ now. ap (λ (s : Side). time_beside s now) (sym none);
        allowed = subst (λ (bs : List Birth). Allowed (Some (terms_of setting)) bs w (entry_of worker pid brought SideIs.NoMemory)) (append-nil old.births) may.0;
        run = may.1;
      }

  pub beside_by : (refused : Bool) → (refused ≡ true → IsRefusedSend s1 request)
      → IsBeside setting old worker pid (bring seat calls (HaltIs.Asks request) side shed) refused (if refused then SideIs.NoMemory else side)
  beside_by true refusal = refused_side (refusal refl)
  beside_by false refusal = plain_side
