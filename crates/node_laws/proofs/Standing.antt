use Rattle.std.proofs.Common.{◌≡◌, ◌≢◌, ◌⊎◌, ℕ, ◌+◌, ◌≤◌, List, [], ◌∷◌, ◌++◌, Option, Some, None, Bool, true, false, nat_eq, refl, sym, ◌∙◌, ap, subst, inl, inr, arith}
use Rattle.std.specs.Prelude.{◌-◌, ◌^◌, nat_lt, min, All, Contains, IfSome, if◌then◌else◌}
use Rattle.std.specs.Option.{option_map_or}
use Rattle.std.proofs.Math.Logic.{∥∥₁_elim}
use Rattle.std.proofs.Props.{props}
use Rattle.std.proofs.lemmas.Bool.Decides.{eqb_tells}
use Rattle.std.proofs.lemmas.List.Elements.{All-nil, All-cons, All-head, All-tail, All-append, All-contains, All-contains_itself, All-weaker, Contains-append_left, Contains-append_right}
use Rattle.outside.specs.Streams.{IsFresh}
use Rattle.resource_table.specs.Handles.{Handle, numbers_of}
use Rattle.resource_table.specs.Steps.{Told, IsShut}
use Rattle.host_port.specs.declared.ask.Ask.{Ask}
use Rattle.host_port.specs.declared.request.Request.{Request}
use Rattle.host_port.specs.declared.reply.Reply.{Reply}
use Rattle.world_rules.specs.declared.entry.Side.{Side}
use Rattle.world_rules.specs.declared.entry.Side.TheVariants as SideIs
use Rattle.world_rules.specs.declared.halt.Halt.{Halt}
use Rattle.world_rules.specs.declared.halt.Halt.TheVariants as HaltIs
use Rattle.world_rules.specs.declared.life.Birth.{Birth}
use Rattle.world_rules.specs.Views.{Given, want_of, wanted_in, answer_in, is_pending}
use Rattle.world_rules.specs.Calls.{HostCall, call_of, arg}
use Rattle.world_rules.specs.Calls as CallIs
use Rattle.world_rules.specs.Part.{Part, is_among, scratch_handles}
use Rattle.world_rules.specs.Mail.{mail_handles}
use Rattle.world_rules.specs.Judge.{fault_of}
use Rattle.world_rules.specs.Local.{part_after}
use Rattle.world_rules.specs.Streams.{one_if, Streamed, nothing_streamed, after_side, streamed_by}
use Rattle.world_rules.specs.World.{World, Process, is_away}
use Rattle.world_rules.specs.Births.{Terms}
use Rattle.world_rules.specs.Allowed.{WantFits, RetryEndsSo, GivesTurn}
use Rattle.world_rules.specs.Sound.{times, IsSound}
use Rattle.world_rules.specs.Placed.{IsPlaced}
use Rattle.world_rules.specs.Lives.{Setting, terms_of}
use Rattle.world_rules.specs.laws.BirthLaws.{none_is_some, same_some}
use Rattle.world_rules.specs.laws.KeepingLaws.{false_is_true}
use Rattle.node_state.specs.Seats.{Meaning, Seat, IsAsked, part_handles}
use Rattle.node_state.specs.Fits.{Brought, TurnFits, PhaseFits, give_of}
use Rattle.node_state.specs.Streaming.{BearsOut, IsOpen, IsClosed, streamed_beside, streamed_after, BroughtStreams, StreamsFit, arrived_as, Kept, StreamsStand, AreOwned, HandsOn}
use Rattle.node_laws.proofs.ReadyList.{nat_eq_same, nat_eq_other}
use Rattle.node_laws.proofs.Numbers.{times-append, times-some}
use Rattle.node_laws.proofs.TurnStreams.{fit-faultless, needed-there}
use Rattle.node_laws.proofs.Apart.{apart-one, apart-two, brought-handles, brought-keeps, fresh-number}

-- The very streams of a node after an entry: they bear out what was streamed.

-- WHERE A GIVE STREAMS

-- so it is where the call reads or writes
abbrev IfStreams : Option HostCall → Type 0 → Type 0
IfStreams (Some CallIs.ReadStream) P = P
IfStreams (Some CallIs.WriteStream) P = P
IfStreams _ P = Unit {0}

if_streams : (call : Option HostCall) (P Q : Type 0) → (P → Q) → IfStreams call P → IfStreams call Q
if_streams None P Q f p = tt
if_streams (Some CallIs.ReadStream) P Q f p = f p
if_streams (Some CallIs.WriteStream) P Q f p = f p
if_streams _ P Q f p = tt

fault_there : (call : Option HostCall) (part : Part) (request : Request) → fault_of call part request ≡ None → IfStreams call (is_among part.handles (arg request 0) ≡ true)
fault_there None part request fits = tt
fault_there (Some CallIs.ReadStream) part request fits = needed-there part (arg request 0) fits
fault_there (Some CallIs.WriteStream) part request fits = needed-there part (arg request 0) fits
fault_there _ part request fits = tt

quiet_side : (answer : Option Reply) (pending : Bool) (s : Streamed) → option_map_or (λ (reply : Reply). s) answer (if pending then s else s) ≡ s
quiet_side (Some reply) pending s = refl
quiet_side None true s = refl
quiet_side None false s = refl

either_same : (b : Bool) (a s : Streamed) → a ≡ s → (if b then a else s) ≡ s
either_same true a s e = e
either_same false a s e = refl

-- on another stream than the one that is read or written nothing is streamed
elsewhere : (call : Option HostCall) (request : Request) (side : Side) (streamed : ℕ → Streamed) (k : ℕ) → IfStreams call (k ≢ arg request 0) → streamed_by call request side streamed k ≡ streamed k
elsewhere None request side streamed k other = refl
elsewhere (Some CallIs.ReadStream) request side streamed k other =
    ap (λ (b : Bool). if b then after_side CallIs.ReadStream request side (streamed k) else streamed k) (nat_eq_other k (arg request 0) other)
elsewhere (Some CallIs.WriteStream) request side streamed k other =
    ap (λ (b : Bool). if b then after_side CallIs.WriteStream request side (streamed k) else streamed k) (nat_eq_other k (arg request 0) other)
elsewhere (Some call) request side streamed k other =
    either_same (nat_eq k (arg request 0)) (after_side call request side (streamed k)) (streamed k) (quiet_side (answer_in side) (is_pending side) (streamed k))

beside_elsewhere : (o : Option Request) (side : Side) (streamed : ℕ → Streamed) (k : ℕ) → ((request : Request) → o ≡ Some request → IfStreams (call_of request) (k ≢ arg request 0))
    → streamed_beside o side streamed k ≡ streamed k
beside_elsewhere None side streamed k other = refl
beside_elsewhere (Some request) side streamed k other = elsewhere (call_of request) request side streamed k (other request refl)

-- a request without a fault, at a part with these streams in its table
record Faultless (handles : List ℕ) (request : Request) : Type 0 where
  part : Part
  same : part.handles ≡ handles
  fits : fault_of (call_of request) part request ≡ None

asked_faultless : (owed : Option Request) (terms : Option Terms) (births : List Birth) (w : World) (p : Process) (give : Given) (request : Request) → give.halt ≡ HaltIs.Asks request
    → GivesTurn terms births w p give owed → fault_of (call_of request) (part_after p.start p.part give.calls) request ≡ None
asked_faultless None terms births w p give request is turn =
    fit-faultless p.start (part_after p.start p.part give.calls) request
    (let fits = subst (λ (halt : Halt). WantFits terms births w p give (want_of halt)) is turn.halted in fits.judged)
asked_faultless (Some other) terms births w p give request is turn =
    absurd (subst (λ (halt : Halt). RetryEndsSo terms births w p give other (want_of halt)) is turn.halted)

retried_faultless : {E P : Type 0} (engines : Meaning E P) (seat : Seat E) (owed : Option Request) (request : Request) → PhaseFits engines owed seat HaltIs.Again
    → IfSome seat.owed (IsAsked (engines.memory seat.engine) seat.part) → owed ≡ Some request → fault_of (call_of request) seat.part request ≡ None
retried_faultless engines seat owed request phase tries is =
    let asked : IsAsked (engines.memory seat.engine) seat.part phase.0.ask = subst (λ (o : Option Ask). IfSome o (IsAsked (engines.memory seat.engine) seat.part)) phase.3 tries in
    let same : phase.0 ≡ request = same_some phase.0 request (sym phase.1 ∙ is) in
    subst (λ (r : Request). fault_of (call_of r) seat.part r ≡ None) same
    (subst (λ (r : Request). fault_of (call_of r) seat.part r ≡ None) (sym phase.2.bytes) asked.faultless)

wanted_faultless : {E P : Type 0} (engines : Meaning E P) (setting : Setting P) (births : List Birth) (w : World) (worker pid : ℕ) (brought : Brought E)
    → TurnFits engines setting births w worker pid brought
    → (halt : Halt) → brought.halt ≡ halt → (request : Request) → wanted_in (want_of halt) (w.process pid).owed ≡ Some request → Faultless brought.seat.part.handles request
wanted_faultless engines setting births w worker pid brought fits HaltIs.Slice is request wants = absurd (none_is_some wants)
wanted_faultless engines setting births w worker pid brought fits (HaltIs.Asks asked) is request wants =
    let p : Process = w.process pid in
    let same : asked ≡ request = same_some asked request wants in
    record {
      part = part_after p.start p.part brought.calls;
      same = sym (brought-handles engines setting births w worker pid brought fits);
      fits = asked_faultless p.owed (Some (terms_of setting)) births w p (give_of worker pid brought) request (is ∙ ap (λ (r : Request). HaltIs.Asks r) same) fits.allowed.turn;
    }
wanted_faultless engines setting births w worker pid brought fits HaltIs.Done is request wants = absurd (none_is_some wants)
wanted_faultless engines setting births w worker pid brought fits (HaltIs.Trap trap) is request wants = absurd (none_is_some wants)
wanted_faultless engines setting births w worker pid brought fits (HaltIs.Spent spent) is request wants = absurd (none_is_some wants)
wanted_faultless engines setting births w worker pid brought fits (HaltIs.Host fault other) is request wants = absurd (none_is_some wants)
wanted_faultless engines setting births w worker pid brought fits HaltIs.NoMemory is request wants = absurd (none_is_some wants)
wanted_faultless engines setting births w worker pid brought fits HaltIs.Again is request wants = record {
  part = brought.seat.part;
  same = refl;
  fits = retried_faultless engines brought.seat (w.process pid).owed request
      (subst (λ (halt : Halt). PhaseFits engines (w.process pid).owed brought.seat halt) is fits.phase) fits.tries wants;
}

-- a Give streams on a stream in the giver's hands alone
pub streams-in-hand : {E P : Type 0} (engines : Meaning E P) (setting : Setting P) (births : List Birth) (w : World) (worker pid : ℕ) (brought : Brought E) → IsSound w → IsPlaced w
    → TurnFits engines setting births w worker pid brought → (k : ℕ) → times k (part_handles (w.process pid).part) ≡ 0
    → streamed_after (w.process pid) (give_of worker pid brought) w.streamed k ≡ w.streamed k
streams-in-hand {E = E} engines setting births w worker pid brought sound placed fits k none =
    beside_elsewhere (wanted_in (want_of brought.halt) (w.process pid).owed) brought.side w.streamed k (λ request wants.
    let whole : Faultless brought.seat.part.handles request = wanted_faultless engines setting births w worker pid brought fits brought.halt refl request wants in
    if_streams (call_of request) (is_among whole.part.handles (arg request 0) ≡ true) (k ≢ arg request 0)
    (λ there same. apart same (subst (λ (xs : List ℕ). is_among xs (arg request 0) ≡ true) whole.same there))
    (fault_there (call_of request) whole.part request whole.fits))
  where
    no : (a b c d t : ℕ) → 1 ≤ a → c ≡ a + b → c + d ≡ t → t ≡ 0 → ⊥
    no a b c d t e f g h = omega (arith, e, f, g, h)

    apart : {n : ℕ} → k ≡ n → is_among brought.seat.part.handles n ≡ true → ⊥
    apart {n} same there =
        let here : is_among brought.seat.part.handles k ≡ true = ap (λ (m : ℕ). is_among brought.seat.part.handles m) same ∙ there in
        no (times k brought.seat.part.handles) (times k (scratch_handles brought.seat.part)) (times k (part_handles brought.seat.part)) (times k brought.shed)
        (times k (part_handles (w.process pid).part)) (times-some k brought.seat.part.handles here) (times-append k brought.seat.part.handles (scratch_handles brought.seat.part))
        (brought-keeps engines setting births w worker pid brought sound placed fits k) none

-- what is recorded beside another side, where memory was refused, streams the same
quiet_refusal : (o : Option Request) (streamed : ℕ → Streamed) → streamed_beside o SideIs.NoMemory streamed ≡ streamed_beside o SideIs.Nothing streamed
quiet_refusal None streamed = refl
quiet_refusal (Some request) streamed = by (call_of request)
  where
    by : (call : Option HostCall) → streamed_by call request SideIs.NoMemory streamed ≡ streamed_by call request SideIs.Nothing streamed
    by None = refl
    by (Some call) = refl

pub same-beside : (o : Option Request) (side came : Side) (streamed : ℕ → Streamed) → (side ≡ came) ⊎ ((came ≡ SideIs.Nothing) × (side ≡ SideIs.NoMemory))
    → streamed_beside o side streamed ≡ streamed_beside o came streamed
same-beside o side came streamed (inl same) = ap (λ (s : Side). streamed_beside o s streamed) same
same-beside o side came streamed (inr refused) =
    ap (λ (s : Side). streamed_beside o s streamed) refused.1 ∙ quiet_refusal o streamed ∙ ap (λ (s : Side). streamed_beside o s streamed) (sym refused.0)

-- STREAMS THAT ARE SHUT

shut_closed : {S : Type 0} (tells : Told S) (streamed : ℕ → Streamed) (before now : Handle S) → IsOpen tells streamed before → IsShut tells before now → IsClosed tells streamed now
shut_closed tells streamed before now was_open shut =
    let bears : BearsOut tells (streamed now.number) before.stream = subst (λ (n : ℕ). BearsOut tells (streamed n) before.stream) (sym shut.number) was_open.bears_out in
    record {
      bears_out = record {
        taken = subst (λ (o : Option (List ℕ)). IfSome o (λ bytes. bytes ≡ (streamed now.number).taken)) (sym shut.shut.taken) bears.taken;
        put = subst (λ (o : Option (List ℕ)). IfSome o (λ bytes. bytes ≡ (streamed now.number).put)) (sym shut.shut.put) bears.put;
        faults = equal (streamed now.number).faults (tells.faults before.stream) (tells.faults now.stream) bears.faults shut.shut.faults;
        waits = later (streamed now.number).waits (tells.waits before.stream) (tells.waits now.stream) bears.waits shut.shut.waits;
        empties = later (min (streamed now.number).empties (2 ^ 64 - 1)) (tells.empties before.stream) (tells.empties now.stream) bears.empties shut.shut.empties;
      };
      down = shut.shut.down;
    }
  where
    equal : (a b c : ℕ) → a ≤ b → c ≡ b → a ≤ c
    equal a b c e f = omega (arith, e, f)

    later : (a b c : ℕ) → a ≤ b → b ≤ c → a ≤ c
    later a b c e f = omega (arith, e, f)

closed_prop : {S : Type 0} (tells : Told S) (streamed : ℕ → Streamed) (handle : Handle S) → IsProp (IsClosed tells streamed handle)
closed_prop tells streamed handle = hlevel props

-- STREAMS THAT STAY

-- what holds of each of some streams holds of each, by its number
all_turned : {S : Type 0} (Q R : Handle S → Type 0) (xs : List (Handle S)) → ((h : Handle S) → 1 ≤ times h.number (numbers_of xs) → Q h → R h) → All Q xs → All R xs
all_turned Q R [] turns all = All-nil R
all_turned Q R (x ∷ xs) turns all =
    All-cons R x xs (turns x (first (nat_eq x.number x.number) (times x.number (numbers_of xs)) (nat_eq_same x.number)) (All-head Q x xs all))
    (all_turned Q R xs (λ h there. turns h (later (nat_eq h.number x.number) (times h.number (numbers_of xs)) there)) (All-tail Q x xs all))
  where
    first : (b : Bool) (t : ℕ) → b ≡ true → 1 ≤ one_if b t
    first true t e = omega arith
    first false t e = false_is_true e

    later : (b : Bool) (t : ℕ) → 1 ≤ t → 1 ≤ one_if b t
    later true t e = omega arith
    later false t e = e

-- streams on which nothing was streamed since bear out the same
open_turned : {S : Type 0} (tells : Told S) (old new : ℕ → Streamed) (xs : List (Handle S)) → ((k : ℕ) → 1 ≤ times k (numbers_of xs) → new k ≡ old k) → All (IsOpen tells old) xs
    → All (IsOpen tells new) xs
open_turned tells old new xs same all =
    all_turned (IsOpen tells old) (IsOpen tells new) xs
    (λ h there is. record { bears_out = subst (λ (s : Streamed). BearsOut tells s h.stream) (sym (same h.number there)) is.bears_out; up = is.up }) all

closed_turned : {S : Type 0} (tells : Told S) (old new : ℕ → Streamed) (xs : List (Handle S)) → ((k : ℕ) → 1 ≤ times k (numbers_of xs) → new k ≡ old k) → All (IsClosed tells old) xs
    → All (IsClosed tells new) xs
closed_turned tells old new xs same all =
    all_turned (IsClosed tells old) (IsClosed tells new) xs
    (λ h there is. record { bears_out = subst (λ (s : Streamed). BearsOut tells s h.stream) (sym (same h.number there)) is.bears_out; down = is.down }) all

-- HANDED ON

-- what the streams must be, before they are handed on, for all to stand afterwards
pub record Ready {S : Type 0} (tells : Told S) (streamed : ℕ → Streamed) (was : Kept S) (pid : ℕ) (pool shed : List (Handle S)) : Type 0 where
  pub pool_open : All (IsOpen tells streamed) pool
  pub shed_closed : All (IsClosed tells streamed) shed
  pub hands : (q : ℕ) → q ≢ pid → All (IsOpen tells streamed) (was.hands q)
  pub mail : (q : ℕ) → q ≢ pid → All (IsOpen tells streamed) (was.mail q)
  pub closed : All (IsClosed tells streamed) was.closed

handed_open : {S : Type 0} (tells : Told S) (streamed : ℕ → Streamed) (xs pool : List (Handle S)) → ((h : Handle S) → Contains xs h → Contains pool h) → All (IsOpen tells streamed) pool
    → All (IsOpen tells streamed) xs
handed_open {S} tells streamed xs pool within all =
    All-weaker (Contains xs) (IsOpen tells streamed) (λ h there. All-contains (IsOpen tells streamed) pool h all (within h there)) xs (All-contains_itself xs)

pub handed-on : {S : Type 0} (tells : Told S) (v : World) (was is : Kept S) (pid : ℕ) (pool shed : List (Handle S)) → Ready tells v.streamed was pid pool shed → HandsOn tells was is pid pool shed
    → ((k : ℕ) → v.streams ≤ k → v.streamed k ≡ nothing_streamed) → StreamsStand tells v is
handed-on {S} tells v was is pid pool shed ready hands undrawn = record {
  hands = λ q. hand q (eqb_tells q pid);
  mail = λ q. post q (eqb_tells q pid);
  closed = subst (λ (xs : List (Handle S)). All (IsClosed tells v.streamed) xs) (sym hands.closed) (All-append (IsClosed tells v.streamed) was.closed hands.more ready.closed more);
  undrawn = undrawn;
}
  where
    hand : (q : ℕ) → ((nat_eq q pid ≡ true) × (q ≡ pid)) ⊎ ((nat_eq q pid ≡ false) × (q ≢ pid)) → All (IsOpen tells v.streamed) (is.hands q)
    hand q (inl same) =
        subst (λ (n : ℕ). All (IsOpen tells v.streamed) (is.hands n)) (sym same.1)
        (handed_open tells v.streamed (is.hands pid) pool (λ h there. hands.in_hand h (Contains-append_left (is.hands pid) (is.mail pid) h there)) ready.pool_open)
    hand q (inr other) = subst (λ (xs : List (Handle S)). All (IsOpen tells v.streamed) xs) (sym (hands.other_hands q other.1)) (ready.hands q other.1)

    post : (q : ℕ) → ((nat_eq q pid ≡ true) × (q ≡ pid)) ⊎ ((nat_eq q pid ≡ false) × (q ≢ pid)) → All (IsOpen tells v.streamed) (is.mail q)
    post q (inl same) =
        subst (λ (n : ℕ). All (IsOpen tells v.streamed) (is.mail n)) (sym same.1)
        (handed_open tells v.streamed (is.mail pid) pool (λ h there. hands.in_hand h (Contains-append_right (is.hands pid) (is.mail pid) h there)) ready.pool_open)
    post q (inr other) = subst (λ (xs : List (Handle S)). All (IsOpen tells v.streamed) xs) (sym (hands.other_mail q other.1)) (ready.mail q other.1)

    one : (h : Handle S) → (Contains shed h) ⊎ ((before : Handle S) × Contains pool before × IsShut tells before h) → IsClosed tells v.streamed h
    one h (inl there) = All-contains (IsClosed tells v.streamed) shed h ready.shed_closed there
    one h (inr from) = shut_closed tells v.streamed from.0 h (All-contains (IsOpen tells v.streamed) pool from.0 ready.pool_open from.1) from.2

    more : All (IsClosed tells v.streamed) hands.more
    more =
        All-weaker (Contains hands.more) (IsClosed tells v.streamed) (λ h there. ∥∥₁_elim (hands.shut h there) (closed_prop tells v.streamed h) (one h)) hands.more (All-contains_itself hands.more)

-- AN ENTRY THAT STREAMS NOTHING

pub others-ready : {S : Type 0} (tells : Told S) (w : World) (was : Kept S) (pid : ℕ) → StreamsStand tells w was → Ready tells w.streamed was pid (was.hands pid ++ was.mail pid) []
others-ready tells w was pid stands = record {
  pool_open = All-append (IsOpen tells w.streamed) (was.hands pid) (was.mail pid) (stands.hands pid) (stands.mail pid);
  shed_closed = All-nil (IsClosed tells w.streamed);
  hands = λ q other. stands.hands q;
  mail = λ q other. stands.mail q;
  closed = stands.closed;
}

-- A GIVE

-- an opened stream is fresh, and nothing was streamed on its number
fresh_open : {S : Type 0} (tells : Told S) (streamed : ℕ → Streamed) (number : ℕ) (arrived : Option S) → IfSome arrived (λ s. IsFresh (tells.down s) (tells.taken s) (tells.put s))
    → streamed number ≡ nothing_streamed → All (IsOpen tells streamed) (arrived_as number arrived)
fresh_open tells streamed number None fresh nothing = All-nil (IsOpen tells streamed)
fresh_open tells streamed number (Some s) fresh nothing =
    All-cons (IsOpen tells streamed) (record { number = number; stream = s }) [] (record {
      bears_out = subst (λ (x : Streamed). BearsOut tells x s) (sym nothing) (record {
        taken = fresh.nothing_taken;
        put = fresh.nothing_put;
        faults = least (tells.faults s);
        waits = least (tells.waits s);
        empties = lesser (2 ^ 64 - 1) (tells.empties s);
      });
      up = fresh.up;
    }) (All-nil (IsOpen tells streamed))
  where
    least : (n : ℕ) → 0 ≤ n
    least n = omega arith

    lesser : (a n : ℕ) → min 0 a ≤ n
    lesser a n = omega arith

abbrev given_after : {E : Type 0} → World → (worker pid : ℕ) → Brought E → ℕ → Streamed
given_after w worker pid brought = streamed_after (w.process pid) (give_of worker pid brought) w.streamed

pub give-ready : {E P S : Type 0} (engines : Meaning E P) (setting : Setting P) (tells : Told S) (births : List Birth) (w : World) (worker pid : ℕ) (brought : Brought E)
    (streams : BroughtStreams S) (was : Kept S)
    → IsSound w → IsPlaced w → TurnFits engines setting births w worker pid brought → StreamsStand tells w was → AreOwned w was
    → StreamsFit tells (streamed_after (w.process pid) (give_of worker pid brought) w.streamed) brought.side streams
    → Ready tells (streamed_after (w.process pid) (give_of worker pid brought) w.streamed) was pid (streams.hands ++ was.mail pid ++ arrived_as w.streams streams.arrived) streams.shed
give-ready {E} {P} {S} engines setting tells births w worker pid brought streams was sound placed fits stands owned come = record {
  pool_open = All-append (IsOpen tells (given_after w worker pid brought)) (streams.hands ++ was.mail pid) (arrived_as w.streams streams.arrived)
      (All-append (IsOpen tells (given_after w worker pid brought)) streams.hands (was.mail pid) come.hands
      (open_turned tells w.streamed (given_after w worker pid brought) (was.mail pid) own_mail (stands.mail pid)))
      (fresh_open tells (given_after w worker pid brought) w.streams streams.arrived come.fresh
      (stays w.streams (fresh-number w sound placed w.streams pid (same w.streams)) ∙ stands.undrawn w.streams (same w.streams)));
  shed_closed = come.shed;
  hands = λ q other. hand q other (is_away (w.process q).stage) refl;
  mail = λ q other. open_turned tells w.streamed (given_after w worker pid brought) (was.mail q) (λ k there. stays k (post k q other there)) (stands.mail q);
  closed = closed_turned tells w.streamed (given_after w worker pid brought) was.closed (λ k there. stays k (shut k there)) stands.closed;
}
  where
    stays : (k : ℕ) → times k (part_handles (w.process pid).part) ≡ 0 → given_after w worker pid brought k ≡ w.streamed k
    stays k none = streams-in-hand engines setting births w worker pid brought sound placed fits k none

    same : (n : ℕ) → n ≤ n
    same n = omega arith

    -- of the three places of one process, or of the places of two, one alone has the number
    third : (a b c o : ℕ) → a + b + c ≤ o → o ≤ 1 → 1 ≤ c → a ≡ 0
    third a b c o e f g = omega (arith, e, f, g)

    second : (a b c o : ℕ) → a + b + c ≤ o → o ≤ 1 → 1 ≤ b → a ≡ 0
    second a b c o e f g = omega (arith, e, f, g)

    within : (a b c : ℕ) → a + (b + c) ≤ 1 → 1 ≤ b → a ≡ 0
    within a b c e f = omega (arith, e, f)

    behind : (a b c : ℕ) → a + (b + c) ≤ 1 → 1 ≤ c → a ≡ 0
    behind a b c e f = omega (arith, e, f)

    at_one : (b : Bool) → one_if b 0 ≤ 1
    at_one true = omega arith
    at_one false = omega arith

    own_mail : (k : ℕ) → 1 ≤ times k (numbers_of (was.mail pid)) → given_after w worker pid brought k ≡ w.streamed k
    own_mail k there =
        stays k (second (times k (part_handles (w.process pid).part)) (times k (mail_handles (w.process pid).mail)) (times k w.closed) (one_if (nat_lt k w.streams) 0)
        (apart-one w sound placed k pid) (at_one (nat_lt k w.streams)) (subst (λ (xs : List ℕ). 1 ≤ times k xs) (owned.mail pid) there))

    shut : (k : ℕ) → 1 ≤ times k (numbers_of was.closed) → times k (part_handles (w.process pid).part) ≡ 0
    shut k there =
        third (times k (part_handles (w.process pid).part)) (times k (mail_handles (w.process pid).mail)) (times k w.closed) (one_if (nat_lt k w.streams) 0)
        (apart-one w sound placed k pid) (at_one (nat_lt k w.streams)) (subst (λ (xs : List ℕ). 1 ≤ times k xs) owned.closed there)

    post : (k q : ℕ) → q ≢ pid → 1 ≤ times k (numbers_of (was.mail q)) → times k (part_handles (w.process pid).part) ≡ 0
    post k q other there =
        behind (times k (part_handles (w.process pid).part)) (times k (part_handles (w.process q).part)) (times k (mail_handles (w.process q).mail))
        (apart-two w sound placed k pid q (λ e. other (sym e))) (subst (λ (xs : List ℕ). 1 ≤ times k xs) (owned.mail q) there)

    hand : (q : ℕ) → q ≢ pid → (b : Bool) → is_away (w.process q).stage ≡ b → All (IsOpen tells (given_after w worker pid brought)) (was.hands q)
    hand q other true e = subst (λ (xs : List (Handle S)). All (IsOpen tells (given_after w worker pid brought)) xs) (sym (owned.away q e)) (All-nil (IsOpen tells (given_after w worker pid brought)))
    hand q other false e =
        open_turned tells w.streamed (given_after w worker pid brought) (was.hands q) (λ k there. stays k
        (within (times k (part_handles (w.process pid).part)) (times k (part_handles (w.process q).part)) (times k (mail_handles (w.process q).mail))
        (apart-two w sound placed k pid q (λ x. other (sym x))) (subst (λ (xs : List ℕ). 1 ≤ times k xs) (owned.hands q e) there))) (stands.hands q)
