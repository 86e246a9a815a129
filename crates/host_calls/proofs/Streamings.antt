-- The streams that a turn brings back bear out what was streamed.
use Rattle.std.proofs.Common.{◌≡◌, ◌⊎◌, ◌≢◌, ℕ, ◌+◌, ◌<◌, ◌≤◌, Bool, true, false, is_some, if◌then◌else◌, nat_eq, List, [], ◌∷◌, ◌++◌, length, get_or, map, All, Contains, Option, Some, None, IfSome, refl, sym, ◌∙◌, ap, subst, arith, inl, inr}
use Rattle.std.specs.Option.{option_map_or}
use Rattle.std.proofs.Math.Logic.{∥∥₁_elim}
use Rattle.std.proofs.Math.Nat.{ℕ_set}
use Rattle.std.proofs.Math.Bool.{Bool-set}
use Rattle.std.proofs.Math.Bridge.{le_prop}
use Rattle.std.specs.Coded.{coded_ℕ, coded_list}
use base.SetCodes.{coded, SetCoded-set}
use Rattle.std.proofs.lemmas.Bool.Decides.{eqb_tells}
use Rattle.std.proofs.lemmas.List.Elements.{All-contains, All-weaker, All-contains_itself, All-nil, All-cons}
use Rattle.outside.specs.Streams.{IsFresh}
use Rattle.resource_table.specs.Handles.{Handle, numbers_of}
use Rattle.resource_table.specs.Steps.{Told, Shuts, IsShut}
use Rattle.host_port.specs.declared.request.Request.{Request}
use Rattle.host_port.specs.declared.reply.Reply.{Reply}
use Rattle.world_rules.specs.declared.entry.Side.{Side}
use Rattle.world_rules.specs.declared.entry.Side.TheVariants as SideIs
use Rattle.world_rules.specs.declared.halt.HostFault.{HostFault}
use Rattle.world_rules.specs.declared.halt.HostFault.TheVariants as FaultIs
use Rattle.world_rules.specs.Views.{answer_in, is_pending, is_opened}
use Rattle.world_rules.specs.Calls.{HostCall, call_of, arg}
use Rattle.world_rules.specs.Calls as CallIs
use Rattle.world_rules.specs.Judge.{fault_of, unless}
use Rattle.world_rules.specs.Part.{Part, is_among, scratch_handles}
use Rattle.world_rules.specs.Sound.{times}
use Rattle.world_rules.specs.Streams.{Streamed, streamed_by, one_if}
use Rattle.host_calls.proofs.Times.{times_append, times_some}
use Rattle.node_state.specs.Seats.{part_handles}
use Rattle.node_state.specs.Streaming.{BearsOut, IsOpen, IsClosed, BroughtStreams, StreamsFit, streamed_beside}
use Rattle.host_calls.specs.Brings.{StreamsMayCome}
use Rattle.host_calls.specs.Steps.{HandsOver}

-- PROPOSITIONS

bytes_set : IsSet (List ℕ)
bytes_set = SetCoded-set (coded (coded_list coded_ℕ))

some_prop : (o : Option (List ℕ)) (x : List ℕ) → IsProp (IfSome o (λ b. b ≡ x))
some_prop None x = hlevel bytes_set
some_prop (Some b) x = hlevel bytes_set

closed_prop : {S : Type 0} (tells : Told S) (streamed : ℕ → Streamed) (handle : Handle S) → IsProp (IsClosed tells streamed handle)
closed_prop tells streamed handle = hlevel (some_prop, le_prop, Bool-set)

-- SHUT

same_known : (before now : Option (List ℕ)) (x : List ℕ) → now ≡ before → IfSome before (λ b. b ≡ x) → IfSome now (λ b. b ≡ x)
same_known before now x same is = subst (λ (o : Option (List ℕ)). IfSome o (λ b. b ≡ x)) (sym same) is

bears_shut : {S : Type 0} (tells : Told S) (streamed : Streamed) (before now : S) → Shuts tells before now → BearsOut tells streamed before → BearsOut tells streamed now
bears_shut tells streamed before now shuts bears = record {
  taken = same_known (tells.taken before) (tells.taken now) streamed.taken shuts.taken bears.taken;
  put = same_known (tells.put before) (tells.put now) streamed.put shuts.put bears.put;
  faults = let a = shuts.faults in let b = bears.faults in omega (arith, a, b);
  waits = let a = shuts.waits in let b = bears.waits in omega (arith, a, b);
  empties = let a = shuts.empties in let b = bears.empties in le_le _ _ _ b a;
}
  where
    le_le : (a b c : ℕ) → a ≤ b → b ≤ c → a ≤ c
    le_le a b c x y = omega (arith, x, y)

closed_of : {S : Type 0} (tells : Told S) (streamed : ℕ → Streamed) (before handle : Handle S) → IsOpen tells streamed before → IsShut tells before handle → IsClosed tells streamed handle
closed_of tells streamed before handle open_before shut = record {
  bears_out = subst (λ (n : ℕ). BearsOut tells (streamed n) handle.stream) (sym shut.number) (bears_shut tells (streamed before.number) before.stream handle.stream shut.shut open_before.bears_out);
  down = shut.shut.down;
}

-- what was streamed on a stream is the same
open_same : {S : Type 0} (tells : Told S) (streamed streamed' : ℕ → Streamed) (handle : Handle S) → streamed' handle.number ≡ streamed handle.number → IsOpen tells streamed handle →
    IsOpen tells streamed' handle
open_same tells streamed streamed' handle same is = record {
  bears_out = subst (λ (s : Streamed). BearsOut tells s handle.stream) (sym same) is.bears_out;
  up = is.up;
}

closed_same : {S : Type 0} (tells : Told S) (streamed streamed' : ℕ → Streamed) (handle : Handle S) → streamed' handle.number ≡ streamed handle.number → IsClosed tells streamed handle →
    IsClosed tells streamed' handle
closed_same tells streamed streamed' handle same is = record {
  bears_out = subst (λ (s : Streamed). BearsOut tells s handle.stream) (sym same) is.bears_out;
  down = is.down;
}

all_from : {A : Type 0} (P : A → Type 0) (xs : List A) → ((x : A) → Contains xs x → P x) → All P xs
all_from P xs each = All-weaker (Contains xs) P each xs (All-contains_itself xs)

module _ {S : Type 0} (tells : Told S) (hands hands_after shed_after : List (Handle S)) (handed : HandsOver tells hands [] hands_after shed_after)
    (streamed : ℕ → Streamed) (open_before : All (IsOpen tells streamed) hands) where
  pub hands_open : All (IsOpen tells streamed) hands_after
  hands_open = all_from (IsOpen tells streamed) hands_after (λ handle there. All-contains (IsOpen tells streamed) hands handle open_before (handed.in_hand handle there))

  one_closed : (handle : Handle S) → Contains handed.more handle → IsClosed tells streamed handle
  one_closed handle there =
      ∥∥₁_elim (handed.shut handle there) (closed_prop tells streamed handle)
      (λ w. closed_of tells streamed w.0 handle (All-contains (IsOpen tells streamed) hands w.0 open_before w.1) w.2)

  pub shed_closed : All (IsClosed tells streamed) shed_after
  shed_closed = subst (λ (s : List (Handle S)). All (IsClosed tells streamed) s) (sym handed.behind) (all_from (IsClosed tells streamed) handed.more one_closed)

-- ELSEWHERE

idle : {A : Type 0} (b p : Bool) (o : Option Reply) (s : A) → (if b then option_map_or (λ (reply : Reply). s) o (if p then s else s) else s) ≡ s
idle true true None s = refl
idle true false None s = refl
idle true p (Some reply) s = refl
idle false p o s = refl

unless_so : (b : Bool) (fault : HostFault) → unless b fault ≡ None → b ≡ true
unless_so true fault is = refl
unless_so false fault is = absurd (cc)

other_one : (handles : List ℕ) (n k : ℕ) → is_among handles n ≡ true → is_among handles k ≡ false → nat_eq k n ≡ false
other_one handles n k there absent = by (eqb_tells k n)
  where
    by : ((nat_eq k n ≡ true) × (k ≡ n)) ⊎ ((nat_eq k n ≡ false) × (k ≢ n)) → nat_eq k n ≡ false
    by (inl same) = let here : is_among handles k ≡ true = ap (λ (m : ℕ). is_among handles m) same.1 ∙ there in absurd (cc)
    by (inr other) = other.0

elsewhere : (o : Option HostCall) (part : Part) (request : Request) (side : Side) (streamed : ℕ → Streamed) (k : ℕ) → fault_of o part request ≡ None → is_among part.handles k ≡ false →
    streamed_by o request side streamed k ≡ streamed k
elsewhere None part request side streamed k none absent = refl
elsewhere (Some CallIs.ReadStream) part request side streamed k none absent =
    rw (other_one part.handles (arg request 0) k (unless_so (is_among part.handles (arg request 0)) FaultIs.NoSuchHandle none) absent) refl
elsewhere (Some CallIs.WriteStream) part request side streamed k none absent =
    rw (other_one part.handles (arg request 0) k (unless_so (is_among part.handles (arg request 0)) FaultIs.NoSuchHandle none) absent) refl
elsewhere (Some _) part request side streamed k none absent = idle (nat_eq k (arg request 0)) (is_pending side) (answer_in side) (streamed k)

-- beside a request to which neither an answer comes nor Pending nothing is streamed
same_if : {A : Type 0} (b : Bool) (s : A) → (if b then s else s) ≡ s
same_if true s = refl
same_if false s = refl

pub nothing_by : (o : Option HostCall) (request : Request) (streamed : ℕ → Streamed) (k : ℕ) → streamed_by o request SideIs.Nothing streamed k ≡ streamed k
nothing_by None request streamed k = refl
nothing_by (Some call) request streamed k = same_if (nat_eq k (arg request 0)) (streamed k)

pub clock_by : (o : Option HostCall) (request : Request) (now : ℕ) (streamed : ℕ → Streamed) (k : ℕ) → streamed_by o request (SideIs.Clock now) streamed k ≡ streamed k
clock_by None request now streamed k = refl
clock_by (Some call) request now streamed k = same_if (nat_eq k (arg request 0)) (streamed k)

pub open_all : {S : Type 0} (tells : Told S) (streamed streamed' : ℕ → Streamed) (hands : List (Handle S)) → ((k : ℕ) → streamed' k ≡ streamed k) → All (IsOpen tells streamed) hands →
    All (IsOpen tells streamed') hands
open_all tells streamed streamed' hands same is = All-weaker (IsOpen tells streamed) (IsOpen tells streamed') (λ handle. open_same tells streamed streamed' handle (same handle.number)) hands is

-- what was shed isn't in hand
absent_at : (b : Bool) → (b ≡ true → ⊥) → b ≡ false
absent_at true never = absurd (never refl)
absent_at false never = refl

more_if : (b : Bool) (n : ℕ) → 0 < n → 0 < one_if b n
more_if true n some = omega (arith, some)
more_if false n some = some

some_if : (b : Bool) (n : ℕ) → b ≡ true → 0 < one_if b n
some_if true n is = omega arith
some_if false n is = absurd (cc)

same_number : (n : ℕ) → nat_eq n n ≡ true
same_number n = by (eqb_tells n n)
  where
    by : ((nat_eq n n ≡ true) × (n ≡ n)) ⊎ ((nat_eq n n ≡ false) × (n ≢ n)) → nat_eq n n ≡ true
    by (inl same) = same.0
    by (inr other) = absurd (other.1 refl)

each_there : {S : Type 0} (handles : List (Handle S)) → All (λ (h : Handle S). 0 < times h.number (numbers_of handles)) handles
each_there {S} [] = All-nil (λ (h : Handle S). 0 < times h.number (numbers_of {S = S} []))
each_there {S} (h ∷ handles) =
    All-cons (λ (k : Handle S). 0 < times k.number (numbers_of (h ∷ handles))) h handles
    (some_if (nat_eq h.number h.number) (times h.number (numbers_of handles)) (same_number h.number))
    (All-weaker (λ (k : Handle S). 0 < times k.number (numbers_of handles)) (λ (k : Handle S). 0 < times k.number (numbers_of (h ∷ handles)))
    (λ (k : Handle S) some. more_if (nat_eq k.number h.number) (times k.number (numbers_of handles)) some) handles (each_there handles))

module _ {S : Type 0} (tells : Told S) (part : Part) (shed : List (Handle S))
    (apart : (k : ℕ) → times k (numbers_of shed) + times k (part_handles part) ≤ 1) where
  not_in_hand : (k : ℕ) → 0 < times k (numbers_of shed) → is_among part.handles k ≡ true → ⊥
  not_in_hand k some there =
      no (times k (numbers_of shed)) (times k part.handles) (times k (scratch_handles part)) (times k (part_handles part)) some (times_some k part.handles there)
      (times_append k part.handles (scratch_handles part)) (apart k)
    where
      no : (s h r p : ℕ) → 0 < s → 0 < h → p ≡ h + r → s + p ≤ 1 → ⊥
      no s h r p x y z u = omega (arith, x, y, z, u)

  -- a request that isn't faulty streams on nothing that was shed
  shed_same : (request : Request) (side : Side) (streamed : ℕ → Streamed) → fault_of (call_of request) part request ≡ None →
      All (IsClosed tells streamed) shed → All (IsClosed tells (streamed_beside (Some request) side streamed)) shed
  shed_same request side streamed none closed =
      all_from (IsClosed tells (streamed_beside (Some request) side streamed)) shed
      (λ handle there.
      let some = All-contains (λ (h : Handle S). 0 < times h.number (numbers_of shed)) shed handle (each_there shed) there in
      let absent = absent_at (is_among part.handles handle.number) (not_in_hand handle.number some) in
      closed_same tells streamed (streamed_beside (Some request) side streamed) handle
      (elsewhere (call_of request) part request side streamed handle.number none absent)
      (All-contains (IsClosed tells streamed) shed handle closed there))

-- WHAT A TURN BRINGS BACK

module _ {S : Type 0} (tells : Told S) (hands hands_mid shed : List (Handle S)) (handed : HandsOver tells hands [] hands_mid shed) where
  -- nothing was asked
  pub streams_none : StreamsMayCome tells None SideIs.Nothing hands (record { hands = hands_mid; shed = shed; arrived = None })
  streams_none streamed open_before = record {
    hands = hands_open tells hands hands_mid shed handed streamed open_before;
    shed = shed_closed tells hands hands_mid shed handed streamed open_before;
    arrived = refl;
    fresh = tt;
  }

  -- a request was asked, and this came beside it
  pub streams_beside : (part : Part) (request : Request) (side : Side) (hands_after : List (Handle S)) (arrived : Option S) →
      ((k : ℕ) → times k (numbers_of shed) + times k (part_handles part) ≤ 1) → fault_of (call_of request) part request ≡ None →
      ((streamed : ℕ → Streamed) → All (IsOpen tells streamed) hands_mid → All (IsOpen tells (streamed_beside (Some request) side streamed)) hands_after) →
      is_some arrived ≡ is_opened side → IfSome arrived (λ s. IsFresh (tells.down s) (tells.taken s) (tells.put s)) →
      StreamsMayCome tells (Some request) side hands (record { hands = hands_after; shed = shed; arrived = arrived })
  streams_beside part request side hands_after arrived apart none streams opened fresh streamed open_before = record {
    hands = streams streamed (hands_open tells hands hands_mid shed handed streamed open_before);
    shed = shed_same tells part shed apart request side streamed none (shed_closed tells hands hands_mid shed handed streamed open_before);
    arrived = opened;
    fresh = fresh;
  }
