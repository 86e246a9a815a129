-- What each call of the outside comes to, as its function promises.
use Rattle.std.proofs.Common.{◌≡◌, ℕ, ◌+◌, ◌<◌, ◌≤◌, ◌^◌, ◌&&◌, ◌++◌, false, cond, length, List, ◌∷◌, min, take, drop, ◌-◌, slice_index, Option, Some, None, is_some, IfSome, arith, refl, sym, ap, subst, ◌∙◌, inl, inr}
use Rattle.std.specs.List.{All, Contains}
use Rattle.std.specs.Option.{option_map_or}
use Rattle.std.proofs.lemmas.List.{length-append, length-map, length-take, length-drop, map-append, take-take, take-append-le}
use Rattle.outside.specs.Makes.{GoesNotBack}
use Rattle.outside.specs.Streams.{IsFresh}
use Rattle.message_scratch.specs.Messages.{slots_of, handles_in}
use Rattle.resource_table.specs.Handles.{Handle, Changes, numbers_of}
use Rattle.outside.specs.declared.stream.IoStep.TheVariants as Io
use Rattle.resource_table.specs.Steps.{Told, Reads, Writes}
use Rattle.host_port.specs.declared.request.Request.{Request}
use Rattle.world_rules.specs.declared.entry.Side.{Side}
use Rattle.world_rules.specs.declared.entry.Side.TheVariants as SideIs
use Rattle.world_rules.specs.Answers.{number_reply, written_reply}
use Rattle.world_rules.specs.Calls.{HostCall, call_of, arg}
use Rattle.world_rules.specs.Calls as CallIs
use Rattle.world_rules.specs.Settled.{settled, ListenerBound}
use Rattle.world_rules.specs.Part.{Part}
use Rattle.world_rules.specs.Part as Rules
use Rattle.world_rules.specs.Sound.{times}
use Rattle.world_rules.specs.Streams.{has_result}
use Rattle.world_rules.specs.Views.{answer_in, is_pending, is_opened}
use Rattle.node_state.specs.Fits.{is_bound, with_bound}
use Rattle.node_state.specs.Streaming.{IsOpen, streamed_beside}
use Rattle.host_calls.specs.Listening.{Bound, Listening, listener_numbers, with_listener}
use Rattle.host_calls.specs.Shown.{shown_scratch, shown_part, hands_of}
use Rattle.host_calls.specs.Steps.{AreInOrder}
use Rattle.host_calls.specs.Outsides.{Telling, is_making, is_accept, OutsideGives, IsOutStep}
use Rattle.host_calls.specs.OutsideSteps.{ComesTo, moved_reply, count_reply}
use Rattle.host_calls.specs.declared.proc.Proc.{Proc}
use Rattle.host_calls.specs.declared.outside_calls.OutStep.TheVariants as out
use Rattle.host_calls.proofs.OutsideForms.{Beside, read_for, write_for, read_done, read_pending, read_failed, write_done, write_pending, write_failed}
use Rattle.host_calls.proofs.OutsideNames.{first_taken}
use Rattle.host_calls.proofs.OutsideStreams.{StaysSo, BearsMore, still_open, one_open, alone, found, numbers_append, scratch_shown, read_moved, read_waits, read_fails, write_moved, write_waits, write_fails}

-- THE OUTSIDE

-- one where a call of this name was answered 1 though the outside makes something by it, and where it waits
abbrev pub failed_by : HostCall → Side → ℕ
failed_by name side = cond (is_making (Some name) && option_map_or (has_result 1) (answer_in side) false) 1 0

abbrev pub waited_by : HostCall → Side → ℕ
waited_by name side = cond (is_accept (Some name) && is_pending side) 1 0

pub gives : (old new : Telling) (request : Request) (side : Side) (name : HostCall) → call_of request ≡ Some name → old.faults + failed_by name side ≤ new.faults →
    old.waits + waited_by name side ≤ new.waits → old.rests ≤ new.rests → GoesNotBack old.clock new.clock → OutsideGives old new (Some request) side
gives old new request side name named faults waits rests clock = record {
  faults = subst (λ (call : Option HostCall). old.faults + cond (is_making call && option_map_or (has_result 1) (answer_in side) false) 1 0 ≤ new.faults) (sym named) faults;
  waits = subst (λ (call : Option HostCall). old.waits + cond (is_accept call && is_pending side) 1 0 ≤ new.waits) (sym named) waits;
  rests = rests;
  clock = clock;
}

clock_stays : (clock : Option ℕ) → GoesNotBack clock clock
clock_stays None = refl
clock_stays (Some time) = omega arith

-- no call was made
pub gives_nothing : (tells : Telling) (request : Request) (side : Side) (name : HostCall) → call_of request ≡ Some name → failed_by name side ≡ 0 → waited_by name side ≡ 0 →
    OutsideGives tells tells (Some request) side
gives_nothing tells request side name named none_failed none_waited =
    gives tells tells request side name named (omega arith) (omega arith) (omega arith) (clock_stays tells.clock)

-- THE PROCESS

pub unbound : (request : Request) (side : Side) (name : HostCall) → call_of request ≡ Some name → is_bound (Some name) side ≡ false → (part : Part) → with_bound (Some request) side part ≡ part
unbound request side name named not_bound part = rw (named, not_bound) refl

-- the same numbers of listeners
pub same_part : {E O P S L : Type 0} (request : Request) (name : HostCall) → call_of request ≡ Some name → (old : Proc E O P S L) (listeners : Listening L) (side : Side) →
    listener_numbers listeners ≡ listener_numbers old.listeners → listeners.next ≡ old.listeners.next → is_bound (Some name) side ≡ false →
    shown_part (record old { listeners = listeners }) ≡ with_bound (Some request) side (shown_part old)
same_part request name named old listeners side numbers next not_bound =
    ap (λ (ns : List ℕ). record (shown_part old) { listeners = ns; next_listener = listeners.next }) numbers
    ∙ ap (λ (n : ℕ). record (shown_part old) { listeners = listener_numbers old.listeners; next_listener = n }) next
    ∙ sym (unbound request side name named not_bound (shown_part old))

module _ {S : Type 0} where
  numbers_kept : (h : ℕ) (lower higher : List (Handle S)) (before now : S) →
      numbers_of (lower ++ record { number = h; stream = now } ∷ higher) ≡ numbers_of (lower ++ record { number = h; stream = before } ∷ higher)
  numbers_kept h lower higher before now = numbers_append lower _ ∙ sym (numbers_append lower _)

  lengths_kept : (h : ℕ) (lower higher slots : List (Handle S)) (before now : S) →
      length ((lower ++ record { number = h; stream = now } ∷ higher) ++ slots) ≡ length ((lower ++ record { number = h; stream = before } ∷ higher) ++ slots)
  lengths_kept h lower higher slots before now = simp length-append

module _ {E O P S L : Type 0} (tells : Told S) (request : Request) (name : HostCall) (named : call_of request ≡ Some name) where
  -- a call that streams nothing
  pub plain_step : (old new : Proc E O P S L) (side : Side) (arrived : Option S) → StaysSo name request side → Beside (shown_part old) request side → hands_of new ≡ hands_of old →
      shown_part new ≡ with_bound (Some request) side (shown_part old) → is_some arrived ≡ is_opened side → IfSome arrived (λ s. IsFresh (tells.down s) (tells.taken s) (tells.put s)) →
      IsOutStep tells request old new side arrived
  plain_step old new side arrived stays beside hands part opened fresh = record {
    beside = beside;
    part = part;
    others = λ handle ne there. subst (λ (hs : List (Handle S)). Contains hs handle) hands there;
    streamed = λ streamed open_all. subst (All (IsOpen tells (streamed_beside (Some request) side streamed))) (sym hands)
        (still_open tells request side name named stays streamed (hands_of old) open_all);
    opened = opened;
    fresh = fresh;
  }

  -- it leaves the process as it was
  pub answers_alone : (old : Proc E O P S L) (side : Side) → AreInOrder old → StaysSo name request side → Beside (shown_part old) request side → is_bound (Some name) side ≡ false →
      false ≡ is_opened side → ComesTo tells request old old (out.Side side)
  answers_alone old side order stays beside not_bound opened = record {
    engine = refl;
    start = refl;
    fuel = refl;
    shed = refl;
    order = order;
    step = plain_step old old side None stays beside refl (sym (unbound request side name named not_bound (shown_part old))) opened tt;
    memory = λ none. absurd (cc);
  }

  pub opens_alone : (old : Proc E O P S L) (stream : S) → AreInOrder old → StaysSo name request SideIs.Opened → Beside (shown_part old) request SideIs.Opened →
      is_bound (Some name) SideIs.Opened ≡ false →
      IsFresh (tells.down stream) (tells.taken stream) (tells.put stream) → ComesTo tells request old old (out.Opened stream)
  opens_alone old stream order stays beside not_bound fresh = record {
    engine = refl;
    start = refl;
    fuel = refl;
    shed = refl;
    order = order;
    step = plain_step old old SideIs.Opened (Some stream) stays beside refl (sym (unbound request SideIs.Opened name named not_bound (shown_part old))) refl fresh;
    memory = λ none. absurd (cc);
  }

  -- it leaves all but the listeners
  pub answers_listening : (old : Proc E O P S L) (listeners : Listening L) (side : Side) → AreInOrder old → StaysSo name request side → Beside (shown_part old) request side →
      shown_part (record old { listeners = listeners }) ≡ with_bound (Some request) side (shown_part old) → false ≡ is_opened side →
      ComesTo tells request old (record old { listeners = listeners }) (out.Side side)
  answers_listening old listeners side order stays beside part opened = record {
    engine = refl;
    start = refl;
    fuel = refl;
    shed = refl;
    order = record { once = record { once = order.once.once }; room = order.room };
    step = plain_step old (record old { listeners = listeners }) side None stays beside refl part opened tt;
    memory = λ none. absurd (cc);
  }

  pub opens_listening : (old : Proc E O P S L) (listeners : Listening L) (stream : S) → AreInOrder old → StaysSo name request SideIs.Opened → Beside (shown_part old) request SideIs.Opened →
      shown_part (record old { listeners = listeners }) ≡ with_bound (Some request) SideIs.Opened (shown_part old) → IsFresh (tells.down stream) (tells.taken stream) (tells.put stream) →
      ComesTo tells request old (record old { listeners = listeners }) (out.Opened stream)
  opens_listening old listeners stream order stays beside part fresh = record {
    engine = refl;
    start = refl;
    fuel = refl;
    shed = refl;
    order = record { once = record { once = order.once.once }; room = order.room };
    step = plain_step old (record old { listeners = listeners }) SideIs.Opened (Some stream) stays beside refl part refl fresh;
    memory = λ none. absurd (cc);
  }

  -- STREAMS

  -- a call changes one stream of the table
  pub comes_by_change : (old : Proc E O P S L) (table : List (Handle S)) (side : Side) (change : S → S → Type 0) → Changes (arg request 0) change old.table table → AreInOrder old →
      Beside (shown_part old) request side → is_bound (Some name) side ≡ false → false ≡ is_opened side →
      ((before now : S) → change before now → BearsMore tells name request side before now) → ((before now : S) → change before now → tells.down now ≡ tells.down before) →
      ComesTo tells request old (record old { table = table }) (out.Side side)
  comes_by_change old table side change changes order beside not_bound opened bears down =
      let h = arg request 0 in
      let lower = changes.lower in
      let higher = changes.higher in
      let slots : List (Handle S) = handles_in (slots_of old.scratch) in
      let scratch : List ℕ = Rules.handles_in (Rules.slots_of (shown_scratch old.scratch)) in
      let once : times h (numbers_of old.table ++ scratch) ≤ 1 = order.once.once h in
      let split : times h (numbers_of (lower ++ record { number = h; stream = changes.before } ∷ higher) ++ scratch) ≤ 1 =
      subst (λ (hs : List (Handle S)). times h (numbers_of hs ++ scratch) ≤ 1) changes.was once in
      let one = alone h changes.before lower higher slots
      (subst (λ (ns : List ℕ). times h (numbers_of (lower ++ record { number = h; stream = changes.before } ∷ higher) ++ ns) ≤ 1) (scratch_shown old.scratch) split) in
      let numbers : numbers_of table ≡ numbers_of old.table =
      ap numbers_of changes.is ∙ numbers_kept h lower higher changes.before changes.now ∙ ap numbers_of (sym changes.was) in
      let lengths : length (table ++ slots) ≡ length (old.table ++ slots) =
      ap (λ (hs : List (Handle S)). length (hs ++ slots)) changes.is ∙ lengths_kept h lower higher slots changes.before changes.now
      ∙ ap (λ (hs : List (Handle S)). length (hs ++ slots)) (sym changes.was) in
      let room : length old.shed + length (old.table ++ slots) ≤ 320 = order.room in
      let part : shown_part (record old { table = table }) ≡ shown_part old = ap (λ (ns : List ℕ). record (shown_part old) { handles = ns }) numbers in
      record {
        engine = refl;
        start = refl;
        fuel = refl;
        shed = refl;
        order = record {
          once = record { once = λ k. subst (λ (ns : List ℕ). times k (ns ++ scratch) ≤ 1) (sym numbers) (order.once.once k) };
          room = omega (arith, lengths, room);
        };
        step = record {
          beside = beside;
          part = part ∙ sym (unbound request side name named not_bound (shown_part old));
          others = λ handle ne there.
              elim (found h lower higher slots changes.before changes.now one handle (subst (λ (hs : List (Handle S)). Contains (hs ++ slots) handle) changes.is there))
              as (λ _. Contains (hands_of old) handle) [
                | inl same ↦ absurd (ne (sym (ap (λ (z : Handle S). z.number) same)))
                | inr other ↦ subst (λ (hs : List (Handle S)). Contains (hs ++ slots) handle) (sym changes.was) other.0
              ];
          streamed = λ streamed open_all.
              subst (λ (hs : List (Handle S)). All (IsOpen tells (streamed_beside (Some request) side streamed)) (hs ++ slots)) (sym changes.is)
              (one_open tells request side name named lower higher slots changes.before changes.now one (bears changes.before changes.now changes.changed)
              (down changes.before changes.now changes.changed) streamed
              (subst (λ (hs : List (Handle S)). All (IsOpen tells streamed) (hs ++ slots)) changes.was open_all));
          opened = opened;
          fresh = tt;
        };
        memory = λ none. absurd (cc);
      }

-- A LISTENER MORE

pub bound_part : {E O P S L : Type 0} (request : Request) → call_of request ≡ Some CallIs.Bind → (old : Proc E O P S L) (listener : L) (listeners : Listening L) (addr : ℕ) →
    listeners ≡ with_listener listener old.listeners →
    shown_part (record old { listeners = listeners }) ≡ with_bound (Some request) (SideIs.Answer (written_reply 0 addr old.listeners.next)) (shown_part old)
bound_part {L = L} request named old listener listeners addr more =
    ap (λ (l : Listening L). record (shown_part old) { listeners = listener_numbers l; next_listener = l.next }) more
    ∙ ap (λ (ns : List ℕ). record (shown_part old) { listeners = ns; next_listener = old.listeners.next + 1 }) (map-append (λ (b : Bound L). b.number) old.listeners.bound _)
    ∙ subst (λ (call : Option HostCall). settled (shown_part old) ListenerBound
    ≡ cond (is_bound call (SideIs.Answer (written_reply 0 addr old.listeners.next))) (settled (shown_part old) ListenerBound) (shown_part old)) (sym named) refl

pub numbers_length : {L : Type 0} (listening : Listening L) → length (listener_numbers listening) ≡ length listening.bound
numbers_length {L} listening = length-map listening.bound (λ (b : Bound L). b.number)

-- READS AND WRITES

tests_some : (len size : ℕ) → size ≡ min len 65536 → (size ≡ 0 → ⊥) → len ≡ 0 → ⊥
tests_some len size is some none = some (omega arith)

some_above : (n : ℕ) → (n ≡ 0 → ⊥) → 0 < n
some_above n some = omega (arith, some)

module _ {E O P S L : Type 0} (tells : Told S) (request : Request) (old : Proc E O P S L) (table : List (Handle S)) (order : AreInOrder old) where
  module _ (called : request.ask.call ≡ 31) (size : ℕ) (is : size ≡ min (slice_index request.ask.args 2) 65536) (some : size ≡ 0 → ⊥) (buffer : List ℕ) where
    pub reads_done : (n addr count_addr : ℕ) (bytes : List ℕ) → length buffer ≡ size → Changes (arg request 0) (Reads tells (length buffer) buffer (Io.Done n)) old.table table →
        bytes ≡ take n buffer →
        addr ≡ slice_index request.ask.args 1 → count_addr ≡ slice_index request.ask.args 3 → All (λ b. b < 2 ^ 8) bytes →
        ComesTo tells request old (record old { table = table }) (out.Side (SideIs.Answer (moved_reply addr bytes count_addr)))
    reads_done n addr count_addr bytes long changes are at count_at octets =
        let for = read_for request called in
        let within = changes.changed.taken.within in
        let many : length bytes ≡ min n (length buffer) = ap length are ∙ length-take n buffer in
        let positive : 0 < length buffer = omega (arith, some_above size some) in
        comes_by_change tells request CallIs.ReadStream for.named old table (SideIs.Answer (moved_reply addr bytes count_addr)) (Reads tells (length buffer) buffer (Io.Done n)) changes order
        (read_done request (shown_part old) addr count_addr bytes at count_at octets (omega arith) (omega arith) for) refl refl
        (λ before now read. read_moved tells request before now (length buffer) n addr count_addr buffer bytes read are positive) (λ before now read. read.causes.down)

    pub reads_wait : Changes (arg request 0) (Reads tells (length buffer) buffer Io.NotReady) old.table table → ComesTo tells request old (record old { table = table }) (out.Side SideIs.Pending)
    reads_wait changes =
        let for = read_for request called in
        comes_by_change tells request CallIs.ReadStream for.named old table SideIs.Pending (Reads tells (length buffer) buffer Io.NotReady) changes order
        (read_pending request (shown_part old) (tests_some _ size is some) for) refl refl (λ before now read. read_waits tells request before now (length buffer) buffer read) (λ before now read.
        read.causes.down)

    pub reads_fail : Changes (arg request 0) (Reads tells (length buffer) buffer Io.Failed) old.table table →
        ComesTo tells request old (record old { table = table }) (out.Side (SideIs.Answer (number_reply 1)))
    reads_fail changes =
        let for = read_for request called in
        comes_by_change tells request CallIs.ReadStream for.named old table (SideIs.Answer (number_reply 1)) (Reads tells (length buffer) buffer Io.Failed) changes order
        (read_failed request (shown_part old) (tests_some _ size is some) for) refl refl (λ before now read. read_fails tells request before now (length buffer) buffer read) (λ before now read.
        read.causes.down)

  module _ (called : request.ask.call ≡ 32) (size : ℕ) (is : size ≡ min (slice_index request.ask.args 2) 65536) (some : size ≡ 0 → ⊥) (piece : List ℕ) where
    pub writes_done : (memory : List ℕ) (addr n count_addr : ℕ) → addr + size ≤ length memory → piece ≡ take size (drop addr memory) →
        request.first ≡ take (slice_index request.ask.args 2) (drop addr memory) →
        Changes (arg request 0) (Writes tells (length piece) piece (Io.Done n)) old.table table → count_addr ≡ slice_index request.ask.args 3 →
        ComesTo tells request old (record old { table = table }) (out.Side (SideIs.Answer (count_reply n count_addr)))
    writes_done memory addr n count_addr inside piece_is first_is changes count_at =
        let for = write_for request called in
        let within = changes.changed.put.within in
        let rest : length (drop addr memory) ≡ length memory - addr = length-drop addr memory in
        let long : length piece ≡ min size (length (drop addr memory)) = ap length piece_is ∙ length-take size (drop addr memory) in
        let positive : 0 < length piece = omega (arith, some_above size some) in
        let few : n ≤ size = omega arith in
        let below : size ≤ slice_index request.ask.args 2 = omega arith in
        let same : take n piece ≡ take n request.first =
        ap (take n) piece_is ∙ first_taken n size (slice_index request.ask.args 2) (drop addr memory) few below ∙ ap (take n) (sym first_is) in
        comes_by_change tells request CallIs.WriteStream for.named old table (SideIs.Answer (count_reply n count_addr)) (Writes tells (length piece) piece (Io.Done n)) changes order
        (write_done request (shown_part old) n count_addr count_at (omega arith) (omega arith) for) refl refl
        (λ before now written. write_moved tells request before now (length piece) n count_addr piece written same positive) (λ before now written. written.causes.down)

    pub writes_wait : Changes (arg request 0) (Writes tells (length piece) piece Io.NotReady) old.table table → ComesTo tells request old (record old { table = table }) (out.Side SideIs.Pending)
    writes_wait changes =
        let for = write_for request called in
        comes_by_change tells request CallIs.WriteStream for.named old table SideIs.Pending (Writes tells (length piece) piece Io.NotReady) changes order
        (write_pending request (shown_part old) (tests_some _ size is some) for) refl refl (λ before now written. write_waits tells request before now (length piece) piece written)
        (λ before now written. written.causes.down)

    pub writes_fail : Changes (arg request 0) (Writes tells (length piece) piece Io.Failed) old.table table →
        ComesTo tells request old (record old { table = table }) (out.Side (SideIs.Answer (number_reply 1)))
    writes_fail changes =
        let for = write_for request called in
        comes_by_change tells request CallIs.WriteStream for.named old table (SideIs.Answer (number_reply 1)) (Writes tells (length piece) piece Io.Failed) changes order
        (write_failed request (shown_part old) (tests_some _ size is some) for) refl refl (λ before now written. write_fails tells request before now (length piece) piece written)
        (λ before now written. written.causes.down)

-- what is left of a buffer that is cut behind the bytes that were read
pub cut_buffer : (count len : ℕ) (buffer rest items : List ℕ) → items ≡ take count (take len (buffer ++ rest)) → count ≤ len → count ≤ length buffer → items ≡ take count buffer
cut_buffer count len buffer rest items is one two = is ∙ take-take count len (buffer ++ rest) one ∙ take-append-le count buffer rest two
