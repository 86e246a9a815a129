use Rattle.std.proofs.Common.{◌≡◌, ℕ, ◌+◌, ◌≤◌, List, [], ◌∷◌, ◌++◌, length, Option, Some, None, option_map, Bool, true, false, nat_eq, refl, sym, ◌∙◌, ap, arith}
use Rattle.std.specs.Prelude.{is_some, nat_le, nat_lt, if◌then◌else◌}
use Rattle.std.specs.Option.{option_map_or, option_or}
use Rattle.host_port.specs.declared.start.Start.{Start}
use Rattle.host_port.specs.declared.call.Call.{Call}
use Rattle.host_port.specs.declared.request.Request.{Request}
use Rattle.host_port.specs.declared.reply.Reply.{Reply}
use Rattle.world_rules.specs.declared.halt.HostFault.{HostFault}
use Rattle.world_rules.specs.declared.halt.HostFault.TheVariants as FaultIs
use Rattle.world_rules.specs.Calls.{HostCall, call_of, arg}
use Rattle.world_rules.specs.Calls as CallIs
use Rattle.world_rules.specs.Kinds.{is_local}
use Rattle.world_rules.specs.Part.{Part, Scratch, Message, unread, blank_message, most_slots, most_handles, read_to, with_handles, is_among, with_number, without_number, handle_at, handles_in, emptied, slots_of, scratch_handles}
use Rattle.world_rules.specs.Judge.{Judgement, Fit, Overdrawn, Faulty, judge, judgement_of, fault_of, own_fault, needs_message, needs_handle, unless, push_fault, take_fault, cost_of, charged}
use Rattle.world_rules.specs.Local.{written_bytes, read_bytes, after_write, after_read, after_push, after_take, local_part, answer_of, if_fit, local, part_of, part_after, AreLocal}
use Rattle.world_rules.specs.Handles.{local_closings, closings_of}
use Rattle.world_rules.specs.Streams.{one_if}
use Rattle.world_rules.specs.Sound.{times}
use Rattle.world_rules.specs.laws.BirthLaws.{none_is_some}
use Rattle.world_rules.specs.laws.KeepingLaws.{false_is_true}
use Rattle.node_state.specs.Seats.{IsOnce, part_handles}
use Rattle.node_laws.proofs.Numbers.{one_more, times-append, times-some, without-once, with-once, emptied-times, pushed-handles}
use Rattle.node_laws.proofs.ReadyList.{nat_eq_same}

-- The local calls of a turn, one after another: what they leave in hand and what they close is together what was in hand.

-- how often a number is in hand, and among the closed besides
abbrev pub Keeps : Part → Part → List ℕ → Type 0
Keeps part after shut = (k : ℕ) → times k (part_handles after) + times k shut ≡ times k (part_handles part)

abbrev joint : List ℕ → List (Option ℕ) → List ℕ
joint handles slots = handles ++ handles_in slots

-- SLOTS

bytes_slots : (change : Message → Message) (scratch : Option Scratch) → ((m : Message) → (change m).slots ≡ m.slots)
    → slots_of (option_map (λ (s : Scratch). record s { message = change s.message }) scratch) ≡ slots_of scratch
bytes_slots change None same = refl
bytes_slots change (Some s) same = same s.message

read_slots : (place : ℕ) (scratch : Option Scratch) → slots_of (option_map (λ (s : Scratch). record s { read_place = place }) scratch) ≡ slots_of scratch
read_slots place None = refl
read_slots place (Some s) = refl

push_slots : (handle : ℕ) (scratch : Option Scratch) → is_some scratch ≡ true
    → slots_of (option_map (λ (s : Scratch). record s { message = record s.message { slots = s.message.slots ++ Some handle ∷ [] } }) scratch) ≡ slots_of scratch ++ Some handle ∷ []
push_slots handle None there = false_is_true there
push_slots handle (Some s) there = refl

take_slots : (place handle : ℕ) (scratch : Option Scratch) → handle_at (slots_of scratch) place ≡ Some handle
    → slots_of (option_map (λ (s : Scratch). record s { message = record s.message { slots = emptied s.message.slots place } }) scratch) ≡ emptied (slots_of scratch) place
take_slots place handle None there = absurd (none_is_some there)
take_slots place handle (Some s) there = refl

-- where the streams of the table and the slots stay, all is kept
same_kept : (part after : Part) → part_handles after ≡ part_handles part → Keeps part after []
same_kept part after same k = none (times k (part_handles after)) (times k (part_handles part)) (ap (λ (xs : List ℕ). times k xs) same)
  where
    none : (a b : ℕ) → a ≡ b → a + 0 ≡ b
    none a b e = omega (arith, e)

write_kept : (scratch : Option Scratch) (request : Request) (part : Part) → part_handles (option_map_or (after_write request part) scratch part) ≡ part_handles part
write_kept None request part = refl
write_kept (Some s) request part =
    ap (λ (slots : List (Option ℕ)). joint part.handles slots) (bytes_slots (λ (m : Message). record m { bytes = m.bytes ++ written_bytes s request }) part.scratch (λ m. refl))

read_kept : (scratch : Option Scratch) (request : Request) (part : Part) → part_handles (option_map_or (after_read request part) scratch part) ≡ part_handles part
read_kept None request part = refl
read_kept (Some s) request part = ap (λ (slots : List (Option ℕ)). joint part.handles slots) (read_slots (s.read_place + length (read_bytes s request)) part.scratch)

seek_kept : (place : ℕ) (part : Part) → part_handles (read_to place part) ≡ part_handles part
seek_kept place part = ap (λ (slots : List (Option ℕ)). joint part.handles slots) (read_slots place part.scratch)

-- FAULTS

no_fault : (b : Bool) (fault : HostFault) → unless b fault ≡ None → b ≡ true
no_fault true fault e = refl
no_fault false fault e = absurd (none_is_some (sym e))

first_none : (a b : Option HostFault) → option_or a b ≡ None → (a ≡ None) × (b ≡ None)
first_none None b e = (refl, e)
first_none (Some fault) b e = absurd (none_is_some (sym e))

judged_none : (fault : Option HostFault) → judgement_of fault ≡ Fit → fault ≡ None
judged_none None e = refl
judged_none (Some fault) e = cc

fit_none : (fits cheap : Bool) (fault : Option HostFault)
    → (if fits then (if cheap then judgement_of fault else Overdrawn) else Faulty FaultIs.BadPointer) ≡ Fit → fault ≡ None
fit_none true true fault e = judged_none fault e
fit_none true false fault e = cc
fit_none false cheap fault e = cc

-- a request that is judged fit has no fault
pub fit-faultless : (start : Start) (part : Part) (request : Request) → judge start part request ≡ Fit → fault_of (call_of request) part request ≡ None
fit-faultless start part request fit =
    fit_none request.fits (nat_le (part.traffic + cost_of request) start.limits.traffic) (fault_of (call_of request) part request) fit

-- a stream that is needed is there
pub needed-there : (part : Part) (handle : ℕ) → needs_handle part handle ≡ None → is_among part.handles handle ≡ true
needed-there part handle fits = no_fault (is_among part.handles handle) FaultIs.NoSuchHandle fits

handle_there : (o : Option ℕ) → is_some o ≡ true → (handle : ℕ) × (o ≡ Some handle)
handle_there None e = false_is_true e
handle_there (Some handle) e = (handle, refl)

-- HOW OFTEN

-- who is in the table is there once, and in no slot; who is in a slot isn't in the table
hand_times : (k : ℕ) (part : Part) → times k (part_handles part) ≡ times k part.handles + times k (scratch_handles part)
hand_times k part = times-append k part.handles (scratch_handles part)

once_in : (a b t : ℕ) → t ≡ a + b → t ≤ 1 → 1 ≤ a → a ≡ 1
once_in a b t e f g = omega (arith, e, f, g)

not_in : (a b t : ℕ) → t ≡ a + b → t ≤ 1 → 1 ≤ b → a ≡ 0
not_in a b t e f g = omega (arith, e, f, g)

table_once : (part : Part) (handle : ℕ) → IsOnce part → is_among part.handles handle ≡ true → times handle part.handles ≡ 1
table_once part handle is there =
    once_in (times handle part.handles) (times handle (scratch_handles part)) (times handle (part_handles part)) (hand_times handle part) (is.once handle) (times-some handle part.handles there)

-- CALLS

create_kept : (part after : Part) → part_handles after ≡ part.handles ++ [] → Keeps part after (scratch_handles part)
create_kept part after same k =
    sum (times k (part_handles after)) (times k part.handles) (times k (scratch_handles part)) (times k (part_handles part))
    (ap (λ (xs : List ℕ). times k xs) same ∙ times-append k part.handles []) (hand_times k part)
  where
    sum : (x a b t : ℕ) → x ≡ a + 0 → t ≡ a + b → x + b ≡ t
    sum x a b t e f = omega (arith, e, f)

push_kept : (part : Part) (handle : ℕ) → IsOnce part → is_some part.scratch ≡ true → is_among part.handles handle ≡ true → Keeps part (after_push handle part) []
push_kept part handle is some there k =
    sum (times k (part_handles (after_push handle part))) (times k (without_number handle part.handles)) (times k (scratch_handles part))
    (one_if (nat_eq k handle) 0) (times k part.handles) (times k (part_handles part))
    (ap (λ (slots : List (Option ℕ)). times k (joint (without_number handle part.handles) slots)) (push_slots handle part.scratch some)
    ∙ times-append k (without_number handle part.handles) (handles_in (slots_of part.scratch ++ Some handle ∷ []))
    ∙ ap (λ (xs : List ℕ). times k (without_number handle part.handles) + times k xs) (pushed-handles (slots_of part.scratch) handle)
    ∙ ap (λ (n : ℕ). times k (without_number handle part.handles) + n) (times-append k (scratch_handles part) (handle ∷ [])))
    (without-once handle k part.handles (table_once part handle is there) ∙ one_more (nat_eq k handle) (times k (without_number handle part.handles)))
    (hand_times k part)
  where
    sum : (x a b c h t : ℕ) → x ≡ a + (b + c) → h ≡ a + c → t ≡ h + b → x + 0 ≡ t
    sum x a b c h t e f g = omega (arith, e, f, g)

take_kept : (part : Part) (place handle : ℕ) → IsOnce part → handle_at (slots_of part.scratch) place ≡ Some handle → Keeps part (after_take place part handle) []
take_kept part place handle is there k =
    sum (times k (part_handles (after_take place part handle))) (times k (with_number handle part.handles)) (times k (handles_in (emptied (slots_of part.scratch) place)))
    (one_if (nat_eq k handle) 0) (times k part.handles) (times k (scratch_handles part)) (times k (part_handles part))
    (ap (λ (slots : List (Option ℕ)). times k (joint (with_number handle part.handles) slots)) (take_slots place handle part.scratch there)
    ∙ times-append k (with_number handle part.handles) (handles_in (emptied (slots_of part.scratch) place)))
    (with-once handle k part.handles free ∙ one_more (nat_eq k handle) (times k part.handles))
    (emptied-times k (slots_of part.scratch) place handle there ∙ one_more (nat_eq k handle) (times k (handles_in (emptied (slots_of part.scratch) place))))
    (hand_times k part)
  where
    equal : (n : ℕ) → one_if (nat_eq n n) 0 ≡ 1
    equal n = by (nat_eq n n) (same n)
      where
        same : (n : ℕ) → nat_eq n n ≡ true
        same n = nat_eq_same n

        by : (b : Bool) → b ≡ true → one_if b 0 ≡ 1
        by true e = refl
        by false e = false_is_true e

    some : (a b c : ℕ) → a ≡ b + c → c ≡ 1 → 1 ≤ a
    some a b c e f = omega (arith, e, f)

    in_slot : 1 ≤ times handle (scratch_handles part)
    in_slot =
        some (times handle (scratch_handles part)) (times handle (handles_in (emptied (slots_of part.scratch) place))) (one_if (nat_eq handle handle) 0)
        (emptied-times handle (slots_of part.scratch) place handle there ∙ one_more (nat_eq handle handle) (times handle (handles_in (emptied (slots_of part.scratch) place))))
        (equal handle)

    free : times handle part.handles ≡ 0
    free = not_in (times handle part.handles) (times handle (scratch_handles part)) (times handle (part_handles part)) (hand_times handle part) (is.once handle) in_slot

    sum : (x a b c h s t : ℕ) → x ≡ a + b → a ≡ h + c → s ≡ b + c → t ≡ h + s → x + 0 ≡ t
    sum x a b c h s t e f g i = omega (arith, e, f, g, i)

drop_kept : (part : Part) (handle : ℕ) → IsOnce part → is_among part.handles handle ≡ true → Keeps part (with_handles (without_number handle part.handles) part) (handle ∷ [])
drop_kept part handle is there k =
    sum (times k (part_handles (with_handles (without_number handle part.handles) part))) (times k (without_number handle part.handles)) (times k (scratch_handles part))
    (one_if (nat_eq k handle) 0) (times k part.handles) (times k (part_handles part))
    (times-append k (without_number handle part.handles) (scratch_handles part))
    (without-once handle k part.handles (table_once part handle is there) ∙ one_more (nat_eq k handle) (times k (without_number handle part.handles)))
    (hand_times k part)
  where
    sum : (x a b c h t : ℕ) → x ≡ a + b → h ≡ a + c → t ≡ h + b → x + c ≡ t
    sum x a b c h t e f g = omega (arith, e, f, g)

push_fits : (part : Part) (handle : ℕ) → push_fault part handle ≡ None → (is_some part.scratch ≡ true) × (is_among part.handles handle ≡ true)
push_fits part handle fits =
    let full : Option HostFault = unless (nat_lt (length (slots_of part.scratch)) most_slots) FaultIs.PlacesFull in
    let both = first_none (needs_message part) (option_or (needs_handle part handle) full) fits in
    (no_fault (is_some part.scratch) FaultIs.NoMessage both.0, needed-there part handle (first_none (needs_handle part handle) full both.1).0)

take_fits : (part : Part) (place : ℕ) → take_fault part place ≡ None → (handle : ℕ) × (handle_at (slots_of part.scratch) place ≡ Some handle)
take_fits part place fits =
    let full : Option HostFault = unless (nat_lt (length part.handles) most_handles) FaultIs.TableFull in
    let empty : Option HostFault = unless (is_some (handle_at (slots_of part.scratch) place)) FaultIs.EmptyPlace in
    handle_there (handle_at (slots_of part.scratch) place)
    (no_fault (is_some (handle_at (slots_of part.scratch) place)) FaultIs.EmptyPlace (first_none empty full (first_none (needs_message part) (option_or empty full) fits).1).0)

call_kept : (call : HostCall) (start : Start) (part : Part) (request : Request) → own_fault call part request ≡ None → IsOnce part
    → Keeps part (local_part call start (charged request part) request) (local_closings (Some call) part request)
call_kept CallIs.CreateData start part request fits is = create_kept part (record (charged request part) { scratch = Some (unread (blank_message (arg request 0))) }) refl
call_kept CallIs.WriteData start part request fits is =
    same_kept part (local_part CallIs.WriteData start (charged request part) request) (write_kept part.scratch request (charged request part))
call_kept CallIs.ReadData start part request fits is =
    same_kept part (local_part CallIs.ReadData start (charged request part) request) (read_kept part.scratch request (charged request part))
call_kept CallIs.SeekData start part request fits is =
    same_kept part (local_part CallIs.SeekData start (charged request part) request) (seek_kept (arg request 0) (charged request part))
call_kept CallIs.PushStream start part request fits is =
    let both = push_fits part (arg request 0) fits in push_kept part (arg request 0) is both.0 both.1
call_kept CallIs.TakeStream start part request fits is =
    let found = take_fits part (arg request 0) fits in
    λ k. ap (λ (o : Option ℕ). times k (part_handles (option_map_or (after_take (arg request 0) (charged request part)) o (charged request part))) + 0) found.1
    ∙ take_kept part (arg request 0) found.0 is found.1 k
call_kept CallIs.DropStream start part request fits is = drop_kept part (arg request 0) is (needed-there part (arg request 0) fits)
call_kept call start part request fits is = same_kept part (local_part call start (charged request part) request) refl

-- a local call that is answered
answered_kept : (here : Bool) (judgement : Judgement) (call : Option HostCall) (start : Start) (part : Part) (request : Request) (reply : Reply)
    → (judgement ≡ Fit → fault_of call part request ≡ None)
    → option_map (λ (answer : Reply × Part). answer.0) (if here then if_fit judgement (answer_of call start part request) else None) ≡ Some reply → IsOnce part
    → Keeps part (part_of part (if here then if_fit judgement (answer_of call start part request) else None)) (local_closings call part request)
answered_kept true Fit (Some call) start part request reply fits replied is = call_kept call start part request (fits refl) is
answered_kept true Fit None start part request reply fits replied is = absurd (none_is_some replied)
answered_kept true Overdrawn call start part request reply fits replied is = absurd (none_is_some replied)
answered_kept true (Faulty fault) call start part request reply fits replied is = absurd (none_is_some replied)
answered_kept false judgement call start part request reply fits replied is = absurd (none_is_some replied)

still_once : (part after : Part) (shut : List ℕ) → Keeps part after shut → IsOnce part → IsOnce after
still_once part after shut keeps is = record { once = λ k. less (times k (part_handles after)) (times k shut) (times k (part_handles part)) (keeps k) (is.once k) }
  where
    less : (a b t : ℕ) → a + b ≡ t → t ≤ 1 → a ≤ 1
    less a b t e f = omega (arith, e, f)

-- the local calls of a turn leave in hand what they don't close
pub calls-keep : (start : Start) (part : Part) (calls : List Call) → AreLocal start part calls → IsOnce part → Keeps part (part_after start part calls) (closings_of start part calls)
calls-keep start part [] are is k = none (times k (part_handles part))
  where
    none : (n : ℕ) → n + 0 ≡ n
    none n = omega arith
calls-keep start part (call ∷ calls) are is k =
    let request : Request = call.request in
    let next : Part = part_of part (local start part request) in
    let shut : List ℕ = local_closings (call_of request) part request in
    let one : Keeps part next shut =
    answered_kept (is_local request) (judge start part request) (call_of request) start part request call.reply (fit-faultless start part request) are.0 is in
    let rest : Keeps next (part_after start next calls) (closings_of start next calls) = calls-keep start next calls are.1 (still_once part next shut one is) in
    sum (times k (part_handles (part_after start next calls))) (times k shut) (times k (closings_of start next calls)) (times k (shut ++ closings_of start next calls))
    (times k (part_handles next)) (times k (part_handles part)) (times-append k shut (closings_of start next calls)) (rest k) (one k)
  where
    sum : (x a b c n t : ℕ) → c ≡ a + b → x + b ≡ n → n + a ≡ t → x + c ≡ t
    sum x a b c n t e f g = omega (arith, e, f, g)
