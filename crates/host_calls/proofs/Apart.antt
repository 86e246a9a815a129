-- No stream is in hand and shed at once: what local calls close was in hand, and nothing comes into hand twice.
use Rattle.std.proofs.Common.{◌≡◌, ◌⊎◌, ◌≢◌, ℕ, ◌+◌, ◌<◌, ◌≤◌, Bool, true, false, not, nat_eq, nat_lt, if◌then◌else◌, List, [], ◌∷◌, ◌++◌, length, filter, is_some, Option, Some, None, option_map, refl, sym, ◌∙◌, ap, subst, arith, inl, inr}
use Rattle.std.specs.Option.{option_or, option_map_or}
use Rattle.std.proofs.lemmas.Bool.Decides.{nat_tests, eqb_tells}
use Rattle.host_port.specs.declared.request.Request.{Request}
use Rattle.host_port.specs.declared.reply.Reply.{Reply}
use Rattle.host_port.specs.declared.start.Start.{Start}
use Rattle.world_rules.specs.declared.halt.HostFault.{HostFault}
use Rattle.world_rules.specs.declared.halt.HostFault.TheVariants as FaultIs
use Rattle.world_rules.specs.Calls.{HostCall, call_of, arg}
use Rattle.world_rules.specs.Calls as CallIs
use Rattle.world_rules.specs.Handles.{local_closings}
use Rattle.world_rules.specs.Judge.{Judgement, Fit, Overdrawn, Faulty, judge, charged, own_fault, fault_of, judgement_of, unless}
use Rattle.world_rules.specs.Kinds.{is_local}
use Rattle.world_rules.specs.Local.{local, local_part, part_of, answer_of, if_fit, after_write, written_bytes, after_read, read_bytes, after_push, after_take}
use Rattle.world_rules.specs.Part.{Part, Scratch, Message, slots_of, handle_at, handles_in, emptied, is_among, with_number, without_number, scratch_handles, unread, blank_message, read_to}
use Rattle.world_rules.specs.Sound.{times}
use Rattle.world_rules.specs.Streams.{one_if}
use Rattle.host_calls.proofs.Times.{times_append, times_filter, times_some, pushed_handles, emptied_times}
use Rattle.node_state.specs.Seats.{part_handles}

-- FAULTS

-- what is judged fit has its areas in the memory, and no fault of its own
faultless_so : (o : Option HostFault) → judgement_of o ≡ Fit → o ≡ None
faultless_so None is = refl
faultless_so (Some fault) is = absurd (cc)

within_limit : (b : Bool) (o : Option HostFault) → (if b then judgement_of o else Overdrawn) ≡ Fit → o ≡ None
within_limit true o is = faultless_so o is
within_limit false o is = absurd (cc)

fitting_by : (fits b : Bool) (o : Option HostFault) → (if fits then (if b then judgement_of o else Overdrawn) else Faulty FaultIs.BadPointer) ≡ Fit → (fits ≡ true) × (o ≡ None)
fitting_by true b o is = (refl, within_limit b o is)
fitting_by false b o is = absurd (cc)

pub fit_so : (start : Start) (part : Part) (request : Request) → judge start part request ≡ Fit → (request.fits ≡ true) × (fault_of (call_of request) part request ≡ None)
fit_so start part request is = fitting_by request.fits _ (fault_of (call_of request) part request) is

pub unless_so : (b : Bool) (fault : HostFault) → unless b fault ≡ None → b ≡ true
unless_so true fault is = refl
unless_so false fault is = absurd (cc)

pub or_none : (a b : Option HostFault) → option_or a b ≡ None → (a ≡ None) × (b ≡ None)
or_none None b is = (refl, is)
or_none (Some fault) b is = absurd (cc)

-- TIMES

-- a number that is there, taken out
pub without_le : (n k : ℕ) (xs : List ℕ) → is_among xs n ≡ true → one_if (nat_eq k n) 0 + times k (without_number n xs) ≤ times k xs
without_le n k xs there = by (eqb_tells k n)
  where
    gone : (t s : ℕ) → t ≡ 0 → 0 < s → 0 + 1 + t ≤ s
    gone t s x y = omega (arith, x, y)

    stay : (t s : ℕ) → t ≡ s → 0 + t ≤ s
    stay t s x = omega (arith, x)

    kept : (b : Bool) → nat_eq k n ≡ b → times k (without_number n xs) ≡ (if not b then times k xs else 0)
    kept b is = times_filter (λ m. not (nat_eq m n)) k xs ∙ ap (λ (c : Bool). if not c then times k xs else 0) is

    by : ((nat_eq k n ≡ true) × (k ≡ n)) ⊎ ((nat_eq k n ≡ false) × (k ≢ n)) → one_if (nat_eq k n) 0 + times k (without_number n xs) ≤ times k xs
    by (inl same) =
        subst (λ (b : Bool). one_if b 0 + times k (without_number n xs) ≤ times k xs) (sym same.0)
        (gone (times k (without_number n xs)) (times k xs) (kept true same.0) (times_some k xs (ap (λ (m : ℕ). is_among xs m) same.1 ∙ there)))
    by (inr other) =
        subst (λ (b : Bool). one_if b 0 + times k (without_number n xs) ≤ times k xs) (sym other.0)
        (stay (times k (without_number n xs)) (times k xs) (kept false other.0))

-- a number put in its place
parts_le : (a b e : Bool) (k n t : ℕ) → nat_lt k n ≡ a → nat_lt n k ≡ b → (if a then t else 0) + one_if e (if b then t else 0) ≤ one_if e t
parts_le true true e k n t low high = let x : k < n = grind (arith, nat_tests) in let y : n < k = grind (arith, nat_tests) in absurd (omega arith)
parts_le true false true k n t low high = omega arith
parts_le true false false k n t low high = omega arith
parts_le false true true k n t low high = omega arith
parts_le false true false k n t low high = omega arith
parts_le false false true k n t low high = omega arith
parts_le false false false k n t low high = omega arith

pub with_le : (n k : ℕ) (xs : List ℕ) → times k (with_number n xs) ≤ one_if (nat_eq k n) (times k xs)
with_le n k xs =
    subst (λ (t : ℕ). t ≤ one_if (nat_eq k n) (times k xs))
    (sym (times_append k (filter (λ m. nat_lt m n) xs) (n ∷ filter (λ m. nat_lt n m) xs)
    ∙ ap (λ (a : ℕ). a + one_if (nat_eq k n) (times k (filter (λ m. nat_lt n m) xs))) (times_filter (λ m. nat_lt m n) k xs)
    ∙ ap (λ (a : ℕ). (if nat_lt k n then times k xs else 0) + one_if (nat_eq k n) a) (times_filter (λ m. nat_lt n m) k xs)))
    (parts_le (nat_lt k n) (nat_lt n k) (nat_eq k n) k n (times k xs) refl refl)

pub one_more : (b : Bool) (n : ℕ) → one_if b n ≡ one_if b 0 + n
one_more true n = omega arith
one_more false n = omega arith

-- ONE CALL

-- what a call closes and leaves in hand, of each number
abbrev Lessens : List ℕ → (was is : Part) → Type 0
Lessens closings was is = (k : ℕ) → times k closings + times k (part_handles is) ≤ times k (part_handles was)

held : (k : ℕ) (handles : List ℕ) (slots : List (Option ℕ)) → times k (handles ++ handles_in slots) ≡ times k handles + times k (handles_in slots)
held k handles slots = times_append k handles (handles_in slots)

none_closed : (part : Part) → Lessens [] part part
none_closed part k = omega arith

created : (part : Part) (message : Scratch) → message.message.slots ≡ [] → Lessens (scratch_handles part) part (record part { scratch = Some message })
created part message none k =
    around (times k part.handles) (times k (scratch_handles part)) (times k (part.handles ++ handles_in message.message.slots)) (times k (part_handles part))
    (ap (λ (slots : List (Option ℕ)). times k (part.handles ++ handles_in slots)) none ∙ times_append k part.handles [])
    (held k part.handles (slots_of part.scratch))
  where
    around : (h s a b : ℕ) → a ≡ h + 0 → b ≡ h + s → s + a ≤ b
    around h s a b x y = omega (arith, x, y)

pushed : (handles : List ℕ) (slots : List (Option ℕ)) (handle : ℕ) → is_among handles handle ≡ true →
    (k : ℕ) → 0 + times k (without_number handle handles ++ handles_in (slots ++ Some handle ∷ [])) ≤ times k (handles ++ handles_in slots)
pushed handles slots handle there k =
    around (times k handles) (times k (without_number handle handles)) (times k (handles_in slots)) (one_if (nat_eq k handle) 0)
    (times k (without_number handle handles ++ handles_in (slots ++ Some handle ∷ []))) (times k (handles ++ handles_in slots))
    (without_le handle k handles there)
    (times_append k (without_number handle handles) (handles_in (slots ++ Some handle ∷ []))
    ∙ ap (λ (n : ℕ). times k (without_number handle handles) + n)
    (ap (λ (xs : List ℕ). times k xs) (pushed_handles slots handle) ∙ times_append k (handles_in slots) (handle ∷ [])))
    (times_append k handles (handles_in slots))
  where
    around : (h w s one a b : ℕ) → one + w ≤ h → a ≡ w + (s + one) → b ≡ h + s → 0 + a ≤ b
    around h w s one a b x y z = omega (arith, x, y, z)

taken : (handles : List ℕ) (slots : List (Option ℕ)) (place handle : ℕ) → handle_at slots place ≡ Some handle →
    (k : ℕ) → 0 + times k (with_number handle handles ++ handles_in (emptied slots place)) ≤ times k (handles ++ handles_in slots)
taken handles slots place handle there k =
    around (times k handles) (times k (with_number handle handles)) (times k (handles_in slots)) (times k (handles_in (emptied slots place))) (one_if (nat_eq k handle) 0)
    (times k (with_number handle handles ++ handles_in (emptied slots place))) (times k (handles ++ handles_in slots))
    (subst (λ (n : ℕ). times k (with_number handle handles) ≤ n) (one_more (nat_eq k handle) (times k handles)) (with_le handle k handles))
    (emptied_times k slots place handle there ∙ one_more (nat_eq k handle) (times k (handles_in (emptied slots place))))
    (times_append k (with_number handle handles) (handles_in (emptied slots place)))
    (times_append k handles (handles_in slots))
  where
    around : (h w s e one a b : ℕ) → w ≤ one + h → s ≡ one + e → a ≡ w + e → b ≡ h + s → 0 + a ≤ b
    around h w s e one a b x y z u = omega (arith, x, y, z, u)

dropped : (handles rest : List ℕ) (handle : ℕ) → is_among handles handle ≡ true →
    (k : ℕ) → times k (handle ∷ []) + times k (without_number handle handles ++ rest) ≤ times k (handles ++ rest)
dropped handles rest handle there k =
    around (times k handles) (times k (without_number handle handles)) (times k rest) (one_if (nat_eq k handle) 0)
    (times k (without_number handle handles ++ rest)) (times k (handles ++ rest))
    (without_le handle k handles there) (times_append k (without_number handle handles) rest) (times_append k handles rest)
  where
    around : (h w s one a b : ℕ) → one + w ≤ h → a ≡ w + s → b ≡ h + s → one + a ≤ b
    around h w s one a b x y z = omega (arith, x, y, z)

-- the slots of a scratch message that was changed
changed_slots : (o : Option Scratch) (change : Message → Message) (slots : List (Option ℕ) → List (Option ℕ)) → ((m : Message) → (change m).slots ≡ slots m.slots) → is_some o ≡ true →
    slots_of (option_map (λ (s : Scratch). record s { message = change s.message }) o) ≡ slots (slots_of o)
changed_slots None change slots changes there = absurd (cc)
changed_slots (Some s) change slots changes there = changes s.message

kept_slots : (o : Option Scratch) (change : Message → Message) → ((m : Message) → (change m).slots ≡ m.slots) →
    slots_of (option_map (λ (s : Scratch). record s { message = change s.message }) o) ≡ slots_of o
kept_slots None change keeps = refl
kept_slots (Some s) change keeps = keeps s.message

moved_slots : (o : Option Scratch) (place : ℕ) → slots_of (option_map (λ (s : Scratch). record s { read_place = place }) o) ≡ slots_of o
moved_slots None place = refl
moved_slots (Some s) place = refl

-- a part with the same slots and the same table
same_hands : (was is : Part) → is.handles ≡ was.handles → slots_of is.scratch ≡ slots_of was.scratch → Lessens [] was is
same_hands was is handles slots k = around (times k (part_handles is)) (times k (part_handles was)) (rw (handles, slots) refl)
  where
    around : (a b : ℕ) → a ≡ b → 0 + a ≤ b
    around a b x = omega (arith, x)

written : (o : Option Scratch) (request : Request) (part : Part) → Lessens [] part (option_map_or (after_write request part) o part)
written None request part = none_closed part
written (Some s) request part =
    same_hands part (after_write request part s) refl (kept_slots part.scratch (λ (m : Message). record m { bytes = m.bytes ++ written_bytes s request }) (λ m. refl))

read : (o : Option Scratch) (request : Request) (part : Part) → Lessens [] part (option_map_or (after_read request part) o part)
read None request part = none_closed part
read (Some s) request part = same_hands part (after_read request part s) refl (moved_slots part.scratch (s.read_place + length (read_bytes s request)))

push : (handle : ℕ) (part : Part) → is_some part.scratch ≡ true → is_among part.handles handle ≡ true → Lessens [] part (after_push handle part)
push handle part there among k =
    subst (λ (slots : List (Option ℕ)). 0 + times k (without_number handle part.handles ++ handles_in slots) ≤ times k (part_handles part))
    (sym (changed_slots part.scratch (λ (m : Message). record m { slots = m.slots ++ Some handle ∷ [] }) (λ (slots : List (Option ℕ)). slots ++ Some handle ∷ []) (λ m. refl) there))
    (pushed part.handles (slots_of part.scratch) handle among k)

take_one : (o : Option ℕ) (place : ℕ) (part : Part) → handle_at (slots_of part.scratch) place ≡ o → is_some part.scratch ≡ true →
    Lessens [] part (option_map_or (after_take place part) o part)
take_one None place part at there k = none_closed part k
take_one (Some handle) place part at there k =
    subst (λ (slots : List (Option ℕ)). 0 + times k (with_number handle part.handles ++ handles_in slots) ≤ times k (part_handles part))
    (sym (changed_slots part.scratch (λ (m : Message). record m { slots = emptied m.slots place }) (λ (slots : List (Option ℕ)). emptied slots place) (λ m. refl) there))
    (taken part.handles (slots_of part.scratch) place handle at k)

pub needed : (part : Part) (rest : Option HostFault) → option_or (unless (is_some part.scratch) FaultIs.NoMessage) rest ≡ None → (is_some part.scratch ≡ true) × (rest ≡ None)
needed part rest none =
    let both = or_none (unless (is_some part.scratch) FaultIs.NoMessage) rest none in
    (unless_so (is_some part.scratch) FaultIs.NoMessage both.0, both.1)

in_table : (part : Part) (handle : ℕ) (rest : Option HostFault) → option_or (unless (is_among part.handles handle) FaultIs.NoSuchHandle) rest ≡ None → is_among part.handles handle ≡ true
in_table part handle rest none = unless_so (is_among part.handles handle) FaultIs.NoSuchHandle (or_none (unless (is_among part.handles handle) FaultIs.NoSuchHandle) rest none).0

one_call : (call : HostCall) (start : Start) (part : Part) (request : Request) → own_fault call part request ≡ None →
    Lessens (local_closings (Some call) part request) part (local_part call start (charged request part) request)
one_call CallIs.CreateData start part request none = created (charged request part) (unread (blank_message (arg request 0))) refl
one_call CallIs.WriteData start part request none = written part.scratch request (charged request part)
one_call CallIs.ReadData start part request none = read part.scratch request (charged request part)
one_call CallIs.SeekData start part request none = same_hands part (read_to (arg request 0) (charged request part)) refl (moved_slots part.scratch (arg request 0))
one_call CallIs.PushStream start part request none =
    let both = needed part _ none in
    push (arg request 0) (charged request part) both.0 (in_table part (arg request 0) _ both.1)
one_call CallIs.TakeStream start part request none =
    take_one (handle_at (slots_of part.scratch) (arg request 0)) (arg request 0) (charged request part) refl (needed part _ none).0
one_call CallIs.DropStream start part request none =
    dropped part.handles (scratch_handles part) (arg request 0) (unless_so (is_among part.handles (arg request 0)) FaultIs.NoSuchHandle none)
one_call _ start part request none = none_closed part

-- A LOCAL CALL

answered : (o : Option HostCall) (start : Start) (part : Part) (request : Request) (reply : Reply) (after : Part) → fault_of o part request ≡ None →
    answer_of o start part request ≡ Some (reply, after) → Lessens (local_closings o part request) part after
answered None start part request reply after none is = absurd (cc)
answered (Some call) start part request reply after none is =
    let same : local_part call start (charged request part) request ≡ after = ap (part_of after) is in
    subst (λ (p : Part). Lessens (local_closings (Some call) part request) part p) same (one_call call start part request none)

where_fit : (start : Start) (part : Part) (request : Request) (judgement : Judgement) (own : Bool) (answer : Option (Reply × Part)) (reply : Reply) (after : Part) →
    (if own then if_fit judgement answer else None) ≡ Some (reply, after) → (judgement ≡ Fit) × (answer ≡ Some (reply, after))
where_fit start part request Fit true answer reply after is = (refl, is)
where_fit start part request Overdrawn true answer reply after is = absurd (cc)
where_fit start part request (Faulty fault) true answer reply after is = absurd (cc)
where_fit start part request judgement false answer reply after is = absurd (cc)

-- what a local call closes and leaves in hand was in hand
pub local_lessens : (start : Start) (part : Part) (request : Request) (reply : Reply) (after : Part) → local start part request ≡ Some (reply, after) → (k : ℕ) →
    times k (local_closings (call_of request) part request) + times k (part_handles after) ≤ times k (part_handles part)
local_lessens start part request reply after is =
    let both = where_fit start part request (judge start part request) (is_local request) (answer_of (call_of request) start part request) reply after is in
    answered (call_of request) start part request reply after (fit_so start part request both.0).1 both.1
