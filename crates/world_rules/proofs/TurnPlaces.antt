-- The local calls of a turn, one after another: where the streams stand after them is where their moves have them.
use Rattle.std.specs.Prelude.{◌≡◌, ℕ, zero, suc, ◌+◌, ◌<◌, ◌≤◌, List, [], ◌∷◌, ◌++◌, length, Option, Some, None, is_some, option_map, Bool, true, false, nat_eq, nat_le, nat_lt, if◌then◌else◌, refl}
use Rattle.std.specs.Option.{option_map_or, option_or}
use Rattle.std.proofs.Common.{subst, sym, ◌∙◌, ap, append-nil, append_assoc}
use Rattle.host_port.specs.declared.start.Start.{Start}
use Rattle.host_port.specs.declared.call.Call.{Call}
use Rattle.host_port.specs.declared.request.Request.{Request}
use Rattle.host_port.specs.declared.reply.Reply.{Reply}
use Rattle.world_rules.specs.declared.halt.HostFault.{HostFault}
use Rattle.world_rules.specs.declared.halt.HostFault.TheVariants as FaultIs
use Rattle.world_rules.specs.Calls.{HostCall, call_of, arg}
use Rattle.world_rules.specs.Calls as CallIs
use Rattle.world_rules.specs.Kinds.{is_local}
use Rattle.world_rules.specs.Part.{Part, Scratch, Message, unread, blank_message, most_slots, most_handles, read_to, with_handles, is_among, with_number, without_number, handle_at, emptied, slots_of, scratch_handles}
use Rattle.world_rules.specs.Mail.{MailItem}
use Rattle.world_rules.specs.Judge.{Judgement, Fit, Overdrawn, Faulty, judge, judgement_of, fault_of, own_fault, needs_message, needs_handle, unless, push_fault, take_fault, cost_of, charged}
use Rattle.world_rules.specs.Local.{written_bytes, read_bytes, after_write, after_read, after_push, after_take, local_part, answer_of, if_fit, local, part_of, part_after, AreLocal}
use Rattle.world_rules.specs.Moves.{Move, Handled, after_one, handled_after}
use Rattle.world_rules.specs.Handles.{local_moves, local_closings, moves_of, closings_of}
use Rattle.world_rules.specs.World.{Process, put}
use Rattle.world_rules.specs.Ends.{held_handles}
use Rattle.world_rules.specs.Sound.{times}
use Rattle.world_rules.specs.laws.BirthLaws.{none_is_some}
use Rattle.world_rules.specs.laws.KeepingLaws.{false_is_true}
use Rattle.world_rules.proofs.Standing.{total, Standing}
use Rattle.world_rules.proofs.Shifting.{Hold, hold_of, held, Stays, Shift, shifted}
use Rattle.world_rules.proofs.Moving.{shift_scratch, shift_pushed, shift_taken, shift_dropped}

-- THE SAME HOLDINGS

total_held : (k : ℕ) (process other : ℕ → Process) (n : ℕ) → ((q : ℕ) → hold_of (other q) ≡ hold_of (process q)) → total k other n ≡ total k process n
total_held k process other zero same = refl
total_held k process other (suc n) same =
    ap (λ (t : ℕ). t + times k (held_handles (other (suc n)))) (total_held k process other n same)
    ∙ ap (λ (x : Hold). total k process n + times k (held x)) (same (suc n))

-- where each process holds what it held, all stands as before
pub same_holds : (h : Handled) (process other : ℕ → Process) (numbers : ℕ) (closed : List ℕ) (streams sends : ℕ) (flight : List ℕ)
    → Standing h process numbers closed streams sends flight → ((q : ℕ) → hold_of (other q) ≡ hold_of (process q))
    → Standing h other numbers closed streams sends flight
same_holds h process other numbers closed streams sends flight stands same = record {
  each = λ q. subst (λ (x : Hold). Stays h.owner sends q x) (sym (same q)) (stands.each q);
  shut = stands.shut;
  flying = stands.flying;
  none = stands.none;
  some = stands.some;
  drawn = stands.drawn;
  order = stands.order;
  once = λ k. ap (λ (t : ℕ). t + times k closed + times k flight) (total_held k process other numbers same) ∙ stands.once k;
}

put_same : (process : ℕ → Process) (pid : ℕ) (p r : Process) → hold_of r ≡ hold_of p → (q : ℕ) → hold_of (put process pid r q) ≡ hold_of (put process pid p q)
put_same process pid p r same q = by (nat_eq q pid)
  where
    by : (b : Bool) → hold_of (if b then r else process q) ≡ hold_of (if b then p else process q)
    by true = same
    by false = refl

-- one process that holds what another held in its place
pub same_put : (h : Handled) (process : ℕ → Process) (numbers : ℕ) (closed : List ℕ) (streams sends : ℕ) (flight : List ℕ) (pid : ℕ) (p r : Process)
    → Standing h (put process pid p) numbers closed streams sends flight → hold_of r ≡ hold_of p
    → Standing h (put process pid r) numbers closed streams sends flight
same_put h process numbers closed streams sends flight pid p r stands same =
    same_holds h (put process pid p) (put process pid r) numbers closed streams sends flight stands (put_same process pid p r same)

-- the closed streams told otherwise
pub same_closed : (h : Handled) (process : ℕ → Process) (numbers : ℕ) (closed other : List ℕ) (streams sends : ℕ) (flight : List ℕ)
    → Standing h process numbers closed streams sends flight → closed ≡ other → Standing h process numbers other streams sends flight
same_closed h process numbers closed other streams sends flight stands same =
    subst (λ (xs : List ℕ). Standing h process numbers xs streams sends flight) same stands

-- PARTS

bytes_slots : (change : Message → Message) (scratch : Option Scratch) → ((m : Message) → (change m).slots ≡ m.slots)
    → slots_of (option_map (λ (s : Scratch). record s { message = change s.message }) scratch) ≡ slots_of scratch
bytes_slots change None same = refl
bytes_slots change (Some s) same = same s.message

read_slots : (place : ℕ) (scratch : Option Scratch) → slots_of (option_map (λ (s : Scratch). record s { read_place = place }) scratch) ≡ slots_of scratch
read_slots place None = refl
read_slots place (Some s) = refl

-- what a part holds, beside a mailbox
abbrev pub part_hold : Part → List MailItem → Hold
part_hold part box = record { handles = part.handles; slots = slots_of part.scratch; box = box }

abbrev holding : List ℕ → List (Option ℕ) → List MailItem → Hold
holding handles slots box = record { handles = handles; slots = slots; box = box }

write_hold : (scratch : Option Scratch) (request : Request) (part : Part) (box : List MailItem)
    → part_hold (option_map_or (after_write request part) scratch part) box ≡ part_hold part box
write_hold None request part box = refl
write_hold (Some s) request part box =
    ap (λ (slots : List (Option ℕ)). holding part.handles slots box) (bytes_slots (λ (m : Message). record m { bytes = m.bytes ++ written_bytes s request }) part.scratch (λ m. refl))

read_hold : (scratch : Option Scratch) (request : Request) (part : Part) (box : List MailItem)
    → part_hold (option_map_or (after_read request part) scratch part) box ≡ part_hold part box
read_hold None request part box = refl
read_hold (Some s) request part box =
    ap (λ (slots : List (Option ℕ)). holding part.handles slots box) (read_slots (s.read_place + length (read_bytes s request)) part.scratch)

seek_hold : (place : ℕ) (part : Part) (box : List MailItem) → part_hold (read_to place part) box ≡ part_hold part box
seek_hold place part box = ap (λ (slots : List (Option ℕ)). holding part.handles slots box) (read_slots place part.scratch)

push_hold : (handle : ℕ) (part : Part) (box : List MailItem) → is_some part.scratch ≡ true
    → part_hold (after_push handle part) box ≡ holding (without_number handle part.handles) (slots_of part.scratch ++ Some handle ∷ []) box
push_hold handle part box there =
    ap (λ (slots : List (Option ℕ)). holding (without_number handle part.handles) slots box) (by part.scratch there)
  where
    by : (scratch : Option Scratch) → is_some scratch ≡ true →
        slots_of (option_map (λ (s : Scratch). record s { message = record s.message { slots = s.message.slots ++ Some handle ∷ [] } }) scratch) ≡ slots_of scratch ++ Some handle ∷ []
    by None there = false_is_true there
    by (Some s) there = refl

take_hold : (place handle : ℕ) (part : Part) (box : List MailItem) → handle_at (slots_of part.scratch) place ≡ Some handle
    → part_hold (after_take place part handle) box ≡ holding (with_number handle part.handles) (emptied (slots_of part.scratch) place) box
take_hold place handle part box there =
    ap (λ (slots : List (Option ℕ)). holding (with_number handle part.handles) slots box) (by part.scratch there)
  where
    by : (scratch : Option Scratch) → handle_at (slots_of scratch) place ≡ Some handle →
        slots_of (option_map (λ (s : Scratch). record s { message = record s.message { slots = emptied s.message.slots place } }) scratch) ≡ emptied (slots_of scratch) place
    by None there = absurd (none_is_some there)
    by (Some s) there = refl

-- FAULTS

no_fault : (b : Bool) (fault : HostFault) → unless b fault ≡ None → b ≡ true
no_fault true fault e = refl
no_fault false fault e = absurd (none_is_some (sym e))

first_none : (a b : Option HostFault) → option_or a b ≡ None → (a ≡ None) × (b ≡ None)
first_none None b e = (refl, e)
first_none (Some fault) b e = absurd (none_is_some (sym e))

judged_none : (fault : Option HostFault) → judgement_of fault ≡ Fit → fault ≡ None
judged_none None e = refl
judged_none (Some fault) e = cc

fit_none : (fits cheap : Bool) (fault : Option HostFault)
    → (if fits then (if cheap then judgement_of fault else Overdrawn) else Faulty FaultIs.BadPointer) ≡ Fit → fault ≡ None
fit_none true true fault e = judged_none fault e
fit_none true false fault e = cc
fit_none false cheap fault e = cc

handle_there : (o : Option ℕ) → is_some o ≡ true → (handle : ℕ) × (o ≡ Some handle)
handle_there None e = false_is_true e
handle_there (Some handle) e = (handle, refl)

-- moves and further moves
pub handled_append : (h : Handled) (xs ys : List Move) → handled_after h (xs ++ ys) ≡ handled_after (handled_after h xs) ys
handled_append h [] ys = refl
handled_append h (x ∷ xs) ys = handled_append (after_one h x) xs ys

-- ONE CALL

module _ (process : ℕ → Process) (numbers : ℕ) (streams sends : ℕ) (pid : ℕ) (p : Process) (low : 0 < pid) (high : pid ≤ numbers) where
  abbrev Is : Handled → Part → List ℕ → Type 0
  Is h part closed = Standing h (put process pid (record p { part = part })) numbers closed streams sends []

  quiet_call : (h : Handled) (closed : List ℕ) (part after : Part) → Is h part closed → part_hold after p.mail ≡ part_hold part p.mail → Is h after (closed ++ [])
  quiet_call h closed part after stands same =
      same_closed h (put process pid (record p { part = after })) numbers closed (closed ++ []) streams sends []
      (same_put h process numbers closed streams sends [] pid (record p { part = part }) (record p { part = after }) stands same) (sym (append-nil closed))

  moved_call : (h after : Handled) (closed : List ℕ) (part new : Part) (x : Hold) (extra : List ℕ) → Is h part closed
      → Shift h after pid (hold_of (record p { part = part })) x extra streams streams sends sends [] [] → part_hold new p.mail ≡ x
      → Is after new (closed ++ extra)
  moved_call h after closed part new x extra stands shift same =
      shifted h after process numbers closed streams streams sends sends [] [] pid (record p { part = part }) (record p { part = new }) extra low high stands
      (subst (λ (y : Hold). Shift h after pid (hold_of (record p { part = part })) y extra streams streams sends sends [] []) (sym same) shift)

  push_call : (h : Handled) (closed : List ℕ) (part : Part) (request : Request) → push_fault part (arg request 0) ≡ None → Is h part closed
      → Is (handled_after h (local_moves (Some CallIs.PushStream) pid part request)) (after_push (arg request 0) (charged request part)) (closed ++ [])
  push_call h closed part request fits stands =
      let some : is_some part.scratch ≡ true =
      no_fault (is_some part.scratch) FaultIs.NoMessage (first_none (needs_message part) (option_or (needs_handle part (arg request 0))
      (unless (nat_lt (length (slots_of part.scratch)) most_slots) FaultIs.PlacesFull)) fits).0 in
      let there : is_among part.handles (arg request 0) ≡ true =
      no_fault (is_among part.handles (arg request 0)) FaultIs.NoSuchHandle (first_none (needs_handle part (arg request 0))
      (unless (nat_lt (length (slots_of part.scratch)) most_slots) FaultIs.PlacesFull)
      (first_none (needs_message part) (option_or (needs_handle part (arg request 0))
      (unless (nat_lt (length (slots_of part.scratch)) most_slots) FaultIs.PlacesFull)) fits).1).0 in
      moved_call h (handled_after h (local_moves (Some CallIs.PushStream) pid part request)) closed part (after_push (arg request 0) (charged request part))
      (holding (without_number (arg request 0) part.handles) (slots_of part.scratch ++ Some (arg request 0) ∷ []) p.mail) [] stands
      (shift_pushed h process numbers closed streams sends [] pid (record p { part = part }) stands (arg request 0) there)
      (push_hold (arg request 0) (charged request part) p.mail some)

  take_call : (h : Handled) (closed : List ℕ) (part : Part) (request : Request) → take_fault part (arg request 0) ≡ None → Is h part closed
      → Is (handled_after h (local_moves (Some CallIs.TakeStream) pid part request))
      (option_map_or (after_take (arg request 0) (charged request part)) (handle_at (slots_of part.scratch) (arg request 0)) (charged request part)) (closed ++ [])
  take_call h closed part request fits stands =
      let place : ℕ = arg request 0 in
      let full : Option HostFault = unless (nat_lt (length part.handles) most_handles) FaultIs.TableFull in
      let empty : Option HostFault = unless (is_some (handle_at (slots_of part.scratch) place)) FaultIs.EmptyPlace in
      let some : is_some (handle_at (slots_of part.scratch) place) ≡ true =
      no_fault (is_some (handle_at (slots_of part.scratch) place)) FaultIs.EmptyPlace
      (first_none empty full (first_none (needs_message part) (option_or empty full) fits).1).0 in
      let found = handle_there (handle_at (slots_of part.scratch) place) some in
      moved_call h (handled_after h (local_moves (Some CallIs.TakeStream) pid part request)) closed part
      (option_map_or (after_take place (charged request part)) (handle_at (slots_of part.scratch) place) (charged request part))
      (holding (with_number found.0 part.handles) (emptied (slots_of part.scratch) place) p.mail) [] stands
      (shift_taken h process numbers closed streams sends [] pid (record p { part = part }) stands place found.0 found.1)
      (ap (λ (o : Option ℕ). part_hold (option_map_or (after_take place (charged request part)) o (charged request part)) p.mail) found.1
      ∙ take_hold place found.0 (charged request part) p.mail found.1)

  drop_call : (h : Handled) (closed : List ℕ) (part : Part) (request : Request) → needs_handle part (arg request 0) ≡ None → Is h part closed
      → Is (handled_after h (local_moves (Some CallIs.DropStream) pid part request)) (with_handles (without_number (arg request 0) part.handles) (charged request part))
      (closed ++ arg request 0 ∷ [])
  drop_call h closed part request fits stands =
      let there : is_among part.handles (arg request 0) ≡ true = no_fault (is_among part.handles (arg request 0)) FaultIs.NoSuchHandle fits in
      moved_call h (handled_after h (local_moves (Some CallIs.DropStream) pid part request)) closed part
      (with_handles (without_number (arg request 0) part.handles) (charged request part))
      (holding (without_number (arg request 0) part.handles) (slots_of part.scratch) p.mail) (arg request 0 ∷ []) stands
      (shift_dropped h process numbers closed streams sends [] pid (record p { part = part }) stands (arg request 0) there) refl

  create_call : (h : Handled) (closed : List ℕ) (part : Part) (request : Request) → Is h part closed
      → Is (handled_after h (local_moves (Some CallIs.CreateData) pid part request)) (record (charged request part) { scratch = Some (unread (blank_message (arg request 0))) })
      (closed ++ scratch_handles part)
  create_call h closed part request stands =
      moved_call h (handled_after h (local_moves (Some CallIs.CreateData) pid part request)) closed part
      (record (charged request part) { scratch = Some (unread (blank_message (arg request 0))) })
      (holding part.handles [] p.mail) (scratch_handles part) stands
      (shift_scratch h process numbers closed streams sends [] pid (record p { part = part }) stands) refl

  call_stands : (call : HostCall) (h : Handled) (closed : List ℕ) (start : Start) (part : Part) (request : Request) → own_fault call part request ≡ None → Is h part closed
      → Is (handled_after h (local_moves (Some call) pid part request)) (local_part call start (charged request part) request) (closed ++ local_closings (Some call) part request)
  call_stands CallIs.CreateData h closed start part request fits stands = create_call h closed part request stands
  call_stands CallIs.WriteData h closed start part request fits stands =
      quiet_call h closed part (local_part CallIs.WriteData start (charged request part) request) stands (write_hold part.scratch request (charged request part) p.mail)
  call_stands CallIs.ReadData h closed start part request fits stands =
      quiet_call h closed part (local_part CallIs.ReadData start (charged request part) request) stands (read_hold part.scratch request (charged request part) p.mail)
  call_stands CallIs.SeekData h closed start part request fits stands =
      quiet_call h closed part (local_part CallIs.SeekData start (charged request part) request) stands (seek_hold (arg request 0) (charged request part) p.mail)
  call_stands CallIs.PushStream h closed start part request fits stands = push_call h closed part request fits stands
  call_stands CallIs.TakeStream h closed start part request fits stands = take_call h closed part request fits stands
  call_stands CallIs.DropStream h closed start part request fits stands = drop_call h closed part request fits stands
  call_stands call h closed start part request fits stands =
      quiet_call h closed part (local_part call start (charged request part) request) stands refl

  -- a local call that is answered
  answered_stands : (here : Bool) (judgement : Judgement) (call : Option HostCall) (h : Handled) (closed : List ℕ) (start : Start) (part : Part) (request : Request) (reply : Reply)
      → (judgement ≡ Fit → fault_of call part request ≡ None)
      → option_map (λ (answer : Reply × Part). answer.0) (if here then if_fit judgement (answer_of call start part request) else None) ≡ Some reply → Is h part closed
      → Is (handled_after h (local_moves call pid part request)) (part_of part (if here then if_fit judgement (answer_of call start part request) else None))
      (closed ++ local_closings call part request)
  answered_stands true Fit (Some call) h closed start part request reply fits replied stands = call_stands call h closed start part request (fits refl) stands
  answered_stands true Fit None h closed start part request reply fits replied stands = absurd (none_is_some replied)
  answered_stands true Overdrawn call h closed start part request reply fits replied stands = absurd (none_is_some replied)
  answered_stands true (Faulty fault) call h closed start part request reply fits replied stands = absurd (none_is_some replied)
  answered_stands false judgement call h closed start part request reply fits replied stands = absurd (none_is_some replied)

  pub calls_stand : (h : Handled) (closed : List ℕ) (start : Start) (part : Part) (calls : List Call) → AreLocal start part calls → Is h part closed
      → Is (handled_after h (moves_of pid start part calls)) (part_after start part calls) (closed ++ closings_of start part calls)
  calls_stand h closed start part [] are stands =
      same_closed h (put process pid (record p { part = part })) numbers closed (closed ++ []) streams sends [] stands (sym (append-nil closed))
  calls_stand h closed start part (call ∷ calls) are stands =
      let request : Request = call.request in
      let next : Part = part_of part (local start part request) in
      let moves : List Move = local_moves (call_of request) pid part request in
      let shut : List ℕ = local_closings (call_of request) part request in
      let one : Is (handled_after h moves) next (closed ++ shut) =
      answered_stands (is_local request) (judge start part request) (call_of request) h closed start part request call.reply
      (λ fit. fit_none request.fits (nat_le (part.traffic + cost_of request) start.limits.traffic) (fault_of (call_of request) part request) fit) are.0 stands in
      let rest : Is (handled_after (handled_after h moves) (moves_of pid start next calls)) (part_after start next calls) (closed ++ shut ++ closings_of start next calls) =
      calls_stand (handled_after h moves) (closed ++ shut) start next calls are.1 one in
      subst (λ (g : Handled). Is g (part_after start next calls) (closed ++ (shut ++ closings_of start next calls))) (sym (handled_append h moves (moves_of pid start next calls)))
      (subst (λ (xs : List ℕ). Is (handled_after (handled_after h moves) (moves_of pid start next calls)) (part_after start next calls) xs)
      (append_assoc closed shut (closings_of start next calls)) rest)
