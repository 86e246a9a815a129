-- What a request has that is judged fit.
use Rattle.std.proofs.Common.{◌≡◌, ℕ, ◌+◌, ◌<◌, Bool, true, false, cond, List, length, Option, Some, None, is_some, option_map, refl, ap, sym, subst, ◌∙◌, arith, ltb, nat_lt, nat_le}
use Rattle.std.specs.Option.{option_or}
use Rattle.std.proofs.lemmas.Bool.{ltb-true}
use Rattle.host_port.specs.declared.start.Start.{Start}
use Rattle.host_port.specs.declared.request.Request.{Request}
use Rattle.message_scratch.specs.Messages as Kept
use Rattle.world_rules.specs.declared.halt.HostFault.{HostFault}
use Rattle.world_rules.specs.declared.halt.HostFault.TheVariants as FaultIs
use Rattle.world_rules.specs.Calls.{HostCall, call_of}
use Rattle.world_rules.specs.Part.{Part, slots_of, handle_at, is_among}
use Rattle.world_rules.specs.Judge.{Judgement, Fit, Overdrawn, Faulty, judge, judgement_of, fault_of, own_fault, cost_of, unless, needs_message, needs_handle, push_fault, take_fault}
use Rattle.host_calls.specs.Shown.{shown_scratch}

pub none_both : {X : Type 0} (a b : Option X) → option_or a b ≡ None → (a ≡ None) × (b ≡ None)
none_both None b e = (refl, e)
none_both (Some x) b e = absurd cc

pub unless_true : (b : Bool) (fault : HostFault) → unless b fault ≡ None → b ≡ true
unless_true true fault e = refl
unless_true false fault e = absurd cc

pub push_fits : (part : Part) (handle : ℕ) → push_fault part handle ≡ None →
    (is_some part.scratch ≡ true) × (is_among part.handles handle ≡ true)
push_fits part handle fit =
    let full : Option HostFault = unless (nat_lt (length (slots_of part.scratch)) 64) FaultIs.PlacesFull in
    let outer = none_both (needs_message part) (option_or (needs_handle part handle) full) fit in
    let inner = none_both (needs_handle part handle) full outer.1 in (
      unless_true (is_some part.scratch) FaultIs.NoMessage outer.0,
      unless_true (is_among part.handles handle) FaultIs.NoSuchHandle inner.0,
    )

-- a stream that isn't in the table can't be pushed
pub no_handle : {S : Type 0} (scratch : Option (Kept.Scratch S)) (n : ℕ) (b : Bool) (other : Option HostFault) →
    Some n ≡ option_map (λ (s : Kept.Scratch S). length s.message.slots) scratch → false ≡ b →
    Some FaultIs.NoSuchHandle
    ≡ option_or (unless (is_some (shown_scratch scratch)) FaultIs.NoMessage) (option_or (unless b FaultIs.NoSuchHandle) other)
no_handle None n b other e f = absurd cc
no_handle (Some s) n b other e f = ap (λ (t : Bool). option_or (unless t FaultIs.NoSuchHandle) other) f

judged_fit : (a b : Bool) (fault : Option HostFault) →
    cond a (cond b (judgement_of fault) Overdrawn) (Faulty FaultIs.BadPointer) ≡ Fit → fault ≡ None
judged_fit true true None e = refl
judged_fit true true (Some fault) e = absurd cc
judged_fit true false fault e = absurd cc
judged_fit false b fault e = absurd cc

-- nothing is wrong with a request that is judged fit
pub faultless : (start : Start) (part : Part) (request : Request) (call : HostCall) → judge start part request ≡ Fit →
    call_of request ≡ Some call → own_fault call part request ≡ None
faultless start part request call fit at =
    let none : fault_of (call_of request) part request ≡ None =
    judged_fit request.fits (nat_le (part.traffic + cost_of request) start.limits.traffic) (fault_of (call_of request) part request) fit in
    subst (λ (o : Option HostCall). fault_of o part request ≡ None) at none
