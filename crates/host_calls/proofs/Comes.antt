-- What comes beside the ask of a turn.
use Rattle.std.proofs.Common.{◌≡◌, ◌≢◌, ℕ, ◌+◌, ◌<◌, ◌≤◌, ◌&&◌, ◌||◌, Bool, true, false, cond, not, nat_eq, find, option_map, map, slice_get, get_or, if◌then◌else◌, List, [], ◌∷◌, Option, Some, None, IfSome, IsSome, refl, sym, ◌∙◌, ap, subst, arith}
use Rattle.std.specs.List.{list_all, list_any, range_with_len}
use Rattle.std.specs.Option.{option_map_or}
use Rattle.std.specs.Prelude.{IsSomeAnd}
use Rattle.std.proofs.lemmas.Option.{slice_get-get_or, slice_get-map, slice_get_within}
use Rattle.std.proofs.lemmas.List.FromFn.{get_or-range_with_len}
use Rattle.outside.specs.Makes.{GoesNotBack}
use Rattle.host_port.specs.declared.ask.Ask.{Ask}
use Rattle.host_port.specs.declared.request.Request.{Request}
use Rattle.host_port.specs.declared.row.Kind.{Kind}
use Rattle.host_port.specs.declared.row.MayCome.{MayCome}
use Rattle.host_port.specs.declared.row.MayCome.TheVariants as comes
use Rattle.host_port.specs.Areas.{request_of}
use Rattle.host_port.specs.HostTable.{Row, all_rows, known_row_of, row_of, may_come_of, is_served}
use Rattle.world_rules.specs.declared.entry.Side.{Side}
use Rattle.world_rules.specs.declared.entry.Side.TheVariants as SideIs
use Rattle.world_rules.specs.declared.halt.HostFault.{HostFault}
use Rattle.world_rules.specs.Calls.{HostCall, all_calls, call_of, call_numbered}
use Rattle.world_rules.specs.Calls as CallIs
use Rattle.world_rules.specs.Views.{answer_in, clock_in, is_pending, is_opened}
use Rattle.world_rules.specs.Kinds.{kind_of, may_come}
use Rattle.world_rules.specs.Judge.{fault_of}
use Rattle.world_rules.specs.Part.{Part}
use Rattle.world_rules.specs.Settled.{settled, ListenerBound}
use Rattle.world_rules.specs.World.{World, first_world}
use Rattle.world_rules.specs.Allowed.{SideFits, PendingFits}
use Rattle.node_state.specs.Seats.{IsAsked, IsOwed}
use Rattle.node_state.specs.Fits.{is_outside, is_from_outside, kept_ask, with_bound, is_bound}
use Rattle.host_calls.specs.Outsides.{Telling, OutsideGives, OutsideKeeps, IsTimeOf, failures_in, waits_in, is_making, is_accept}
use Rattle.host_calls.specs.Turning.{IsTimeFor}
use Rattle.host_calls.proofs.Served.{AllOf, among, kept_ask_is}

-- THE OUTSIDE'S ROWS

abbrev pub is_answer : Option MayCome → Bool
is_answer None = false
is_answer (Some comes.Nothing) = false
is_answer (Some comes.Clock) = false
is_answer (Some (comes.Answer pending opened)) = true

-- where the outside is to answer an answer may come
abbrev answers : Row → Bool
answers row = not (is_outside (Some row.kind)) || is_answer (Some row.may_come)

all_answer : list_all answers all_rows ≡ true
unfolding all_rows
all_answer = refl

and_true : (a b : Bool) → (a && b) ≡ true → (a ≡ true) × (b ≡ true)
and_true true b is = (refl, is)
and_true false b is = absurd (cc)

or_true : (a b : Bool) → (not a || b) ≡ true → a ≡ true → b ≡ true
or_true true b is there = is
or_true false b is there = absurd (cc)

found_answers : (test : Row → Bool) (rows : List Row) → list_all answers rows ≡ true →
    is_outside (option_map (λ (row : Row). row.kind) (find test rows)) ≡ true → is_answer (option_map (λ (row : Row). row.may_come) (find test rows)) ≡ true
found_answers test [] all there = absurd (cc)
found_answers test (row ∷ rows) all there =
    let both = and_true (answers row) (list_all answers rows) all in
    by (test row) (find test rows) both.0 (found_answers test rows both.1) there
  where
    by : (b : Bool) (rest : Option Row) → answers row ≡ true →
        (is_outside (option_map (λ (r : Row). r.kind) rest) ≡ true → is_answer (option_map (λ (r : Row). r.may_come) rest) ≡ true) →
        is_outside (option_map (λ (r : Row). r.kind) (cond b (Some row) rest)) ≡ true → is_answer (option_map (λ (r : Row). r.may_come) (cond b (Some row) rest)) ≡ true
    by true rest here later is = or_true (is_outside (Some row.kind)) (is_answer (Some row.may_come)) here is
    by false rest here later is = later is

pub outside_answers : (request : Request) → is_outside (kind_of request) ≡ true → is_answer (may_come request) ≡ true
unfolding known_row_of
outside_answers request there = found_answers (λ (row : Row). nat_eq row.call request.ask.call) all_rows all_answer there

-- SIDES

-- beside a call of the outside comes no time, and not the refusal of memory
pub fits_answer : (may : Option MayCome) (w : World) (pid : ℕ) (part : Part) (request : Request) (side : Side) → is_answer may ≡ true → SideFits may w pid part request side →
    (clock_in side ≡ None) × (side ≢ SideIs.NoMemory) × (is_from_outside side ≡ true)
fits_answer None w pid part request side is fits = absurd (cc)
fits_answer (Some comes.Nothing) w pid part request side is fits = absurd (cc)
fits_answer (Some comes.Clock) w pid part request side is fits = absurd (cc)
fits_answer (Some (comes.Answer true true)) w pid part request SideIs.Nothing is fits = absurd fits
fits_answer (Some (comes.Answer true true)) w pid part request (SideIs.Clock now) is fits = absurd fits
fits_answer (Some (comes.Answer true true)) w pid part request SideIs.Pending is fits = (refl, λ e. cc, refl)
fits_answer (Some (comes.Answer true true)) w pid part request (SideIs.Answer reply) is fits = (refl, λ e. cc, refl)
fits_answer (Some (comes.Answer true true)) w pid part request SideIs.Opened is fits = (refl, λ e. cc, refl)
fits_answer (Some (comes.Answer true true)) w pid part request SideIs.NoMemory is fits = absurd fits
fits_answer (Some (comes.Answer true false)) w pid part request SideIs.Nothing is fits = absurd fits
fits_answer (Some (comes.Answer true false)) w pid part request (SideIs.Clock now) is fits = absurd fits
fits_answer (Some (comes.Answer true false)) w pid part request SideIs.Pending is fits = (refl, λ e. cc, refl)
fits_answer (Some (comes.Answer true false)) w pid part request (SideIs.Answer reply) is fits = (refl, λ e. cc, refl)
fits_answer (Some (comes.Answer true false)) w pid part request SideIs.Opened is fits = absurd fits
fits_answer (Some (comes.Answer true false)) w pid part request SideIs.NoMemory is fits = absurd fits
fits_answer (Some (comes.Answer false true)) w pid part request SideIs.Nothing is fits = absurd fits
fits_answer (Some (comes.Answer false true)) w pid part request (SideIs.Clock now) is fits = absurd fits
fits_answer (Some (comes.Answer false true)) w pid part request SideIs.Pending is fits = absurd fits
fits_answer (Some (comes.Answer false true)) w pid part request (SideIs.Answer reply) is fits = (refl, λ e. cc, refl)
fits_answer (Some (comes.Answer false true)) w pid part request SideIs.Opened is fits = (refl, λ e. cc, refl)
fits_answer (Some (comes.Answer false true)) w pid part request SideIs.NoMemory is fits = absurd fits
fits_answer (Some (comes.Answer false false)) w pid part request SideIs.Nothing is fits = absurd fits
fits_answer (Some (comes.Answer false false)) w pid part request (SideIs.Clock now) is fits = absurd fits
fits_answer (Some (comes.Answer false false)) w pid part request SideIs.Pending is fits = absurd fits
fits_answer (Some (comes.Answer false false)) w pid part request (SideIs.Answer reply) is fits = (refl, λ e. cc, refl)
fits_answer (Some (comes.Answer false false)) w pid part request SideIs.Opened is fits = absurd fits
fits_answer (Some (comes.Answer false false)) w pid part request SideIs.NoMemory is fits = absurd fits

pub fits_pending : (may : Option MayCome) (w : World) (pid : ℕ) (part : Part) (request : Request) → SideFits may w pid part request SideIs.Pending → PendingFits (call_of request) part request
fits_pending None w pid part request fits = absurd fits
fits_pending (Some comes.Nothing) w pid part request fits = absurd fits
fits_pending (Some comes.Clock) w pid part request fits = absurd fits
fits_pending (Some (comes.Answer true true)) w pid part request fits = fits
fits_pending (Some (comes.Answer true false)) w pid part request fits = fits
fits_pending (Some (comes.Answer false true)) w pid part request fits = absurd fits
fits_pending (Some (comes.Answer false false)) w pid part request fits = absurd fits

pub time_none : (clock : Option ℕ) (side : Side) → clock_in side ≡ None → IsTimeOf clock side
time_none clock side none = rw none tt

-- A LISTENER THAT WAS BOUND

-- a bind is never faulty, and no other call changes the part
bound_by : (o : Option HostCall) (part : Part) (request : Request) (side : Side) → fault_of o part request ≡ None →
    fault_of o (if is_bound o side then settled part ListenerBound else part) request ≡ None
bound_by None part request side none = none
bound_by (Some CallIs.Bind) part request side none = refl
bound_by (Some _) part request side none = none

pub asked_bound : (memory : List ℕ) (part after : Part) (ask : Ask) (side : Side) → after ≡ with_bound (Some (request_of memory ask)) side part → IsAsked memory part ask → IsAsked memory after ask
asked_bound memory part after ask side is asked = record {
  fits = asked.fits;
  faultless = subst (λ (q : Part). fault_of (call_of (request_of memory ask)) q (request_of memory ask) ≡ None) (sym is)
      (bound_by (call_of (request_of memory ask)) part (request_of memory ask) side asked.faultless);
}

unbound_by : (o : Option HostCall) (side : Side) → answer_in side ≡ None → is_bound o side ≡ false
unbound_by None side none = refl
unbound_by (Some CallIs.Bind) side none = rw none refl
unbound_by (Some _) side none = refl

pub unbound : (request : Request) (side : Side) (part : Part) → answer_in side ≡ None → with_bound (Some request) side part ≡ part
unbound request side part none = rw (unbound_by (call_of request) side none) refl

-- one that can't be answered yet is owed
pub owed_bound : (memory : List ℕ) (part after : Part) (ask : Ask) (side : Side) → after ≡ with_bound (Some (request_of memory ask)) side part → IsAsked memory part ask →
    (w : World) (pid : ℕ) → SideFits (may_come (request_of memory ask)) w pid part (request_of memory ask) side → side ≡ SideIs.Pending → IsOwed memory after ask
owed_bound memory part after ask side is asked w pid fits pending =
    let request = request_of memory ask in
    let same : after ≡ part = is ∙ unbound request side part (ap answer_in pending) in
    let here : SideFits (may_come request) w pid part request SideIs.Pending = subst (λ (s : Side). SideFits (may_come request) w pid part request s) pending fits in
    record {
      asked = asked_bound memory part after ask side is asked;
      pending = subst (λ (q : Part). PendingFits (call_of request) q request) (sym same) (fits_pending (may_come request) w pid part request here);
    }

-- WHAT IS OWED IS THE OUTSIDE'S

abbrev pub is_pendable : HostCall → Bool
is_pendable CallIs.Accept = true
is_pendable CallIs.ReadStream = true
is_pendable CallIs.WriteStream = true
is_pendable _ = false

abbrev pendable_numbers : List ℕ
pendable_numbers = 29 ∷ 31 ∷ 32 ∷ []

all_alike : map is_pendable all_calls ≡ map (λ n. list_any (λ m. nat_eq m n) pendable_numbers) (range_with_len 0 36)
all_alike = refl

pendable_fits : (call : HostCall) (part : Part) (request : Request) → PendingFits (Some call) part request → is_pendable call ≡ true
pendable_fits CallIs.Accept part request fits = refl
pendable_fits CallIs.ReadStream part request fits = refl
pendable_fits CallIs.WriteStream part request fits = refl
pendable_fits _ part request fits = absurd fits

numbered : (number : ℕ) → number < 36 → slice_get (range_with_len 0 36) number ≡ Some number
numbered number within =
    let found = slice_get-get_or (range_with_len 0 36) number 0 within in
    let is : get_or (range_with_len 0 36) number 0 ≡ number = get_or-range_with_len 0 36 number 0 within ∙ omega arith in
    found ∙ ap (λ (n : ℕ). Some n) is

pendable_number : (number : ℕ) (call : HostCall) → call_numbered number ≡ Some call → is_pendable call ≡ true → list_any (λ m. nat_eq m number) pendable_numbers ≡ true
pendable_number number call at pendable =
    let within : number < 36 = slice_get_within all_calls number call at in
    let same : Some (is_pendable call) ≡ Some (list_any (λ m. nat_eq m number) pendable_numbers) =
    ap (option_map is_pendable) (sym at) ∙ sym (slice_get-map is_pendable all_calls number)
    ∙ ap (λ (tests : List Bool). slice_get tests number) all_alike
    ∙ slice_get-map (λ n. list_any (λ m. nat_eq m n) pendable_numbers) (range_with_len 0 36) number
    ∙ ap (option_map (λ n. list_any (λ m. nat_eq m n) pendable_numbers)) (numbered number within) in
    cc

abbrev IsOutsides : ℕ → Type 0
IsOutsides call = is_outside (option_map (λ (row : Row). row.kind) (known_row_of call)) ≡ true

outsides : AllOf IsOutsides pendable_numbers
unfolding known_row_of all_rows
outsides = (refl, (refl, (refl, tt)))

pending_so : (G : ℕ → Type 0) → AllOf G pendable_numbers → (o : Option HostCall) (number : ℕ) (part : Part) (request : Request) → call_numbered number ≡ o → PendingFits o part request → G number
pending_so G each None number part request at fits = absurd fits
pending_so G each (Some call) number part request at fits = among G pendable_numbers number each (pendable_number number call at (pendable_fits call part request fits))

abbrev IsThere : ℕ → Type 0
IsThere call = IsSome (row_of call)

there : AllOf IsThere pendable_numbers
unfolding row_of all_rows is_served
there = (refl, (refl, (refl, tt)))

pub owed_outside : (memory : List ℕ) (part : Part) (ask : Ask) → IsOwed memory part ask → is_outside (kind_of (request_of memory ask)) ≡ true
owed_outside memory part ask owed = pending_so IsOutsides outsides (call_of (request_of memory ask)) ask.call part (request_of memory ask) refl owed.pending

pub owed_there : (memory : List ℕ) (part : Part) (ask : Ask) → IsOwed memory part ask → IsSome (row_of ask.call)
owed_there memory part ask owed = pending_so IsThere there (call_of (request_of memory ask)) ask.call part (request_of memory ask) refl owed.pending

-- what comes where a request is tried again is the outside's
pub owed_side : (memory : List ℕ) (part : Part) (ask : Ask) (side : Side) → IsOwed memory part ask →
    ((w : World) (pid : ℕ) → SideFits (may_come (request_of memory ask)) w pid part (request_of memory ask) side) → is_from_outside side ≡ true
owed_side memory part ask side owed fits =
    (fits_answer (may_come (request_of memory ask)) (first_world []) 0 part (request_of memory ask) side (outside_answers (request_of memory ask) (owed_outside memory part ask owed))
    (fits (first_world []) 0)).2

-- THE CLOCK, OR NOTHING

no_fault : (a : Bool) → ◌≡◌ {A = ℕ} (cond (a && false) 1 0) 0
no_fault true = refl
no_fault false = refl

clock_stays : (old new : Option ℕ) → new ≡ old → GoesNotBack old new
clock_stays None new is = is
clock_stays (Some time) new is = rw is (le_same time)
  where
    le_same : (n : ℕ) → n ≤ n
    le_same n = omega arith

-- nothing was asked of the outside but the time
pub gives_nothing : (old new : Telling) → OutsideKeeps old new → OutsideGives old new None SideIs.Nothing
gives_nothing old new keeps = record {
  faults = let e = keeps.faults in omega (arith, e);
  waits = let e = keeps.waits in omega (arith, e);
  rests = keeps.rests;
  clock = clock_stays old.clock new.clock keeps.clock;
}

pub gives_time : (old new : Telling) (request : Request) (clock : Option ℕ) (call : ℕ) (side : Side) → IsTimeFor clock call side → OutsideKeeps old new → OutsideGives old new (Some request) side
gives_time old new request clock call SideIs.Nothing is keeps = record {
  faults = let e = keeps.faults in let n = no_fault (is_making (call_of request)) in omega (arith, e, n);
  waits = let e = keeps.waits in let n = no_fault (is_accept (call_of request)) in omega (arith, e, n);
  rests = keeps.rests;
  clock = clock_stays old.clock new.clock keeps.clock;
}
gives_time old new request clock call (SideIs.Clock now) is keeps = record {
  faults = let e = keeps.faults in let n = no_fault (is_making (call_of request)) in omega (arith, e, n);
  waits = let e = keeps.waits in let n = no_fault (is_accept (call_of request)) in omega (arith, e, n);
  rests = keeps.rests;
  clock = clock_stays old.clock new.clock keeps.clock;
}
gives_time old new request clock call SideIs.Pending is keeps = absurd is
gives_time old new request clock call (SideIs.Answer reply) is keeps = absurd is
gives_time old new request clock call SideIs.Opened is keeps = absurd is
gives_time old new request clock call SideIs.NoMemory is keeps = absurd is

pub keeps_same : (t : Telling) → OutsideKeeps t t
keeps_same t = record { faults = refl; waits = le_same t.waits; rests = le_same t.rests; clock = refl }
  where
    le_same : (n : ℕ) → n ≤ n
    le_same n = omega arith

-- the ask of a request that is tried again is kept
pub kept_again : (memory : List ℕ) (ask : Ask) (owed : Option Ask) → is_outside (kind_of (request_of memory ask)) ≡ true → owed ≡ kept_ask (request_of memory ask) → owed ≡ Some ask
kept_again memory ask owed outside kept = kept ∙ kept_ask_is (request_of memory ask) outside

-- after a turn that asked nothing the outside is as it was
pub gives_plain : (t : Telling) (wanted : Option Request) → wanted ≡ None → OutsideGives t t wanted SideIs.Nothing
gives_plain t wanted none = subst (λ (o : Option Request). OutsideGives t t o SideIs.Nothing) (sym none) (gives_nothing t t (keeps_same t))
