-- Lemmas on runs. They stand here since the proof of a law that `Engine` asks cites files of specs/ alone.
use Rattle.std.proofs.Common.{◌≡◌, ◌≢◌, ◌≤◌, ◌<◌, ℕ, suc, ◌+◌, ◌&&◌, IsSome, List, [], ◌∷◌, Option, Some, None, true, false, Bool, cond, nat_le, is_none, slice_get, option_map, option_and_then, arith, refl, ◌∙◌, add-one}
use Rattle.std.proofs.lemmas.Bool.Decides.{nat_tests}
use Rattle.host_port.specs.Standing.{State, Ready, Asking, Finished, Trapped, Exhausted}
use Rattle.host_port.specs.declared.call.Call.{Call}
use Rattle.host_port.specs.declared.start.Start.{Start}
use Rattle.host_port.specs.declared.start.StartRefusal.{StartRefusal}
use Rattle.host_port.specs.declared.start.StartRefusal.TheVariants.{NoMemory, BadParams, PagesOver, SegmentOut}
use Rattle.wasm_form.specs.declared.parts.Parts.{Parts}
use Rattle.tree_machine.specs.Functions.{Function}
use Rattle.tree_machine.specs.Config.{Config}
use Rattle.tree_machine.specs.Point.{Point, point, shown}
use Rattle.tree_machine.specs.Step.{step}
use Rattle.tree_machine.specs.Begin.{begin, begun, refusal_of, has_params, least_pages}
use Rattle.tree_machine.specs.Instantiation.{segments_lie_in}
use Rattle.wasm_form.specs.Context.{memories_of}
use Rattle.tree_machine.specs.Run.{Course, course, answer, advance, run, used_up, all_used, point_at, at}

no_memory_of : (params pages segments : Bool) →
    cond params (cond pages (cond segments None (Some SegmentOut)) (Some PagesOver)) (Some BadParams) ≢ Some NoMemory
no_memory_of true true true e = absurd (cc)
no_memory_of true true false e = absurd (cc)
no_memory_of true false segments e = absurd (cc)
no_memory_of false pages segments e = absurd (cc)

refused_for : (function : Option Function) (m : Parts) (start : Start) → refusal_of function m start ≢ Some NoMemory
refused_for None m start e = absurd (cc)
refused_for (Some function) m start e =
    no_memory_of (has_params function start.params) (nat_le (least_pages (slice_get (memories_of m) 0)) start.limits.pages)
    (segments_lie_in start.limits.pages m) e

-- want of memory is no refusal of the begin
pub begin_wants_no_memory : (m : Parts) (start : Start) → begin m start ≢ Some NoMemory
unfolding begin
begin_wants_no_memory m start = refused_for _ m start

-- without calls a run may stand at its begin, whatever the state is
pub answer_none : (m : Parts) (s : State) (c : Config) → answer m s c [] ≡ Some (course [] (point s c))
answer_none m Ready c = refl
answer_none m (Asking ask) c = refl
answer_none m Finished c = refl
answer_none m (Trapped trap) c = refl
answer_none m (Exhausted spent) c = refl

-- what is not refused has a run
pub begun_has_a_run : (m : Parts) (start : Start) → begin m start ≡ None → IsSome (at m start [] 0)
unfolding at point_at run
begun_has_a_run m start begins =
    let low : nat_le 0 start.limits.fuel ≡ true = grind (arith, nat_tests) in
    rw (begins, low, answer_none m (begun m start).state (begun m start).config) refl

-- what is refused has no run
pub refused_has_no_run : (m : Parts) (start : Start) (why : StartRefusal) (calls : List Call) (n : ℕ) →
    begin m start ≡ Some why → at m start calls n ≡ None
unfolding at point_at
refused_has_no_run m start why calls n refused = rw refused refl

both_hold : {A : Type 0} (a b : Bool) (o : Option A) (x : A) → cond (a && b) o None ≡ Some x → (a ≡ true) × (b ≡ true) × (o ≡ Some x)
both_hold true true o x h = (refl, refl, h)
both_hold true false o x h = absurd (cc)
both_hold false b o x h = absurd (cc)

none_is : {A : Type 0} (o : Option A) → is_none o ≡ true → o ≡ None
none_is None h = refl
none_is (Some x) h = absurd (cc)

some_before : {A B : Type 0} (f : A → B) (o : Option A) → IsSome (option_map f o) → (x : A) × (o ≡ Some x)
some_before f None h = absurd (cc)
some_before f (Some x) h = (x, refl)

-- what a run at a point says
pub record IsAt (m : Parts) (start : Start) (calls : List Call) (n : ℕ) (p : Point) : Type 0 where
  pub begins : begin m start ≡ None
  pub fueled : n ≤ start.limits.fuel
  pub runs : run m start calls n ≡ Some (course [] p)

used_up_is : (q : Point) (left : List Call) (p : Point) → used_up q left ≡ Some p → (q ≡ p) × (left ≡ [])
used_up_is q [] p h = (cc, refl)
used_up_is q (call ∷ left) p h = absurd (cc)

all_used_is : (o : Option Course) (p : Point) → option_and_then all_used o ≡ Some p → o ≡ Some (course [] p)
all_used_is None p h = absurd (cc)
all_used_is (Some r) p h = let both = used_up_is r.place r.left p h in let q : r.place ≡ p = both.0 in let l : r.left ≡ [] = both.1 in
    let same : Some (course r.left r.place) ≡ Some (course [] p) = cc in same

-- a run at a point is not refused, keeps to the fuel, and has used its calls
pub at_point : (m : Parts) (start : Start) (calls : List Call) (n : ℕ) (p : Point) → point_at m start calls n ≡ Some p → IsAt m start calls n p
unfolding point_at
at_point m start calls n p h =
    let both = both_hold (is_none (begin m start)) (nat_le n start.limits.fuel) _ p h in
    let low : nat_le n start.limits.fuel ≡ true = both.1 in
    record {
      begins = none_is (begin m start) both.0;
      fueled = grind (arith, nat_tests);
      runs = all_used_is (run m start calls n) p both.2;
    }

-- and the other way round
pub point_of : (m : Parts) (start : Start) (calls : List Call) (n : ℕ) (o : Option Course) →
    begin m start ≡ None → n ≤ start.limits.fuel → run m start calls n ≡ o → point_at m start calls n ≡ option_and_then all_used o
unfolding point_at
point_of m start calls n o begins fueled runs =
    let low : nat_le n start.limits.fuel ≡ true = grind (arith, nat_tests) in
    rw (begins, low, runs) refl

-- a run has executed no more instructions than it may
pub keeps_to_fuel : (m : Parts) (start : Start) (calls : List Call) (n : ℕ) → IsSome (at m start calls n) → n ≤ start.limits.fuel
unfolding at
keeps_to_fuel m start calls n h =
    let some = some_before shown (point_at m start calls n) h in
    (at_point m start calls n some.0 some.1).fueled

ready_advances : (m : Parts) (c : Config) (o : Option Point) → step m c ≡ o →
    option_and_then all_used (advance m Ready c []) ≡ o
ready_advances m c None h = rw h refl
ready_advances m c (Some q) h = rw (h, answer_none m q.state q.config) refl

-- where a run is ready and has fuel left, it goes on by one step
pub goes_on : (m : Parts) (start : Start) (calls : List Call) (n : ℕ) (c : Config) →
    point_at m start calls n ≡ Some (point Ready c) → n < start.limits.fuel → point_at m start calls (n + 1) ≡ step m c
unfolding run
goes_on m start calls n c here fuel =
    let is = at_point m start calls n (point Ready c) here in
    let next : run m start calls (suc n) ≡ advance m Ready c [] = rw is.runs refl in
    rw add-one (point_of m start calls (suc n) (advance m Ready c []) is.begins (omega arith) next ∙ ready_advances m c (step m c) refl)
