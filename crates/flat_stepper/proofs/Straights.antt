-- Straight instructions that need no place, from where a machine stands.
use Rattle.std.proofs.Common.{◌≡◌, ◌≢◌, ◌≤◌, ◌<◌, ◌&&◌, ℕ, ◌+◌, nat_lt, Bool, true, false, cond, List, Option, Some, None, Ok, refl, sym, ◌∙◌, ap, arith}
use Rattle.std.proofs.lemmas.Bool.Decides.{nat_tests}
use Rattle.wasm_ops.specs.declared.trap.Trap.{Trap}
use Rattle.linear_memory.specs.Contents.{Contents}
use Rattle.wasm_form.specs.declared.instr.Instr.{Instr}
use Rattle.wasm_form.specs.declared.parts.Parts.{Parts}
use Rattle.code_map.specs.declared.map.CodeMap.{CodeMap}
use Rattle.tree_machine.specs.Limits.{most_values}
use Rattle.tree_machine.specs.Outcomes.{Effect, Fails}
use Rattle.tree_machine.specs.Instructions.{Plain, plain_of}
use Rattle.flat_machine.specs.Flat.{Flat}
use Rattle.flat_machine.specs.Straight.{straight}
use Rattle.flat_machine.specs.Moves.{Executes, Traps, Stuck, executes, go_straight, operands_fit, move}
use Rattle.flat_machine.specs.Shown.{moved}
use Rattle.straight_code.specs.Going.{straight_of, CanGo, GoesTo, AddsNone}
use Rattle.flat_stepper.specs.declared.within.Within.{Within}
use Rattle.flat_stepper.specs.declared.within.Spot.{Spot}
use Rattle.flat_stepper.specs.Standing.{Stands, CanStep, IsLow, is_low}
use Rattle.flat_stepper.proofs.Arrivals.{held, passed, arrives}
use Rattle.flat_stepper.proofs.Codes.{IsPlainCode}
use Rattle.flat_stepper.proofs.Raising.{straight_moves, shows}

pub low_plain : (n : ℕ) → IsLow n → IsPlainCode n
low_plain n low = (low.0, low.1, low.2, low.3, low.4, low.5, low.6, low.7, low.8, low.9, low.10)

pub low_adds_none : (n : ℕ) → IsLow n → AddsNone n
low_adds_none n low = (low.11, low.12, low.13, low.14, low.15)

-- a code above those of control, and none of the others
low_of : (n : ℕ) → 0x11 < n → n ≢ 0x20 → n ≢ 0x23 → n ≢ 0x3F → n ≢ 0x41 → n ≢ 0x42 → IsLow n
low_of n above local global size short long = (
  λ w. absurd (omega (arith, above, w)),
  λ w. absurd (omega (arith, above, w)),
  λ w. absurd (omega (arith, above, w)),
  λ w. absurd (omega (arith, above, w)),
  λ w. absurd (omega (arith, above, w)),
  λ w. absurd (omega (arith, above, w)),
  λ w. absurd (omega (arith, above, w)),
  λ w. absurd (omega (arith, above, w)),
  λ w. absurd (omega (arith, above, w)),
  λ w. absurd (omega (arith, above, w)),
  λ w. absurd (omega (arith, above, w)),
  local,
  global,
  size,
  short,
  long,
)

-- by the test of the code
low_by : (n : ℕ) (above early set below : Bool) → nat_lt 0x11 n ≡ above → nat_lt n 0x24 ≡ early → nat_lt 0x20 n ≡ set → nat_lt n 0x3F ≡ below →
    (above && cond early (cond set (nat_lt n 0x23) (nat_lt n 0x20)) (cond below true (nat_lt 0x42 n))) ≡ true → IsLow n
low_by n false early set below a b c d h = absurd (cc)
low_by n true true true below a b c d h =
    let one : 0x20 < n = grind (arith, nat_tests) in
    let two : n < 0x23 = grind (arith, nat_tests) in
    low_of n (omega arith) (λ w. absurd (omega (arith, w))) (λ w. absurd (omega (arith, w))) (λ w. absurd (omega (arith, w))) (λ w. absurd (omega (arith, w))) (λ w. absurd (omega (arith, w)))
low_by n true true false below a b c d h =
    let one : 0x11 < n = grind (arith, nat_tests) in
    let two : n < 0x20 = grind (arith, nat_tests) in
    low_of n one (λ w. absurd (omega (arith, w))) (λ w. absurd (omega (arith, w))) (λ w. absurd (omega (arith, w))) (λ w. absurd (omega (arith, w))) (λ w. absurd (omega (arith, w)))
low_by n true false set true a b c d h =
    let one : 0x24 ≤ n = grind (arith, nat_tests) in
    let two : n < 0x3F = grind (arith, nat_tests) in
    low_of n (omega arith) (λ w. absurd (omega (arith, w))) (λ w. absurd (omega (arith, w))) (λ w. absurd (omega (arith, w))) (λ w. absurd (omega (arith, w))) (λ w. absurd (omega (arith, w)))
low_by n true false set false a b c d h =
    let one : 0x42 < n = grind (arith, nat_tests) in
    low_of n (omega arith) (λ w. absurd (omega (arith, w))) (λ w. absurd (omega (arith, w))) (λ w. absurd (omega (arith, w))) (λ w. absurd (omega (arith, w))) (λ w. absurd (omega (arith, w)))

-- a code below those of control
low_first : (n : ℕ) → n < 0x02 → IsLow n
low_first n below = (
  λ w. absurd (omega (arith, below, w)),
  λ w. absurd (omega (arith, below, w)),
  λ w. absurd (omega (arith, below, w)),
  λ w. absurd (omega (arith, below, w)),
  λ w. absurd (omega (arith, below, w)),
  λ w. absurd (omega (arith, below, w)),
  λ w. absurd (omega (arith, below, w)),
  λ w. absurd (omega (arith, below, w)),
  λ w. absurd (omega (arith, below, w)),
  λ w. absurd (omega (arith, below, w)),
  λ w. absurd (omega (arith, below, w)),
  λ w. absurd (omega (arith, below, w)),
  λ w. absurd (omega (arith, below, w)),
  λ w. absurd (omega (arith, below, w)),
  λ w. absurd (omega (arith, below, w)),
  λ w. absurd (omega (arith, below, w)),
)

low_where : (n : ℕ) (first : Bool) → nat_lt n 0x02 ≡ first →
    cond first true (nat_lt 0x11 n && cond (nat_lt n 0x24) (cond (nat_lt 0x20 n) (nat_lt n 0x23) (nat_lt n 0x20)) (cond (nat_lt n 0x3F) true (nat_lt 0x42 n))) ≡ true → IsLow n
low_where n true e h = let below : n < 0x02 = grind (arith, nat_tests) in low_first n below
low_where n false e h = low_by n (nat_lt 0x11 n) (nat_lt n 0x24) (nat_lt 0x20 n) (nat_lt n 0x3F) refl refl refl refl h

pub low_is : (n : ℕ) → is_low n ≡ true → IsLow n
low_is n h = low_where n (nat_lt n 0x02) refl h

-- where straight code is not stuck, it has its effect
went : (p : Option Plain) (flat : Flat) → go_straight p flat ≢ Stuck → go_straight p flat ≡ executes (straight_of p flat)
went None flat free = absurd (free refl)
went (Some i) flat free = passed (operands_fit i flat.place.base flat.values) (executes (straight i flat)) (held _ _ free)

module _ (m : Parts) (map : CodeMap) (flat : Flat) (has : Bool) (within : Within) (i : Instr) (old : List ℕ) (memory : Contents) (globals : List ℕ) (at : Spot)
    (s : Stands m map flat has within i old memory globals at) where
  pub straight_free : IsLow i.code → go_straight (plain_of i) flat ≢ Stuck
  straight_free low = λ w. s.free (straight_moves m map flat has within i old memory globals at s (low_plain i.code low) ∙ w)

  straight_is : IsLow i.code → move m map flat ≡ executes (straight_of (plain_of i) flat)
  straight_is low = straight_moves m map flat has within i old memory globals at s (low_plain i.code low) ∙ went (plain_of i) flat (straight_free low)

  pub straight_arrives : IsLow i.code → (new : List ℕ) (memory_new : Contents) (globals_new : List ℕ) (sp : ℕ) (to : Spot) →
      GoesTo (straight_of (plain_of i) flat) flat has (Ok sp) new memory_new globals_new → to.pc ≡ at.pc + 1 → to.sp ≡ sp → to.opens ≡ at.opens → to.sp + to.opens ≤ most_values →
      move m map flat ≡ Executes (moved flat has new to.sp memory_new globals_new to.pc to.opens)
  straight_arrives low new memory_new globals_new sp to goes pc sp_is opens room =
      straight_is low
      ∙ ap (λ (e : Effect Flat). executes e) goes
      ∙ arrives flat (moved flat has new sp memory_new globals_new (flat.place.pc + 1) flat.place.opens) has memory_new globals_new new to.sp to.pc to.opens
      (ap (λ (n : ℕ). moved flat has new n memory_new globals_new (flat.place.pc + 1) flat.place.opens) (sym sp_is)
      ∙ ap (λ (n : ℕ). moved flat has new to.sp memory_new globals_new (n + 1) flat.place.opens) s.pc_is
      ∙ ap (λ (n : ℕ). moved flat has new to.sp memory_new globals_new n flat.place.opens) (sym pc)
      ∙ ap (λ (n : ℕ). moved flat has new to.sp memory_new globals_new to.pc n) (s.opens_are ∙ sym opens))
      room

  pub straight_traps : IsLow i.code → (trap : Trap) → straight_of (plain_of i) flat ≡ Fails trap → move m map flat ≡ Traps trap
  straight_traps low trap fails = straight_is low ∙ ap (λ (e : Effect Flat). executes e) fails

  -- what is unchanged still shows the machine
  pub still_shows : (new : List ℕ) (memory_new : Contents) (globals_new : List ℕ) → new ≡ old → memory_new ≡ memory → globals_new ≡ globals →
      moved flat has new at.sp memory_new globals_new at.pc at.opens ≡ flat
  still_shows new memory_new globals_new values_are memory_is globals_are =
      ap (λ (v : List ℕ). moved flat has v at.sp memory_new globals_new at.pc at.opens) values_are
      ∙ ap (λ (c : Contents). moved flat has old at.sp c globals_new at.pc at.opens) memory_is
      ∙ ap (λ (g : List ℕ). moved flat has old at.sp memory g at.pc at.opens) globals_are
      ∙ shows m map flat has within i old memory globals at s

pub can_go : (within : Within) (i : Instr) (old : List ℕ) (memory : Contents) (globals : List ℕ) (at : Spot) → CanStep within i old memory globals at → IsLow i.code →
    CanGo (plain_of i) old at.sp within.base memory globals
can_go within i old memory globals at can low =
    (can.2, can.3, can.4.shown, straight_free can.0 can.1 can.2 can.3 within i old memory globals at can.4 low)
