-- The targets of branches that are not stuck.
use Rattle.std.proofs.Common.{◌≡◌, ◌≢◌, ◌≤◌, ℕ, ◌+◌, ◌&&◌, Bool, true, false, nat_le, List, length, slice_get, Option, Some, None, refl, ◌∙◌, ap, arith}
use Rattle.std.specs.Prelude.{option_and_then}
use Rattle.std.proofs.lemmas.Bool.Decides.{nat_tests}
use Rattle.code_map.specs.declared.target.Target.{Target}
use Rattle.code_map.specs.declared.body_map.BodyMap.{BodyMap}
use Rattle.code_map.specs.declared.map.CodeMap.{CodeMap}
use Rattle.code_map.specs.Targets.{count_if}
use Rattle.tree_machine.specs.Outcomes.{Gives}
use Rattle.flat_machine.specs.Flat.{Flat, Place}
use Rattle.flat_machine.specs.Control.{jump}
use Rattle.flat_machine.specs.Tells.{opens_of}
use Rattle.flat_machine.specs.Moves.{Stuck, executes, target_in, target_at, entry_in, entry_at, leads, carries_over, jump_to}
use Rattle.flat_stepper.specs.declared.within.Within.{Within}
use Rattle.flat_stepper.specs.Standing.{IsMappedBy}
use Rattle.flat_stepper.specs.Targets.{target_of, entry_of}
use Rattle.flat_stepper.proofs.Arrivals.{held, passed}

-- the map's target is that of the lists at hand
pub target_is : (map : CodeMap) (place : Place) (within : Within) (pc : ℕ) → IsMappedBy map place.body within → place.pc ≡ pc → target_at map.bodies place ≡ target_of within pc
target_is map place within pc by pc_is =
    ap (λ (o : Option BodyMap). option_and_then (target_in place.pc) o) by.is
    ∙ ap (λ (slots : List ℕ). option_and_then (slice_get by.found.targets) (slice_get slots place.pc)) by.slots
    ∙ ap (λ (targets : List Target). option_and_then (slice_get targets) (slice_get within.slots.now place.pc)) by.targets
    ∙ ap (λ (n : ℕ). target_of within n) pc_is

pub entry_is : (map : CodeMap) (place : Place) (within : Within) (pc number : ℕ) → IsMappedBy map place.body within → place.pc ≡ pc → entry_at map.bodies place number ≡ entry_of within pc number
entry_is map place within pc number by pc_is =
    ap (λ (o : Option BodyMap). option_and_then (entry_in place.pc number) o) by.is
    ∙ ap (λ (slots : List ℕ). option_and_then (λ first. slice_get by.found.tables (first + number)) (slice_get slots place.pc)) by.slots
    ∙ ap (λ (tables : List Target). option_and_then (λ first. slice_get tables (first + number)) (slice_get within.slots.now place.pc)) by.tables
    ∙ ap (λ (n : ℕ). entry_of within n number) pc_is

pub both : (a b : Bool) → (a && b) ≡ true → (a ≡ true) × (b ≡ true)
both true true e = (refl, refl)
both true false e = absurd (cc)
both false b e = absurd (cc)

-- the target leads into the body, with no more open blocks
pub record Leads (t : Target) (size opens : ℕ) (flat : Flat) : Type 0 where
  pub to : t.to ≤ size
  pub low : opens_of flat.callers + t.opens ≤ opens

pub lead : (t : Target) (size opens : ℕ) (flat : Flat) → leads t size opens flat ≡ true → Leads t size opens flat
lead t size opens flat e =
    let two = both (nat_le t.to size) (nat_le (opens_of flat.callers + t.opens) opens) e in
    let one : nat_le t.to size ≡ true = two.0 in
    let other : nat_le (opens_of flat.callers + t.opens) opens ≡ true = two.1 in
    record { to = grind (arith, nat_tests); low = grind (arith, nat_tests) }

-- a branch that isn't stuck has its target, and carries over what it carries
pub record Jumps (o : Option Target) (size : ℕ) (values : List ℕ) (flat : Flat) : Type 0 where
  pub target : Target
  pub is : o ≡ Some target
  pub to : target.to ≤ size
  pub low : opens_of flat.callers + target.opens ≤ flat.place.opens
  pub height : flat.place.base + target.height + count_if target.carries ≤ length values
  pub moves : jump_to o size values flat ≡ executes (Gives (jump target values flat))

pub jumps : (o : Option Target) (size : ℕ) (values : List ℕ) (flat : Flat) → jump_to o size values flat ≢ Stuck → Jumps o size values flat
jumps None size values flat free = absurd (free refl)
jumps (Some t) size values flat free =
    let guard : (leads t size flat.place.opens flat && carries_over t values flat) ≡ true = held _ _ free in
    let two = both (leads t size flat.place.opens flat) (carries_over t values flat) guard in
    let leading = lead t size flat.place.opens flat two.0 in
    let carrying : nat_le (flat.place.base + t.height + count_if t.carries) (length values) ≡ true = two.1 in
    record {
      target = t;
      is = refl;
      to = leading.to;
      low = leading.low;
      height = grind (arith, nat_tests);
      moves = passed _ _ guard;
    }
