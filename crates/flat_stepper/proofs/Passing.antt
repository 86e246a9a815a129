-- Ends and elses, from where a machine stands.
use Rattle.std.proofs.Common.{◌≡◌, ◌≢◌, ◌≤◌, ◌<◌, ℕ, zero, suc, ◌+◌, ◌-◌, ◌&&◌, pred, Bool, true, false, cond, nat_lt, List, length, Option, Some, None, refl, sym, ◌∙◌, ap, subst, arith}
use Rattle.std.proofs.lemmas.Bool.Decides.{nat_tests}
use Rattle.linear_memory.specs.Contents.{Contents}
use Rattle.wasm_form.specs.declared.instr.Instr.{Instr}
use Rattle.wasm_form.specs.declared.parts.Parts.{Parts}
use Rattle.code_map.specs.declared.target.Target.{Target}
use Rattle.code_map.specs.declared.map.CodeMap.{CodeMap}
use Rattle.flat_machine.specs.Flat.{Flat}
use Rattle.flat_machine.specs.Control.{end_list, end_body, skip_other}
use Rattle.flat_machine.specs.Tells.{opens_of}
use Rattle.flat_machine.specs.Moves.{Passes, Stuck, where_holds, leads, pass_end, pass_other, move}
use Rattle.flat_machine.specs.Shown.{stack_of, moved}
use Rattle.flat_machine.proofs.Standing.{same_some}
use Rattle.flat_stepper.specs.declared.within.Within.{Within}
use Rattle.flat_stepper.specs.declared.within.Spot.{Spot}
use Rattle.flat_stepper.specs.Standing.{Stands, CanPass}
use Rattle.flat_stepper.specs.Targets.{target_of}
use Rattle.flat_stepper.proofs.Arrivals.{held, passed, lands}
use Rattle.flat_stepper.proofs.Codes.{moves_end, moves_other}
use Rattle.flat_stepper.proofs.Targets.{target_is, both, Leads, lead}

-- an else that isn't stuck has its target, which leads on
pub record Skips (o : Option Target) (size : ℕ) (flat : Flat) : Type 0 where
  pub target : Target
  pub is : o ≡ Some target
  pub on : flat.place.pc < target.to
  pub leads : Leads target size flat.place.opens flat
  pub moves : pass_other o size flat ≡ Passes (skip_other target flat)

skips : (o : Option Target) (size : ℕ) (flat : Flat) → pass_other o size flat ≢ Stuck → Skips o size flat
skips None size flat free = absurd (free refl)
skips (Some t) size flat free =
    let guard : (nat_lt flat.place.pc t.to && leads t size flat.place.opens flat) ≡ true = held _ _ free in
    let two = both (nat_lt flat.place.pc t.to) (leads t size flat.place.opens flat) guard in
    let on : nat_lt flat.place.pc t.to ≡ true = two.0 in
    record { target = t; is = refl; on = grind (arith, nat_tests); leads = lead t size flat.place.opens flat two.1; moves = passed _ _ guard }

one_less : (n : ℕ) → pred n ≡ n - 1
one_less zero = refl
one_less (suc n) = omega arith

module _ (m : Parts) (map : CodeMap) (flat : Flat) (has : Bool) (within : Within) (i : Instr) (old : List ℕ) (memory : Contents) (globals : List ℕ) (at : Spot)
    (s : Stands m map flat has within i old memory globals at) where
  end_moves : i.code ≡ 0x0B → move m map flat ≡ pass_end (length within.code.now) flat
  end_moves code = s.moves ∙ moves_end m map (length within.code.now) i flat code

  list_moves : i.code ≡ 0x0B → at.pc + 1 < length within.code.now → move m map flat ≡ where_holds (nat_lt 0 flat.place.opens) (Passes (end_list flat))
  list_moves code within_body =
      let pc_is = s.pc_is in
      let inside : nat_lt (flat.place.pc + 1) (length within.code.now) ≡ true = grind (arith, nat_tests) in
      end_moves code ∙ ap (λ (b : Bool). cond b (where_holds (nat_lt 0 flat.place.opens) (Passes (end_list flat))) (Passes (end_body flat))) inside

  list_open : i.code ≡ 0x0B → at.pc + 1 < length within.code.now → nat_lt 0 flat.place.opens ≡ true
  list_open code within_body = held _ _ (λ w. s.free (list_moves code within_body ∙ w))

  pub open_there : i.code ≡ 0x0B → at.pc + 1 < length within.code.now → 1 ≤ at.opens
  open_there code within_body =
      let opens_are = s.opens_are in
      let one = list_open code within_body in
      grind (arith, nat_tests)

  pub end_passes : i.code ≡ 0x0B → at.pc + 1 < length within.code.now → (to : Spot) → to.pc ≡ at.pc + 1 → to.sp ≡ at.sp → to.opens ≡ at.opens - 1 →
      move m map flat ≡ Passes (moved flat has old to.sp memory globals to.pc to.opens)
  end_passes code within_body to pc sp opens =
      let pc_is = s.pc_is in
      let opens_are = s.opens_are in
      let less = one_less flat.place.opens in
      list_moves code within_body
      ∙ passed _ _ (list_open code within_body)
      ∙ ap (λ (f : Flat). Passes f)
      (lands flat has memory globals flat.values old to.sp (flat.place.pc + 1) (pred flat.place.opens) to.pc to.opens s.shown.memory_is s.shown.globals_are
      (s.shown.values_are ∙ ap (λ (n : ℕ). stack_of old n) (sym sp)) (omega arith) (omega arith))

  pub body_passes : i.code ≡ 0x0B → length within.code.now ≤ at.pc + 1 → (to : Spot) → to.pc ≡ at.pc + 1 → to.sp ≡ at.sp → to.opens ≡ at.opens →
      move m map flat ≡ Passes (moved flat has old to.sp memory globals to.pc to.opens)
  body_passes code behind to pc sp opens =
      let pc_is = s.pc_is in
      let opens_are = s.opens_are in
      let outside : nat_lt (flat.place.pc + 1) (length within.code.now) ≡ false = grind (arith, nat_tests) in
      end_moves code
      ∙ ap (λ (b : Bool). cond b (where_holds (nat_lt 0 flat.place.opens) (Passes (end_list flat))) (Passes (end_body flat))) outside
      ∙ ap (λ (f : Flat). Passes f)
      (lands flat has memory globals flat.values old to.sp (flat.place.pc + 1) flat.place.opens to.pc to.opens s.shown.memory_is s.shown.globals_are
      (s.shown.values_are ∙ ap (λ (n : ℕ). stack_of old n) (sym sp)) (omega arith) (omega arith))

  other_moves : i.code ≡ 0x05 → move m map flat ≡ pass_other (target_of within at.pc) (length within.code.now) flat
  other_moves code =
      s.moves ∙ moves_other m map (length within.code.now) i flat code
      ∙ ap (λ (o : Option Target). pass_other o (length within.code.now) flat) (target_is map flat.place within at.pc s.mapped s.pc_is)

  pub other_skips : i.code ≡ 0x05 → Skips (target_of within at.pc) (length within.code.now) flat
  other_skips code = skips _ _ flat (λ w. s.free (other_moves code ∙ w))

  pub other_passes : i.code ≡ 0x05 → (t : Target) → target_of within at.pc ≡ Some t → (to : Spot) → to.pc ≡ t.to → to.sp ≡ at.sp → to.opens ≡ within.outer + t.opens →
      move m map flat ≡ Passes (moved flat has old to.sp memory globals to.pc to.opens)
  other_passes code t is to pc sp opens =
      let k = other_skips code in
      let outer = s.outer_is in
      other_moves code ∙ k.moves
      ∙ ap (λ (u : Target). Passes (skip_other u flat)) (same_some (target_of within at.pc) k.target t k.is is)
      ∙ ap (λ (f : Flat). Passes f)
      (lands flat has memory globals flat.values old to.sp t.to (opens_of flat.callers + t.opens) to.pc to.opens s.shown.memory_is s.shown.globals_are
      (s.shown.values_are ∙ ap (λ (n : ℕ). stack_of old n) (sym sp)) (sym pc) (omega arith))

pub end_opens : (within : Within) (i : Instr) (at : Spot) → CanPass within i at → i.code ≡ 0x0B → at.pc + 1 < length within.code.now → 1 ≤ at.opens
end_opens within i at can code inside = let s = can.3 in open_there s.0 s.1 s.2 s.3 within i can.0 can.1 can.2 at s.4 code inside

pub other_finds : (within : Within) (i : Instr) (at : Spot) → CanPass within i at → i.code ≡ 0x05 → (t : Target) × (target_of within at.pc ≡ Some t)
other_finds within i at can code =
    let s = can.3 in
    let k = other_skips s.0 s.1 s.2 s.3 within i can.0 can.1 can.2 at s.4 code in
    (k.target, k.is)

pub other_leads : (within : Within) (i : Instr) (at : Spot) → CanPass within i at → i.code ≡ 0x05 → (t : Target) → target_of within at.pc ≡ Some t →
    (at.pc < t.to) × (within.outer + t.opens ≤ at.opens)
other_leads within i at can code t is =
    let s = can.3 in
    let k = other_skips s.0 s.1 s.2 s.3 within i can.0 can.1 can.2 at s.4 code in
    let same : k.target ≡ t = same_some (target_of within at.pc) k.target t k.is is in
    let outer = s.4.outer_is in
    let opens = s.4.opens_are in
    let pc = s.4.pc_is in
    let on = k.on in
    let low = k.leads.low in
    let P : Target → Type 0 = λ (u : Target). (at.pc < u.to) × (within.outer + u.opens ≤ at.opens) in
    subst P same (omega arith, omega arith)
