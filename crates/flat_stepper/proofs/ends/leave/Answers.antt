use Rattle.std.proofs.Common.{◌≡◌, ℕ, ◌+◌, ◌-◌, ◌≤◌, List, ◌∷◌, ◌++◌, length, take, drop, map, reverse, refl, sym, ap, ◌∙◌, arith, rules}
use Rattle.code_map.specs.Targets.{count_if}
use Rattle.flat_machine.specs.Flat as flat_machine
use Rattle.flat_machine.specs.Flat.{Flat}
use Rattle.flat_machine.specs.Control.{return_to}
use Rattle.flat_machine.specs.Moves.{Move, Passes, callee_with, return_from}
use Rattle.flat_machine.specs.Moves as moves
use Rattle.flat_machine.specs.Shown.{stack_of}
use Rattle.flat_stepper.specs.Places.{place_of}
use Rattle.flat_stepper.specs.States.{flat_of}
use Rattle.flat_stepper.specs.Outcomes.{IsOwn, gives_value}
use Rattle.flat_stepper.proofs.StackFacts.{stack_length, stack_lowest, written_back}
use Rattle.flat_stepper.proofs.Moving.{return_held, callers_pushed, same_flat}
use Rattle.flat_stepper.proofs.ends.leave.Goals as goal
use Rattle.flat_stepper.proofs.ends.leave.Goals.{In-Some}

callers_are : (c : In-Some) → map place_of (reverse c.args.state.now.callers.items) ≡ place_of c.in-Some.caller ∷ map place_of (reverse c.pop.new.self.items)
callers_are c = callers_pushed c.pop.new.self.items c.args.state.now.callers.items c.in-Some.caller c.in-Some.ensures.items

-- what is there to return
return_is : (c : In-Some) →
    let s = c.args.state.now in
    let callee = callee_with c.args.parts.now c.args.map.now s.place.body in
    let callers = map place_of (reverse c.pop.new.self.items) in
    IsOwn callee × (s.place.base + count_if (gives_value callee) ≤ length (stack_of s.values.items s.sp)) × (c.in-Some.caller.opens ≤ s.place.opens)
    × (return_from callee (place_of c.in-Some.caller) callers (flat_of s) ≡ Passes (return_to (count_if (gives_value callee)) (place_of c.in-Some.caller) callers (flat_of s)))
return_is c =
    let s = c.args.state.now in
    return_held (callee_with c.args.parts.now c.args.map.now s.place.body) (place_of c.in-Some.caller) (map place_of (reverse c.pop.new.self.items)) (flat_of s)
    (λ stuck. c.requires.applies (ap (λ (cs : List flat_machine.Place). moves.leave c.args.parts.now c.args.map.now cs (flat_of s)) (callers_are c) ∙ stuck))

pub carry_down-state-requires-clause-above : goal.carry_down-state-requires-clause-above
carry_down-state-requires-clause-above c =
    let s = c.args.state.now in
    let r = return_is (goal.at.carry_down-state-requires-clause-above c).In-Some in
    rw c.gives_value-gives.ensures (omega (arith, r.1, stack_length s.values.items s.sp))

pub returns-clause-sound : goal.returns-clause-sound
returns-clause-sound c =
    let s = c.args.state.now in
    let r = return_is (goal.at.returns-clause-sound c).In-Some in
    let new = c.carry_down-state.new.values in
    let new_len : length new ≡ s.values.len = search rules in
    let old_len : length s.values.items ≡ s.values.len = search rules in
    let back = ap length (written_back new s.values.items s.values.len new_len old_len) in
    let height = rw c.gives_value-gives.ensures at c.carry_down-state.ensures.height in
    let count = stack_length s.values.items s.sp in
    record {
      room = omega (arith, back, height, r.1, r.2, count, c.requires.sound.room, new_len, old_len);
      few = omega (arith, back, new_len, old_len, c.requires.sound.few);
      reserved = c.requires.sound.reserved;
      depth = search rules;
      frames = search rules;
      begun = c.requires.sound.begun;
    }

pub returns-clause-leaves : goal.returns-clause-leaves
returns-clause-leaves c =
    let s = c.args.state.now in
    let i = (goal.at.returns-clause-leaves c).In-Some in
    let r = return_is i in
    let callee = callee_with c.args.parts.now c.args.map.now s.place.body in
    let callers = map place_of (reverse c.pop.new.self.items) in
    let new = c.carry_down-state.new.values in
    let new_len : length new ≡ s.values.len = search rules in
    let old_len : length s.values.items ≡ s.values.len = search rules in
    let old = stack_of s.values.items s.sp in
    let low : s.place.base ≤ s.sp = omega (arith, r.1, stack_length s.values.items s.sp) in
    let carried = rw (c.as_mut_slice.ensures.value, c.gives_value-gives.ensures) at c.carry_down-state.ensures.values in
    let values_are : take (count_if (gives_value callee)) old ++ drop (length old - s.place.base) old
    ≡ stack_of (take s.values.len (new ++ drop (length new) s.values.items)) c.carry_down-state.result =
    ap (λ (l : List ℕ). take (count_if (gives_value callee)) old ++ l) (stack_lowest s.values.items s.place.base s.sp low)
    ∙ sym (ap (λ (xs : List ℕ). stack_of xs c.carry_down-state.result) (written_back new s.values.items s.values.len new_len old_len) ∙ carried) in
    ap (λ (cs : List flat_machine.Place). moves.leave c.args.parts.now c.args.map.now cs (flat_of s)) (callers_are i)
    ∙ r.3
    ∙ ap (λ (w : Flat). Passes w) (same_flat (flat_of s) _ _ _ _ _ _ values_are refl refl)
