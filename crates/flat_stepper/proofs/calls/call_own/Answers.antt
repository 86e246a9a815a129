use Rattle.std.proofs.Common.{◌≡◌, ℕ, zero, ◌+◌, ◌-◌, ◌≤◌, Bool, true, List, ◌∷◌, ◌++◌, length, take, drop, map, reverse, replicate, ap, sym, ◌∙◌, arith, rules, refl}
use Rattle.std.proofs.lemmas.List.{length-map, length-reverse}
use Rattle.flat_machine.specs.Flat as flat_machine
use Rattle.flat_machine.specs.Flat.{Flat}
use Rattle.flat_machine.specs.Moves.{Executes}
use Rattle.flat_machine.specs.Shown.{stack_of}
use Rattle.flat_stepper.specs.declared.place.Place.{Place}
use Rattle.flat_stepper.specs.Places.{place_of}
use Rattle.flat_stepper.specs.States.{flat_of}
use Rattle.flat_stepper.proofs.StackFacts.{stack_length, written_back}
use Rattle.flat_stepper.proofs.Moving.{own_params, own_frames, own_values, own_enters, callers_pushed, same_flat}
use Rattle.flat_stepper.proofs.calls.call_own.Goals as goal

-- as many callers as the array has
depth : (callers : List Place) → length (map place_of (reverse callers)) ≡ length callers
depth callers = length-map (reverse callers) place_of ∙ length-reverse callers

pub returns-then-len-gt-MOST_FRAMES-clause-calls : goal.returns-then-len-gt-MOST_FRAMES-clause-calls
returns-then-len-gt-MOST_FRAMES-clause-calls c = λ gives class.
    let s = c.args.state.now in (
      own_frames c.args.parts.now c.args.map.now c.args.body c.args.params c.args.locals gives class (stack_of s.values.items c.args.sp) (flat_of s)
          (c.requires.applies gives class)
          (omega (arith, depth s.callers.items, c.if-len-gt-MOST_FRAMES.true, c.len.ensures, s.callers.ok.0)),
      refl,
    )

pub returns-then-need-gt-MOST_VALUES-clause-calls : goal.returns-then-need-gt-MOST_VALUES-clause-calls
returns-then-need-gt-MOST_VALUES-clause-calls c = λ gives class.
    let s = c.args.state.now in (
      own_values c.args.parts.now c.args.map.now c.args.body c.args.params c.args.locals gives class (stack_of s.values.items c.args.sp) (flat_of s)
          (c.requires.applies gives class)
          (omega (arith, depth s.callers.items, c.if-len-gt-MOST_FRAMES.false, c.len.ensures, s.callers.ok.0))
          (omega (arith, stack_length s.values.items c.args.sp, c.if-need-gt-MOST_VALUES.true)),
      refl,
    )

pub overflow_sub-state : goal.overflow_sub-state
overflow_sub-state c =
    let s = c.args.state.now in
    let there = own_params c.args.parts.now c.args.map.now c.args.body c.args.params c.args.locals true 0 (stack_of s.values.items c.args.sp) (flat_of s)
    (c.requires.applies true 0) in
    omega (arith, stack_length s.values.items c.args.sp, there)

pub returns-clause-calls : goal.returns-clause-calls
returns-clause-calls c = λ gives class.
    let s = c.args.state.now in
    let sp = c.args.sp in
    let old = stack_of s.values.items sp in
    let count = stack_length s.values.items sp in
    let array = c.lengthen.new.values in
    let new = c.push_zeros.new.values in
    let new_len : length new ≡ array.len = search rules in
    let old_len : length array.items ≡ array.len = search rules in
    let within : sp ≤ length s.values.items = omega (arith, c.requires.sound.room, c.requires.within) in
    let zeroed = rw c.as_mut_slice.ensures.value at c.push_zeros.ensures in
    let values_are : replicate c.args.locals 0 ++ old ≡ stack_of (take array.len (new ++ drop (length new) array.items)) (sp + c.args.locals) =
    sym (ap (λ (xs : List ℕ). stack_of xs (sp + c.args.locals)) (written_back new array.items array.len new_len old_len)
    ∙ zeroed ∙ ap (λ (l : List ℕ). replicate c.args.locals 0 ++ l) (c.lengthen.ensures.kept sp within)) in
    let place_is : (let p : flat_machine.Place = record { pc = 0; body = c.args.body; base = length old - c.args.params; opens = s.place.opens } in p)
    ≡ record { pc = 0; body = c.args.body; base = sp - c.args.params; opens = s.place.opens } =
    ap (λ (n : ℕ). record { pc = 0; body = c.args.body; base = n - c.args.params; opens = s.place.opens }) count in
    let callers_are = callers_pushed s.callers.items c.push.new.self.items c.behind-caller.result c.in-Ok.ensures.items in
    own_enters c.args.parts.now c.args.map.now c.args.body c.args.params c.args.locals gives class old (flat_of s)
    (c.requires.applies gives class)
    (omega (arith, depth s.callers.items, c.if-len-gt-MOST_FRAMES.false, c.len.ensures, s.callers.ok.0))
    (omega (arith, count, c.if-need-gt-MOST_VALUES.false))
    ∙ ap (λ (w : Flat). Executes w)
    (same_flat (flat_of s) _ _ _ _ _ _ values_are place_is
    (ap (λ (p : flat_machine.Place). p ∷ map place_of (reverse s.callers.items)) (sym c.behind-caller.ensures) ∙ sym callers_are))
