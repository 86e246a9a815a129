use Rattle.std.proofs.Common.{◌≡◌, ◌≢◌, ℕ, ◌-◌, ◌≤◌, Bool, false, List, length, get_or, slice_get, Some, sym, subst, ap, ◌∙◌, arith, refl}
use Rattle.code_map.specs.declared.callee.Callee.{Callee}
use Rattle.code_map.specs.declared.callee.Callee.TheVariants as callee
use Rattle.flat_machine.specs.Moves.{Move, Stuck, call_top, call_class, class_of}
use Rattle.flat_machine.specs.Shown.{stack_of}
use Rattle.flat_stepper.specs.States.{flat_of}
use Rattle.flat_stepper.specs.Outcomes.{Calls, reason}
use Rattle.flat_stepper.proofs.Moving.{element_is, class_meets, class_fails}
use Rattle.flat_stepper.proofs.calls.call_indirect.Goals as goal
use Rattle.flat_stepper.proofs.calls.call_indirect.Goals.{In-Some-Some}

-- the function is called by its class
by_class : (c : In-Some-Some) →
    call_top c.args.parts.now c.args.map.now c.args.ty (stack_of c.args.state.now.values.items c.args.state.now.sp) (flat_of c.args.state.now)
    ≡ call_class c.args.parts.now c.args.map.now (slice_get c.args.map.now.classes c.args.ty) (slice_get c.args.map.now.callees c.in-Some-Some.function)
    (stack_of c.args.state.now.values.items (c.args.state.now.sp - 1)) (flat_of c.args.state.now)
by_class c =
    let s = c.args.state.now in
    let is = rw c.in-Some-Some.field-0-is at c.in-Some-Some.ensures in
    element_is c.args.parts.now c.args.map.now c.args.ty s.sp c.index-element.result.now s.values.items (flat_of s) c.as_slice.result.now (Some (Some c.in-Some-Some.function))
    c.requires.applies c.index-element.ensures (omega (arith, c.requires.sound.room)) c.as_slice.ensures.value is

pub call-requires-clause-applies : goal.call-requires-clause-applies
call-requires-clause-applies c = λ stuck.
    let s = c.args.state.now in
    let e = by_class (goal.at.call-requires-clause-applies c).In-Some-Some in
    let callees = c.args.map.now.callees in
    let same = sym (rw c.as_slice-in-Some-Some.ensures at c.class_of.ensures) ∙ (rw c.as_slice-in-Some-Some-2.ensures at c.if-class_of-as_slice.true) in
    let meets = class_meets c.args.parts.now c.args.map.now c.args.map.now.classes callees c.args.ty c.in-Some-Some.function (callee.Own 0 0 0 false 0)
    (stack_of s.values.items (s.sp - 1)) (flat_of s) (λ other. c.requires.applies (e ∙ other)) same in
    let stuck_there = rw c.as_slice-in-Some-Some.ensures at stuck in
    c.requires.applies (e ∙ meets ∙ stuck_there)

pub returns-then-class_of-as_slice-clause-calls : goal.returns-then-class_of-as_slice-clause-calls
returns-then-class_of-as_slice-clause-calls c =
    let s = c.args.state.now in
    let e = by_class (goal.at.returns-then-class_of-as_slice-clause-calls c).In-Some-Some in
    let callees = c.args.map.now.callees in
    let same = sym (rw c.as_slice-in-Some-Some.ensures at c.class_of.ensures) ∙ (rw c.as_slice-in-Some-Some-2.ensures at c.if-class_of-as_slice.true) in
    let meets = class_meets c.args.parts.now c.args.map.now c.args.map.now.classes callees c.args.ty c.in-Some-Some.function (callee.Own 0 0 0 false 0)
    (stack_of s.values.items (s.sp - 1)) (flat_of s) (λ other. c.requires.applies (e ∙ other)) same in
    let calls = rw c.as_slice-in-Some-Some.ensures at c.call.ensures.calls in
    subst (λ (move : Move). Calls move (reason c.call.result c.call.new.halt) (flat_of s) (flat_of c.call.new.state)) (sym (e ∙ meets)) calls

pub returns-else-class_of-as_slice-clause-calls : goal.returns-else-class_of-as_slice-clause-calls
returns-else-class_of-as_slice-clause-calls c =
    let s = c.args.state.now in
    let e = by_class (goal.at.returns-else-class_of-as_slice-clause-calls c).In-Some-Some in
    let callees = c.args.map.now.callees in
    let class_is = rw c.as_slice-in-Some-Some.ensures at c.class_of.ensures in
    let differs = rw c.as_slice-in-Some-Some-2.ensures at c.if-class_of-as_slice.false in
    let fails = class_fails c.args.parts.now c.args.map.now c.args.map.now.classes callees c.args.ty c.in-Some-Some.function (callee.Own 0 0 0 false 0)
    (stack_of s.values.items (s.sp - 1)) (flat_of s) (λ other. c.requires.applies (e ∙ other)) (λ same. differs (class_is ∙ same)) in
    (e ∙ fails, refl)
