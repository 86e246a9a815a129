use Rattle.std.proofs.Common.{◌≡◌, ◌≢◌, ℕ, ◌+◌, ◌<◌, List, ◌∷◌, length, drop, slice_get, slice_index_or, Option, Some, sym, ap, ◌∙◌, subst, arith, refl}
use Rattle.std.proofs.lemmas.List.{drop_more}
use Rattle.std.proofs.lemmas.Option.{slice_get-get_or}
use Rattle.code_map.specs.declared.callee.Callee.{Callee}
use Rattle.code_map.specs.declared.callee.Callee.TheVariants as callee
use Rattle.tree_machine.specs.Config.{Invocation}
use Rattle.flat_machine.specs.Moves.{Move, enter, enter_next}
use Rattle.flat_stepper.specs.States.{flat_of}
use Rattle.flat_stepper.specs.Outcomes.{Leaves, enters, IsOwn, reason}
use Rattle.flat_stepper.proofs.Moving.{own_there, enter_held, enters_is}
use Rattle.flat_stepper.proofs.ends.enter_next.Goals as goal
use Rattle.flat_stepper.proofs.ends.enter_next.Goals.{After-as_slice}

-- the next one is the first of those that are left
first_is : (c : After-as_slice) → drop c.args.state.now.entered c.args.state.now.invocations.items
    ≡ c.index.result.now ∷ drop (c.args.state.now.entered + 1) c.args.state.now.invocations.items
first_is c =
    let s = c.args.state.now in
    drop_more s.invocations.items s.entered c.index.result.now (omega (arith, c.requires.sound.begun, c.len.ensures, c.if-state-len.false, s.invocations.ok.0))
    ∙ ap (λ (i : Invocation). i ∷ drop (s.entered + 1) s.invocations.items) (sym c.index.ensures)

in_bounds : (c : After-as_slice) → c.function-function.result < length c.as_slice.result.now
in_bounds c =
    let s = c.args.state.now in
    let i = c.index.result.now in
    let rest = drop (s.entered + 1) s.invocations.items in
    let own : IsOwn (slice_get c.args.map.now.callees i.function) = enter_held c.args.parts.now c.args.map.now (slice_get c.args.map.now.callees i.function) i.arguments rest (flat_of s)
    (λ stuck. c.requires.applies (ap (λ (l : List Invocation). enter_next c.args.parts.now c.args.map.now l (flat_of s)) (first_is c) ∙ stuck)) in
    let there = own_there c.args.map.now.callees i.function own in
    omega (arith, there, c.function-function.ensures, ap length c.as_slice.ensures)

-- its callee is the one that was read
found : (c : After-as_slice) (d e : Callee) → slice_index_or c.as_slice.result.now c.function-function.result d ≡ e →
    slice_get c.args.map.now.callees c.index.result.now.function ≡ Some e
found c d e is =
    ap (λ (k : ℕ). slice_get c.args.map.now.callees k) (sym c.function-function.ensures)
    ∙ ap (λ (l : List Callee). slice_get l c.function-function.result) (sym c.as_slice.ensures)
    ∙ slice_get-get_or c.as_slice.result.now c.function-function.result d (in_bounds c)
    ∙ ap (λ (x : Callee). Some x) is

pub bounds : goal.bounds
bounds c = in_bounds (goal.at.bounds c).After-as_slice

pub bounds-as_slice-function : goal.bounds-as_slice-function
bounds-as_slice-function c = in_bounds (goal.at.bounds-as_slice-function c).After-as_slice

pub bounds-as_slice-function-in-Own-1 : goal.bounds-as_slice-function-in-Own-1
bounds-as_slice-function-in-Own-1 c = in_bounds (goal.at.bounds-as_slice-function-in-Own-1 c).After-as_slice

pub unreachable-requires : goal.unreachable-requires
unreachable-requires c =
    let s = c.args.state.now in
    let a = (goal.at.unreachable-requires c).After-as_slice in
    let i = c.index.result.now in
    let host = found a _ (callee.Host c.in-Host.call c.in-Host.params c.in-Host.gives c.in-Host.class) c.in-Host.is in
    c.requires.applies (ap (λ (l : List Invocation). enter_next c.args.parts.now c.args.map.now l (flat_of s)) (first_is a)
    ∙ ap (λ (o : Option Callee). enter c.args.parts.now c.args.map.now o i.arguments (drop (s.entered + 1) s.invocations.items) (flat_of s)) host)

pub enter-requires-clause-applies : goal.enter-requires-clause-applies
enter-requires-clause-applies c =
    let s = c.args.state.now in
    let a = (goal.at.enter-requires-clause-applies c).After-as_slice in
    let is = enters_is c.args.parts.now c.args.map.now (drop s.entered s.invocations.items) (drop (s.entered + 1) s.invocations.items) c.index.result.now
    (callee.Own c.in-Own.body c.in-Own.params c.in-Own.locals c.in-Own.gives c.in-Own.class) (flat_of s) (first_is a) (found a _ _ c.in-Own.is) in
    (c.in-Own.params, c.in-Own.gives, c.in-Own.class, λ stuck. c.requires.applies (is ∙ stuck))

pub returns-clause-leaves : goal.returns-clause-leaves
returns-clause-leaves c =
    let s = c.args.state.now in
    let a = (goal.at.returns-clause-leaves c).After-as_slice in
    let is = enters_is c.args.parts.now c.args.map.now (drop s.entered s.invocations.items) (drop (s.entered + 1) s.invocations.items) c.index.result.now
    (callee.Own c.in-Own.body c.in-Own.params c.in-Own.locals c.in-Own.gives c.in-Own.class) (flat_of s) (first_is a) (found a _ _ c.in-Own.is) in
    let leaves = c.enter.ensures.leaves c.in-Own.params c.in-Own.gives c.in-Own.class (λ stuck. c.requires.applies (is ∙ stuck)) in
    subst (λ (move : Move). Leaves move (reason c.enter.result c.enter.new.halt) (flat_of s) (flat_of c.enter.new.state)) (sym is) leaves
