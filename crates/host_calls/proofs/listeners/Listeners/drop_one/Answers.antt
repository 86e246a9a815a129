use Rattle.std.proofs.Common.{◌≡◌, ap, sym, subst, ◌∙◌, eqb, List, Some, None, arith, not}
use Rattle.std.specs.List.{position, filter}
use Rattle.host_calls.specs.Listening.{Bound, Listening, AreRising, without_listener}
use Rattle.host_calls.proofs.Listened.{removed, none-removed, rising-filter}
use Rattle.host_calls.proofs.listeners.Listeners.drop_one.Goals as goal

pub invariant_of-self : goal.invariant_of-self
invariant_of-self g c =
    let bs = c.self.inside.bound.items in
    let at = ap (position (λ (b : Bound _). eqb b.number c.args.number)) (sym c.deref.ensures.value) ∙ sym c.place_of.ensures ∙ c.in-Some.is in
    let left = c.remove-bound.ensures.items ∙ removed c.self.inside.next c.args.number bs c.in-Some.place c.remove-bound.result c.self.invariant.2 at in (
      omega (arith, c.remove-bound.ensures.len, c.self.invariant.0),
      omega (arith, c.remove-bound.ensures.capacity, c.self.invariant.1),
      subst (AreRising c.self.inside.next) (sym left) (rising-filter c.self.inside.next bs (λ (b : Bound _). not (eqb b.number c.args.number)) c.self.invariant.2),
    )

pub returns-in-Some : goal.returns-in-Some
returns-in-Some g c =
    let bs = c.self.inside.bound.items in
    let at = ap (position (λ (b : Bound _). eqb b.number c.args.number)) (sym c.deref.ensures.value) ∙ sym c.place_of.ensures ∙ c.in-Some.is in
    let left = c.remove-bound.ensures.items ∙ removed c.self.inside.next c.args.number bs c.in-Some.place c.remove-bound.result c.self.invariant.2 at in
    ap (λ (cs : List (Bound _)). record { bound = cs; next = c.self.inside.next }) left ∙ ap (without_listener c.args.number) c.self.view_is

pub returns-in_default : goal.returns-in_default
returns-in_default g c =
    let bs = c.self.inside.bound.items in
    let at = ap (position (λ (b : Bound _). eqb b.number c.args.number)) (sym c.deref.ensures.value) ∙ sym c.place_of.ensures ∙ c.in_default.is in
    sym (sym (ap (without_listener c.args.number) c.self.view_is)
    ∙ ap (λ (cs : List (Bound _)). record { bound = cs; next = c.self.inside.next }) (none-removed c.args.number bs at) ∙ c.self.view_is)
