use Rattle.std.proofs.Common.{rules, Some, None, eqb, refl, ap, sym, ◌∙◌, arith}
use Rattle.std.specs.List.{position}
use Rattle.world_rules.specs.Part.{is_among}
use Rattle.host_calls.specs.Listening.{Bound, Listening, listener_numbers}
use Rattle.host_calls.proofs.Listened.{has-listener}
use Rattle.host_calls.proofs.ListenersKept.{rising_same, place_within}
use Rattle.host_calls.proofs.listeners.accept_on.Goals as goal

pub returns-in_err-place-clause-none : goal.returns-in_err-place-clause-none
returns-in_err-place-clause-none g c =
    let n = c.args.number in
    let there = has-listener c.listeners.inside.bound.items n None (c.in_err-place.ensures ∙ ap (position (λ (b : Bound _). eqb b.number n)) c.deref.ensures.value)
    ∙ ap (λ (listening : Listening _). is_among (listener_numbers listening) n) c.listeners.view_is in
    rw c.from_residual.ensures (λ e. sym there, λ none. refl)

pub accept_at-requires : goal.accept_at-requires
accept_at-requires g c =
    let inside = place_within c.args.number c.listeners.inside.bound.items c.in_ok-place.place
    (c.in_ok-place.ensures ∙ ap (position (λ (b : Bound _). eqb b.number c.args.number)) c.deref.ensures.value) in
    search (rules, inside)

pub invariant_of-listeners : goal.invariant_of-listeners
invariant_of-listeners g c = (
  omega (arith, c.accept_at.ensures.len, c.listeners.invariant.0),
  omega (arith, c.accept_at.ensures.capacity, c.listeners.invariant.1),
  rising_same c.listeners.inside.next c.accept_at.new.bound.items c.listeners.inside.bound.items c.accept_at.ensures.numbers c.listeners.invariant.2,
)

pub returns-clause-none : goal.returns-clause-none
returns-clause-none g c =
    let n = c.args.number in
    let there = has-listener c.listeners.inside.bound.items n (Some c.in_ok-place.place) (c.in_ok-place.ensures ∙ ap (position (λ (b : Bound _). eqb b.number n)) c.deref.ensures.value)
    ∙ ap (λ (listening : Listening _). is_among (listener_numbers listening) n) c.listeners.view_is in
    (λ e. absurd (cc), λ none. absurd (cc there))
