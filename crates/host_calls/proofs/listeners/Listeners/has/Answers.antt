use Rattle.std.proofs.Common.{◌≡◌, ℕ, Bool, ap, ◌∙◌, eqb, List}
use Rattle.std.specs.List.{position}
use Rattle.world_rules.specs.Part.{is_among}
use Rattle.host_calls.specs.Listening.{Bound, Listening, listener_numbers}
use Rattle.host_calls.proofs.Listened.{has-listener}
use Rattle.host_calls.proofs.listeners.Listeners.has.Goals as goal

pub returns : goal.returns
returns g c =
    let n = c.args.number in
    c.is_some.ensures ∙ has-listener c.self.inside.bound.items n c.place_of.result
    (c.place_of.ensures ∙ ap (position (λ (b : Bound _). eqb b.number n)) c.deref.ensures.value)
    ∙ ap (λ (listening : Listening _). is_among (listener_numbers listening) n) c.self.view_is
