use Rattle.std.proofs.Common.{List, ℕ, ◌∙◌, true, ap, sym, subst, ◌<◌, ◌≡◌}
use Rattle.world_rules.specs.Part.{is_among}
use Rattle.world_rules.specs.Sound.{Rise}
use Rattle.plain_world.proofs.Rising.{past_last, below_of}
use Rattle.plain_world.proofs.numbers.Numbers.is_past.Goals as goal

pub returns-in-Some : goal.returns-in-Some
returns-in-Some c is other there =
    past_last c.deref.result.now c.in-Some.last.now c.args.number (subst Rise (sym c.deref.ensures.value) c.self.invariant) (sym c.in-Some.ensures.value)
    (below_of c.in-Some.last.now c.args.number is) other
    (subst (λ (xs : List ℕ). is_among xs other ≡ true) (sym (c.deref.ensures.value ∙ c.self.view_is)) there)
