use Rattle.std.proofs.Common.{List, ℕ, ◌∙◌, true, ap, subst, length, ◌<◌, ◌≡◌}
use Rattle.world_rules.specs.Part.{is_among}
use Rattle.plain_world.proofs.Rising.{among_at, found_equal}
use Rattle.plain_world.proofs.numbers.Numbers.has.Goals as goal

pub returns-in-Ok : goal.returns-in-Ok
returns-in-Ok c _ =
    subst (λ (xs : List ℕ). is_among xs c.args.number ≡ true) (c.deref.ensures.value ∙ c.self.view_is)
    (among_at c.deref.result.now c.in-Ok.field-0 c.args.number c.in-Ok.ensures.bound (found_equal _ c.args.number (c.in-Ok.ensures.ok 0)))
