use Rattle.std.proofs.Common.{refl, sym, ◌∙◌, ap, arith, [], ◌∷◌}
use Rattle.world_rules.specs.Links.{spread}
use Rattle.plain_world.specs.Shown.{shown_world}
use Rattle.plain_world.proofs.Falling.{spread_stays}
use Rattle.plain_world.proofs.world.PlainWorld.spread_from.Goals as goal

pub returns-then-are_same : goal.returns-then-are_same
returns-then-are_same c =
    spread_stays (shown_world c.args.self.now) (c.args.pid ∷ []) c.loop-round.members.items c.loop-round._round
    c.args.self.now.numbers_drawn c.loop-round.invariant
    (sym (c.in_ok-more.ensures ∙ ap (spread (shown_world c.args.self.now)) c.deref.ensures.value)
    ∙ sym c.deref-in-loop-round.ensures.value ∙ c.if-are_same.ensures.0 refl ∙ c.deref-in-loop-round-2.ensures.value)
    (omega arith)
