use Rattle.std.proofs.Common.{◌≡◌, None, ap, ◌∙◌, subst}
use Rattle.std.specs.FinMap.{get, insert}
use Rattle.spawn_config.specs.Held.{Held}
use Rattle.spawn_config.proofs.Maps.{unused, insert_is}
use Rattle.spawn_config.proofs.configs.Configs.create.Goals as goal

pub returns-in_err-next-clause-unused : goal.returns-in_err-next-clause-unused
returns-in_err-next-clause-unused c =
    subst (λ (h : Held). get h.limits h.next ≡ None) c.self.view_is
    (unused c.self.inside.limits c.self.inside.next c.self.invariant)

pub returns-in_err-insert-clause-unused : goal.returns-in_err-insert-clause-unused
returns-in_err-insert-clause-unused c =
    subst (λ (h : Held). get h.limits h.next ≡ None) c.self.view_is
    (unused c.self.inside.limits c.self.inside.next c.self.invariant)

pub returns-clause-unused : goal.returns-clause-unused
returns-clause-unused c =
    subst (λ (h : Held). get h.limits h.next ≡ None) c.self.view_is
    (unused c.self.inside.limits c.self.inside.next c.self.invariant)

pub returns-clause-limits : goal.returns-clause-limits
returns-clause-limits c =
    insert_is c.self.inside.limits c.insert.new.self c.self.inside.next c.args.own c.in_ok-insert.ensures.updates
    ∙ ap (λ (h : Held). insert h.limits h.next c.args.own) c.self.view_is
