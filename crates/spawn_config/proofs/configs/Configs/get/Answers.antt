use Rattle.std.proofs.Common.{ap, sym, ◌∙◌}
use Rattle.std.specs.FinMap.{get}
use Rattle.spawn_config.specs.Held.{Held}
use Rattle.spawn_config.proofs.Maps.{get-map_of}
use Rattle.spawn_config.proofs.configs.Configs.get.Goals as goal

pub returns-clause-limits : goal.returns-clause-limits
returns-clause-limits c =
    c.copied.ensures
    ∙ c.get.ensures.value
    ∙ sym (get-map_of c.self.inside.limits c.args.id)
    ∙ ap (λ (h : Held). get h.limits c.args.id) c.self.view_is
