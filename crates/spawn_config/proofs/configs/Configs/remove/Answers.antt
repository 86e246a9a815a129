use Rattle.std.proofs.Common.{is_some, ap, sym, ◌∙◌}
use Rattle.std.specs.FinMap.{get, remove}
use Rattle.spawn_config.specs.Held.{Held}
use Rattle.spawn_config.proofs.Maps.{get-map_of, remove_is}
use Rattle.spawn_config.proofs.configs.Configs.remove.Goals as goal

pub returns-clause-there : goal.returns-clause-there
returns-clause-there c =
    let there = c.is_some.ensures ∙ ap is_some
    (c.remove.ensures.value ∙ sym (get-map_of c.self.inside.limits c.args.id)
    ∙ ap (λ (h : Held). get h.limits c.args.id) c.self.view_is) in
    (λ t. sym there ∙ t, λ t. there ∙ t)

pub returns-clause-limits : goal.returns-clause-limits
returns-clause-limits c =
    remove_is c.self.inside.limits c.remove.new.self c.args.id c.remove.ensures.updates
    ∙ ap (λ (h : Held). remove h.limits c.args.id) c.self.view_is
