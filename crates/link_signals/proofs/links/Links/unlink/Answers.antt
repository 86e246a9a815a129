use Rattle.std.proofs.Common.{ℕ, ap, ◌∙◌}
use Rattle.std.specs.FinMap.{remove}
use Rattle.link_signals.specs.Links.{Net}
use Rattle.link_signals.proofs.Pairs.{pair_total, pair_apart}
use Rattle.link_signals.proofs.Maps.{remove_is}
use Rattle.link_signals.proofs.links.Links.unlink.Goals as goal

pub returns-clause-tags : goal.returns-clause-tags
returns-clause-tags c =
    c.drop_signals.ensures.tags
    ∙ remove_is pair_total pair_apart c.self.inside.tags c.remove.new.self c.ends.result c.remove.ensures.updates
    ∙ ap (λ (n : Net). remove n.tags c.ends.result) c.self.view_is
    ∙ ap (λ (k : ℕ × ℕ). remove c.args.self.now.tags k) c.ends.ensures
