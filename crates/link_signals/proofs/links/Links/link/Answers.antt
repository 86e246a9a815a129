use Rattle.std.proofs.Common.{ℕ, ap, ◌∙◌}
use Rattle.std.specs.FinMap.{insert}
use Rattle.link_signals.specs.Links.{Net}
use Rattle.link_signals.proofs.Pairs.{pair_total, pair_apart}
use Rattle.link_signals.proofs.Maps.{insert_is}
use Rattle.link_signals.proofs.links.Links.link.Goals as goal

pub returns-clause-tags : goal.returns-clause-tags
returns-clause-tags c =
    c.drop_signals.ensures.tags
    ∙ insert_is pair_total pair_apart c.self.inside.tags c.insert.new.self c.ends-pair.result c.args.tag c.in_ok-insert.ensures.updates
    ∙ ap (λ (n : Net). insert n.tags c.ends-pair.result c.args.tag) c.self.view_is
    ∙ ap (λ (k : ℕ × ℕ). insert c.args.self.now.tags k c.args.tag) c.ends-pair.ensures
