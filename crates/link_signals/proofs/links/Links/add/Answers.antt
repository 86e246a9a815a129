use Rattle.std.proofs.Common.{true, ap, ◌∙◌}
use Rattle.std.specs.Cmp.{nat_cmp_total}
use Rattle.std.specs.FinMap.{insert, nat_cmp-IsAntisymmetric}
use Rattle.link_signals.specs.Links.{Net}
use Rattle.link_signals.proofs.Maps.{insert_is}
use Rattle.link_signals.proofs.links.Links.add.Goals as goal

pub returns-clause-processes : goal.returns-clause-processes
returns-clause-processes c =
    c.drop_signals.ensures.processes
    ∙ insert_is nat_cmp_total nat_cmp-IsAntisymmetric c.self.inside.processes c.insert.new.self c.args.pid true c.in_ok-insert.ensures.updates
    ∙ ap (λ (n : Net). insert n.processes c.args.pid true) c.self.view_is
