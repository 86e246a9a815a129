use Rattle.std.proofs.Common.{ℕ, List, ap, ◌∙◌}
use Rattle.link_signals.specs.Links.{Net}
use Rattle.link_signals.specs.Fall.{is_among, members_of}
use Rattle.link_signals.proofs.Members.{decides}
use Rattle.link_signals.proofs.links.Links.fallen.Goals as goal

pub returns : goal.returns
returns c =
    decides c.args.self.now.members c.args.pid c.is_fallen.result
    (c.is_fallen.ensures
    ∙ ap (λ (xs : List ℕ). is_among (members_of c.self.inside.first xs) c.args.pid) c.deref.ensures.value
    ∙ ap (λ (n : Net). is_among n.members c.args.pid) c.self.view_is)
