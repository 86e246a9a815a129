use Rattle.std.proofs.Common.{ℕ, List, not, ap, ◌∙◌, rules}
use Rattle.std.specs.Cmp.{nat_cmp_total}
use Rattle.std.specs.FinMap.{remove, retain_keys, from_entries, nat_cmp-IsAntisymmetric}
use Rattle.std.proofs.lemmas.Map.Made.{filter_same_pairs}
use Rattle.link_signals.specs.Links.{Net, is_end, pair_cmp}
use Rattle.link_signals.proofs.Pairs.{pair_total, pair_apart}
use Rattle.link_signals.proofs.Maps.{remove_is, retain_is}
use Rattle.link_signals.proofs.links.Links.remove.Goals as goal

pub returns-clause-processes : goal.returns-clause-processes
returns-clause-processes c =
    c.drop_signals.ensures.processes
    ∙ remove_is nat_cmp_total nat_cmp-IsAntisymmetric c.self.inside.processes c.remove.new.self c.args.pid c.remove.ensures.updates
    ∙ ap (λ (n : Net). remove n.processes c.args.pid) c.self.view_is

pub returns-clause-tags : goal.returns-clause-tags
returns-clause-tags c =
    let kept = filter_same_pairs _ (λ (e : (ℕ × ℕ) × ℕ). not (is_end c.args.pid e.0)) _ (λ k v b w f' t. search rules) c.self.inside.tags.entries c.retain.new.self.entries c.retain.ensures.filtered in
    c.drop_signals.ensures.tags
    ∙ ap (λ (es : List ((ℕ × ℕ) × ℕ)). from_entries {R = pair_cmp} es) kept
    ∙ retain_is pair_total pair_apart (λ pair. not (is_end c.args.pid pair)) c.self.inside.tags.entries
    ∙ ap (λ (n : Net). retain_keys n.tags (λ pair. not (is_end c.args.pid pair))) c.self.view_is
