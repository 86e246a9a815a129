use Rattle.std.proofs.Common.{ℕ, Some, None, ap, sym, ◌∙◌}
use Rattle.std.specs.BTreeMap as tree
use Rattle.std.specs.FinMap.{from_entries}
use Rattle.link_signals.specs.Links.{pair_cmp, ends}
use Rattle.link_signals.specs.Fall.{members_of}
use Rattle.link_signals.proofs.Pairs.{pair_total, pair_apart}
use Rattle.link_signals.proofs.Maps.{get-map_of}
use Rattle.link_signals.proofs.Signals.{signal_is}
use Rattle.link_signals.proofs.pending.signal_to.Goals as goal

pub returns-in_err-tag : goal.returns-in_err-tag
returns-in_err-tag c =
    let tag = get-map_of pair_total pair_apart c.args.tags.now (ends c.args.member c.args.pid)
    ∙ ap (λ (k : ℕ × ℕ). tree.get pair_cmp c.args.tags.now k) (sym c.ends.ensures) ∙ sym c.get.ensures.value ∙ sym c.copied.ensures ∙ c.in_err-tag.was in
    c.from_residual.ensures ∙ sym (signal_is (from_entries c.args.tags.now.entries) (members_of c.args.first c.args.others.now) c.args.member c.args.pid None (sym c.is_fallen.ensures ∙ c.if-is_fallen.false) tag)

pub returns : goal.returns
returns c =
    let tag = get-map_of pair_total pair_apart c.args.tags.now (ends c.args.member c.args.pid)
    ∙ ap (λ (k : ℕ × ℕ). tree.get pair_cmp c.args.tags.now k) (sym c.ends.ensures) ∙ sym c.get.ensures.value ∙ sym c.copied.ensures ∙ c.in_ok-tag.was in
    sym (signal_is (from_entries c.args.tags.now.entries) (members_of c.args.first c.args.others.now) c.args.member c.args.pid (Some c.in_ok-tag.tag) (sym c.is_fallen.ensures ∙ c.if-is_fallen.false) tag)
