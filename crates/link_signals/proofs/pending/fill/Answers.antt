use Rattle.std.proofs.Common.{ℕ, Bool, List, ◌++◌, map, ap, sym, ◌∙◌}
use Rattle.std.specs.List.{filter_map}
use Rattle.std.specs.List.Sorted.{IsStrictlySortedBy}
use Rattle.std.specs.Map.{keys_of}
use Rattle.std.specs.Ordering.{nat_cmp}
use Rattle.std.specs.FinMap.{from_entries}
use Rattle.std.proofs.lemmas.List.{append-nil}
use Rattle.link_signals.specs.Links.{pair_cmp}
use Rattle.link_signals.specs.Fall.{signal_to, members_of}
use Rattle.link_signals.proofs.Signals.{keys_in_order}
use Rattle.link_signals.proofs.pending.fill.Goals as goal

pub returns-clause-signals : goal.returns-clause-signals
returns-clause-signals c =
    let ordered : IsStrictlySortedBy nat_cmp (keys_of c.args.processes.now.entries) = c.into_iter-pid-iterator.ensures.into_iter_gives.5 in
    let none = c.in-None.ensures.steps.0 in
    sym (append-nil c.loop-pid.pending.items)
    ∙ ap (λ (es : List (ℕ × Bool)). c.loop-pid.pending.items ++ filter_map (signal_to (from_entries {R = pair_cmp} c.args.tags.now.entries) (members_of c.args.first c.args.others.now) c.args.member) (map (λ (e : ℕ × Bool). e.0) es)) (sym none)
    ∙ c.loop-pid.invariant.0
    ∙ ap (filter_map (signal_to (from_entries {R = pair_cmp} c.args.tags.now.entries) (members_of c.args.first c.args.others.now) c.args.member)) (sym (keys_in_order c.args.processes.now.entries ordered))
