use Rattle.std.proofs.Common.{◌≡◌, ◌+◌, ◌≤◌, ◌++◌, length, map}
use Rattle.std.specs.List.{filter_map}
use Rattle.std.specs.FinMap.{from_entries}
use Rattle.std.specs.VecDeque.{deque_capacity}
use Rattle.link_signals.specs.Links.{pair_cmp}
use Rattle.link_signals.specs.Fall.{signal_to, members_of}
use Rattle.link_signals.proofs.pending.fill.Given as goal

abbrev pub invariant-loop-pid : goal.invariant-loop-pid
invariant-loop-pid l =
    (l.pending.items ++ filter_map (signal_to (from_entries {R = pair_cmp} l.tags.entries) (members_of l.first l.others) l.member) (map (λ e. e.0) l.pid-iterator)
    ≡ filter_map (signal_to (from_entries {R = pair_cmp} l.tags.entries) (members_of l.first l.others) l.member) (map (λ e. e.0) l.processes.entries))
    × (length l.pending.items + length l.pid-iterator ≤ deque_capacity l.pending)
    × (deque_capacity l.fn.pending ≤ deque_capacity l.pending)
