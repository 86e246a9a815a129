use Rattle.std.proofs.Common.{◌≡◌, ◌≤◌, ◌-◌, ◌++◌, length}
use Rattle.std.specs.Ordering.{nat_cmp}
use Rattle.std.specs.BTreeMap.{btree_map_len}
use Rattle.std.specs.FinMap.{from_entries}
use Rattle.std.specs.VecDeque.{deque_capacity}
use Rattle.link_signals.specs.Links.{pair_cmp}
use Rattle.link_signals.specs.Fall.{signals_left, members_of}
use Rattle.link_signals.proofs.pending.refill.Given as goal

abbrev pub invariant-loop-first : goal.invariant-loop-first
invariant-loop-first l =
    (l.pending.items ++ signals_left (from_entries {R = nat_cmp} l.processes.entries) (from_entries {R = pair_cmp} l.tags.entries) (members_of l.first l.others) l.next
    ≡ l.fn.pending.items ++ signals_left (from_entries {R = nat_cmp} l.processes.entries) (from_entries {R = pair_cmp} l.tags.entries) (members_of l.first l.others) l.fn.next)
    × (btree_map_len l.processes ≤ deque_capacity l.pending)
    × (deque_capacity l.fn.pending ≤ deque_capacity l.pending)

abbrev pub decreases-loop-first : goal.decreases-loop-first
decreases-loop-first l = length (members_of l.first l.others) - l.next
