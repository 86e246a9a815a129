use Rattle.std.proofs.Common.{◌≤◌, ◌-◌, length, vec_capacity, nat_cmp}
use Rattle.std.specs.BTreeMap.{btree_map_len}
use Rattle.std.specs.FinMap.{from_entries}
use Rattle.link_signals.specs.Links.{pair_cmp}
use Rattle.link_signals.proofs.Spread.{Grown}
use Rattle.link_signals.proofs.fall.spread.Given as goal

abbrev pub invariant-loop-pid : goal.invariant-loop-pid
invariant-loop-pid l = record {
  grown : Grown (from_entries {R = nat_cmp} l.processes.entries) (from_entries {R = pair_cmp} l.tags.entries) l.first l.others.items;
  capacity : vec_capacity l.fn.others ≤ vec_capacity l.others;
}

abbrev pub decreases-loop-pid : goal.decreases-loop-pid
decreases-loop-pid l = btree_map_len l.processes - length l.others.items
