use Rattle.std.proofs.Common.{◌≡◌, ◌+◌, ◌≤◌, ◌<◌, [], length, reverse, vec_capacity}
use Rattle.log_lock.proofs.SplitViews.{with_numbers}
use Rattle.log_lock.specs.Knowledge.{numbers_below}
use Rattle.log_lock.specs.Steps.{alone}
use Rattle.log_lock.specs.Words.{EachFrom}
use Rattle.log_lock.proofs.pass.LogLock.split.Given as goal

abbrev pub invariant-loop-k : goal.invariant-loop-k
invariant-loop-k g l =
    (0 < l.k)
    × (l.k ≤ l.initial.k)
    × (l.seat.table_id ≡ l.initial.seat.table_id)
    × (l.seat.me.1 ≡ [])
    × (l.seat.me.0 ≡ with_numbers (numbers_below l.k) l.initial.seat.me.0)
    × (length l.list.items + l.k ≡ l.initial.k)
    × (l.initial.k ≤ vec_capacity l.list)
    × EachFrom (λ k p. (p.seat.table_id ≡ l.initial.seat.table_id) × (p.seat.me.0 ≡ alone k l.initial.seat.me.0)) l.k (reverse l.list.items)

abbrev pub decreases-loop-k : goal.decreases-loop-k
decreases-loop-k g l = l.k
