use Rattle.std.proofs.Common.{ℕ, sym, subst}
use Rattle.std.specs.Ordering.{nat_cmp}
use Rattle.std.specs.FinMap.{len-empty}
use Rattle.run_queue.proofs.Entries.{Once}
use Rattle.run_queue.proofs.Dues.{before_none}
use Rattle.run_queue.proofs.deadlines.Deadlines.new.Goals as goal

pub invariant_of-result : goal.invariant_of-result
invariant_of-result c = (
  subst Once (sym c.new.ensures.items) (len-empty nat_cmp ℕ),
  before_none c.new.result.items _ c.new.ensures.items,
)
