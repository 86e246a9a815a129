use Rattle.std.proofs.Common.{length}
use Rattle.body_reader.specs.Items.{Collects}
use Rattle.body_reader.proofs.expr.code_at.Given as goal

abbrev pub invariant-loop-depth : goal.invariant-loop-depth
invariant-loop-depth l = Collects l.fn.cursor l.cursor l.code l.labels l.depth

abbrev pub decreases-loop-depth : goal.decreases-loop-depth
decreases-loop-depth l = length l.cursor.left
