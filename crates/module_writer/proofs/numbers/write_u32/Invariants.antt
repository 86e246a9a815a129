use Rattle.module_writer.proofs.NumberBytes.{Writes}
use Rattle.module_writer.proofs.numbers.write_u32.Given as goal

abbrev pub invariant-loop-rest : goal.invariant-loop-rest
invariant-loop-rest l = Writes l.fn.n l.rest l.fn.out.items l.out.items

abbrev pub decreases-loop-rest : goal.decreases-loop-rest
decreases-loop-rest l = l.rest
