use Rattle.std.proofs.Common.{arith}
use Rattle.module_writer.proofs.Few.{short}
use Rattle.module_writer.proofs.lengths.number_length.Goals as goal

pub unreachable-requires : goal.unreachable-requires
unreachable-requires c = omega (arith, short c.args.n, c.in-None.ensures)
