use Rattle.std.proofs.Common.{arith}
use Rattle.module_writer.proofs.NumberBytes.{begin_unsigned, more_unsigned, end_unsigned}
use Rattle.module_writer.proofs.numbers.write_u32.Goals as goal

pub loop-rest-init : goal.loop-rest-init
loop-rest-init c = begin_unsigned _ _ (omega arith)

pub loop-rest-preserved : goal.loop-rest-preserved
loop-rest-preserved c = more_unsigned _ _ _ _ _ c.loop-rest.invariant (omega arith) c.in_ok-push.ensures.items

pub returns : goal.returns
returns c = end_unsigned _ _ _ _ _ c.loop-rest.invariant (omega arith) c.in_ok-push-2.ensures.items
