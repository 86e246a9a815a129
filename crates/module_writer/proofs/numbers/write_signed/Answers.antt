use Rattle.std.proofs.Common.{arith}
use Rattle.module_writer.proofs.NumberBytes.{begin_signed, more_signed, end_signed}
use Rattle.module_writer.proofs.numbers.write_signed.Goals as goal

pub loop-rest-init : goal.loop-rest-init
loop-rest-init c = begin_signed _ _ _

pub loop-rest-preserved : goal.loop-rest-preserved
loop-rest-preserved c =
    more_signed _ _ _ _ _ _ _ c.loop-rest.invariant (omega arith) (omega arith) c.next_byte.ensures c.in_ok-push.ensures.items

pub returns : goal.returns
returns c =
    end_signed _ _ _ _ _ _ _ c.loop-rest.invariant (omega arith) c.last_byte.ensures c.in_ok-push-2.ensures.items
