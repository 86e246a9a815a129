use Rattle.std.proofs.Common.{arith}
use Rattle.module_writer.proofs.NumberBytes.{low_s32, high_s32}
use Rattle.module_writer.proofs.numbers.write_s32.Goals as goal

pub returns-then-bits : goal.returns-then-bits
returns-then-bits c = low_s32 _ _ _ (omega arith) (c.in_ok-write_signed.ensures 32 (omega arith) (omega arith))

pub returns : goal.returns
returns c = high_s32 _ _ _ _ (omega arith) (omega arith) (omega arith) (c.in_ok-write_signed-2.ensures 32 (omega arith) (omega arith))
