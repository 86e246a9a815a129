use Rattle.std.proofs.Common.{refl}
use Rattle.module_writer.proofs.Appending.{pushed_as}
use Rattle.module_writer.proofs.types.ValTypePart.write.Goals as goal

pub returns : goal.returns
returns c = pushed_as _ _ _ _ _ _ c.in_ok-push.ensures.items c.byte_of.ensures refl
