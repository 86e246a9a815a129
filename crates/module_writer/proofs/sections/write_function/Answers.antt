use Rattle.std.proofs.Common.{refl}
use Rattle.module_writer.proofs.Appending.{appends_as}
use Rattle.module_writer.proofs.Sized.{start_section}
use Rattle.module_writer.proofs.sections.write_function.Goals as goal

pub returns : goal.returns
returns c =
    appends_as _ _ _ _ _ _ _ _ (start_section _ _ _ _ _ _ c.in_ok-push.ensures.items c.in_ok-write_u32.ensures c.in_ok-write_u32-2.ensures c.number_length.ensures)
    (λ s h. h) refl
