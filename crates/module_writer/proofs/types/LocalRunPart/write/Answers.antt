use Rattle.std.proofs.Common.{refl}
use Rattle.wasm_form.specs.Types.{SpellsValType}
use Rattle.wasm_form.specs.Least.{least_val_type}
use Rattle.module_writer.proofs.Appending.{pushed_as, appends_both}
use Rattle.module_writer.proofs.types.LocalRunPart.write.Goals as goal

pub returns : goal.returns
returns c =
    appends_both _ _ _ _ _ _ _ _ _ _ _ _ c.in_ok-write_u32.ensures
    (pushed_as SpellsValType least_val_type _ c.args.self.now.ty _ _ c.in_ok-push.ensures.items c.byte_of.ensures refl) (λ s t h k. (s, t, h, k, refl)) refl
