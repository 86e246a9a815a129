use Rattle.std.proofs.Common.{refl}
use Rattle.wasm_form.specs.Types.{SpellsValType, SpellsMutability}
use Rattle.wasm_form.specs.Least.{least_val_type}
use Rattle.module_writer.proofs.Appending.{pushed_as, appends_both}
use Rattle.module_writer.proofs.types.write_global_type.Goals as goal

pub returns : goal.returns
returns c =
    appends_both _ _ _ _ _ _ _ _ _ _ _ _ (pushed_as SpellsValType least_val_type _ c.args.ty.ty _ _ c.in_ok-push.ensures.items c.byte_of.ensures refl)
    (pushed_as SpellsMutability (λ _. 1) _ c.args.ty.mutable _ _ c.in_ok-push-2.ensures.items c.mutability_of.ensures refl) (λ s t h k. (s, t, h, k, refl)) refl
