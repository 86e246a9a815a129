use Rattle.std.proofs.Common.{refl}
use Rattle.wasm_form.specs.Sections.{SpellsExportKind}
use Rattle.module_writer.proofs.Appending.{pushed_as, appends_three}
use Rattle.module_writer.proofs.entries.ExportPart.write.Goals as goal

pub write-requires : goal.write-requires
write-requires c = record { bytes = c.requires.spells.0; spells = c.requires.spells.3 }

pub returns : goal.returns
returns c =
    appends_three _ _ _ _ _ _ _ _ _ _ _ _ _ _ _ _ c.in_ok-write.ensures
    (pushed_as SpellsExportKind (λ _. 1) _ c.args.self.now.kind _ _ c.in_ok-push.ensures.items c.kind_byte_of.ensures refl) c.in_ok-write_u32.ensures
    (λ s t u h k l. (s, t, u, h, k, l, refl)) refl
