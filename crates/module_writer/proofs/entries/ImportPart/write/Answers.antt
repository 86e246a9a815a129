use Rattle.std.proofs.Common.{refl}
use Rattle.module_writer.proofs.Appending.{appends_three}
use Rattle.module_writer.proofs.entries.ImportPart.write.Goals as goal

pub write-requires : goal.write-requires
write-requires c = record { bytes = c.requires.spells.0; spells = c.requires.spells.3 }

pub write-requires-2 : goal.write-requires-2
write-requires-2 c = record { bytes = c.requires.spells.1; spells = c.requires.spells.4 }

pub returns : goal.returns
returns c =
    appends_three _ _ _ _ _ _ _ _ _ _ _ _ _ _ _ _ c.in_ok-write.ensures c.in_ok-write-2.ensures c.in_ok-write_imported.ensures
    (λ s t u h k l. (s, t, u, h, k, l, refl)) refl
