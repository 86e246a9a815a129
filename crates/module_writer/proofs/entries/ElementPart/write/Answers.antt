use Rattle.std.proofs.Common.{refl}
use Rattle.module_writer.proofs.Appending.{appends_three}
use Rattle.module_writer.proofs.entries.ElementPart.write.Goals as goal

pub write-requires : goal.write-requires
write-requires c = record { bytes = c.requires.spells.1; spells = c.requires.spells.4 }

pub write_vector-requires : goal.write_vector-requires
write_vector-requires c = record { bytes = c.requires.spells.2; spells = c.requires.spells.5 }

pub returns : goal.returns
returns c =
    appends_three _ _ _ _ _ _ _ _ _ _ _ _ _ _ _ _ c.in_ok-write_u32.ensures c.in_ok-write.ensures c.in_ok-write_vector.ensures
    (λ s t u h k l. (s, t, u, h, k, l, refl)) refl
