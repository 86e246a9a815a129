use Rattle.std.proofs.Common.{refl}
use Rattle.module_writer.proofs.Appending.{appends_both}
use Rattle.module_writer.proofs.entries.write_function.Goals as goal

pub write_vector-requires : goal.write_vector-requires
write_vector-requires c = record { bytes = c.requires.spells.0; spells = c.requires.spells.2 }

pub write-requires : goal.write-requires
write-requires c = record { bytes = c.requires.spells.1; spells = c.requires.spells.3 }

pub returns : goal.returns
returns c =
    appends_both _ _ _ _ _ _ _ _ _ _ _ _ c.in_ok-write_vector.ensures c.in_ok-write.ensures (λ s t h k. (s, t, h, k, c.requires.spells.4, refl)) refl
