use Rattle.std.proofs.Common.{refl}
use Rattle.module_writer.proofs.Appending.{appends_both}
use Rattle.module_writer.proofs.entries.GlobalDefPart.write.Goals as goal

pub write-requires : goal.write-requires
write-requires c = record { bytes = c.requires.spells.1; spells = c.requires.spells.3 }

pub returns : goal.returns
returns c = appends_both _ _ _ _ _ _ _ _ _ _ _ _ c.in_ok-write_global_type.ensures c.in_ok-write.ensures (λ s t h k. (s, t, h, k, refl)) refl
