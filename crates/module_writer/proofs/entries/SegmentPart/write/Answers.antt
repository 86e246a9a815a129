use Rattle.std.proofs.Common.{refl}
use Rattle.module_writer.proofs.Appending.{appends_three}
use Rattle.module_writer.proofs.entries.SegmentPart.write.Goals as goal

pub write-requires : goal.write-requires
write-requires c = record { bytes = c.requires.spells.1; spells = c.requires.spells.4 }

pub write_bytes-requires : goal.write_bytes-requires
write_bytes-requires c = rw c.as_slice.ensures (record { bytes = c.requires.spells.2; spells = c.requires.spells.5 })

pub returns : goal.returns
returns c =
    appends_three _ _ _ _ _ _ _ _ _ _ _ _ _ _ _ _ c.in_ok-write_u32.ensures c.in_ok-write.ensures (rw c.as_slice.ensures at c.in_ok-write_bytes.ensures)
    (λ s t u h k l. (s, t, u, h, k, l, refl)) refl
