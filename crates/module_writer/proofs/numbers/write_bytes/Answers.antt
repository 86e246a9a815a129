use Rattle.std.proofs.Common.{ℕ, List, length, arith, ◌++◌, refl, ap}
use Rattle.leb_read.proofs.Unsigned.{fits}
use Rattle.module_writer.proofs.Appending.{extended, appends_both}
use Rattle.module_writer.proofs.numbers.write_bytes.Goals as goal

pub overflow_cast-bytes : goal.overflow_cast-bytes
overflow_cast-bytes c = omega (arith, fits 32 (length c.args.bytes.now) c.requires.spells.0 c.requires.spells.1)

pub returns : goal.returns
returns c =
    appends_both _ _ _ _ _ _ _ _ _ _ _ _ c.in_ok-write_u32.ensures (extended _ _ _ c.in_ok-extend_from_slice.ensures.items)
    (λ s t h k. (s, h, ap (λ (l : List ℕ). s ++ l) k)) refl
