use Rattle.std.proofs.Common.{refl, arith}
use Rattle.module_writer.proofs.Items.{counted, items_of}
use Rattle.module_writer.proofs.Appending.{appends_both}
use Rattle.module_writer.proofs.part.write_vector.Goals as goal

pub overflow_cast-len : goal.overflow_cast-len
overflow_cast-len g c = omega (arith, c.len.ensures, counted g.T.Part.spells c.args.items.now c.requires)

pub write_items-requires : goal.write_items-requires
write_items-requires g c = rw c.as_slice.ensures (items_of g.T.Part.spells c.args.items.now c.requires)

pub returns : goal.returns
returns g c =
    appends_both _ _ _ _ _ _ _ _ _ _ _ _ (rw c.len.ensures at c.in_ok-write_u32.ensures) (rw c.as_slice.ensures at c.in_ok-write_items.ensures)
    (λ s t h k. (s, t, h, k, refl)) refl
