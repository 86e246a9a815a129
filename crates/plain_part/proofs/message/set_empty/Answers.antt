use Rattle.std.specs.Prelude.{None}
use Rattle.plain_part.proofs.SlotLaws.{set_parts}
use Rattle.plain_part.proofs.message.set_empty.Goals as goal

pub returns : goal.returns
returns c = set_parts c.args.slots.now c.args.place None c.requires
