use Rattle.std.proofs.Common.{◌<◌, length, refl, rules}
use Rattle.message_scratch.proofs.Slots.{take_left}
use Rattle.message_scratch.proofs.message.Message.take.Goals as goal

pub returns-clause-left : goal.returns-clause-left
returns-clause-left g c =
    let slots = c.self.inside.slots.items in
    let within = c.in_ok-get_mut.ensures.variant.0 refl in
    let lt : c.args.place < length slots = search rules in
    take_left c.take.result (record { tag = c.self.inside.tag; bytes = c.self.inside.bytes.items; slots = slots })
    c.args.self.now c.args.place c.take.new.self c.take.ensures.after lt c.self.view_is
