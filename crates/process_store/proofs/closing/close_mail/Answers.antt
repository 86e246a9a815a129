use Rattle.std.proofs.Common.{length, length-append, arith, ap, refl, ◌∙◌, sym}
use Rattle.message_scratch.specs.Messages.{handles_in}
use Rattle.resource_table.proofs.Closings.{sheds_length}
use Rattle.process_store.proofs.Letting.{closing_begins, closing_goes_on, closing_skips, handles_few, items_length, items_skip, no_streams, sheds_item}
use Rattle.process_store.proofs.closing.close_mail.Goals as goal

pub loop-item-init : goal.loop-item-init
loop-item-init g c = record {
  closing = closing_begins _ c.args.mail.items c.args.closed.now.items;
  empty = c.requires.empty;
  room = c.requires.room;
  capacity = refl;
}

pub shut_into-requires-clause-room : goal.shut_into-requires-clause-room
shut_into-requires-clause-room g c κs within =
    let empty = ap length c.loop-item.invariant.empty in
    let few = handles_few c.in-Some-into_message.message.slots in
    let most = c.pushes-pushes.ensures.bounded in
    omega (arith, empty, few, most)

pub close_all-requires-clause-room : goal.close_all-requires-clause-room
close_all-requires-clause-room g c κs within =
    let m = c.in-Some-into_message.message in
    let empty = ap length c.loop-item.invariant.empty in
    let shut = sheds_length _ (handles_in m.slots) c.loop-item.shed c.shut_into.new.shed c.shut_into.ensures.shed in
    let whole = items_length c.loop-item.items.items c.pop.new.self.items c.in-Some.item m c.in-Some.ensures.popped c.in-Some-into_message.ensures in
    let room = c.loop-item.invariant.room in
    omega (arith, empty, shut, whole, room)

pub loop-item-preserved-in-Some-into_message : goal.loop-item-preserved-in-Some-into_message
loop-item-preserved-in-Some-into_message g c =
    let m = c.in-Some-into_message.message in
    let i = c.loop-item.invariant in
    let empty = ap length i.empty in
    let shut = sheds_length _ (handles_in m.slots) c.loop-item.shed c.shut_into.new.shed c.shut_into.ensures.shed in
    let whole = items_length c.loop-item.items.items c.pop.new.self.items c.in-Some.item m c.in-Some.ensures.popped c.in-Some-into_message.ensures in
    let room = i.room in
    let capacity = c.close_all.ensures.capacity in
    let was = c.loop-item.closed.ok.0 in
    let is = c.close_all.new.closed.ok.0 in
    let longer = ap length c.close_all.ensures.closed ∙ length-append c.loop-item.closed.items c.shut_into.new.shed in
    record {
      closing = closing_goes_on _ c.args.mail.items c.loop-item.items.items c.pop.new.self.items c.args.closed.now.items c.loop-item.closed.items c.close_all.new.closed.items
          c.in-Some.item c.in-Some.ensures.popped i.closing
          (sheds_item _ c.in-Some.item m c.loop-item.shed c.shut_into.new.shed c.loop-item.closed.items c.close_all.new.closed.items
          c.in-Some-into_message.ensures i.empty c.shut_into.ensures.shed c.close_all.ensures.closed);
      empty = c.close_all.ensures.shed;
      room = omega (arith, empty, shut, whole, room, capacity, was, is, longer);
      capacity = capacity ∙ i.capacity;
    }
