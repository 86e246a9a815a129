use Rattle.std.proofs.Common.{length, length-append, arith, ap, refl, ◌∙◌}
use Rattle.message_scratch.specs.Messages.{handles_in}
use Rattle.resource_table.proofs.Closings.{sheds_length}
use Rattle.process_table.proofs.Letting.{closing_begins, closing_goes_on, handles_few, sheds_letter, letters_length}
use Rattle.process_table.proofs.closing.close_mail.Goals as goal

pub loop-letter-init : goal.loop-letter-init
loop-letter-init g c = record {
  closing = closing_begins _ c.args.mail.items c.args.closed.now.items;
  empty = c.requires.empty;
  room = c.requires.room;
  capacity = refl;
}

pub shut_into-requires-clause-room : goal.shut_into-requires-clause-room
shut_into-requires-clause-room g c κs within =
    let empty = ap length c.loop-letter.invariant.empty in
    let few = handles_few c.into_message-message.result.slots in
    let most = c.pushes-pushes.ensures.bounded in
    omega (arith, empty, few, most)

pub close_all-requires-clause-room : goal.close_all-requires-clause-room
close_all-requires-clause-room g c κs within =
    let m = c.into_message-message.result in
    let empty = ap length c.loop-letter.invariant.empty in
    let shut = sheds_length _ (handles_in m.slots) c.loop-letter.shed c.shut_into.new.shed c.shut_into.ensures.shed in
    let whole = letters_length c.loop-letter.letters.items c.pop.new.self.items c.in-Some.letter m c.in-Some.ensures.popped c.into_message-message.ensures in
    let room = c.loop-letter.invariant.room in
    omega (arith, empty, shut, whole, room)

pub loop-letter-preserved : goal.loop-letter-preserved
loop-letter-preserved g c =
    let m = c.into_message-message.result in
    let i = c.loop-letter.invariant in
    let empty = ap length i.empty in
    let shut = sheds_length _ (handles_in m.slots) c.loop-letter.shed c.shut_into.new.shed c.shut_into.ensures.shed in
    let whole = letters_length c.loop-letter.letters.items c.pop.new.self.items c.in-Some.letter m c.in-Some.ensures.popped c.into_message-message.ensures in
    let room = i.room in
    let capacity = c.close_all.ensures.capacity in
    let was = c.loop-letter.closed.ok.0 in
    let is = c.close_all.new.closed.ok.0 in
    let longer = ap length c.close_all.ensures.closed ∙ length-append c.loop-letter.closed.items c.shut_into.new.shed in
    record {
      closing = closing_goes_on _ c.args.mail.items c.loop-letter.letters.items c.pop.new.self.items c.args.closed.now.items c.loop-letter.closed.items c.close_all.new.closed.items
          c.in-Some.letter c.in-Some.ensures.popped i.closing
          (sheds_letter _ c.in-Some.letter m c.loop-letter.shed c.shut_into.new.shed c.loop-letter.closed.items c.close_all.new.closed.items
          c.into_message-message.ensures i.empty c.shut_into.ensures.shed c.close_all.ensures.closed);
      empty = c.close_all.ensures.shed;
      room = omega (arith, empty, shut, whole, room, capacity, was, is, longer);
      capacity = capacity ∙ i.capacity;
    }
