use Rattle.std.proofs.Common.{length, [], ◌∷◌, ◌++◌, Option, ap, ◌∙◌, arith}
use Rattle.resource_table.specs.Handles.{Handle}
use Rattle.resource_table.proofs.Closings.{sheds_length}
use Rattle.message_scratch.specs.Messages.{handles_in}
use Rattle.message_scratch.proofs.Closings.{closing_begins, closing_passes, closing_goes_on, popped_some, popped_none, count_reversed}
use Rattle.message_scratch.proofs.message.shut_slots.Goals as goal

pub loop-slot-init : goal.loop-slot-init
loop-slot-init g c =
    let same = ap (λ zs. length (handles_in zs)) c.reverse.ensures.items ∙ count_reversed c.args.slots.now.items in
    let room = c.requires.room in
    record {
      closing = closing_begins _ c.args.slots.now.items c.args.shed.now c.reverse.new.self.items c.reverse.ensures.items;
      room = omega (arith, same, room);
    }

pub shut-requires-after_bounds : goal.shut-requires-after_bounds
shut-requires-after_bounds g c κs within =
    let slot = λ (s : Option (Handle g.row.S.Denot)). c.pop.new.self.items ++ s ∷ [] in
    let items = c.in-Some.ensures.items ∙ ap slot c.in-Some-slot.is in
    let count = popped_some c.loop-slot.slots.items c.pop.new.self.items c.in-Some-slot.handle items in
    let room = c.loop-slot.invariant.room in
    omega (arith, count, room)

pub loop-slot-preserved-in-Some-slot : goal.loop-slot-preserved-in-Some-slot
loop-slot-preserved-in-Some-slot g c =
    let slot = λ (s : Option (Handle g.row.S.Denot)). c.pop.new.self.items ++ s ∷ [] in
    let items = c.in-Some.ensures.items ∙ ap slot c.in-Some-slot.is in
    let count = popped_some c.loop-slot.slots.items c.pop.new.self.items c.in-Some-slot.handle items in
    let longer = sheds_length _ (c.in-Some-slot.handle ∷ []) c.loop-slot.shed c.shut.new.self c.shut.ensures in
    let room = c.loop-slot.invariant.room in
    record {
      closing = closing_goes_on _ c.args.slots.now.items c.loop-slot.slots.items c.pop.new.self.items c.args.shed.now
          c.loop-slot.shed c.shut.new.self c.in-Some-slot.handle items c.loop-slot.invariant.closing c.shut.ensures;
      room = omega (arith, count, longer, room);
    }

pub loop-slot-preserved : goal.loop-slot-preserved
loop-slot-preserved g c =
    let slot = λ (s : Option (Handle g.row.S.Denot)). c.pop.new.self.items ++ s ∷ [] in
    let items = c.in-Some.ensures.items ∙ ap slot c.in-None.is in
    let count = popped_none c.loop-slot.slots.items c.pop.new.self.items items in
    let room = c.loop-slot.invariant.room in
    record {
      closing = closing_passes _ c.args.slots.now.items c.loop-slot.slots.items c.pop.new.self.items c.args.shed.now
          c.loop-slot.shed items c.loop-slot.invariant.closing;
      room = omega (arith, count, room);
    }
