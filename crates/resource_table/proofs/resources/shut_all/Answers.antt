use Rattle.std.proofs.Common.{[], ◌∷◌, ◌∙◌, arith, rules}
use Rattle.resource_table.proofs.Closings.{closing_begins, closing_goes_on, sheds_length}
use Rattle.resource_table.proofs.resources.shut_all.Goals as goal

pub loop-handle-init : goal.loop-handle-init
loop-handle-init g c = record {
  closing = closing_begins _ c.args.handles.now.items c.args.shed.now c.reverse.new.self.items c.reverse.ensures.items;
  room = search rules;
  capacity = c.reverse.ensures.capacity;
}

pub loop-handle-preserved : goal.loop-handle-preserved
loop-handle-preserved g c =
    let items = c.in-Some.ensures.items in
    let len = c.in-Some.ensures.len in
    record {
      closing = closing_goes_on _ c.args.handles.now.items c.args.shed.now c.loop-handle.handles.items
          c.pop.new.self.items c.loop-handle.shed c.shut.new.self c.in-Some.handle items c.loop-handle.invariant.closing
          c.shut.ensures;
      room =
          let longer = sheds_length _ (c.in-Some.handle ∷ []) c.loop-handle.shed c.shut.new.self c.shut.ensures in
          let room = c.loop-handle.invariant.room in
          omega (arith, longer, room, len);
      capacity = c.in-Some.ensures.capacity ∙ c.loop-handle.invariant.capacity;
    }
