use Rattle.std.proofs.Common.{arith}
use Rattle.resource_table.proofs.Tables.{found_in, found_changes, changes_from, changed_at_rises}
use Rattle.resource_table.proofs.resources.Resources.write_step.Goals as goal

pub invariant_of-self : goal.invariant_of-self
invariant_of-self g c =
    let small = c.self.invariant.0 in
    let room = c.self.invariant.1 in (
      omega arith,
      omega arith,
      changed_at_rises c.in_ok-place.place c.self.inside.handles.items c.write_at.new.handles.items _ c.self.invariant.2
          c.write_at.ensures.written,
    )

pub returns-clause-written : goal.returns-clause-written
returns-clause-written g c =
    let found = found_in c.args.h c.in_ok-place.place c.deref.result.now c.self.inside.handles.items
    c.deref.ensures.value c.self.invariant.2 c.in_ok-place.ensures in
    changes_from c.args.h c.self.inside.handles.items c.args.self.now c.write_at.new.handles.items _ c.self.view_is
    (found_changes c.args.h c.in_ok-place.place c.self.inside.handles.items c.write_at.new.handles.items _ found
    c.write_at.ensures.written)
