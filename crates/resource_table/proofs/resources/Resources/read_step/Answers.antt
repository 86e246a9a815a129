use Rattle.std.proofs.Common.{subst, List, arith}
use Rattle.std.specs.List.{Contains}
use Rattle.resource_table.specs.Handles.{Handle, numbers_of}
use Rattle.resource_table.proofs.Tables.{found_in, found_contains, found_changes, changes_from, changed_at_rises}
use Rattle.resource_table.proofs.resources.Resources.read_step.Goals as goal

pub invariant_of-self : goal.invariant_of-self
invariant_of-self g c =
    let small = c.self.invariant.0 in
    let room = c.self.invariant.1 in (
      omega arith,
      omega arith,
      changed_at_rises c.in_ok-place.place c.self.inside.handles.items c.read_at.new.handles.items _ c.self.invariant.2
          c.read_at.ensures.read,
    )

pub returns-clause-none : goal.returns-clause-none
returns-clause-none g c =
    let found = found_in c.args.h c.in_ok-place.place c.deref.result.now c.self.inside.handles.items
    c.deref.ensures.value c.self.invariant.2 c.in_ok-place.ensures in
    let P : List (Handle g.row.S.Denot) → Type 0 = λ zs. Contains (numbers_of zs) c.args.h in
    let there = subst P c.self.view_is
    (found_contains c.args.h c.in_ok-place.place c.self.inside.handles.items found) in
    (λ e. absurd cc, λ none. absurd (none there))

pub returns-clause-read : goal.returns-clause-read
returns-clause-read g c =
    let found = found_in c.args.h c.in_ok-place.place c.deref.result.now c.self.inside.handles.items
    c.deref.ensures.value c.self.invariant.2 c.in_ok-place.ensures in
    changes_from c.args.h c.self.inside.handles.items c.args.self.now c.read_at.new.handles.items _ c.self.view_is
    (found_changes c.args.h c.in_ok-place.place c.self.inside.handles.items c.read_at.new.handles.items _ found
    c.read_at.ensures.read)
