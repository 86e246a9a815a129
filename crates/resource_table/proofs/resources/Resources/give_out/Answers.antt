use Rattle.std.proofs.Common.{ap, sym, subst, ◌∙◌, List, arith}
use Rattle.resource_table.specs.Handles.{Handle, handle_of, without_handle}
use Rattle.resource_table.proofs.Tables.{Lacks, Rises, lacks_from_none, handle_of-lacks, without_handle-lacks, found_in, found_given, found_left, found_rises}
use Rattle.resource_table.proofs.resources.Resources.give_out.Goals as goal

pub returns-in_err-place-clause-given : goal.returns-in_err-place-clause-given
returns-in_err-place-clause-given g c =
    let P : List (Handle g.row.S.Denot) → Type 0 = λ zs. Lacks c.args.h zs in
    let lacks = subst P (c.deref.ensures.value ∙ c.self.view_is)
    (lacks_from_none c.args.h c.deref.result.now c.in_err-place.ensures) in
    c.from_residual.ensures ∙ sym (handle_of-lacks c.args.h c.args.self.now lacks)

pub returns-in_err-place-clause-left : goal.returns-in_err-place-clause-left
returns-in_err-place-clause-left g c =
    let P : List (Handle g.row.S.Denot) → Type 0 = λ zs. Lacks c.args.h zs in
    let lacks = subst P (c.deref.ensures.value ∙ c.self.view_is)
    (lacks_from_none c.args.h c.deref.result.now c.in_err-place.ensures) in
    sym (without_handle-lacks c.args.h c.args.self.now lacks)

pub invariant_of-self : goal.invariant_of-self
invariant_of-self g c =
    let found = found_in c.args.h c.in_ok-place.place c.deref.result.now c.self.inside.handles.items
    c.deref.ensures.value c.self.invariant.2 c.in_ok-place.ensures in
    let small = c.self.invariant.0 in
    let room = c.self.invariant.1 in (
      omega arith,
      omega arith,
      subst Rises (sym c.remove.ensures.items)
          (found_rises c.args.h c.in_ok-place.place c.self.inside.handles.items found),
    )

pub returns-clause-given : goal.returns-clause-given
returns-clause-given g c =
    let found = found_in c.args.h c.in_ok-place.place c.deref.result.now c.self.inside.handles.items
    c.deref.ensures.value c.self.invariant.2 c.in_ok-place.ensures in
    found_given c.args.h c.in_ok-place.place c.self.inside.handles.items c.remove.result found c.remove.ensures.value
    ∙ ap (handle_of c.args.h) c.self.view_is

pub returns-clause-left : goal.returns-clause-left
returns-clause-left g c =
    let found = found_in c.args.h c.in_ok-place.place c.deref.result.now c.self.inside.handles.items
    c.deref.ensures.value c.self.invariant.2 c.in_ok-place.ensures in
    c.remove.ensures.items ∙ found_left c.args.h c.in_ok-place.place c.self.inside.handles.items found
    ∙ ap (without_handle c.args.h) c.self.view_is
