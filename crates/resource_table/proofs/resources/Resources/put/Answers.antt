use Rattle.std.proofs.Common.{ap, sym, subst, ◌∙◌, List, arith}
use Rattle.std.specs.List.{Contains}
use Rattle.resource_table.specs.Handles.{Handle, numbers_of, with_handle}
use Rattle.resource_table.proofs.Tables.{placed, Rises}
use Rattle.resource_table.proofs.resources.Resources.put.Goals as goal

pub invariant_of-self : goal.invariant_of-self
invariant_of-self g c =
    let xs = c.self.inside.handles.items in
    let P : List (Handle g.row.S.Denot) → Type 0 = λ zs. Contains (numbers_of zs) c.args.h.number in
    let at = placed c.args.h c.number.result c.place_for-place.result c.deref.result.now xs c.deref.ensures.value
    c.number.ensures c.self.invariant.2 c.place_for-place.ensures
    (λ there. c.requires.new (subst P c.self.view_is there)) in
    let small = c.self.invariant.0 in
    let room = c.self.invariant.1 in
    let len = c.in-Ok.ensures.len in
    let kept = c.in-Ok.ensures.capacity in
    let full = c.if-len-eq-PLACES.false in
    let counted = c.len.ensures in
    (omega (arith, len, full, counted), omega (arith, kept), subst Rises (sym c.in-Ok.ensures.items) at.1)

pub returns-clause-ok : goal.returns-clause-ok
returns-clause-ok g c =
    let xs = c.self.inside.handles.items in
    let P : List (Handle g.row.S.Denot) → Type 0 = λ zs. Contains (numbers_of zs) c.args.h.number in
    let at = placed c.args.h c.number.result c.place_for-place.result c.deref.result.now xs c.deref.ensures.value
    c.number.ensures c.self.invariant.2 c.place_for-place.ensures
    (λ there. c.requires.new (subst P c.self.view_is there)) in
    c.in-Ok.ensures.items ∙ at.0 ∙ ap (with_handle c.args.h) c.self.view_is
