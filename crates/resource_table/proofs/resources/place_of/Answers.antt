use Rattle.std.proofs.Common.{sym, ◌∙◌}
use Rattle.resource_table.proofs.Filters.{none_read, some_read}
use Rattle.resource_table.proofs.Tables.{none_from_lacks, lacks_at_end, lacks_at_other, stands}
use Rattle.resource_table.proofs.resources.place_of.Goals as goal

pub returns-in_err-get : goal.returns-in_err-get
returns-in_err-get g c =
    let none = none_read c.args.handles.now c.place_for-place.result c.in_err-get.ensures.lookup.0 in
    let lacks = none_from_lacks c.args.number c.args.handles.now
    (lacks_at_end c.args.number c.args.handles.now c.place_for-place.result c.place_for-place.ensures none) in
    rw c.from_residual.ensures lacks

pub returns-then-number : goal.returns-then-number
returns-then-number g c =
    let at = some_read c.args.handles.now c.place_for-place.result c.in_ok-get.field-0.now c.in_ok-get.ensures.lookup.0
    c.in_ok-get.ensures.lookup.1 in
    stands c.args.number c.args.handles.now c.place_for-place.result c.in_ok-get.field-0.now at
    (sym c.number.ensures ∙ c.if-number.true)

pub returns-else-number : goal.returns-else-number
returns-else-number g c =
    let at = some_read c.args.handles.now c.place_for-place.result c.in_ok-get.field-0.now c.in_ok-get.ensures.lookup.0
    c.in_ok-get.ensures.lookup.1 in
    none_from_lacks c.args.number c.args.handles.now
    (lacks_at_other c.args.number c.args.handles.now c.place_for-place.result c.in_ok-get.field-0.now c.requires
    c.place_for-place.ensures at (λ e. c.if-number.false (c.number.ensures ∙ e)))
