use Rattle.std.proofs.Common.{◌≡◌, ℕ, Some, option_map, ap, sym, ◌∙◌}
use Rattle.resource_table.specs.Handles.{Handle}
use Rattle.host_calls.proofs.Showing.{shown_at}
use Rattle.host_calls.proofs.Making.{taken_as, in_slot_alone}
use Rattle.host_calls.proofs.local_calls.take_stream.Goals as goal

pub put-requires-clause-new : goal.put-requires-clause-new
put-requires-clause-new g c κs within =
    in_slot_alone c.args.proc.now c.args.place c.in-Some.moved c.requires.once (sym c.take_stream.ensures.taken ∙ c.in-Some.is)

pub returns-clause-number : goal.returns-clause-number
returns-clause-number g c =
    shown_at c.args.proc.now.scratch c.args.place
    ∙ ap (option_map (λ (h : Handle _). h.number)) (sym c.take_stream.ensures.taken ∙ c.in-Some.is)
    ∙ ap (λ (n : ℕ). Some n) (sym c.number-number.ensures)

pub returns-clause-takes : goal.returns-clause-takes
returns-clause-takes g c =
    taken_as c.args.proc.now c.args.place c.in-Some.moved c.take_stream.new.self c.put.new.table c.count-count.ensures.rising
    (in_slot_alone c.args.proc.now c.args.place c.in-Some.moved c.requires.once (sym c.take_stream.ensures.taken ∙ c.in-Some.is))
    (sym c.take_stream.ensures.taken ∙ c.in-Some.is) c.in-Some.ensures.left c.put.ensures
