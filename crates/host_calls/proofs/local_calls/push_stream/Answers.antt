use Rattle.std.proofs.Common.{◌≡◌, ap, sym, ◌∙◌, arith}
use Rattle.host_calls.specs.Shown.{shown_part}
use Rattle.host_calls.proofs.Faults.{push_fits}
use Rattle.host_calls.proofs.Moving.{is_found, out_as, room_as, back_as}
use Rattle.host_calls.proofs.Making.{pushed_as, stays_as}
use Rattle.host_calls.proofs.local_calls.push_stream.Goals as goal

pub unreachable-requires : goal.unreachable-requires
unreachable-requires g c =
    is_found c.args.handle c.args.proc.now.table (push_fits (shown_part c.args.proc.now) c.args.handle c.requires.fit).1
    (sym c.give_out.ensures.given ∙ c.in_default.is)

pub returns-in-Ok-clause-pushes : goal.returns-in-Ok-clause-pushes
returns-in-Ok-clause-pushes g c =
    pushed_as c.args.proc.now c.args.handle c.in-Some.moved c.push_stream.new.self c.give_out.new.self
    c.count-count.ensures.rising (sym c.give_out.ensures.given ∙ c.in-Some.is) c.in-Ok.ensures.ok c.give_out.ensures.left

pub put-requires-clause-new : goal.put-requires-clause-new
put-requires-clause-new g c κs within =
    out_as c.args.handle c.args.proc.now.table c.give_out.new.self c.in-Some.moved c.handed_back.result
    c.count-count.ensures.rising (sym c.give_out.ensures.given ∙ c.in-Some.is) c.give_out.ensures.left
    (c.handed_back.ensures ∙ c.in-Err.ensures.back)

pub put-requires-clause-room : goal.put-requires-clause-room
put-requires-clause-room g c κs within =
    room_as c.args.handle 256 c.args.proc.now.table c.give_out.new.self c.in-Some.moved
    c.count-count.ensures.rising (sym c.give_out.ensures.given ∙ c.in-Some.is) c.give_out.ensures.left
    (omega (arith, c.count-count.ensures.count, c.count-count.ensures.bounded))

pub returns-in-Err-clause-err : goal.returns-in-Err-clause-err
returns-in-Err-clause-err g c =
    stays_as c.args.proc.now c.push_stream.new.self c.put.new.table c.in-Err.ensures.err
    (back_as c.args.handle c.args.proc.now.table c.give_out.new.self c.put.new.table c.in-Some.moved c.handed_back.result
    c.count-count.ensures.rising (sym c.give_out.ensures.given ∙ c.in-Some.is) c.give_out.ensures.left
    (c.handed_back.ensures ∙ c.in-Err.ensures.back) c.put.ensures)
