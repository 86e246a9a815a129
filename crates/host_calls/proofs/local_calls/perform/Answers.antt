use Rattle.std.proofs.Common.{sym, ◌∙◌}
use Rattle.resource_table.specs.Steps.{told}
use Rattle.plain_part.specs.Shown.{shown_call}
use Rattle.world_rules.specs.Calls.{call_of}
use Rattle.host_calls.specs.Shown.{shown_part, part_with}
use Rattle.host_calls.proofs.Answered.{local_is_there, local_is_answered, answered_so}
use Rattle.host_calls.proofs.Faults.{faultless}
use Rattle.host_calls.proofs.Making.{IsMade, made, made_order, made_handed, made_closed, made_listeners, made_part}
use Rattle.host_calls.proofs.local_calls.perform.Goals as goal

pub unreachable-requires : goal.unreachable-requires
unreachable-requires g c = local_is_there c.args.request.now.ask.call c.requires.local (sym c.in_default.ensures)

pub answer-requires-clause-answered : goal.answer-requires-clause-answered
answer-requires-clause-answered g c κs within =
    local_is_answered c.args.request.now.ask.call (shown_call c.in-Some.call) c.requires.local (sym c.in-Some.ensures)

pub returns-clause-order : goal.returns-clause-order
returns-clause-order g c =
    let tells = told g.O.Stream.Stream.taken g.O.Stream.Stream.put g.O.Stream.Stream.faults g.O.Stream.Stream.waits g.O.Stream.Stream.empties g.O.Stream.Stream.down in
    let call = shown_call c.in-Some.call in
    let answered = local_is_answered c.args.request.now.ask.call call c.requires.local (sym c.in-Some.ensures) in
    let fit = faultless c.args.proc.now.start (shown_part c.args.proc.now) c.args.request.now call c.requires.fit (sym c.in-Some.ensures) in
    let after = made tells c.args.request.now c.args.proc.now call c.answer.new.proc answered fit c.in_ok-reply.ensures.makes in
    made_order tells c.args.request.now c.args.proc.now call c.answer.new.proc c.traffic_after-traffic.result after c.requires.order

pub returns-clause-reply : goal.returns-clause-reply
returns-clause-reply g c =
    let tells = told g.O.Stream.Stream.taken g.O.Stream.Stream.put g.O.Stream.Stream.faults g.O.Stream.Stream.waits g.O.Stream.Stream.empties g.O.Stream.Stream.down in
    let call = shown_call c.in-Some.call in
    let answered = local_is_answered c.args.request.now.ask.call call c.requires.local (sym c.in-Some.ensures) in
    let fit = faultless c.args.proc.now.start (shown_part c.args.proc.now) c.args.request.now call c.requires.fit (sym c.in-Some.ensures) in
    let after = made tells c.args.request.now c.args.proc.now call c.answer.new.proc answered fit c.in_ok-reply.ensures.makes in
    answered_so c.args.proc.now.start (shown_part c.args.proc.now)
    (part_with c.answer.new.proc.scratch c.answer.new.proc.table c.answer.new.proc.listeners c.traffic_after-traffic.result)
    c.args.request.now call c.in_ok-reply.reply c.requires.local c.requires.fit (sym c.in-Some.ensures) c.in_ok-reply.ensures.reply
    (made_part tells c.args.request.now c.args.proc.now call c.answer.new.proc c.traffic_after-traffic.result after c.traffic_after-traffic.ensures)

pub returns-clause-closed : goal.returns-clause-closed
returns-clause-closed g c =
    let tells = told g.O.Stream.Stream.taken g.O.Stream.Stream.put g.O.Stream.Stream.faults g.O.Stream.Stream.waits g.O.Stream.Stream.empties g.O.Stream.Stream.down in
    let call = shown_call c.in-Some.call in
    let answered = local_is_answered c.args.request.now.ask.call call c.requires.local (sym c.in-Some.ensures) in
    let fit = faultless c.args.proc.now.start (shown_part c.args.proc.now) c.args.request.now call c.requires.fit (sym c.in-Some.ensures) in
    let after = made tells c.args.request.now c.args.proc.now call c.answer.new.proc answered fit c.in_ok-reply.ensures.makes in
    made_closed tells c.args.request.now c.args.proc.now call c.answer.new.proc after (sym c.in-Some.ensures)

pub returns-clause-listeners : goal.returns-clause-listeners
returns-clause-listeners g c =
    let tells = told g.O.Stream.Stream.taken g.O.Stream.Stream.put g.O.Stream.Stream.faults g.O.Stream.Stream.waits g.O.Stream.Stream.empties g.O.Stream.Stream.down in
    let call = shown_call c.in-Some.call in
    let answered = local_is_answered c.args.request.now.ask.call call c.requires.local (sym c.in-Some.ensures) in
    let fit = faultless c.args.proc.now.start (shown_part c.args.proc.now) c.args.request.now call c.requires.fit (sym c.in-Some.ensures) in
    let after = made tells c.args.request.now c.args.proc.now call c.answer.new.proc answered fit c.in_ok-reply.ensures.makes in
    made_listeners tells c.args.request.now c.args.proc.now call c.answer.new.proc after (sym c.in-Some.ensures)

pub returns-clause-handed : goal.returns-clause-handed
returns-clause-handed g c =
    let tells = told g.O.Stream.Stream.taken g.O.Stream.Stream.put g.O.Stream.Stream.faults g.O.Stream.Stream.waits g.O.Stream.Stream.empties g.O.Stream.Stream.down in
    let call = shown_call c.in-Some.call in
    let answered = local_is_answered c.args.request.now.ask.call call c.requires.local (sym c.in-Some.ensures) in
    let fit = faultless c.args.proc.now.start (shown_part c.args.proc.now) c.args.request.now call c.requires.fit (sym c.in-Some.ensures) in
    let after = made tells c.args.request.now c.args.proc.now call c.answer.new.proc answered fit c.in_ok-reply.ensures.makes in
    made_handed tells c.args.request.now c.args.proc.now call c.answer.new.proc after
