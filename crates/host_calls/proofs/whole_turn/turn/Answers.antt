use Rattle.std.proofs.Common.{◌≡◌, ◌∙◌, ap}
use Rattle.node_state.specs.Seats.{phase_by}
use Rattle.host_calls.proofs.Keeping.{begins_in_order}
use Rattle.host_calls.proofs.whole_turn.turn.Goals as goal

pub try_again-requires-clause-way : goal.try_again-requires-clause-way
try_again-requires-clause-way g c κs within =
    let way = c.requires.way in
    record { program = way.program; calls = way.calls; stands = way.stands; phase = way.phase ∙ ap phase_by c.in-Some.is }

pub try_again-requires-clause-tries : goal.try_again-requires-clause-tries
try_again-requires-clause-tries g c κs within = rw c.in-Some.is at c.requires.tries

pub try_again-requires-clause-order : goal.try_again-requires-clause-order
try_again-requires-clause-order g c κs within = begins_in_order c.args.proc c.requires.once c.requires.shed c.count_few-count.ensures

pub own_turn-requires-clause-way : goal.own_turn-requires-clause-way
own_turn-requires-clause-way g c κs within =
    let way = c.requires.way in
    record { program = way.program; calls = way.calls; stands = way.stands; phase = way.phase ∙ ap phase_by c.in-None.is }

pub own_turn-requires-clause-order : goal.own_turn-requires-clause-order
own_turn-requires-clause-order g c κs within = begins_in_order c.args.proc c.requires.once c.requires.shed c.count_few-count.ensures
