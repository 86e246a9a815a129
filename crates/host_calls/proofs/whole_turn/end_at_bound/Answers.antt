use Rattle.std.proofs.Common.{◌++◌, refl}
use Rattle.resource_table.specs.Handles.{numbers_of}
use Rattle.host_calls.specs.Shown.{seat_of}
use Rattle.node_state.specs.Seats.{meaning}
use Rattle.host_calls.proofs.Asked.{is_there, not_true}
use Rattle.host_calls.proofs.Bounds.{ends_at_end, ends_sliced}
use Rattle.host_calls.proofs.whole_turn.end_at_bound.Goals as goal

pub returns-then-done-clause-ends : goal.returns-then-done-clause-ends
returns-then-done-clause-ends g c program p calls few to up =
    let engines = meaning g.E.Engine.stands g.E.Engine.phase g.E.Engine.memory in
    let step = c.step-stop.ensures in
    let seat = seat_of c.args.proc.now in
    let ended = (c.done.ensures program p.start (p.calls ++ calls) c.args.proc.now.fuel to.gone.stands).0 c.if-done.true in
    rw c.halt_of.ensures (ends_at_end engines g.E.Engine.at program p seat (numbers_of c.args.proc.now.shed) c.step-stop.new.self calls c.step-stop.result.1 c.step-stop.result.0 to few ended
    (step.stops program p.start (p.calls ++ calls) c.args.proc.now.fuel to.gone.stands)
    (step.stands program p.start (p.calls ++ calls) c.args.proc.now.fuel to.gone.stands) step.phase)

pub returns-clause-ends : goal.returns-clause-ends
returns-clause-ends g c program p calls few to up =
    let engines = meaning g.E.Engine.stands g.E.Engine.phase g.E.Engine.memory in
    let laws = g.met.E.Engine g.world.𝓛 g.world.𝓜 g.world.𝓡 ((λ s x. x), (λ x. x), (λ x. x), λ x. x) in
    let engine = c.args.proc.now.engine in
    let fuel = c.args.proc.now.fuel in
    let shows = laws.shows_memory engine program p.start (p.calls ++ calls) fuel to.gone.stands in
    let fueled = laws.keeps_to_fuel program p.start (p.calls ++ calls) fuel (is_there _ _ shows.1) in
    let may = laws.running_may_step engine program p.start (p.calls ++ calls) fuel to.gone.stands c.requires.way.phase in
    ends_sliced engines g.E.Engine.at program p (seat_of c.args.proc.now) (numbers_of c.args.proc.now.shed) calls to few up may
    (λ ended. not_true ((c.done.ensures program p.start (p.calls ++ calls) fuel to.gone.stands).1 ended) c.if-done.false) fueled c.requires.way.phase
