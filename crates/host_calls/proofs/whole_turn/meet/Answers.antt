use Rattle.std.proofs.Common.{◌≡◌, false, refl, sym, ap, subst, ◌∙◌}
use Rattle.host_port.specs.declared.request.Request.{Request}
use Rattle.host_port.specs.HostTable.{is_local}
use Rattle.host_port.specs.Areas.{request_of}
use Rattle.resource_table.specs.Handles.{numbers_of}
use Rattle.host_calls.specs.Shown.{seat_of, shown_part, shown_judgement}
use Rattle.node_state.specs.Seats.{meaning}
use Rattle.host_calls.proofs.Meets.{EngineLaws, IsMet, meets_no_memory, meets_fault, meets_traffic, meets_asking}
use Rattle.host_calls.proofs.whole_turn.meet.Goals as goal

pub returns-in_default-clause-goes : goal.returns-in_default-clause-goes
returns-in_default-clause-goes g c =
    let engines = meaning g.E.Engine.stands g.E.Engine.phase g.E.Engine.memory in
    let laws = g.met.E.Engine g.world.𝓛 g.world.𝓜 g.world.𝓡 ((λ s x. x), (λ x. x), (λ x. x), λ x. x) in
    let used : EngineLaws engines g.E.Engine.at g.E.Engine.may_ask = record { shows = laws.shows_memory; owes = laws.owes_its_ask; keeps = laws.keeps_to_fuel; asks = laws.asks_what_it_may } in
    let seat = seat_of c.args.proc.now in
    let request = request_of (g.E.Engine.memory c.args.proc.now.engine) c.args.ask in
    let asked : IsMet engines seat request = record { owed = c.requires.way.phase; bytes = refl } in
    meets_no_memory engines g.E.Engine.at g.E.Engine.may_ask used seat (numbers_of c.args.proc.now.shed) c.args.calls.now.items request asked

pub returns-in-Faulty-clause-goes : goal.returns-in-Faulty-clause-goes
returns-in-Faulty-clause-goes g c =
    let engines = meaning g.E.Engine.stands g.E.Engine.phase g.E.Engine.memory in
    let laws = g.met.E.Engine g.world.𝓛 g.world.𝓜 g.world.𝓡 ((λ s x. x), (λ x. x), (λ x. x), λ x. x) in
    let used : EngineLaws engines g.E.Engine.at g.E.Engine.may_ask = record { shows = laws.shows_memory; owes = laws.owes_its_ask; keeps = laws.keeps_to_fuel; asks = laws.asks_what_it_may } in
    let seat = seat_of c.args.proc.now in
    let is : c.in-Ok.request ≡ request_of (g.E.Engine.memory c.args.proc.now.engine) c.args.ask = rw c.in-Ok.is at c.resolve.ensures in
    let ask = ap (λ (r : Request). r.ask) is in
    let asked : IsMet engines seat c.in-Ok.request = record { owed = rw ask c.requires.way.phase; bytes = is ∙ ap (request_of (g.E.Engine.memory c.args.proc.now.engine)) (sym ask) } in
    let judged = sym c.judge.ensures ∙ ap shown_judgement c.in-Faulty.is in
    meets_fault engines g.E.Engine.at g.E.Engine.may_ask used seat (numbers_of c.args.proc.now.shed) c.args.calls.now.items c.in-Ok.request asked c.in-Faulty.fault judged

pub returns-in-Overdrawn-clause-goes : goal.returns-in-Overdrawn-clause-goes
returns-in-Overdrawn-clause-goes g c =
    let engines = meaning g.E.Engine.stands g.E.Engine.phase g.E.Engine.memory in
    let laws = g.met.E.Engine g.world.𝓛 g.world.𝓜 g.world.𝓡 ((λ s x. x), (λ x. x), (λ x. x), λ x. x) in
    let used : EngineLaws engines g.E.Engine.at g.E.Engine.may_ask = record { shows = laws.shows_memory; owes = laws.owes_its_ask; keeps = laws.keeps_to_fuel; asks = laws.asks_what_it_may } in
    let seat = seat_of c.args.proc.now in
    let is : c.in-Ok.request ≡ request_of (g.E.Engine.memory c.args.proc.now.engine) c.args.ask = rw c.in-Ok.is at c.resolve.ensures in
    let ask = ap (λ (r : Request). r.ask) is in
    let asked : IsMet engines seat c.in-Ok.request = record { owed = rw ask c.requires.way.phase; bytes = is ∙ ap (request_of (g.E.Engine.memory c.args.proc.now.engine)) (sym ask) } in
    let judged = sym c.judge.ensures ∙ ap shown_judgement c.in-Overdrawn.is in
    meets_traffic engines g.E.Engine.at g.E.Engine.may_ask used seat (numbers_of c.args.proc.now.shed) c.args.calls.now.items c.in-Ok.request asked judged

pub returns-else-is_local-clause-goes : goal.returns-else-is_local-clause-goes
returns-else-is_local-clause-goes g c =
    let engines = meaning g.E.Engine.stands g.E.Engine.phase g.E.Engine.memory in
    let laws = g.met.E.Engine g.world.𝓛 g.world.𝓜 g.world.𝓡 ((λ s x. x), (λ x. x), (λ x. x), λ x. x) in
    let used : EngineLaws engines g.E.Engine.at g.E.Engine.may_ask = record { shows = laws.shows_memory; owes = laws.owes_its_ask; keeps = laws.keeps_to_fuel; asks = laws.asks_what_it_may } in
    let seat = seat_of c.args.proc.now in
    let is : c.in-Ok.request ≡ request_of (g.E.Engine.memory c.args.proc.now.engine) c.args.ask = rw c.in-Ok.is at c.resolve.ensures in
    let ask = ap (λ (r : Request). r.ask) is in
    let asked : IsMet engines seat c.in-Ok.request = record { owed = rw ask c.requires.way.phase; bytes = is ∙ ap (request_of (g.E.Engine.memory c.args.proc.now.engine)) (sym ask) } in
    let judged = sym c.judge.ensures ∙ ap shown_judgement c.in-Fit.is in
    let foreign : is_local c.in-Ok.request.ask.call ≡ false = rw ask (sym c.is_local.ensures ∙ c.if-is_local.false) in
    rw (c.charge.ensures.engine, c.charge.ensures.start, c.charge.ensures.fuel, c.charge.ensures.owed, c.charge.ensures.shed)
    (meets_asking engines g.E.Engine.at g.E.Engine.may_ask used seat (numbers_of c.args.proc.now.shed) c.args.calls.now.items c.in-Ok.request asked (shown_part c.charge.new.proc) judged foreign
    c.charge.ensures.part)
