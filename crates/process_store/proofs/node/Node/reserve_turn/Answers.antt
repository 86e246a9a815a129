use Rattle.std.proofs.Common.{◌≡◌, ◌≤◌, ◌+◌, map, arith, ap, vec_capacity}
use Rattle.std.specs.Arc.{arc_value}
use Rattle.process_store.proofs.NodeRooms.{keeps_itself, node_roomed, spare_more, spare_three}
use Rattle.process_store.proofs.NodeStanding.{keeps_streams}
use Rattle.process_store.proofs.node.Node.reserve_turn.Goals as goal

pub returns-in_err-reserve-clause-streams : goal.returns-in_err-reserve-clause-streams
returns-in_err-reserve-clause-streams g c =
    let i = c.self.inside in
    let turn = c.self.invariant.turn_room in
    let wide = c.reserve.ensures.rooms in
    let same = keeps_itself i.journal in
    let keeps = node_roomed c.more_room_stands.ensures g.E.Engine.begin g.E.Engine.at (map arc_value i.programs.items) i.journal i.journal i.live i.idle i.store c.reserve.new.self i.spare i.spare
    c.self.invariant same c.reserve.ensures.keeps c.reserve.ensures.held c.reserve.ensures.kept c.reserve.ensures.same
    (spare_more i.journal i.journal i.store i.spare c.self.invariant same) c.self.invariant.spare_bound (λ enough. let t = turn enough in omega (arith, t, wide)) in
    keeps_streams _ (map arc_value i.programs.items) i.journal i.live i.idle i.spare c.reserve.new.self keeps.stands keeps.streams

pub invariant_of-self-in_err-reserve-2 : goal.invariant_of-self-in_err-reserve-2
invariant_of-self-in_err-reserve-2 g c =
    let i = c.self.inside in
    let turn = c.self.invariant.turn_room in
    let wide = c.reserve.ensures.rooms in
    node_roomed c.more_room_stands.ensures g.E.Engine.begin g.E.Engine.at (map arc_value i.programs.items) i.journal c.reserve-2.new.self i.live i.idle i.store c.reserve.new.self i.spare i.spare
    c.self.invariant c.reserve-2.ensures.kept c.reserve.ensures.keeps c.reserve.ensures.held c.reserve.ensures.kept c.reserve.ensures.same
    (spare_more i.journal c.reserve-2.new.self i.store i.spare c.self.invariant c.reserve-2.ensures.kept) c.self.invariant.spare_bound (λ enough. let t = turn enough in omega (arith, t, wide))

pub returns-in_err-reserve-2-clause-streams : goal.returns-in_err-reserve-2-clause-streams
returns-in_err-reserve-2-clause-streams g c =
    let i = c.self.inside in
    let keeps = invariant_of-self-in_err-reserve-2 g c in
    keeps_streams _ (map arc_value i.programs.items) c.reserve-2.new.self i.live i.idle i.spare c.reserve.new.self keeps.stands keeps.streams

pub returns-in_err-reserve-2-clause-run : goal.returns-in_err-reserve-2-clause-run
returns-in_err-reserve-2-clause-run g c = (invariant_of-self-in_err-reserve-2 g c).stands.run

pub invariant_of-self-2 : goal.invariant_of-self-2
invariant_of-self-2 g c =
    let i = c.self.inside in
    let room = c.in_ok-reserve.ensures.room in
    let streams : c.reserve.new.self.streams ≡ i.store.streams = ap (λ s. s.streams) c.reserve.ensures.same in
    let out : c.reserve.new.self.out ≡ i.store.out = ap (λ s. s.out) c.reserve.ensures.same in
    let told = c.out.ensures in
    let sum = c.saturating_add.ensures in
    let small = c.in-Ok.ensures.0 in
    let is = c.in-Ok.ensures.1 in
    node_roomed c.more_room_stands.ensures g.E.Engine.begin g.E.Engine.at (map arc_value i.programs.items) i.journal c.reserve-2.new.self i.live i.idle i.store c.reserve.new.self i.spare 3
    c.self.invariant c.reserve-2.ensures.kept c.reserve.ensures.keeps c.reserve.ensures.held c.reserve.ensures.kept c.reserve.ensures.same
    (spare_three i.store.out c.in-Ok.places c.reserve-2.new.self.entry_room i.store.over (omega (arith, told, sum, small, is)) c.in_ok-reserve-2.ensures.room.entries)
    (omega arith) (λ enough. omega (arith, room, streams, out))

pub returns-clause-streams : goal.returns-clause-streams
returns-clause-streams g c =
    let i = c.self.inside in
    let keeps = invariant_of-self-2 g c in
    keeps_streams _ (map arc_value i.programs.items) c.reserve-2.new.self i.live i.idle 3 c.reserve.new.self keeps.stands keeps.streams

pub returns-clause-run : goal.returns-clause-run
returns-clause-run g c = (invariant_of-self-2 g c).stands.run
