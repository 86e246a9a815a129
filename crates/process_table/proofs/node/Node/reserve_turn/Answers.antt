use Rattle.std.proofs.Common.{map, arith, vec_capacity}
use Rattle.std.specs.Arc.{arc_value}
use Rattle.process_table.proofs.Owning.{keeps-streams}
use Rattle.process_table.proofs.Rooms.{node-room, spare-more, spare-three, closed-few, streams-moved}
use Rattle.process_table.proofs.node.Node.reserve_turn.Goals as goal

pub returns-in_default-clause-streams : goal.returns-in_default-clause-streams
returns-in_default-clause-streams g c = rw (← c.self.view_is) (keeps-streams _ c.self.inside.journal _ _ _ _ c.self.invariant)

pub returns-in_default-clause-run : goal.returns-in_default-clause-run
returns-in_default-clause-run g c = rw (← c.self.view_is) c.self.invariant.stands.run

pub overflow_sub-streams : goal.overflow_sub-streams
overflow_sub-streams g c =
    let few = closed-few c.streams_stand_apart.ensures.room c.self.inside.journal _ c.self.invariant in
    let len = c.len.ensures in
    let l = c.self.inside.closed.ok.0 in
    let sum = c.in-Some-checked_add.ensures.1 in
    omega (arith, few, len, l, sum)

pub returns-in_err-reserve-clause-streams : goal.returns-in_err-reserve-clause-streams
returns-in_err-reserve-clause-streams g c = streams-moved _ c.self.inside.journal _ _ _ _ c.reserve.new.self.items c.reserve.ensures.items c.self.invariant

pub invariant_of-self-in_err-reserve-2 : goal.invariant_of-self-in_err-reserve-2
invariant_of-self-in_err-reserve-2 g c =
    let i = c.self.inside in
    let turn = c.self.invariant.turn_room in
    let wide = c.reserve.ensures.capacity in
    node-room g.E.Engine.begin g.E.Engine.at (map arc_value i.programs.items) i.journal c.reserve-2.new.self i.live i.idle _ c.reserve.new.self.items (vec_capacity c.reserve.new.self) i.spare
    c.self.invariant c.reserve-2.ensures.kept c.reserve.ensures.items wide (spare-more i.journal c.reserve-2.new.self _ c.self.invariant c.reserve-2.ensures.kept)
    c.self.invariant.spare_bound (λ enough. let t = turn enough in omega (arith, t, wide))

pub returns-in_err-reserve-2-clause-streams : goal.returns-in_err-reserve-2-clause-streams
returns-in_err-reserve-2-clause-streams g c = keeps-streams _ c.reserve-2.new.self _ _ _ _ (invariant_of-self-in_err-reserve-2 g c)

pub returns-in_err-reserve-2-clause-run : goal.returns-in_err-reserve-2-clause-run
returns-in_err-reserve-2-clause-run g c = (invariant_of-self-in_err-reserve-2 g c).stands.run

pub invariant_of-self-2 : goal.invariant_of-self-2
invariant_of-self-2 g c =
    let i = c.self.inside in
    let few = closed-few c.streams_stand_apart.ensures.room i.journal _ c.self.invariant in
    let l = i.closed.ok.0 in
    let ok = c.in_ok-reserve.ensures.ok in
    let same = c.reserve.ensures.len in
    let len = c.len.ensures in
    let sum = c.in-Some-checked_add.ensures.1 in
    let places = c.in-Some.ensures.1 in
    node-room g.E.Engine.begin g.E.Engine.at (map arc_value i.programs.items) i.journal c.reserve-2.new.self i.live i.idle _ c.reserve.new.self.items (vec_capacity c.reserve.new.self) 3
    c.self.invariant c.reserve-2.ensures.kept c.reserve.ensures.items c.reserve.ensures.capacity
    (spare-three i.out c.in-Some.places c.reserve-2.new.self.entry_room i.over places c.in_ok-reserve-2.ensures.room.entries)
    (omega arith) (λ enough. omega (arith, few, l, ok, same, len, sum, places))

pub returns-clause-streams : goal.returns-clause-streams
returns-clause-streams g c = keeps-streams _ c.reserve-2.new.self _ _ _ _ (invariant_of-self-2 g c)

pub returns-clause-run : goal.returns-clause-run
returns-clause-run g c = (invariant_of-self-2 g c).stands.run
