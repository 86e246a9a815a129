use Rattle.std.proofs.Common.{[], map, if◌then◌else◌, refl, arith}
use Rattle.std.specs.Arc.{arc_value}
use Rattle.resource_table.specs.Handles.{numbers_of}
use Rattle.world_rules.specs.declared.entry.Side.TheVariants.{NoMemory}
use Rattle.world_rules.specs.declared.halt.Halt.TheVariants.{Asks}
use Rattle.node_state.specs.Fits.{entry_of}
use Rattle.node_state.specs.Posts.{time_beside}
use Rattle.host_calls.specs.Shown.{brought_by, seat_of}
use Rattle.process_store.specs.Holds.{held_of}
use Rattle.process_store.proofs.CallsAsked.{each_may_wake, may_perform, beside_by}
use Rattle.process_store.proofs.CallsGiven.{call_keeps, came_giving, came_mirrors}
use Rattle.process_store.proofs.GivingBack.{give_place, is_away_slot, streams_few}
use Rattle.process_store.proofs.NodeStanding.{given_back, records_one}
use Rattle.process_store.proofs.node.Node.give_call.Goals as goal

pub bring-requires-clause-away : goal.bring-requires-clause-away
bring-requires-clause-away g c κs within =
    (c.args.worker, is_away_slot c.self.inside.journal c.self.inside.store c.self.inside.spare c.args.proc.start.pid c.args.worker c.self.invariant (rw (← c.self.view_is) at c.requires.out))

pub bring-requires-clause-few : goal.bring-requires-clause-few
bring-requires-clause-few g c κs within =
    let few = streams_few c.streams_are_few.ensures.given c.self.inside.journal c.self.inside.store c.self.inside.spare c.args.worker c.args.proc
    (brought_by c.args.proc c.args.calls (Asks c.args.request) c.args.side) c.self.invariant (rw (← c.self.view_is) at c.requires.comes.fits) refl refl in
    omega (arith, few)

pub perform-refused-requires-clause-performs : goal.perform-refused-requires-clause-performs
perform-refused-requires-clause-performs g c κs within =
    let i = c.self.inside in
    let out = rw (← c.self.view_is) at c.requires.out in
    let fits = rw (← c.self.view_is) at c.requires.comes.fits in
    let becomes = rw (c.time_after-time.ensures, c.time.ensures) at c.bring.ensures.held in
    may_perform i.journal c.args.worker c.args.proc.start.pid (seat_of c.args.proc) c.args.calls c.args.request c.args.side (numbers_of c.args.proc.shed) _ (held_of c.bring.new.self) i.journal.ends
    c.replies_fit.ensures.number c.replies_fit.ensures.nothing c.self.invariant.stands.run fits c.requires.call
    (came_mirrors c.an_ask_mirrors.ensures i.journal i.store c.bring.new.self i.spare c.args.worker c.args.proc c.args.calls c.args.request c.args.side c.self.invariant out c.requires.call fits
    becomes)
    (came_giving i.store c.bring.new.self c.args.proc c.args.request (time_beside c.args.side i.store.time) becomes)

pub perform-refused-requires-clause-others : goal.perform-refused-requires-clause-others
perform-refused-requires-clause-others g c κs within =
    let i = c.self.inside in
    let out = rw (← c.self.view_is) at c.requires.out in
    let fits = rw (← c.self.view_is) at c.requires.comes.fits in
    let becomes = rw (c.time_after-time.ensures, c.time.ensures) at c.bring.ensures.held in
    each_may_wake _ (held_of c.bring.new.self) i.journal.ends c.waits_are_answered.ensures.late c.waits_are_answered.ensures.delivered
    (came_mirrors c.an_ask_mirrors.ensures i.journal i.store c.bring.new.self i.spare c.args.worker c.args.proc c.args.calls c.args.request c.args.side c.self.invariant out c.requires.call fits
    becomes)

pub add-requires : goal.add-requires
add-requires g c = give_place c.self.inside.journal c.self.inside.store c.self.inside.spare c.args.proc.start.pid c.args.worker c.self.invariant (rw (← c.self.view_is) at c.requires.out)

pub invariant_of-self : goal.invariant_of-self
invariant_of-self g c =
    let i = c.self.inside in
    let pid = c.args.proc.start.pid in
    let out = rw (← c.self.view_is) at c.requires.out in
    let fits = rw (← c.self.view_is) at c.requires.comes.fits in
    let becomes = rw (c.time_after-time.ensures, c.time.ensures) at c.bring.ensures.held in
    let brought = brought_by c.args.proc c.args.calls (Asks c.args.request) c.args.side in
    let away = is_away_slot i.journal i.store i.spare pid c.args.worker c.self.invariant out in
    let is = beside_by c.a_give_is_allowed.ensures.brought c.a_give_is_allowed.ensures.refused i.journal i.store c.bring.new.self c.args.worker pid (seat_of c.args.proc) c.args.calls c.args.request
    c.args.side (numbers_of c.args.proc.shed) (numbers_of c.args.proc.shed) (time_beside c.args.side i.store.time) c.self.invariant.stands away becomes c.requires.call fits
    c.perform-refused.result c.perform-refused.ensures.performs.refusable in
    let adds = rw c.beside_call.ensures at c.add.ensures in
    call_keeps g.E.Engine.begin g.E.Engine.at (map arc_value i.programs.items) i.journal c.add.new.self i.live i.idle i.store c.bring.new.self c.perform-refused.new.store c.set_row.new.self
    c.requeue.new.self i.spare c.args.worker c.args.proc c.args.calls c.args.request c.args.side _ c.perform-refused.result c.self.invariant out c.requires.call fits is adds
    (record {
      becomes = becomes;
      queue = c.bring.ensures.queue;
      came_rooms = c.bring.ensures.rooms;
      came_in = c.bring.ensures.streams;
      performs = c.perform-refused.ensures.performs;
      passes = c.perform-refused.ensures.streams;
      rows = c.set_row.ensures.row;
      settles = c.requeue.ensures.held;
      kept = c.requeue.ensures.kept;
      keeps = c.requeue.ensures.keeps;
      came = c.requeue.ensures.came;
      giver = c.requeue.ensures.giver;
      capacity = c.requeue.ensures.rooms;
      queued = c.requeue.ensures.ready;
    })
    c.an_ask_mirrors.ensures c.an_entry_stands.ensures c.streams_pass_on.ensures.given (rw (← c.self.view_is) at c.requires.comes.came)

pub returns : goal.returns
returns g c =
    let i = c.self.inside in
    let pid = c.args.proc.start.pid in
    let out = rw (← c.self.view_is) at c.requires.out in
    let fits = rw (← c.self.view_is) at c.requires.comes.fits in
    let becomes = rw (c.time_after-time.ensures, c.time.ensures) at c.bring.ensures.held in
    let brought = brought_by c.args.proc c.args.calls (Asks c.args.request) c.args.side in
    let away = is_away_slot i.journal i.store i.spare pid c.args.worker c.self.invariant out in
    let is = beside_by c.a_give_is_allowed.ensures.brought c.a_give_is_allowed.ensures.refused i.journal i.store c.bring.new.self c.args.worker pid (seat_of c.args.proc) c.args.calls c.args.request
    c.args.side (numbers_of c.args.proc.shed) (numbers_of c.args.proc.shed) (time_beside c.args.side i.store.time) c.self.invariant.stands away becomes c.requires.call fits
    c.perform-refused.result c.perform-refused.ensures.performs.refusable in
    rw (← c.self.view_is) (given_back g.E.Engine.begin g.E.Engine.at (map arc_value i.programs.items) i.journal c.add.new.self i.live i.idle i.store c.requeue.new.self i.spare c.args.worker pid
    brought (if c.perform-refused.result then NoMemory else c.args.side) [] (invariant_of-self g c) is.how
    (records_one i.journal c.add.new.self (entry_of c.args.worker pid brought (if c.perform-refused.result then NoMemory else c.args.side)) (rw c.beside_call.ensures at c.add.ensures)))
