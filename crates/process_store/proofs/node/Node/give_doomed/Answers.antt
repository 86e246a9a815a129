use Rattle.std.proofs.Common.{◌∷◌, [], ℕ, ◌+◌, ◌++◌, length, map, refl, arith, ◌∙◌, sym, ap, inl}
use Rattle.std.specs.Arc.{arc_value}
use Rattle.resource_table.specs.Handles.{numbers_of}
use Rattle.world_rules.specs.Arrivals as Came
use Rattle.world_rules.specs.Changes.{with_arrival}
use Rattle.world_rules.specs.Rules.{opening_shut, recorded}
use Rattle.world_rules.specs.Sound.{is_born}
use Rattle.world_rules.specs.Told.{told as told_world}
use Rattle.node_state.specs.Fits.{entry_of, give_of}
use Rattle.node_state.specs.Posts.{drawn_beside, opened_number, time_beside}
use Rattle.node_state.specs.Seats.{part_handles}
use Rattle.node_state.specs.Streaming.{arrived_as}
use Rattle.host_calls.specs.Shown.{brought_by, hands_of, shown_part, streams_by}
use Rattle.process_store.specs.Holds.{held_of}
use Rattle.process_store.proofs.NodeStanding.{given_back}
use Rattle.process_store.proofs.GivingBack.{streams_few}
use Rattle.process_store.proofs.GivingEnds.{arrived_mirrors, doom_happens, doomed_born, doomed_place, doomed_row, doomed_some, end_recorded, few_drawn, is_fated_slot, last_keeps, next_drawn, number_opened}
use Rattle.process_store.proofs.node.Node.give_doomed.Goals as goal

pub add-requires : goal.add-requires
add-requires g c =
    let doomed = rw (← c.self.view_is) at c.requires.doomed in
    doomed_place c.self.inside.journal c.self.inside.store c.self.inside.spare c.args.proc.start.pid c.args.worker doomed.0 c.self.invariant doomed.1

pub bring_doomed-requires-clause-fated : goal.bring_doomed-requires-clause-fated
bring_doomed-requires-clause-fated g c κs within =
    let doomed = rw (← c.self.view_is) at c.requires.doomed in
    (c.args.worker, doomed.0, is_fated_slot c.self.inside.journal c.self.inside.store c.self.inside.spare c.args.proc.start.pid c.args.worker doomed.0 c.self.invariant doomed.1)

pub bring_doomed-requires-clause-few : goal.bring_doomed-requires-clause-few
bring_doomed-requires-clause-few g c κs within =
    streams_few c.streams_are_few.ensures.given c.self.inside.journal c.self.inside.store c.self.inside.spare c.args.worker c.args.proc (brought_by c.args.proc c.args.calls c.args.halt c.args.side)
    c.self.invariant (rw (← c.self.view_is) at c.requires.comes.fits) refl refl

pub bring_doomed-requires-clause-numbers : goal.bring_doomed-requires-clause-numbers
bring_doomed-requires-clause-numbers g c κs within =
    let i = c.self.inside in
    let doomed = rw (← c.self.view_is) at c.requires.doomed in
    let some = doomed_some i.journal i.store i.spare c.args.proc.start.pid c.args.worker doomed.0 c.self.invariant doomed.1 in
    let room = c.self.invariant.keeps.closed_room in
    let small = i.store.closed.small in
    omega (arith, some, room, small)

pub invariant_of-self : goal.invariant_of-self
invariant_of-self g c =
    let i = c.self.inside in
    let pid = c.args.proc.start.pid in
    let worker = c.args.worker in
    let side = c.args.side in
    let arrived = c.args.arrived in
    let brought = brought_by c.args.proc c.args.calls c.args.halt side in
    let give = give_of worker pid brought in
    let doom = rw (← c.self.view_is) at c.requires.doomed in
    let end = doom.0 in
    let doomed = doom.1 in
    let fits = rw (← c.self.view_is) at c.requires.comes.fits in
    let came = rw (← c.self.view_is) at c.requires.comes.came in
    let old = i.journal in
    let new = c.bring_doomed.new.journal in
    let last = c.bring_doomed.ensures.ended in
    let drawn = i.store.streams in
    let m = c.self.invariant.stands.mirrors in
    last_keeps g.E.Engine.begin g.E.Engine.at (map arc_value i.programs.items) old new i.live i.idle i.store c.bring_doomed.new.self c.end_run.new.self c.set_row.new.self c.requeue.new.self i.spare
    c.time_after-time.result (drawn + length (arrived_as drawn arrived)) (hands_of c.args.proc ++ arrived_as drawn arrived) c.args.proc.shed
    (numbers_of c.args.proc.shed ++ numbers_of (arrived_as drawn arrived)) (part_handles (shown_part c.args.proc)) worker pid brought (streams_by c.args.proc arrived)
    (with_arrival (opening_shut (recorded (told_world old) give) give) pid (Came.Doomed end)) end last.memory
    c.a_give_is_allowed.ensures.brought c.an_entry_stands.ensures c.streams_pass_on.ensures.given c.an_over_mirrors.ensures c.self.invariant
    (ap is_born doomed) (doomed_some old i.store i.spare pid worker end c.self.invariant doomed) fits came
    (doomed_born _ old.births (told_world old) give worker end doomed)
    (end_recorded old c.add.new.self new (entry_of worker pid brought side) c.add.ensures last)
    (record {
      becomes = c.bring_doomed.ensures.held;
      passes = c.bring_doomed.ensures.streams;
      rooms = c.bring_doomed.ensures.rooms;
      giver_before = c.bring_doomed.ensures.giver;
      ready = c.bring_doomed.ensures.ready;
      overs = c.end_run.ensures.over;
      rows = c.set_row.ensures.row;
      settles = c.requeue.ensures.held;
      kept = c.requeue.ensures.kept;
      keeps = c.requeue.ensures.keeps;
      came = c.requeue.ensures.came;
      giver = c.requeue.ensures.giver;
      queued = c.requeue.ensures.ready;
      capacity = c.requeue.ensures.rooms;
    })
    (ap (λ (n : ℕ). hands_of c.args.proc ++ arrived_as n arrived) (sym m.streams)) refl (few_drawn drawn arrived) (doomed_row (told_world old) give worker end doomed)
    (λ numbers one. doom_happens new.births (told_world old) give worker end doomed)
    (arrived_mirrors _ _ _ (held_of i.store) pid c.time_after-time.result (time_beside side i.store.time) (drawn + length (arrived_as drawn arrived)) (drawn_beside side drawn)
    (numbers_of c.args.proc.shed) (numbers_of (arrived_as drawn arrived)) (opened_number side drawn) (part_handles (shown_part c.args.proc)) (old.ends ++ last.memory ∷ [])
    (c.time_after-time.ensures ∙ ap (λ (t : ℕ). time_beside side t) c.time.ensures) (next_drawn drawn arrived side came.arrived) (number_opened drawn arrived side came.arrived)
    (c.a_doomed_give_mirrors.ensures _ old (held_of i.store) pid worker brought end last.memory
    (g.met.E.Engine g.world.𝓛 g.world.𝓜 g.world.𝓡 ((λ s x. x), (λ x. x), (λ x. x), (λ x. x))).shows_memory
    c.self.invariant.stands (is_fated_slot old i.store i.spare pid worker end c.self.invariant doomed) fits last.last))

pub returns : goal.returns
returns g c =
    let i = c.self.inside in
    let brought = brought_by c.args.proc c.args.calls c.args.halt c.args.side in
    let last = c.bring_doomed.ensures.ended in
    rw (← c.self.view_is) (given_back g.E.Engine.begin g.E.Engine.at (map arc_value i.programs.items) i.journal c.bring_doomed.new.journal i.live i.idle i.store c.requeue.new.self i.spare
    c.args.worker c.args.proc.start.pid brought c.args.side (last.memory ∷ []) (invariant_of-self g c) ∣ inl refl ∣₁
    (end_recorded i.journal c.add.new.self c.bring_doomed.new.journal (entry_of c.args.worker c.args.proc.start.pid brought c.args.side) c.add.ensures last))
