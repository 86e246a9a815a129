use Rattle.std.proofs.Common.{◌∷◌, [], map, None, refl, arith, sym, ap, append-nil, inl}
use Rattle.std.specs.Arc.{arc_value}
use Rattle.resource_table.specs.Handles.{numbers_of}
use Rattle.world_rules.specs.declared.entry.Side.TheVariants.{Nothing}
use Rattle.world_rules.specs.Rules.{home, recorded}
use Rattle.world_rules.specs.Sound.{is_born}
use Rattle.world_rules.specs.Told.{told as told_world}
use Rattle.node_state.specs.Fits.{entry_of, give_of}
use Rattle.node_state.specs.Seats.{part_handles}
use Rattle.host_calls.specs.Shown.{brought_by, hands_of, shown_part, streams_by}
use Rattle.process_store.specs.Holds.{held_of}
use Rattle.process_store.proofs.NodeStanding.{given_back}
use Rattle.process_store.proofs.GivingBack.{give_place, is_away_slot, out_some, row_broken, streams_few}
use Rattle.process_store.proofs.GivingEnds.{end_recorded, halt_happens, last_keeps, none_born}
use Rattle.process_store.proofs.node.Node.give_end.Goals as goal

pub add-requires : goal.add-requires
add-requires g c = give_place c.self.inside.journal c.self.inside.store c.self.inside.spare c.args.proc.start.pid c.args.worker c.self.invariant (rw (← c.self.view_is) at c.requires.out)

pub bring_ended-requires-clause-away : goal.bring_ended-requires-clause-away
bring_ended-requires-clause-away g c κs within =
    (c.args.worker, is_away_slot c.self.inside.journal c.self.inside.store c.self.inside.spare c.args.proc.start.pid c.args.worker c.self.invariant (rw (← c.self.view_is) at c.requires.out))

pub bring_ended-requires-clause-few : goal.bring_ended-requires-clause-few
bring_ended-requires-clause-few g c κs within =
    streams_few c.streams_are_few.ensures.given c.self.inside.journal c.self.inside.store c.self.inside.spare c.args.worker c.args.proc
    (brought_by c.args.proc c.args.calls c.args.halt Nothing) c.self.invariant (rw (← c.self.view_is) at c.requires.comes.fits) refl refl

pub invariant_of-self : goal.invariant_of-self
invariant_of-self g c =
    let i = c.self.inside in
    let pid = c.args.proc.start.pid in
    let worker = c.args.worker in
    let brought = brought_by c.args.proc c.args.calls c.args.halt Nothing in
    let give = give_of worker pid brought in
    let out = rw (← c.self.view_is) at c.requires.out in
    let fits = rw (← c.self.view_is) at c.requires.comes.fits in
    let old = i.journal in
    let new = c.bring_ended.new.journal in
    let last = c.bring_ended.ensures.ended in
    let away = is_away_slot old i.store i.spare pid worker c.self.invariant out in
    last_keeps g.E.Engine.begin g.E.Engine.at (map arc_value i.programs.items) old new i.live i.idle i.store c.bring_ended.new.self c.end_run.new.self c.set_row.new.self c.requeue.new.self i.spare
    i.store.time i.store.streams (hands_of c.args.proc) c.args.proc.shed (numbers_of c.args.proc.shed) (part_handles (shown_part c.args.proc)) worker pid brought (streams_by c.args.proc None)
    (home (recorded (told_world old) give) pid) c.requires.ends.0 last.memory
    c.a_give_is_allowed.ensures.brought c.an_entry_stands.ensures c.streams_pass_on.ensures.given c.an_over_mirrors.ensures c.self.invariant
    (ap is_born out) (out_some i.store pid worker c.self.invariant.keeps away) fits (rw (← c.self.view_is) at c.requires.comes.came)
    (none_born _ old.births (told_world old) give c.requires.ends.0 c.requires.ends.1)
    (end_recorded old c.add.new.self new (entry_of worker pid brought Nothing) c.add.ensures last)
    (record {
      becomes = c.bring_ended.ensures.held;
      passes = c.bring_ended.ensures.streams;
      rooms = c.bring_ended.ensures.rooms;
      giver_before = c.bring_ended.ensures.giver;
      ready = c.bring_ended.ensures.ready;
      overs = c.end_run.ensures.over;
      rows = c.set_row.ensures.row;
      settles = c.requeue.ensures.held;
      kept = c.requeue.ensures.kept;
      keeps = c.requeue.ensures.keeps;
      came = c.requeue.ensures.came;
      giver = c.requeue.ensures.giver;
      queued = c.requeue.ensures.ready;
      capacity = c.requeue.ensures.rooms;
    })
    (sym (append-nil (hands_of c.args.proc))) refl (omega arith) (row_broken (told_world old) give worker out refl)
    (λ drawn one. halt_happens new.births (told_world old) give worker c.requires.ends.0 out c.requires.ends.1 drawn one)
    (c.an_end_mirrors.ensures _ old (held_of i.store) pid worker brought c.requires.ends.0 last.memory
    (g.met.E.Engine g.world.𝓛 g.world.𝓜 g.world.𝓡 ((λ s x. x), (λ x. x), (λ x. x), (λ x. x))).shows_memory
    c.self.invariant.stands away c.requires.ends.1 refl fits last.last)

pub returns : goal.returns
returns g c =
    let i = c.self.inside in
    let brought = brought_by c.args.proc c.args.calls c.args.halt Nothing in
    let last = c.bring_ended.ensures.ended in
    rw (← c.self.view_is) (given_back g.E.Engine.begin g.E.Engine.at (map arc_value i.programs.items) i.journal c.bring_ended.new.journal i.live i.idle i.store c.requeue.new.self i.spare c.args.worker
    c.args.proc.start.pid brought Nothing (last.memory ∷ []) (invariant_of-self g c) ∣ inl refl ∣₁
    (end_recorded i.journal c.add.new.self c.bring_ended.new.journal (entry_of c.args.worker c.args.proc.start.pid brought Nothing) c.add.ensures last))
