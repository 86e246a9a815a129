use Rattle.std.proofs.Common.{◌≡◌, ◌≤◌, ◌∷◌, [], ℕ, ◌+◌, ◌-◌, ◌++◌, map, None, refl, arith, ◌∙◌, sym, ap, append-nil, inl}
use Rattle.std.specs.Arc.{arc_value}
use Rattle.resource_table.specs.Steps.{told}
use Rattle.resource_table.specs.Handles.{numbers_of}
use Rattle.world_rules.specs.declared.entry.Side.TheVariants.{Nothing}
use Rattle.world_rules.specs.declared.halt.Halt.TheVariants.{Slice}
use Rattle.node_state.specs.Fits.{entry_of, give_of}
use Rattle.world_rules.specs.Told.{told as told_world}
use Rattle.node_mirror.specs.Slots.{Home}
use Rattle.node_mirror.specs.Steps.{back}
use Rattle.host_calls.specs.Shown.{brought_by, hands_of, seat_of, streams_by}
use Rattle.process_store.specs.Holds.{held_of}
use Rattle.process_store.proofs.NodeStanding.{given_back, records_one, setting_with}
use Rattle.process_store.proofs.GivingBack.{Steps, give_place, home_keeps, none_drawn, row_broken, is_away_slot, out_some, streams_few}
use Rattle.process_store.proofs.node.Node.give_slice.Goals as goal

pub add-requires : goal.add-requires
add-requires g c = give_place c.self.inside.journal c.self.inside.store c.self.inside.spare c.args.proc.start.pid c.args.worker c.self.invariant (rw (← c.self.view_is) at c.requires.out)

pub bring_home-requires-clause-away : goal.bring_home-requires-clause-away
bring_home-requires-clause-away g c κs within =
    (c.args.worker, is_away_slot c.self.inside.journal c.self.inside.store c.self.inside.spare c.args.proc.start.pid c.args.worker c.self.invariant (rw (← c.self.view_is) at c.requires.out))

pub bring_home-requires-clause-few : goal.bring_home-requires-clause-few
bring_home-requires-clause-few g c κs within =
    let few = streams_few c.streams_are_few.ensures.given c.self.inside.journal c.self.inside.store c.self.inside.spare c.args.worker c.args.proc (brought_by c.args.proc c.args.calls Slice Nothing) c.self.invariant
    (rw (← c.self.view_is) at c.requires.comes.fits) refl refl in
    omega (arith, few)

pub invariant_of-self : goal.invariant_of-self
invariant_of-self g c =
    let i = c.self.inside in
    let pid = c.args.proc.start.pid in
    let brought = brought_by c.args.proc c.args.calls Slice Nothing in
    let out = rw (← c.self.view_is) at c.requires.out in
    let fits = rw (← c.self.view_is) at c.requires.comes.fits in
    let old = i.journal in
    let new = c.add.new.self in
    home_keeps g.E.Engine.begin g.E.Engine.at (map arc_value i.programs.items) old new i.live i.idle i.store c.bring_home.new.self c.set_row.new.self c.requeue.new.self i.spare 0
    (seat_of c.args.proc) 0 (hands_of c.args.proc) c.args.proc.shed c.args.worker pid brought (streams_by c.args.proc None)
    c.a_give_is_allowed.ensures.brought c.an_entry_stands.ensures c.streams_pass_on.ensures.given c.self.invariant out fits (rw (← c.self.view_is) at c.requires.comes.came) tt c.add.ensures
    (record {
      becomes = c.bring_home.ensures.held;
      passes = c.bring_home.ensures.streams;
      rooms = c.bring_home.ensures.rooms;
      rows = c.set_row.ensures.row;
      settles = c.requeue.ensures.held;
      kept = c.requeue.ensures.kept;
      keeps = c.requeue.ensures.keeps;
      came = c.requeue.ensures.came;
      giver = c.requeue.ensures.giver;
      capacity = c.requeue.ensures.rooms;
    })
    (sym (append-nil (hands_of c.args.proc))) refl (omega arith) c.bring_home.ensures.queue c.bring_home.ensures.giver c.requeue.ensures.ready
    (sym (row_broken (told_world old) (give_of c.args.worker pid brought) c.args.worker out refl))
    (none_drawn _ _ _ (held_of i.store) pid (seat_of c.args.proc) (numbers_of c.args.proc.shed) old.ends
    (c.a_slice_mirrors.ensures _ old (held_of i.store) new.births pid c.args.worker brought c.self.invariant.stands
    (is_away_slot old i.store i.spare pid c.args.worker c.self.invariant out) refl refl fits))

pub returns : goal.returns
returns g c =
    let i = c.self.inside in
    rw (← c.self.view_is) (given_back g.E.Engine.begin g.E.Engine.at (map arc_value i.programs.items) i.journal c.add.new.self i.live i.idle i.store c.requeue.new.self i.spare c.args.worker c.args.proc.start.pid
    (brought_by c.args.proc c.args.calls Slice Nothing) Nothing [] (invariant_of-self g c) ∣ inl refl ∣₁
    (records_one i.journal c.add.new.self (entry_of c.args.worker c.args.proc.start.pid (brought_by c.args.proc c.args.calls Slice Nothing) Nothing) c.add.ensures))
