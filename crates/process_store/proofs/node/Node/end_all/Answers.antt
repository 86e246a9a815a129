use Rattle.std.proofs.Common.{◌≡◌, ◌≤◌, ℕ, ◌+◌, map, refl, arith, ap, sym, ◌∙◌}
use Rattle.std.specs.Arc.{arc_value}
use Rattle.process_store.specs.Holds.{hands_at, streams_of}
use Rattle.process_store.proofs.NodeStanding.{end_room, end_room_added, keeps_streams}
use Rattle.process_store.proofs.EndingAll.{end_keeps, end_place, ends_steps}
use Rattle.process_store.proofs.node.Node.end_all.Goals as goal

pub add-requires : goal.add-requires
add-requires g c = end_place c.self.inside.journal c.self.inside.store c.self.inside.spare c.self.invariant (rw (← c.self.view_is) at c.requires.going)

pub strike_all-requires-clause-room : goal.strike_all-requires-clause-room
strike_all-requires-clause-room g c κs within =
    end_room_added c.self.inside.journal c.add.new.self c.self.inside.store c.args.entry (end_room c.self.inside.journal c.self.inside.store c.self.invariant.stands) c.add.ensures

pub invariant_of-self : goal.invariant_of-self
invariant_of-self g c =
    let i = c.self.inside in
    end_keeps g.E.Engine.begin g.E.Engine.at (map arc_value i.programs.items) i.journal c.add.new.self c.strike_all.new.journal i.live i.idle i.store c.strike_all.new.self c.end_run.new.self
    c.set_row.new.self c.requeue.new.self i.spare (map hands_at i.store.places.items) (map streams_of i.store.mail.items) i.store.closed.items c.args.entry c.args.end
    c.an_entry_stands.ensures c.streams_pass_on.ensures.others c.an_over_mirrors.ensures c.sound.ensures.all_told c.sound.ensures.kept c.strikes_follow.ensures.all
    (g.met.E.Engine g.world.𝓛 g.world.𝓜 g.world.𝓡 ((λ s x. x), (λ x. x), (λ x. x), (λ x. x))).shows_memory
    c.self.invariant (rw (← c.self.view_is) at c.requires.going) (rw (← c.self.view_is) at c.requires.due)
    (record {
      adds = c.add.ensures;
      mirrors = c.strike_all.ensures.mirrors;
      stays = c.strike_all.ensures.journal;
      numbers = c.strike_all.ensures.numbers;
      out = c.strike_all.ensures.out;
      drawn = c.strike_all.ensures.drawn;
      births = c.strike_all.ensures.births;
      ends = c.strike_all.ensures.ends;
      rooms = c.strike_all.ensures.rooms;
      passes = c.strike_all.ensures.streams;
      overs = c.end_run.ensures.over;
      rows = c.set_row.ensures.row;
      settles = c.requeue.ensures.held;
      kept = c.requeue.ensures.kept;
      keeps = c.requeue.ensures.keeps;
      came = c.requeue.ensures.came;
      giver = c.requeue.ensures.giver;
      same = c.requeue.ensures.same;
      capacity = c.requeue.ensures.rooms;
    })

pub returns-clause-recorded : goal.returns-clause-recorded
returns-clause-recorded g c =
    let i = c.self.inside in
    let e = c.strike_all.ensures in
    rw (← c.self.view_is) (ends_steps i.journal c.add.new.self c.strike_all.new.journal c.args.entry c.add.ensures e.journal e.ends)

pub returns-clause-over : goal.returns-clause-over
returns-clause-over g c = (invariant_of-self g c).stands.mirrors.over ∙ ap (λ s. s.over) c.requeue.ensures.same ∙ ap (λ s. s.over) c.set_row.ensures.row ∙ ap (λ s. s.over) c.end_run.ensures.over

pub returns-clause-streams : goal.returns-clause-streams
returns-clause-streams g c =
    let i = c.self.inside in
    let keeps = invariant_of-self g c in
    keeps_streams _ (map arc_value i.programs.items) c.strike_all.new.journal i.live i.idle i.spare c.requeue.new.self keeps.stands keeps.streams

pub returns-clause-run : goal.returns-clause-run
returns-clause-run g c = (invariant_of-self g c).stands.run
