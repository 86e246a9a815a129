use Rattle.std.proofs.Common.{◌≡◌, ◌≤◌, ℕ, ◌+◌, ◌-◌, Bool, true, false, not, map, refl, arith, sym, ◌∙◌, ap, subst}
use Rattle.std.specs.Arc.{arc_value}
use Rattle.node_state.specs.Seats.{meaning}
use Rattle.world_rules.specs.Rules.{row_with}
use Rattle.process_store.specs.Holds.{held_of, place_at}
use Rattle.process_store.specs.Performing.{MayBeWoken}
use Rattle.process_store.proofs.NodeStanding.{keeps_streams}
use Rattle.process_store.proofs.Ticking.{mirrors_wake, row_early, row_ended, row_kept, tick_keeps}
use Rattle.process_store.proofs.node.Node.tick.Goals.{then-wake_due, else-wake_due}
use Rattle.process_store.proofs.node.Node.tick.Goals as goal

pub wake_due-requires-clause-waits : goal.wake_due-requires-clause-waits
wake_due-requires-clause-waits g c κs within pid =
    let i = c.self.inside in
    rw c.set_time.ensures.time
    (mirrors_wake (meaning g.E.Engine.stands g.E.Engine.phase g.E.Engine.memory) _ _ (held_of i.store) i.journal.ends c.waits_are_answered.ensures.late c.waits_are_answered.ensures.delivered
    c.self.invariant.stands.mirrors pid)

pub invariant_of-self : goal.invariant_of-self
invariant_of-self g c =
    let i = c.self.inside in
    tick_keeps g.E.Engine.begin g.E.Engine.at (map arc_value i.programs.items) i.journal c.add.new.self i.live i.idle i.store c.set_time.new.self c.wake_due.new.self c.set_row.new.self c.requeue.new.self
    i.spare c.args.worker c.now-now.result c.wake_due.result c.if-wake_due.row
    c.an_entry_stands.ensures c.streams_pass_on.ensures.others c.a_time_mirrors.ensures c.latenesses_follow.ensures.all c.self.invariant
    (rw (← c.self.view_is) at c.requires.going) (rw (← c.self.view_is) at c.requires.timed) (rw (← c.self.view_is) at c.requires.spare)
    (record {
      times = c.set_time.ensures.time;
      adds = c.add.ensures;
      mirrors = c.wake_due.ensures.mirrors;
      gives_stay = c.wake_due.ensures.gives_stay;
      stay_gone = c.wake_due.ensures.stay_gone;
      beside = c.wake_due.ensures.beside;
      giver_stays = c.wake_due.ensures.giver;
      passes = c.wake_due.ensures.streams;
      rows = c.set_row.ensures.row;
      row_is = elim c.if-wake_due.branch [
        | then-wake_due w ↦ row_ended i.store.row c.wake_due.result c.if-wake_due.row w.if-wake_due.true w.row-is
        | else-wake_due w ↦ row_early i.store.row c.wake_due.result c.if-wake_due.row w.if-wake_due.false
            (w.row-is ∙ w.longer_row-row.ensures ∙ ap (λ (n : ℕ). n + 1) (w.row.ensures ∙ row_kept i.store c.set_time.new.self c.wake_due.new.self c.now-now.result c.set_time.ensures.time c.wake_due.ensures.beside))
      ];
      settles = c.requeue.ensures.held;
      kept = c.requeue.ensures.kept;
      keeps = c.requeue.ensures.keeps;
      ready = c.requeue.ensures.ready;
      came = c.requeue.ensures.came;
      giver = c.requeue.ensures.giver;
      same = c.requeue.ensures.same;
      capacity = c.requeue.ensures.rooms;
    })

pub returns-clause-streams : goal.returns-clause-streams
returns-clause-streams g c =
    let i = c.self.inside in
    let keeps = invariant_of-self g c in
    keeps_streams _ (map arc_value i.programs.items) c.add.new.self i.live i.idle (i.spare - 1) c.requeue.new.self keeps.stands keeps.streams

pub returns-clause-run : goal.returns-clause-run
returns-clause-run g c = (invariant_of-self g c).stands.run
