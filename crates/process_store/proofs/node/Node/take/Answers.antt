use Rattle.std.proofs.Common.{◌≡◌, ◌≤◌, ◌<◌, ℕ, ◌+◌, ◌-◌, [], ◌∷◌, List, ◌⊎◌, inl, inr, map, Bool, true, false, refl, ap, subst, sym, ◌∙◌, arith}
use Rattle.std.specs.Arc.{arc_value}
use Rattle.world_rules.specs.Told.{told as told_world}
use Rattle.process_store.specs.Holds.{held_of}
use Rattle.process_store.specs.Seen.{world_of}
use Rattle.process_store.specs.Takes.{IsBusy, IsIdle}
use Rattle.process_store.proofs.NodeStanding.{keeps_streams}
use Rattle.process_store.proofs.NodeTaking.{is_stuck, nobody_keeps, shows_streams, shows_take, take_keeps, takes_idle, takes_nothing, takes_over, takes_stall}
use Rattle.process_store.proofs.node.Node.take.Goals.{then-out-gt0-via-then-out-gt0, then-out-gt0-via-else-out-gt0+then-timed}
use Rattle.process_store.proofs.node.Node.take.Goals as goal

pub returns-then-is_over-clause-streams : goal.returns-then-is_over-clause-streams
returns-then-is_over-clause-streams g c =
    let i = c.self.inside in
    rw (← c.self.view_is) (keeps_streams _ (map arc_value i.programs.items) i.journal i.live i.idle i.spare i.store c.self.invariant.stands c.self.invariant.streams)

pub invariant_of-self : goal.invariant_of-self
invariant_of-self g c =
    let i = c.self.inside in
    let e = c.in-Some.ensures in
    take_keeps g.E.Engine.begin g.E.Engine.at (map arc_value i.programs.items) i.journal c.add.new.self i.live i.idle i.store c.take.new.self i.spare c.args.worker c.in-Some.pid c.in-Some.proc
    c.a_take_stands.ensures c.streams_pass_on.ensures.others c.self.invariant (sym c.is_over.ensures ∙ c.if-is_over.false) (rw (← c.self.view_is) at c.requires)
    e.taken e.keeps e.giver e.came e.numbers e.rooms c.add.ensures

pub returns-in-Some-clause-taken : goal.returns-in-Some-clause-taken
returns-in-Some-clause-taken g c =
    let i = c.self.inside in
    let busy : i.store.row < i.idle = subst (λ (n : ℕ). n < i.idle) c.row.ensures c.if-self-row.false in
    rw (← c.self.view_is) (
      shows_take _ _ _ c.streams_stand_once.ensures.once g.E.Engine.begin g.E.Engine.at (map arc_value i.programs.items) i.journal c.add.new.self i.live i.idle i.spare (i.spare - 2) _ _ _ _ _ _
          i.store c.take.new.self c.in-Some.pid c.args.worker c.in-Some.proc c.self.invariant (sym c.is_over.ensures ∙ c.if-is_over.false) busy c.in-Some.ensures.taken c.add.ensures,
      shows_streams g.E.Engine.begin g.E.Engine.at (map arc_value i.programs.items) i.journal c.add.new.self i.live i.idle i.spare (i.spare - 2) i.store c.take.new.self c.in-Some.pid c.args.worker
          c.in-Some.proc c.self.invariant c.in-Some.ensures.taken c.add.ensures,
    )

pub returns-in-Some-clause-streams : goal.returns-in-Some-clause-streams
returns-in-Some-clause-streams g c =
    let i = c.self.inside in
    let keeps = invariant_of-self g c in
    keeps_streams _ (map arc_value i.programs.items) c.add.new.self i.live i.idle (i.spare - 2) c.take.new.self keeps.stands keeps.streams

pub returns-in-Some-clause-run : goal.returns-in-Some-clause-run
returns-in-Some-clause-run g c = (invariant_of-self g c).stands.run

pub returns-then-out-gt0-clause-taken : goal.returns-then-out-gt0-clause-taken
returns-then-out-gt0-clause-taken g c =
    let i = c.self.inside in
    let e = c.in_default.ensures in
    let after = nobody_keeps i.journal i.store c.take.new.self i.spare c.self.invariant e.taken e.keeps e.giver e.came e.numbers e.rooms in
    let busy : i.store.row < i.idle = subst (λ (n : ℕ). n < i.idle) c.row.ensures c.if-self-row.false in
    rw (← c.self.view_is) (takes_nothing g.E.Engine.begin g.E.Engine.at (map arc_value i.programs.items) i.journal i.live i.idle i.spare i.spare _ _ _ _ _ _ i.store i.spare c.self.invariant
    (sym c.is_over.ensures ∙ c.if-is_over.false) busy e.taken.ready
    (elim c.then-out-gt0.branch [
      | then-out-gt0-via-then-out-gt0 w ↦ ∣ inl (subst (λ (n : ℕ). 0 < n) (c.out.ensures ∙ ap (λ h. h.out) e.taken.held) w.if-out-gt0.true) ∣₁
      | then-out-gt0-via-else-out-gt0+then-timed w ↦
          let some = w.timed.ensures.some w.if-timed.true in
          ∣ inr (c.deadlines_tell.ensures.some _ (told_world i.journal) (held_of c.take.new.self) i.journal.ends some.0 some.1 after.stands.mirrors some.2) ∣₁
    ]))

pub returns-then-out-gt0-clause-streams : goal.returns-then-out-gt0-clause-streams
returns-then-out-gt0-clause-streams g c =
    let i = c.self.inside in
    let e = c.in_default.ensures in
    let after = nobody_keeps i.journal i.store c.take.new.self i.spare c.self.invariant e.taken e.keeps e.giver e.came e.numbers e.rooms in
    keeps_streams _ (map arc_value i.programs.items) i.journal i.live i.idle i.spare c.take.new.self after.stands after.streams

pub end_all-requires-2-clause-due : goal.end_all-requires-2-clause-due
end_all-requires-2-clause-due g c κs within =
    let i = c.self.inside in
    let e = c.in_default.ensures in
    let after = nobody_keeps i.journal i.store c.take.new.self i.spare c.self.invariant e.taken e.keeps e.giver e.came e.numbers e.rooms in (
      refl,
      is_stuck c.deadlines_tell.ensures.none i.journal c.take.new.self i.spare after (ap (λ h. h.ready) e.taken.held ∙ e.taken.ready) (subst (λ (n : ℕ). n ≤ 0) c.out.ensures c.if-out-gt0.false)
          (c.timed.ensures.none c.if-timed.false),
    )

pub returns-clause-taken : goal.returns-clause-taken
returns-clause-taken g c =
    let i = c.self.inside in
    let e = c.in_default.ensures in
    let m = c.self.invariant.stands.mirrors in
    let after = nobody_keeps i.journal i.store c.take.new.self i.spare c.self.invariant e.taken e.keeps e.giver e.came e.numbers e.rooms in
    let busy : i.store.row < i.idle = subst (λ (n : ℕ). n < i.idle) c.row.ensures c.if-self-row.false in
    rw (← c.self.view_is) (takes_stall _ _ c.args.worker (m.over ∙ sym c.is_over.ensures ∙ c.if-is_over.false) (subst (λ (n : ℕ). n < i.idle) (sym c.self.invariant.stands.row) busy)
    (is_stuck c.deadlines_tell.ensures.none i.journal c.take.new.self i.spare after (ap (λ h. h.ready) e.taken.held ∙ e.taken.ready) (subst (λ (n : ℕ). n ≤ 0) c.out.ensures c.if-out-gt0.false)
    (c.timed.ensures.none c.if-timed.false))
    c.end_all-2.ensures.over c.end_all-2.ensures.recorded)
