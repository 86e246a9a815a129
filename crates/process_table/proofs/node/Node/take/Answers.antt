use Rattle.std.proofs.Common.{◌≡◌, ◌<◌, ◌≤◌, ℕ, ◌+◌, ◌-◌, [], ◌∷◌, List, ◌⊎◌, inl, inr, map, false, slice_set, refl, ap, sym, ◌∙◌, arith}
use Rattle.std.specs.Arc.{arc_value}
use Rattle.node_laws.proofs.Programs.{keeps-sound}
use Rattle.process_table.specs.Seen.{world_of}
use Rattle.process_table.specs.Takes.{IsIdle}
use Rattle.process_table.proofs.EndingAll.{read-through}
use Rattle.process_table.proofs.Owning.{keeps-streams}
use Rattle.process_table.proofs.Taking.{TakesAway, no-home, none-out, node-take, shows-take, shows-streams, keeps-queue, takes-nothing, is-timed, is-stuck, takes-stall, takes-idle, takes-over}
use Rattle.process_table.proofs.node.Node.take.Goals.{then-self-gt0-via-then-self-gt0, then-self-gt0-via-else-self-gt0+then-timed}
use Rattle.process_table.proofs.node.Node.take.Goals as goal

two_left : (spare : ℕ) → 2 ≤ spare → spare - 2 + 2 ≡ spare
two_left spare most = omega (arith, most)

pub unreachable-requires : goal.unreachable-requires
unreachable-requires g c =
    let i = c.self.inside in
    no-home i.journal _ c.in-Some.pid c.pop.new.self.ready c.replace-place.result c.self.invariant c.in-Some.ensures.popped
    (read-through i.places.items c.in-Some.pid c.replace-place.result c.index_mut.result.now c.replace-place.ensures.value c.index_mut.ensures.value)
    c.in_default-place.not-Home

pub overflow_add-self : goal.overflow_add-self
overflow_add-self g c =
    let none = none-out c.self.inside.journal _ c.in-Some.pid c.pop.new.self.ready c.self.invariant c.in-Some.ensures.popped in
    omega (arith, none)

pub invariant_of-self : goal.invariant_of-self
invariant_of-self g c =
    let i = c.self.inside in
    node-take c.streams_keep_standing.ensures.others g.E.Engine.begin g.E.Engine.at (map arc_value i.programs.items) i.journal c.add.new.self i.live i.idle _ _ c.in-Some.pid c.args.worker
    c.self.invariant c.if-self.false (rw (← c.self.view_is) at c.requires)
    (record {
      front = c.in-Some.ensures.popped;
      placed = ap (slice_set i.places.items c.in-Some.pid) c.replace-place.ensures.after;
      mail = refl;
      deadlines = c.in-Some.ensures.deadlines;
      room = c.in-Some.ensures.room;
      sends = refl;
      time = refl;
      row = refl;
      out = refl;
      over = refl;
      streams = refl;
      closed = refl;
      closed_room = refl;
      shed = refl;
      spare = two_left i.spare (rw (← c.self.view_is) at c.requires);
    })
    c.add.ensures

pub returns-in-Some-clause-run : goal.returns-in-Some-clause-run
returns-in-Some-clause-run g c = (invariant_of-self g c).stands.run

pub returns-in-Some-clause-streams : goal.returns-in-Some-clause-streams
returns-in-Some-clause-streams g c = keeps-streams _ c.add.new.self _ _ _ _ (invariant_of-self g c)

pub returns-in-Some-clause-taken : goal.returns-in-Some-clause-taken
returns-in-Some-clause-taken g c =
    let i = c.self.inside in
    let there = read-through i.places.items c.in-Some.pid c.replace-place.result c.index_mut.result.now c.replace-place.ensures.value c.index_mut.ensures.value in
    rw (← c.self.view_is) (
      shows-take _ _ _ (keeps-sound c.sound.ensures.first c.sound.ensures.kept c.touches.ensures.stays c.touches.ensures.counts) c.streams_stand_apart.ensures.once
          g.E.Engine.begin g.E.Engine.at (map arc_value i.programs.items) i.journal c.add.new.self i.live i.idle _ _ _ _ _ _ _ _ _ c.in-Some.pid c.args.worker c.pop.new.self.ready
          c.replace-place.result
          c.in-Home.proc c.self.invariant c.if-self.false c.if-self-2.false c.in-Some.ensures.popped there c.in-Home.is c.add.ensures,
      shows-streams g.E.Engine.begin g.E.Engine.at (map arc_value i.programs.items) i.journal c.add.new.self i.live i.idle _ _ _ _ c.in-Some.pid c.args.worker c.replace-place.result c.in-Home.proc
          c.self.invariant
          (record {
            front = c.in-Some.ensures.popped;
            placed = ap (slice_set i.places.items c.in-Some.pid) c.replace-place.ensures.after;
            mail = refl;
            deadlines = c.in-Some.ensures.deadlines;
            room = c.in-Some.ensures.room;
            sends = refl;
            time = refl;
            row = refl;
            out = refl;
            over = refl;
            streams = refl;
            closed = refl;
            closed_room = refl;
            shed = refl;
            spare = two_left i.spare (rw (← c.self.view_is) at c.requires);
          }) there c.in-Home.is c.add.ensures,
    )

pub invariant_of-self-then-self-gt0 : goal.invariant_of-self-then-self-gt0
invariant_of-self-then-self-gt0 g c =
    keeps-queue c.self.inside.journal _ c.pop.new.self c.self.invariant (sym c.in_default.ensures.popped) c.in_default.ensures.deadlines c.in_default.ensures.room

pub returns-then-self-gt0-clause-taken : goal.returns-then-self-gt0-clause-taken
returns-then-self-gt0-clause-taken g c =
    let i = c.self.inside in
    let after = invariant_of-self-then-self-gt0 g c in
    rw (← c.self.view_is) (takes-nothing g.E.Engine.begin g.E.Engine.at (map arc_value i.programs.items) i.journal i.live i.idle _ _ _ _ _ _ _ _ _ after c.if-self.false c.if-self-2.false
    (sym c.in_default.ensures.popped ∙ c.in_default.ensures.none.0 refl)
    (elim c.then-self-gt0.branch [
      | then-self-gt0-via-then-self-gt0 w ↦ ∣ inl w.if-self-gt0.true ∣₁
      | then-self-gt0-via-else-self-gt0+then-timed w ↦ ∣ inr (is-timed c.sound.ensures.all_told i.journal _ after (w.timed.ensures.0 w.if-timed.true)) ∣₁
    ]))

pub invariant_of-self-2 : goal.invariant_of-self-2
invariant_of-self-2 g c =
    keeps-queue c.self.inside.journal _ c.pop.new.self c.self.invariant (sym c.in_default.ensures.popped) c.in_default.ensures.deadlines c.in_default.ensures.room

pub end_all-requires-2-clause-due : goal.end_all-requires-2-clause-due
end_all-requires-2-clause-due g c κs within = (
  refl,
  is-stuck c.self.inside.journal _ c.timed.result
      (keeps-queue c.self.inside.journal _ c.pop.new.self c.self.invariant (sym c.in_default.ensures.popped) c.in_default.ensures.deadlines c.in_default.ensures.room)
      (sym c.in_default.ensures.popped ∙ c.in_default.ensures.none.0 refl) c.if-self-gt0.false c.timed.ensures c.if-timed.false,
)

pub returns-clause-taken : goal.returns-clause-taken
returns-clause-taken g c =
    let i = c.self.inside in
    let m = c.self.invariant.stands.mirrors in
    rw (← c.self.view_is) (takes-stall _ _ c.args.worker (m.over ∙ c.if-self.false) (rw m.row c.if-self-2.false)
    (is-stuck i.journal _ c.timed.result
    (keeps-queue i.journal _ c.pop.new.self c.self.invariant (sym c.in_default.ensures.popped) c.in_default.ensures.deadlines c.in_default.ensures.room)
    (sym c.in_default.ensures.popped ∙ c.in_default.ensures.none.0 refl) c.if-self-gt0.false c.timed.ensures c.if-timed.false)
    c.end_all-2.ensures.over c.end_all-2.ensures.recorded)

pub returns-then-self-clause-taken : goal.returns-then-self-clause-taken
returns-then-self-clause-taken g c = rw (← c.self.view_is) (takes-over _ c.args.worker (c.self.invariant.stands.mirrors.over ∙ c.if-self.true))

pub returns-then-self-clause-streams : goal.returns-then-self-clause-streams
returns-then-self-clause-streams g c = rw (← c.self.view_is) (keeps-streams _ c.self.inside.journal _ _ _ _ c.self.invariant)

pub returns-then-self-clause-run : goal.returns-then-self-clause-run
returns-then-self-clause-run g c = rw (← c.self.view_is) c.self.invariant.stands.run

pub returns-then-self-2-clause-taken : goal.returns-then-self-2-clause-taken
returns-then-self-2-clause-taken g c =
    let m = c.self.invariant.stands.mirrors in
    let going : (world_of c.args.self.now).over ≡ false = rw (← c.self.view_is) (m.over ∙ c.if-self.false) in
    let idle : IsIdle c.args.self.now = rw (← c.self.view_is) (rw m.row c.if-self-2.true) in
    takes-idle c.args.self.now _ c.args.worker going idle c.end_all.ensures.over c.end_all.ensures.recorded

pub returns-then-self-gt0-clause-streams : goal.returns-then-self-gt0-clause-streams
returns-then-self-gt0-clause-streams g c = keeps-streams _ c.self.inside.journal _ _ _ _ (invariant_of-self-then-self-gt0 g c)
