use Rattle.std.proofs.Common.{refl, arith, ◌∙◌, inl, inr, length}
use Rattle.resource_table.specs.Handles.{numbers_of}
use Rattle.resource_table.specs.Steps.{told}
use Rattle.host_calls.specs.Shown.{seat_of}
use Rattle.node_state.specs.Seats.{meaning}
use Rattle.host_calls.proofs.Keeping.{keeps_none, keeps_both}
use Rattle.host_calls.proofs.Turns.{goes_begin}
use Rattle.host_calls.proofs.whole_turn.run.Goals as goal
use Rattle.host_calls.proofs.whole_turn.run.Goals.{else-loop-answered-test, then-loop-answered-test+then-used-eq-TURN_FUEL}

pub loop-answered-init : goal.loop-answered-init
loop-answered-init g c =
    let proc = c.args.proc.now in
    record {
      way = c.requires.way;
      same = refl;
      owed = refl;
      from = omega arith;
      within = omega arith;
      count = rw c.requires.blank refl;
      goes = λ program p rows here.
          rw (c.requires.shed, c.requires.blank) (goes_begin (meaning g.E.Engine.stands g.E.Engine.phase g.E.Engine.memory) g.E.Engine.at program p (seat_of proc) here);
      streams = keeps_none (told g.O.Stream.Stream.taken g.O.Stream.Stream.put g.O.Stream.Stream.faults g.O.Stream.Stream.waits g.O.Stream.Stream.empties g.O.Stream.Stream.down) proc c.requires.order;
    }

pub returns-in-Some-clause-streams : goal.returns-in-Some-clause-streams
returns-in-Some-clause-streams g c =
    keeps_both (told g.O.Stream.Stream.taken g.O.Stream.Stream.put g.O.Stream.Stream.faults g.O.Stream.Stream.waits g.O.Stream.Stream.empties g.O.Stream.Stream.down) c.args.proc.now
    c.loop-answered.proc c.go_on.new.proc c.loop-answered.invariant.streams c.go_on.ensures.streams

pub loop-answered-preserved : goal.loop-answered-preserved
loop-answered-preserved g c =
    let inv = c.loop-answered.invariant in
    let gone = c.in_default.ensures in
    let a = inv.from in
    let b = inv.within in
    let d = gone.from in
    let e = gone.within in
    let n = inv.count in
    let m = gone.count refl in
    record {
      way = gone.way refl;
      same = gone.same ∙ inv.same;
      owed = gone.owed ∙ inv.owed;
      from = omega (arith, a, d);
      within = omega (arith, a, b, e);
      count = omega (arith, n, m);
      goes = λ program p rows here. let f = here.fuel in gone.goes program p rows (omega (arith, a, b, f)) (inv.goes program p rows here);
      streams = keeps_both (told g.O.Stream.Stream.taken g.O.Stream.Stream.put g.O.Stream.Stream.faults g.O.Stream.Stream.waits g.O.Stream.Stream.empties g.O.Stream.Stream.down) c.args.proc.now
          c.loop-answered.proc c.go_on.new.proc inv.streams gone.streams;
    }

pub returns-clause-ends : goal.returns-clause-ends
returns-clause-ends g c program p rows here =
    let inv = c.loop-answered.invariant in
    let a = inv.from in
    let b = inv.within in
    let n = inv.count in
    let f = here.fuel in
    let most = c.loop-answered.auto.answered-end in
    c.end_at_bound.ensures.ends program p c.loop-answered.calls.items (omega (arith, n, most)) (inv.goes program p rows here)
    (elim c.loop-answered-test.branch [ else-loop-answered-test w ↦ inr (omega (arith, n, most)) | then-loop-answered-test+then-used-eq-TURN_FUEL w ↦ inl (omega (arith, a, b, f)) ])

pub returns-clause-streams : goal.returns-clause-streams
returns-clause-streams g c =
    keeps_both (told g.O.Stream.Stream.taken g.O.Stream.Stream.put g.O.Stream.Stream.faults g.O.Stream.Stream.waits g.O.Stream.Stream.empties g.O.Stream.Stream.down) c.args.proc.now
    c.loop-answered.proc c.end_at_bound.new.proc c.loop-answered.invariant.streams c.end_at_bound.ensures.streams

pub returns-clause-asks : goal.returns-clause-asks
returns-clause-asks g c = c.end_at_bound.ensures.asks (length c.loop-answered.calls.items)
