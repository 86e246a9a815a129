use Rattle.std.proofs.Common.{IsTrue, refl, None, ◌∙◌, sym}
use Rattle.world_rules.specs.declared.halt.Halt.TheVariants as HaltIs
use Rattle.world_rules.specs.declared.entry.Side.TheVariants as SideIs
use Rattle.process_table.proofs.Giving.{fated-is, unfated-is}
use Rattle.process_table.proofs.Dispatch.{comes-from, comes-with, came-none, came-slice, came-end, which-end, given-with}
use Rattle.process_table.proofs.node.Node.give.Goals as goal

pub give_doomed-requires-clause-doomed : goal.give_doomed-requires-clause-doomed
give_doomed-requires-clause-doomed g c κs within =
    let tells = rw c.as_slice.ensures.value at c.is_fated.ensures in
    let there = fated-is c.self.inside.journal _ c.args.turn.proc.start.pid c.args.worker c.self.invariant
    (rw (← c.self.view_is) at c.requires.fits.allowed.away) (tells.0 c.if-is_fated.true) in
    rw (← c.self.view_is) there

pub give_doomed-requires-clause-comes : goal.give_doomed-requires-clause-comes
give_doomed-requires-clause-comes g c κs within = record { fits = c.requires.fits; came = c.requires.streams }

pub give_slice-requires-clause-out : goal.give_slice-requires-clause-out
give_slice-requires-clause-out g c κs within =
    let tells = rw c.as_slice.ensures.value at c.is_fated.ensures in
    let there = unfated-is c.self.inside.journal _ c.args.turn.proc.start.pid c.args.worker c.self.invariant
    (rw (← c.self.view_is) at c.requires.fits.allowed.away) (λ fated. let h : IsTrue c.is_fated.result = tells.1 fated in let k = c.if-is_fated.false in cc) in
    rw (← c.self.view_is) there

pub give_request-requires-clause-out : goal.give_request-requires-clause-out
give_request-requires-clause-out g c κs within =
    let tells = rw c.as_slice.ensures.value at c.is_fated.ensures in
    let there = unfated-is c.self.inside.journal _ c.args.turn.proc.start.pid c.args.worker c.self.invariant
    (rw (← c.self.view_is) at c.requires.fits.allowed.away) (λ fated. let h : IsTrue c.is_fated.result = tells.1 fated in let k = c.if-is_fated.false in cc) in
    rw (← c.self.view_is) there

pub give_outside-requires-clause-out : goal.give_outside-requires-clause-out
give_outside-requires-clause-out g c κs within =
    let tells = rw c.as_slice.ensures.value at c.is_fated.ensures in
    let there = unfated-is c.self.inside.journal _ c.args.turn.proc.start.pid c.args.worker c.self.invariant
    (rw (← c.self.view_is) at c.requires.fits.allowed.away) (λ fated. let h : IsTrue c.is_fated.result = tells.1 fated in let k = c.if-is_fated.false in cc) in
    rw (← c.self.view_is) there

pub give_end-requires-clause-out : goal.give_end-requires-clause-out
give_end-requires-clause-out g c κs within =
    let tells = rw c.as_slice.ensures.value at c.is_fated.ensures in
    let there = unfated-is c.self.inside.journal _ c.args.turn.proc.start.pid c.args.worker c.self.invariant
    (rw (← c.self.view_is) at c.requires.fits.allowed.away) (λ fated. let h : IsTrue c.is_fated.result = tells.1 fated in let k = c.if-is_fated.false in cc) in
    rw (← c.self.view_is) there

pub give_request-requires-clause-rows : goal.give_request-requires-clause-rows
give_request-requires-clause-rows g c κs within = rw (← c.self.view_is) c.self.invariant.rows

pub give_request-requires-clause-comes : goal.give_request-requires-clause-comes
give_request-requires-clause-comes g c κs within =
    comes-with c.args.turn.proc c.args.turn.calls c.args.turn.halt (HaltIs.Asks c.in-Asks.request) c.args.turn.side c.args.turn.side c.args.turn.arrived c.args.turn.arrived c.in-Asks.is refl refl (comes-from c.args.self.now c.args.worker c.args.turn.proc.start.pid c.args.turn.proc c.args.turn.calls c.args.turn.halt c.args.turn.side c.args.turn.arrived c.requires.fits c.requires.streams)

pub give_outside-requires-clause-outside : goal.give_outside-requires-clause-outside
give_outside-requires-clause-outside g c κs within = c.requires.fits.retried c.in-Again.is

pub give_outside-requires-clause-comes : goal.give_outside-requires-clause-comes
give_outside-requires-clause-comes g c κs within =
    comes-with c.args.turn.proc c.args.turn.calls c.args.turn.halt HaltIs.Again c.args.turn.side c.args.turn.side c.args.turn.arrived c.args.turn.arrived c.in-Again.is refl refl (comes-from c.args.self.now c.args.worker c.args.turn.proc.start.pid c.args.turn.proc c.args.turn.calls c.args.turn.halt c.args.turn.side c.args.turn.arrived c.requires.fits c.requires.streams)

pub no_stream-requires-clause-none : goal.no_stream-requires-clause-none
no_stream-requires-clause-none g c κs within = came-none c.args.turn.proc c.args.turn.calls c.args.turn.halt c.args.turn.side SideIs.Nothing c.args.turn.arrived (came-slice c.args.turn.proc c.args.turn.calls c.args.turn.halt c.args.turn.side c.args.turn.arrived c.in-Slice.is (comes-from c.args.self.now c.args.worker c.args.turn.proc.start.pid c.args.turn.proc c.args.turn.calls c.args.turn.halt c.args.turn.side c.args.turn.arrived c.requires.fits c.requires.streams)) refl (comes-from c.args.self.now c.args.worker c.args.turn.proc.start.pid c.args.turn.proc c.args.turn.calls c.args.turn.halt c.args.turn.side c.args.turn.arrived c.requires.fits c.requires.streams)

pub give_slice-requires-clause-comes : goal.give_slice-requires-clause-comes
give_slice-requires-clause-comes g c κs within =
    comes-with c.args.turn.proc c.args.turn.calls c.args.turn.halt HaltIs.Slice c.args.turn.side SideIs.Nothing c.args.turn.arrived None c.in-Slice.is (came-slice c.args.turn.proc c.args.turn.calls c.args.turn.halt c.args.turn.side c.args.turn.arrived c.in-Slice.is (comes-from c.args.self.now c.args.worker c.args.turn.proc.start.pid c.args.turn.proc c.args.turn.calls c.args.turn.halt c.args.turn.side c.args.turn.arrived c.requires.fits c.requires.streams))
    (came-none c.args.turn.proc c.args.turn.calls c.args.turn.halt c.args.turn.side SideIs.Nothing c.args.turn.arrived (came-slice c.args.turn.proc c.args.turn.calls c.args.turn.halt c.args.turn.side c.args.turn.arrived c.in-Slice.is (comes-from c.args.self.now c.args.worker c.args.turn.proc.start.pid c.args.turn.proc c.args.turn.calls c.args.turn.halt c.args.turn.side c.args.turn.arrived c.requires.fits c.requires.streams)) refl (comes-from c.args.self.now c.args.worker c.args.turn.proc.start.pid c.args.turn.proc c.args.turn.calls c.args.turn.halt c.args.turn.side c.args.turn.arrived c.requires.fits c.requires.streams)) (comes-from c.args.self.now c.args.worker c.args.turn.proc.start.pid c.args.turn.proc c.args.turn.calls c.args.turn.halt c.args.turn.side c.args.turn.arrived c.requires.fits c.requires.streams)

pub no_stream-requires-in_default-clause-none : goal.no_stream-requires-in_default-clause-none
no_stream-requires-in_default-clause-none g c κs within = came-none c.args.turn.proc c.args.turn.calls c.args.turn.halt c.args.turn.side SideIs.Nothing c.args.turn.arrived (came-end c.args.turn.proc c.args.turn.calls c.args.turn.halt c.args.turn.side c.args.turn.arrived (which-end c.args.turn.halt c.in_default.not-Slice c.in_default.not-Asks c.in_default.not-Again).0 (which-end c.args.turn.halt c.in_default.not-Slice c.in_default.not-Asks c.in_default.not-Again).1 (comes-from c.args.self.now c.args.worker c.args.turn.proc.start.pid c.args.turn.proc c.args.turn.calls c.args.turn.halt c.args.turn.side c.args.turn.arrived c.requires.fits c.requires.streams)) refl (comes-from c.args.self.now c.args.worker c.args.turn.proc.start.pid c.args.turn.proc c.args.turn.calls c.args.turn.halt c.args.turn.side c.args.turn.arrived c.requires.fits c.requires.streams)

pub give_end-requires-clause-ends : goal.give_end-requires-clause-ends
give_end-requires-clause-ends g c κs within = (which-end c.args.turn.halt c.in_default.not-Slice c.in_default.not-Asks c.in_default.not-Again)

pub give_end-requires-clause-comes : goal.give_end-requires-clause-comes
give_end-requires-clause-comes g c κs within =
    comes-with c.args.turn.proc c.args.turn.calls c.args.turn.halt c.args.turn.halt c.args.turn.side SideIs.Nothing c.args.turn.arrived None refl (came-end c.args.turn.proc c.args.turn.calls c.args.turn.halt c.args.turn.side c.args.turn.arrived (which-end c.args.turn.halt c.in_default.not-Slice c.in_default.not-Asks c.in_default.not-Again).0 (which-end c.args.turn.halt c.in_default.not-Slice c.in_default.not-Asks c.in_default.not-Again).1 (comes-from c.args.self.now c.args.worker c.args.turn.proc.start.pid c.args.turn.proc c.args.turn.calls c.args.turn.halt c.args.turn.side c.args.turn.arrived c.requires.fits c.requires.streams))
    (came-none c.args.turn.proc c.args.turn.calls c.args.turn.halt c.args.turn.side SideIs.Nothing c.args.turn.arrived (came-end c.args.turn.proc c.args.turn.calls c.args.turn.halt c.args.turn.side c.args.turn.arrived (which-end c.args.turn.halt c.in_default.not-Slice c.in_default.not-Asks c.in_default.not-Again).0 (which-end c.args.turn.halt c.in_default.not-Slice c.in_default.not-Asks c.in_default.not-Again).1 (comes-from c.args.self.now c.args.worker c.args.turn.proc.start.pid c.args.turn.proc c.args.turn.calls c.args.turn.halt c.args.turn.side c.args.turn.arrived c.requires.fits c.requires.streams)) refl (comes-from c.args.self.now c.args.worker c.args.turn.proc.start.pid c.args.turn.proc c.args.turn.calls c.args.turn.halt c.args.turn.side c.args.turn.arrived c.requires.fits c.requires.streams)) (comes-from c.args.self.now c.args.worker c.args.turn.proc.start.pid c.args.turn.proc c.args.turn.calls c.args.turn.halt c.args.turn.side c.args.turn.arrived c.requires.fits c.requires.streams)

pub unreachable-requires : goal.unreachable-requires
unreachable-requires g c = c.in_default-side.not-Nothing (came-slice c.args.turn.proc c.args.turn.calls c.args.turn.halt c.args.turn.side c.args.turn.arrived c.in-Slice.is (comes-from c.args.self.now c.args.worker c.args.turn.proc.start.pid c.args.turn.proc c.args.turn.calls c.args.turn.halt c.args.turn.side c.args.turn.arrived c.requires.fits c.requires.streams))

pub unreachable-requires-in_default-side-2 : goal.unreachable-requires-in_default-side-2
unreachable-requires-in_default-side-2 g c = c.in_default-side-2.not-Nothing (came-end c.args.turn.proc c.args.turn.calls c.args.turn.halt c.args.turn.side c.args.turn.arrived (which-end c.args.turn.halt c.in_default.not-Slice c.in_default.not-Asks c.in_default.not-Again).0 (which-end c.args.turn.halt c.in_default.not-Slice c.in_default.not-Asks c.in_default.not-Again).1 (comes-from c.args.self.now c.args.worker c.args.turn.proc.start.pid c.args.turn.proc c.args.turn.calls c.args.turn.halt c.args.turn.side c.args.turn.arrived c.requires.fits c.requires.streams))

pub returns-in-Nothing-clause-given : goal.returns-in-Nothing-clause-given
returns-in-Nothing-clause-given g c =
    given-with _ _ c.args.worker c.args.turn.proc.start.pid c.args.turn.proc c.args.turn.calls c.args.turn.halt HaltIs.Slice c.args.turn.side SideIs.Nothing c.in-Slice.is (came-slice c.args.turn.proc c.args.turn.calls c.args.turn.halt c.args.turn.side c.args.turn.arrived c.in-Slice.is (comes-from c.args.self.now c.args.worker c.args.turn.proc.start.pid c.args.turn.proc c.args.turn.calls c.args.turn.halt c.args.turn.side c.args.turn.arrived c.requires.fits c.requires.streams)) c.give_slice.ensures.given

pub returns-in-Nothing-side : goal.returns-in-Nothing-side
returns-in-Nothing-side g c =
    let e = c.give_end.ensures in
    record {
      same = e.same;
      given = given-with _ _ c.args.worker c.args.turn.proc.start.pid c.args.turn.proc c.args.turn.calls c.args.turn.halt c.args.turn.halt c.args.turn.side SideIs.Nothing refl (came-end c.args.turn.proc c.args.turn.calls c.args.turn.halt c.args.turn.side c.args.turn.arrived (which-end c.args.turn.halt c.in_default.not-Slice c.in_default.not-Asks c.in_default.not-Again).0 (which-end c.args.turn.halt c.in_default.not-Slice c.in_default.not-Asks c.in_default.not-Again).1 (comes-from c.args.self.now c.args.worker c.args.turn.proc.start.pid c.args.turn.proc c.args.turn.calls c.args.turn.halt c.args.turn.side c.args.turn.arrived c.requires.fits c.requires.streams)) e.given;
      spare = e.spare;
      streams = e.streams;
      run = e.run;
    }
