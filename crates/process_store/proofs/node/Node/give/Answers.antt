use Rattle.std.proofs.Common.{IsTrue, refl, None}
use Rattle.world_rules.specs.declared.halt.Halt.TheVariants as HaltIs
use Rattle.world_rules.specs.declared.entry.Side.TheVariants as SideIs
use Rattle.host_calls.specs.Shown.{brought_in}
use Rattle.process_store.proofs.AsItComes.{came_none}
use Rattle.process_store.proofs.GivesTold.{came_end, came_slice, comes_from, comes_with, fated_is, given_with, unfated_is, which_end}
use Rattle.process_store.proofs.node.Node.give.Goals as goal

pub give_doomed-requires-clause-doomed : goal.give_doomed-requires-clause-doomed
give_doomed-requires-clause-doomed g c κs within =
    let fits = rw (← c.self.view_is) at c.requires.fits in
    let i = c.self.inside in
    let there = fated_is i.journal i.store i.spare c.args.turn.proc.start.pid c.args.worker (brought_in c.args.turn) c.self.invariant fits (c.is_fated.ensures.0 c.if-is_fated.true) in
    rw (← c.self.view_is) there

pub give_doomed-requires-clause-comes : goal.give_doomed-requires-clause-comes
give_doomed-requires-clause-comes g c κs within =
    record { fits = c.requires.fits; came = c.requires.streams }

pub give_slice-requires-clause-out : goal.give_slice-requires-clause-out
give_slice-requires-clause-out g c κs within =
    let fits = rw (← c.self.view_is) at c.requires.fits in
    let i = c.self.inside in
    let there = unfated_is i.journal i.store i.spare c.args.turn.proc.start.pid c.args.worker (brought_in c.args.turn) c.self.invariant fits
    (λ fated. let h : IsTrue c.is_fated.result = c.is_fated.ensures.1 fated in let k = c.if-is_fated.false in cc) in
    rw (← c.self.view_is) there

pub give_request-requires-clause-out : goal.give_request-requires-clause-out
give_request-requires-clause-out g c κs within =
    let fits = rw (← c.self.view_is) at c.requires.fits in
    let i = c.self.inside in
    let there = unfated_is i.journal i.store i.spare c.args.turn.proc.start.pid c.args.worker (brought_in c.args.turn) c.self.invariant fits
    (λ fated. let h : IsTrue c.is_fated.result = c.is_fated.ensures.1 fated in let k = c.if-is_fated.false in cc) in
    rw (← c.self.view_is) there

pub give_outside-requires-clause-out : goal.give_outside-requires-clause-out
give_outside-requires-clause-out g c κs within =
    let fits = rw (← c.self.view_is) at c.requires.fits in
    let i = c.self.inside in
    let there = unfated_is i.journal i.store i.spare c.args.turn.proc.start.pid c.args.worker (brought_in c.args.turn) c.self.invariant fits
    (λ fated. let h : IsTrue c.is_fated.result = c.is_fated.ensures.1 fated in let k = c.if-is_fated.false in cc) in
    rw (← c.self.view_is) there

pub give_end-requires-clause-out : goal.give_end-requires-clause-out
give_end-requires-clause-out g c κs within =
    let fits = rw (← c.self.view_is) at c.requires.fits in
    let i = c.self.inside in
    let there = unfated_is i.journal i.store i.spare c.args.turn.proc.start.pid c.args.worker (brought_in c.args.turn) c.self.invariant fits
    (λ fated. let h : IsTrue c.is_fated.result = c.is_fated.ensures.1 fated in let k = c.if-is_fated.false in cc) in
    rw (← c.self.view_is) there

pub give_request-requires-clause-rows : goal.give_request-requires-clause-rows
give_request-requires-clause-rows g c κs within =
    rw (← c.self.view_is) c.self.invariant.rows

pub give_request-requires-clause-comes : goal.give_request-requires-clause-comes
give_request-requires-clause-comes g c κs within =
    let came = comes_from c.args.self.now c.args.worker c.args.turn.proc.start.pid c.args.turn.proc c.args.turn.calls c.args.turn.halt c.args.turn.side c.args.turn.arrived c.requires.fits
    c.requires.streams in
    comes_with c.args.turn.proc c.args.turn.calls c.args.turn.halt (HaltIs.Asks c.in-Asks.request) c.args.turn.side c.args.turn.side c.args.turn.arrived c.args.turn.arrived c.in-Asks.is refl refl came

pub give_outside-requires-clause-outside : goal.give_outside-requires-clause-outside
give_outside-requires-clause-outside g c κs within =
    c.requires.fits.retried c.in-Again.is

pub give_outside-requires-clause-comes : goal.give_outside-requires-clause-comes
give_outside-requires-clause-comes g c κs within =
    let came = comes_from c.args.self.now c.args.worker c.args.turn.proc.start.pid c.args.turn.proc c.args.turn.calls c.args.turn.halt c.args.turn.side c.args.turn.arrived c.requires.fits
    c.requires.streams in
    comes_with c.args.turn.proc c.args.turn.calls c.args.turn.halt HaltIs.Again c.args.turn.side c.args.turn.side c.args.turn.arrived c.args.turn.arrived c.in-Again.is refl refl came

pub no_stream-requires-clause-none : goal.no_stream-requires-clause-none
no_stream-requires-clause-none g c κs within =
    let came = comes_from c.args.self.now c.args.worker c.args.turn.proc.start.pid c.args.turn.proc c.args.turn.calls c.args.turn.halt c.args.turn.side c.args.turn.arrived c.requires.fits
    c.requires.streams in
    let none = came_slice c.args.turn.proc c.args.turn.calls c.args.turn.halt c.args.turn.side c.args.turn.arrived c.in-Slice.is came in
    came_none c.args.turn.proc c.args.turn.calls c.args.turn.halt c.args.turn.side SideIs.Nothing c.args.turn.arrived none refl came

pub give_slice-requires-clause-comes : goal.give_slice-requires-clause-comes
give_slice-requires-clause-comes g c κs within =
    let came = comes_from c.args.self.now c.args.worker c.args.turn.proc.start.pid c.args.turn.proc c.args.turn.calls c.args.turn.halt c.args.turn.side c.args.turn.arrived c.requires.fits
    c.requires.streams in
    let none = came_slice c.args.turn.proc c.args.turn.calls c.args.turn.halt c.args.turn.side c.args.turn.arrived c.in-Slice.is came in
    comes_with c.args.turn.proc c.args.turn.calls c.args.turn.halt HaltIs.Slice c.args.turn.side SideIs.Nothing c.args.turn.arrived None c.in-Slice.is none
    (came_none c.args.turn.proc c.args.turn.calls c.args.turn.halt c.args.turn.side SideIs.Nothing c.args.turn.arrived none refl came) came

pub no_stream-requires-in_default-clause-none : goal.no_stream-requires-in_default-clause-none
no_stream-requires-in_default-clause-none g c κs within =
    let came = comes_from c.args.self.now c.args.worker c.args.turn.proc.start.pid c.args.turn.proc c.args.turn.calls c.args.turn.halt c.args.turn.side c.args.turn.arrived c.requires.fits
    c.requires.streams in
    let ending = which_end c.args.turn.halt c.in_default.not-Slice c.in_default.not-Asks c.in_default.not-Again in
    let none = came_end c.args.turn.proc c.args.turn.calls c.args.turn.halt c.args.turn.side c.args.turn.arrived ending.0 ending.1 came in
    came_none c.args.turn.proc c.args.turn.calls c.args.turn.halt c.args.turn.side SideIs.Nothing c.args.turn.arrived none refl came

pub give_end-requires-clause-ends : goal.give_end-requires-clause-ends
give_end-requires-clause-ends g c κs within =
    let ending = which_end c.args.turn.halt c.in_default.not-Slice c.in_default.not-Asks c.in_default.not-Again in
    ending

pub give_end-requires-clause-comes : goal.give_end-requires-clause-comes
give_end-requires-clause-comes g c κs within =
    let came = comes_from c.args.self.now c.args.worker c.args.turn.proc.start.pid c.args.turn.proc c.args.turn.calls c.args.turn.halt c.args.turn.side c.args.turn.arrived c.requires.fits
    c.requires.streams in
    let ending = which_end c.args.turn.halt c.in_default.not-Slice c.in_default.not-Asks c.in_default.not-Again in
    let none = came_end c.args.turn.proc c.args.turn.calls c.args.turn.halt c.args.turn.side c.args.turn.arrived ending.0 ending.1 came in
    comes_with c.args.turn.proc c.args.turn.calls c.args.turn.halt c.args.turn.halt c.args.turn.side SideIs.Nothing c.args.turn.arrived None refl none
    (came_none c.args.turn.proc c.args.turn.calls c.args.turn.halt c.args.turn.side SideIs.Nothing c.args.turn.arrived none refl came) came

pub unreachable-requires : goal.unreachable-requires
unreachable-requires g c =
    let came = comes_from c.args.self.now c.args.worker c.args.turn.proc.start.pid c.args.turn.proc c.args.turn.calls c.args.turn.halt c.args.turn.side c.args.turn.arrived c.requires.fits
    c.requires.streams in
    let none = came_slice c.args.turn.proc c.args.turn.calls c.args.turn.halt c.args.turn.side c.args.turn.arrived c.in-Slice.is came in
    c.in_default-side.not-Nothing none

pub unreachable-requires-in_default-side-2 : goal.unreachable-requires-in_default-side-2
unreachable-requires-in_default-side-2 g c =
    let came = comes_from c.args.self.now c.args.worker c.args.turn.proc.start.pid c.args.turn.proc c.args.turn.calls c.args.turn.halt c.args.turn.side c.args.turn.arrived c.requires.fits
    c.requires.streams in
    let ending = which_end c.args.turn.halt c.in_default.not-Slice c.in_default.not-Asks c.in_default.not-Again in
    let none = came_end c.args.turn.proc c.args.turn.calls c.args.turn.halt c.args.turn.side c.args.turn.arrived ending.0 ending.1 came in
    c.in_default-side-2.not-Nothing none

pub returns-in-Nothing-clause-given : goal.returns-in-Nothing-clause-given
returns-in-Nothing-clause-given g c =
    let came = comes_from c.args.self.now c.args.worker c.args.turn.proc.start.pid c.args.turn.proc c.args.turn.calls c.args.turn.halt c.args.turn.side c.args.turn.arrived c.requires.fits
    c.requires.streams in
    let none = came_slice c.args.turn.proc c.args.turn.calls c.args.turn.halt c.args.turn.side c.args.turn.arrived c.in-Slice.is came in
    given_with _ _ c.args.worker c.args.turn.proc.start.pid c.args.turn.proc c.args.turn.calls c.args.turn.halt HaltIs.Slice c.args.turn.side SideIs.Nothing c.in-Slice.is none
    c.give_slice.ensures.given

pub returns-in-Nothing-side : goal.returns-in-Nothing-side
returns-in-Nothing-side g c =
    let came = comes_from c.args.self.now c.args.worker c.args.turn.proc.start.pid c.args.turn.proc c.args.turn.calls c.args.turn.halt c.args.turn.side c.args.turn.arrived c.requires.fits
    c.requires.streams in
    let ending = which_end c.args.turn.halt c.in_default.not-Slice c.in_default.not-Asks c.in_default.not-Again in
    let none = came_end c.args.turn.proc c.args.turn.calls c.args.turn.halt c.args.turn.side c.args.turn.arrived ending.0 ending.1 came in
    let e = c.give_end.ensures in
    record {
      same = e.same;
      given = given_with _ _ c.args.worker c.args.turn.proc.start.pid c.args.turn.proc c.args.turn.calls c.args.turn.halt c.args.turn.halt c.args.turn.side SideIs.Nothing refl none
          e.given;
      spare = e.spare;
      streams = e.streams;
      run = e.run;
    }

pub give_request-requires-clause-run : goal.give_request-requires-clause-run
give_request-requires-clause-run g c κs within = rw (← c.self.view_is) c.self.invariant.stands.run
