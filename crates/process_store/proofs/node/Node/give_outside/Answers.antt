use Rattle.std.proofs.Common.{◌≡◌, Bool, true, false, refl, None, Some, sym, ◌∙◌, ap, is_some}
use Rattle.world_rules.specs.declared.entry.Side.TheVariants.{Pending, Answer, Opened}
use Rattle.world_rules.specs.Views.{is_opened}
use Rattle.node_state.specs.Fits.{is_from_outside}
use Rattle.process_store.proofs.AsItComes.{comes_as, came_none, back_as}
use Rattle.process_store.proofs.node.Node.give_outside.Goals as goal

pub no_stream-requires-clause-none : goal.no_stream-requires-clause-none
no_stream-requires-clause-none g c κs within = came_none c.args.proc c.args.calls c.args.halt c.args.side Pending c.args.arrived c.in-Pending.is refl c.requires.comes

pub give_pending-requires-clause-comes : goal.give_pending-requires-clause-comes
give_pending-requires-clause-comes g c κs within =
    comes_as c.args.proc c.args.calls c.args.halt c.args.side Pending c.args.arrived None c.in-Pending.is
    (came_none c.args.proc c.args.calls c.args.halt c.args.side Pending c.args.arrived c.in-Pending.is refl c.requires.comes) c.requires.comes

pub returns-in-Pending : goal.returns-in-Pending
returns-in-Pending g c = back_as c.args.proc c.args.calls c.args.halt c.args.side Pending c.in-Pending.is c.give_pending.ensures

pub no_stream-requires-in-Answer-clause-none : goal.no_stream-requires-in-Answer-clause-none
no_stream-requires-in-Answer-clause-none g c κs within = came_none c.args.proc c.args.calls c.args.halt c.args.side (Answer c.in-Answer.reply) c.args.arrived c.in-Answer.is refl c.requires.comes

pub give_answered-requires-clause-comes : goal.give_answered-requires-clause-comes
give_answered-requires-clause-comes g c κs within =
    comes_as c.args.proc c.args.calls c.args.halt c.args.side (Answer c.in-Answer.reply) c.args.arrived None c.in-Answer.is
    (came_none c.args.proc c.args.calls c.args.halt c.args.side (Answer c.in-Answer.reply) c.args.arrived c.in-Answer.is refl c.requires.comes) c.requires.comes

pub returns-in-Answer : goal.returns-in-Answer
returns-in-Answer g c = back_as c.args.proc c.args.calls c.args.halt c.args.side (Answer c.in-Answer.reply) c.in-Answer.is c.give_answered.ensures

pub give_opened-requires-clause-comes : goal.give_opened-requires-clause-comes
give_opened-requires-clause-comes g c κs within =
    comes_as c.args.proc c.args.calls c.args.halt c.args.side Opened c.args.arrived (Some c.in-Some.stream) c.in-Opened.is c.in-Some.is c.requires.comes

pub returns-in-Some : goal.returns-in-Some
returns-in-Some g c = back_as c.args.proc c.args.calls c.args.halt c.args.side Opened c.in-Opened.is c.give_opened.ensures
