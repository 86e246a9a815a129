use Rattle.world_rules.specs.declared.entry.Side.TheVariants as SideIs
use Rattle.world_rules.specs.declared.halt.Halt.TheVariants.{Asks}
use Rattle.world_rules.specs.Told.{told}
use Rattle.node_state.specs.Seats.{meaning}
use Rattle.node_mirror.proofs.MayGive.{refusing}
use Rattle.resource_table.specs.Handles.{numbers_of}
use Rattle.host_calls.specs.Shown.{brought_by, seat_of}
use Rattle.process_store.specs.Seen.{setting_of}
use Rattle.process_store.proofs.ServedCalls.{asked_beside_by, world_performed}
use Rattle.process_store.proofs.Streamings.{fits_crowded}
use Rattle.process_store.proofs.node.Node.give_request.Goals as goal

pub give_call-requires-clause-call : goal.give_call-requires-clause-call
give_call-requires-clause-call g c κs within =
    let laws = g.met.E.Engine g.world.𝓛 g.world.𝓜 g.world.𝓡 ((λ s x. x), (λ x. x), (λ x. x), (λ x. x)) in
    let book = c.args.self.now.book in
    let fits = fits_crowded (meaning g.E.Engine.stands g.E.Engine.phase g.E.Engine.memory) (setting_of g.E.Engine.begin g.E.Engine.at c.args.self.now) book c.args.worker c.args.proc.start.pid
    (brought_by c.args.proc c.args.calls (Asks c.args.request) c.args.side) c.requires.run c.requires.comes.fits in
    let asked = asked_beside_by (λ engine program start calls fuel ask stands owes. laws.asks_what_it_may program start calls fuel ask
    (laws.owes_its_ask engine program start calls fuel ask stands owes)) c.requires.rows (refusing book.births) (told book) c.args.worker c.args.proc.start.pid
    (seat_of c.args.proc) c.args.calls c.args.request c.args.side (numbers_of c.args.proc.shed) fits in
    world_performed c.args.request c.args.side asked c.in-Nothing.is
