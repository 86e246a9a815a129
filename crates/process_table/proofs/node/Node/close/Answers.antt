use Rattle.std.proofs.Common.{Some}
use Rattle.std.proofs.lemmas.List.Elements.{All-pop}
use Rattle.node_laws.proofs.Programs.{keeps-sound}
use Rattle.process_table.specs.Holds.{IsVacant}
use Rattle.process_table.proofs.Owning.{keeps-streams}
use Rattle.process_table.proofs.Placing.{over-vacant, over-emptied, IsEmptyBox}
use Rattle.process_table.proofs.node.Node.close.Goals as goal

pub loop-place-init : goal.loop-place-init
loop-place-init g c = over-vacant c.self.inside.journal _ c.self.invariant (rw (← c.self.view_is) at c.requires.over)

pub let_go-requires-after_bounds : goal.let_go-requires-after_bounds
let_go-requires-after_bounds g c κs within =
    (All-pop IsVacant c.loop-place.left.items c.pop.new.self.items (Some c.in-Some.place) c.in-Some.ensures.items c.loop-place.invariant).1

pub loop-place-preserved : goal.loop-place-preserved
loop-place-preserved g c = (All-pop IsVacant c.loop-place.left.items c.pop.new.self.items (Some c.in-Some.place) c.in-Some.ensures.items c.loop-place.invariant).0

pub loop-empty-init : goal.loop-empty-init
loop-empty-init g c =
    over-emptied (keeps-sound c.sound.ensures.first c.sound.ensures.kept c.touches.ensures.stays c.touches.ensures.counts) c.touches.ensures.touched c.sound.ensures.all_told
    c.self.inside.journal _ c.self.invariant (rw (← c.self.view_is) at c.requires.over)

pub destroy_empty-requires-in-Some-pop : goal.destroy_empty-requires-in-Some-pop
destroy_empty-requires-in-Some-pop g c =
    (All-pop IsEmptyBox c.loop-empty.boxes.items c.pop-in-loop-empty.new.self.items (Some c.in-Some-pop.empty) c.in-Some-pop.ensures.items c.loop-empty.invariant).1

pub loop-empty-preserved : goal.loop-empty-preserved
loop-empty-preserved g c =
    (All-pop IsEmptyBox c.loop-empty.boxes.items c.pop-in-loop-empty.new.self.items (Some c.in-Some-pop.empty) c.in-Some-pop.ensures.items c.loop-empty.invariant).0

pub returns-clause-streams : goal.returns-clause-streams
returns-clause-streams g c = rw (← c.self.view_is) (keeps-streams _ c.self.inside.journal _ _ _ _ c.self.invariant)

pub returns-clause-run : goal.returns-clause-run
returns-clause-run g c = rw (← c.self.view_is) c.self.invariant.stands.run
