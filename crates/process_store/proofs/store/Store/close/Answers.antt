use Rattle.std.proofs.Common.{◌≡◌, [], Some}
use Rattle.std.proofs.lemmas.List.Elements.{All-pop}
use Rattle.process_store.specs.Keeps.{IsVacant}
use Rattle.process_store.proofs.store.Store.close.Goals as goal

pub loop-place-init : goal.loop-place-init
loop-place-init g c = c.requires.vacant

pub let_go-requires-after_bounds : goal.let_go-requires-after_bounds
let_go-requires-after_bounds g c κs within =
    (All-pop IsVacant c.loop-place.left.items c.pop.new.self.items (Some c.in-Some.place) c.in-Some.ensures.items c.loop-place.invariant).1

pub loop-place-preserved : goal.loop-place-preserved
loop-place-preserved g c = (All-pop IsVacant c.loop-place.left.items c.pop.new.self.items (Some c.in-Some.place) c.in-Some.ensures.items c.loop-place.invariant).0

pub loop-empty-init : goal.loop-empty-init
loop-empty-init g c = c.requires.empty

pub destroy_empty-requires-in-Some-pop : goal.destroy_empty-requires-in-Some-pop
destroy_empty-requires-in-Some-pop g c =
    (All-pop (λ box. box.items ≡ []) c.loop-empty.boxes.items c.pop-in-loop-empty.new.self.items (Some c.in-Some-pop.empty) c.in-Some-pop.ensures.items c.loop-empty.invariant).1

pub loop-empty-preserved : goal.loop-empty-preserved
loop-empty-preserved g c =
    (All-pop (λ box. box.items ≡ []) c.loop-empty.boxes.items c.pop-in-loop-empty.new.self.items (Some c.in-Some-pop.empty) c.in-Some-pop.ensures.items c.loop-empty.invariant).0
