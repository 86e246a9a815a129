use Rattle.std.proofs.Common.{◌≡◌, [], All}
use Rattle.process_store.specs.Keeps.{IsVacant}
use Rattle.process_store.proofs.store.Store.close.Given as goal

abbrev pub invariant-loop-place : goal.invariant-loop-place
invariant-loop-place g l = All IsVacant l.left.items

abbrev pub decreases-loop-place : goal.decreases-loop-place
decreases-loop-place g l = goal.left-loop-place g l

abbrev pub invariant-loop-empty : goal.invariant-loop-empty
invariant-loop-empty g l = All (λ box. box.items ≡ []) l.boxes.items

abbrev pub decreases-loop-empty : goal.decreases-loop-empty
decreases-loop-empty g l = goal.left-loop-empty g l
