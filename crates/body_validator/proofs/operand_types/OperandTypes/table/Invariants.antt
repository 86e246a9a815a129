use Rattle.std.proofs.Common.{◌≡◌, ℕ, ◌<◌, get_or, Some, map}
use Rattle.std.specs.Prelude.{slice_get}
use Rattle.body_validator.specs.Frames.{carried_by}
use Rattle.body_validator.proofs.operand_types.OperandTypes.table.Given as goal

abbrev pub invariant-loop-label : goal.invariant-loop-label
invariant-loop-label l = record {
  same_so_far : (k : ℕ) → k < l.label-index → slice_get (map carried_by l.fn.frames) (get_or l.labels k 0) ≡ Some l.carried;
}
