use Rattle.std.proofs.Common.{◌≡◌, List, ◌++◌, length}
use Rattle.wasm_form.specs.declared.value_type.ValType.{ValType}
use Rattle.body_validator.specs.Covering.{IsImage, TakesAll}
use Rattle.body_validator.proofs.operand_types.OperandTypes.pops.Given as goal

abbrev pub invariant-loop-top : goal.invariant-loop-top
invariant-loop-top l = record {
  taken_so_far : (done : List ValType) × (l.fn.taken ≡ l.left ++ done)
      × IsImage (TakesAll done) l.fn.self l.self;
}

abbrev pub decreases-loop-top : goal.decreases-loop-top
decreases-loop-top l = length l.left
