use Rattle.std.proofs.Common.{◌≡◌, List, ◌++◌, length}
use Rattle.wasm_form.specs.declared.value_type.ValType.{ValType}
use Rattle.body_validator.specs.Covering.{IsImage, GivesAll}
use Rattle.body_validator.proofs.operand_types.OperandTypes.pushes.Given as goal

abbrev pub invariant-loop-first : goal.invariant-loop-first
invariant-loop-first l = record {
  given_so_far : (done : List ValType) × (l.fn.given ≡ done ++ l.left)
      × IsImage (GivesAll done) l.fn.self l.self;
}

abbrev pub decreases-loop-first : goal.decreases-loop-first
decreases-loop-first l = length l.left
