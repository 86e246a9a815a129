use Rattle.std.proofs.Common.{◌≡◌, List, ◌++◌, length, Some}
use Rattle.wasm_form.specs.declared.instr.Instr.{Instr}
use Rattle.wasm_form.specs.Matching.{walk, walked_of}
use Rattle.wasm_form.proofs.matching.match_blocks.Given as goal

abbrev pub invariant-loop-instr : goal.invariant-loop-instr
invariant-loop-instr l = record {
  after : (rest : List Instr) × (l.fn.code ≡ l.left ++ rest) × (walk (length l.fn.labels) (length l.left) rest ≡ Some (walked_of l.walk));
}

abbrev pub decreases-loop-instr : goal.decreases-loop-instr
decreases-loop-instr l = length l.left
