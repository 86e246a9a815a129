use Rattle.std.proofs.Common.{◌≡◌, ◌+◌, length}
use Rattle.wasm_form.specs.declared.parts.Parts.{Parts}
use Rattle.wasm_form.specs.Trees.{Code, IsFlat}
use Rattle.wasm_form.specs.Matching.{HasPlain}
use Rattle.code_map.specs.Counts.{AreSignatures}
use Rattle.code_map.specs.Steps.{IsSmall}
use Rattle.code_map.proofs.Bodies.{Whole}
use Rattle.code_map.proofs.body.map_body.Given as goal

abbrev pub invariant-loop-instr : goal.invariant-loop-instr
invariant-loop-instr l = record {
  place : length l.pass.map.slots + length l.left ≡ length l.fn.expr.code;
  small : IsSmall l.pass;
  whole : (m : Parts) (tree : Code) → AreSignatures m l.fn.signatures → HasPlain tree → IsFlat l.fn.expr tree → Whole m l.fn.locals l.fn.gives l.fn.expr tree l.left l.pass;
}

abbrev pub decreases-loop-instr : goal.decreases-loop-instr
decreases-loop-instr l = length l.left
