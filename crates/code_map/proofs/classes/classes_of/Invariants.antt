use Rattle.std.proofs.Common.{◌≡◌, ℕ, length, Some}
use Rattle.std.specs.Prelude.{slice_get}
use Rattle.code_map.specs.Callees.{IsClass}
use Rattle.code_map.specs.Keys.{AreFirsts}
use Rattle.code_map.proofs.classes.classes_of.Given as goal

abbrev pub invariant-loop-index : goal.invariant-loop-index
invariant-loop-index l = record {
  count : length l.classes ≡ l.index;
  each : (index class : ℕ) → slice_get l.classes index ≡ Some class → IsClass l.fn.types index class;
  firsts : AreFirsts l.fn.types l.index l.firsts;
}
