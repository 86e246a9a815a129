use Rattle.std.proofs.Common.{◌≡◌, ℕ, length, Some}
use Rattle.std.specs.Prelude.{slice_get}
use Rattle.code_map.specs.declared.callee.Callee.{Callee}
use Rattle.code_map.specs.Callees.{IsCalleeOf}
use Rattle.code_map.proofs.callees.Calling.callees.Given as goal

abbrev pub invariant-loop-function : goal.invariant-loop-function
invariant-loop-function l = record {
  count : length l.callees ≡ l.function;
  each : (function : ℕ) (callee : Callee) → slice_get l.callees function ≡ Some callee → (index : ℕ) → slice_get l.fn.self.functions.now function ≡ Some index
      → IsCalleeOf l.fn.self.parts.now l.fn.self.calls.now function index callee;
}
