use Rattle.std.proofs.Common.{◌≡◌, ℕ, map, Some}
use lib.Seq.{paste}
use Rattle.instance_store.proofs.table.write_functions.Given as goal

abbrev pub invariant-loop-place : goal.invariant-loop-place
invariant-loop-place l = l.table ≡ paste l.initial.table l.at (map (λ (function : ℕ). Some function) l.functions) l.place
