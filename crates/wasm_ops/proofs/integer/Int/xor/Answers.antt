use Rattle.std.proofs.lemmas.Nat.{xor_lt}
use Rattle.wasm_ops.proofs.integer.Int.xor.Goals as goal

pub invariant_of-result : goal.invariant_of-result
invariant_of-result g c = record { in_range = xor_lt g.row.W _ _ c.args.self.in_range c.args.other.in_range }
