use Rattle.std.proofs.lemmas.Nat.{or_lt}
use Rattle.wasm_ops.proofs.integer.Int.or.Goals as goal

pub invariant_of-result : goal.invariant_of-result
invariant_of-result g c = record { in_range = or_lt g.row.W _ _ c.args.self.in_range c.args.other.in_range }
