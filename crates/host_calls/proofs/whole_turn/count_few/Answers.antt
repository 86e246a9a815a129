use Rattle.std.proofs.Common.{◌≤◌, length, arith}
use Rattle.host_calls.proofs.Keeping.{hands_few}
use Rattle.host_calls.proofs.whole_turn.count_few.Goals as goal

pub returns : goal.returns
returns g c =
    let few : length c.args.proc.now.table ≤ 256 = let n = c.count.ensures.count in let b = c.count.ensures.bounded in omega (arith, n, b) in
    hands_few c.args.proc.now.table c.args.proc.now.scratch few c.size-size.ensures.bounds
