use Rattle.std.proofs.Common.{◌^◌, ◌≤◌, ◌-◌, inl, arith}
use Rattle.std.proofs.Math.Pow.{pow_mono}
use Rattle.std.proofs.lemmas.Int.{ints}
use Rattle.leb_read.proofs.number.last_signed.Goals as goal

pub returns-then-last-half : goal.returns-then-last-half
returns-then-last-half c =
    let small : 2 ^ (c.args.bits - 1) ≤ 2 ^ 6 = pow_mono {i = c.args.bits - 1} {j = 6} (omega arith) in
    let h = c.if-last-half.true in
    inl (omega arith, omega arith, omega (arith, ints))
