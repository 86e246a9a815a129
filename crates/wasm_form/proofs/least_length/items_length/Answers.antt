use Rattle.std.proofs.Common.{◌≤◌, ◌^◌, sum_by, ap, arith}
use Rattle.std.proofs.lemmas.List.Sums.{sum_by_more_le}
use Rattle.wasm_form.proofs.least_length.items_length.Goals as goal

pub returns-in_err-total : goal.returns-in_err-total
returns-in_err-total g c =
    let more = sum_by_more_le g.T.LeastLength.least c.args.items.now c.loop-item.item-index c.item-item.result (omega arith) in
    let item = ap g.T.LeastLength.least c.item-item.is in
    let long : 2 ^ 32 ≤ sum_by g.T.LeastLength.least c.args.items.now = omega (arith, more, item, c.in_err-total.ensures, c.in_ok-length.ensures, c.loop-item.invariant.sum) in
    rw c.from_residual-in_err-total.ensures long
