use Rattle.std.proofs.Common.{◌<◌, length, length-append, arith}
use Rattle.std.proofs.lemmas.Result.{err_from_is_err_and}
use Rattle.body_reader.proofs.Pieces.{gather_whole, gather_more, gather_fails, refused}
use Rattle.body_reader.proofs.part.read_items.Goals as goal

pub returns : goal.returns
returns g c = gather_whole _ _ _ _ _ (omega (arith, c.loop.invariant.counted)) c.loop.invariant.gathers

pub returns-in_err-item : goal.returns-in_err-item
returns-in_err-item g c =
    let p = err_from_is_err_and c.from_residual.result c.from_residual.ensures.1 in
    let few : length c.loop.items < c.args.count = omega (arith, c.loop.invariant.counted) in
    refused _ _ _ _ _ _ p.1 p.2 (λ m. gather_fails _ _ _ _ _ few c.loop.invariant.gathers (c.in_err-item.ensures m))

pub loop-preserved : goal.loop-preserved
loop-preserved g c =
    let is = c.in_ok-push.ensures.ok in
    record {
      gathers = rw is (gather_more _ _ _ _ _ _ c.loop.invariant.gathers c.in_ok-item.ensures);
      counted = rw is (simp length-append (omega (arith, c.loop.invariant.counted)));
    }
