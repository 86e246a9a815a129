use Rattle.std.proofs.lemmas.Result.{err_from_is_err_and}
use Rattle.body_reader.proofs.Pieces.{refused_with}
use Rattle.body_reader.proofs.Collected.{begin, more, fails, item_passes, depth_is}
use Rattle.body_reader.proofs.expr.code_at.Goals as goal

pub loop-depth-init : goal.loop-depth-init
loop-depth-init c = rw (c.new-code.ensures, c.new-labels.ensures) (begin _)

pub returns-in_err-instr : goal.returns-in_err-instr
returns-in_err-instr c =
    let p = err_from_is_err_and c.from_residual.result c.from_residual.ensures.1 in
    refused_with _ _ _ _ _ p.1 p.2 (λ m. fails _ _ _ _ _ c.loop-depth.invariant c.loop-depth-test.true (c.in_err-instr.ensures m))

pub loop-depth-smaller : goal.loop-depth-smaller
loop-depth-smaller c = item_passes _ _ c.in_ok-instr.ensures.0 c.in_ok-instr.ensures.1

pub loop-depth-preserved : goal.loop-depth-preserved
loop-depth-preserved c =
    let h = c.in_ok-instr.ensures in
    let d = c.depth_after-depth.ensures in
    rw c.in_ok-push.ensures.ok
    (more _ _ _ _ _ _ _ _ _ h.0 c.loop-depth.invariant c.loop-depth-test.true h.1 h.2 h.3 (depth_is h.1.spelling h.0 _ _ _ c.in_ok-instr.instr h.1.spells h.2 d.opens d.ends d.stays))
