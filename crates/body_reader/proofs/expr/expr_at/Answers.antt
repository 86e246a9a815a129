use Rattle.std.proofs.Common.{Err, ap, arith, ◌∙◌}
use Rattle.body_reader.proofs.Collected.{whole, no_tree, not_long, flat_same}
use Rattle.body_reader.proofs.expr.expr_at.Goals as goal

pub match_blocks-requires : goal.match_blocks-requires
match_blocks-requires c = rw c.as_slice.ensures (omega (arith, not_long _ _ _ _ _ c.in_ok-code.ensures, c.requires))

pub returns-in-Ok : goal.returns-in-Ok
returns-in-Ok c =
    let t = c.in-Ok.ensures.ok in
    whole _ _ _ _ _ t.0 c.one_expression.ensures c.in_ok-code.ensures t.1 (flat_same _ _ _ _ _ t.0 c.as_slice.ensures c.as_slice-2.ensures t.2)

pub returns-in-Err-Unmatched : goal.returns-in-Err-Unmatched
returns-in-Err-Unmatched c m =
    no_tree _ _ _ _ c.in_ok-code.ensures (λ tree p code labels. c.in-Err-Unmatched.ensures.unmatched (ap Err c.in-Err-Unmatched.field-0-is) tree p (c.as_slice.ensures ∙ code) (c.as_slice-2.ensures ∙ labels))
