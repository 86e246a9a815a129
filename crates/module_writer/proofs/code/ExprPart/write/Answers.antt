use Rattle.module_writer.proofs.TreeLines.{expr_lines, lines_expr}
use Rattle.module_writer.proofs.code.ExprPart.write.Goals as goal

pub write_code-requires : goal.write_code-requires
write_code-requires c = rw (c.as_slice.ensures, c.as_slice-2.ensures) (expr_lines _ c.requires)

pub returns : goal.returns
returns c = lines_expr _ _ _ c.requires (rw (c.as_slice.ensures, c.as_slice-2.ensures) at c.in_ok-write_code.ensures)
