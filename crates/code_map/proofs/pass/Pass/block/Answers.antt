use Rattle.std.proofs.Common.{sym, ap, ◌∙◌, inl, inr}
use Rattle.code_map.specs.declared.target.Target.{Target}
use Rattle.code_map.proofs.Stepping.{on_ok, nothing_steps, block_steps}
use Rattle.code_map.proofs.Advancing.{block_places, block_result}
use Rattle.code_map.proofs.pass.Pass.block.Goals as goal
use Rattle.code_map.proofs.pass.Pass.block.Goals.{then-instr-eq3, else-instr-eq3}

pub returns-in_default : goal.returns-in_default
returns-in_default c =
    on_ok c.mark.result _ _ c.mark.ensures
    (λ marks s pool. nothing_steps s pool c.args.matches.now c.args.instr c.args.self.now c.mark.new.self c.requires.room marks
    (λ left levels is. block_places pool c.args.matches.now c.args.instr left levels c.args.self.now is c.requires.sort (sym c.found_at.ensures ∙ c.in_default.is)))

pub returns-in_default-imm : goal.returns-in_default-imm
returns-in_default-imm c =
    on_ok c.mark-in_default-imm.result _ _ c.mark-in_default-imm.ensures
    (λ marks s pool. nothing_steps s pool c.args.matches.now c.args.instr c.args.self.now c.mark-in_default-imm.new.self c.requires.room marks
    (λ left levels is. block_result pool c.args.matches.now c.args.instr left levels c.args.self.now is c.requires.sort c.in_default-imm.not-Block))

pub returns : goal.returns
returns c =
    on_ok c.begin.result _ _ c.begin.ensures
    (λ b s pool. block_steps s pool c.args.matches.now c.args.instr c.in-Some.found c.in-Block.gives c.if-instr-eq3.label c.is_some-2.result c.args.self.now c.begin.new.self
    c.requires.room c.requires.sort
    (sym c.found_at.ensures ∙ c.in-Some.is) c.in-Block.is c.is_some-2.ensures
    (elim c.if-instr-eq3.branch [
      | then-instr-eq3 w ↦ inl (w.if-instr-eq3.true, w.label-is ∙ w.repeated-label.ensures)
      | else-instr-eq3 w ↦ inr (
        w.if-instr-eq3.false,
        ap (λ (t : Target). t.height) w.label-is ∙ w.left-label.ensures.height,
        λ f. w.label-is ∙ w.left-label.ensures.label f c.in-Block.gives w.is_some.ensures,
      )
    ])
    b)
