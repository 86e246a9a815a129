use Rattle.std.proofs.Common.{sym, ap, ◌∙◌}
use Rattle.code_map.specs.Steps.{skips_to}
use Rattle.code_map.specs.Mapped.{block_label, skipped}
use Rattle.code_map.specs.Left.{labels_in}
use Rattle.code_map.proofs.Stepping.{on_ok, nothing_steps, if_steps}
use Rattle.code_map.proofs.Advancing.{if_places, if_result}
use Rattle.code_map.proofs.pass.Pass.condition.Goals as goal

pub returns-in_default : goal.returns-in_default
returns-in_default c =
    on_ok c.mark.result _ _ c.mark.ensures
    (λ marks s pool. nothing_steps s pool c.args.matches.now c.args.instr c.args.self.now c.mark.new.self c.requires.room marks
    (λ left levels is. if_places pool c.args.matches.now c.args.instr left levels c.args.self.now is c.requires.sort (sym c.found_at.ensures ∙ c.in_default.is)))

pub returns-in_default-imm : goal.returns-in_default-imm
returns-in_default-imm c =
    on_ok c.mark-in_default-imm.result _ _ c.mark-in_default-imm.ensures
    (λ marks s pool. nothing_steps s pool c.args.matches.now c.args.instr c.args.self.now c.mark-in_default-imm.new.self c.requires.room marks
    (λ left levels is. if_result pool c.args.matches.now c.args.instr left levels c.args.self.now is c.requires.sort c.in_default-imm.not-Block))

pub returns : goal.returns
returns c =
    let e = c.saturating_sub-below.ensures in
    on_ok c.begin.result _ _ c.begin.ensures
    (λ b s pool. if_steps s pool c.args.matches.now c.args.instr c.in-Some.found c.in-Block.gives c.left-label.result c.skipped-skipped.result c.is_some-2.result c.args.self.now c.begin.new.self
    c.requires.room c.requires.sort (sym c.found_at.ensures ∙ c.in-Some.is) c.in-Block.is c.is_some-2.ensures (c.left-label.ensures.height ∙ e)
    (λ f. c.left-label.ensures.label f c.in-Block.gives c.is_some.ensures
    ∙ ap (λ k. block_label (labels_in c.args.self.now.opens) c.in-Some.found.end k c.in-Block.gives) e)
    (λ f. c.skipped-skipped.ensures f ∙ ap (λ k. skipped (labels_in c.args.self.now.opens) (skips_to c.in-Some.found) k) e) b)
