use Rattle.std.proofs.Common.{sym, ◌∙◌}
use Rattle.code_map.proofs.Stepping.{on_ok, else_steps, else_nowhere}
use Rattle.code_map.proofs.pass.Pass.otherwise.Goals as goal

pub returns-in_default : goal.returns-in_default
returns-in_default c =
    on_ok c.mark.result _ _ c.mark.ensures
    (λ marks s pool matches i q. else_nowhere s pool matches i c.args.self.now c.mark.new.self c.requires.room q marks (sym c.in_default.is ∙ c.label.ensures))

pub returns : goal.returns
returns c s pool matches i q =
    else_steps s pool matches i c.in-Some.label c.args.self.now c.mark-2.new.self c.requires.room q c.in_ok-mark.ensures (sym c.in-Some.is ∙ c.label.ensures)
