use Rattle.std.proofs.Common.{sym, ap, ◌∙◌, Some}
use Rattle.code_map.proofs.Stepping.{on_ok, nothing_steps}
use Rattle.code_map.proofs.Advancing.{none_seen}
use Rattle.code_map.proofs.pass.Pass.step.Goals as goal

pub returns-in-Some-Plain : goal.returns-in-Some-Plain
returns-in-Some-Plain c = on_ok c.plain.result _ _ c.plain.ensures (λ h. h c.args.pool.now c.args.matches.now)

pub returns-in-Some-Table : goal.returns-in-Some-Table
returns-in-Some-Table c = on_ok c.table.result _ _ c.table.ensures (λ h. h c.args.signatures.now c.args.matches.now)

pub returns-in-Some-Block : goal.returns-in-Some-Block
returns-in-Some-Block c = on_ok c.block.result _ _ c.block.ensures (λ h. h c.args.signatures.now c.args.pool.now)

pub returns-in-Some-If : goal.returns-in-Some-If
returns-in-Some-If c = on_ok c.condition.result _ _ c.condition.ensures (λ h. h c.args.signatures.now c.args.pool.now)

pub returns-in-Some-Else : goal.returns-in-Some-Else
returns-in-Some-Else c =
    on_ok c.otherwise.result _ _ c.otherwise.ensures
    (λ h. h c.args.signatures.now c.args.pool.now c.args.matches.now c.args.instr (sym c.of.ensures ∙ c.in-Some-Else.is ∙ ap Some c.in-Some-Else.field-0-is))

pub returns-in-Some-End : goal.returns-in-Some-End
returns-in-Some-End c =
    on_ok c.end.result _ _ c.end.ensures
    (λ h. h c.args.signatures.now c.args.pool.now c.args.matches.now c.args.instr (sym c.of.ensures ∙ c.in-Some-End.is ∙ ap Some c.in-Some-End.field-0-is))

pub returns-in-None : goal.returns-in-None
returns-in-None c =
    on_ok c.mark.result _ _ c.mark.ensures
    (λ marks. nothing_steps c.args.signatures.now c.args.pool.now c.args.matches.now c.args.instr c.args.self.now c.mark.new.self c.requires.room marks
    (λ left levels is. none_seen c.args.pool.now c.args.instr left levels (sym c.of.ensures ∙ c.in-None.is) is.stands))
