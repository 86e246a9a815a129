use Rattle.code_map.proofs.Stepping.{on_ok, nothing_steps, table_steps}
use Rattle.code_map.proofs.Advancing.{table_numbers, table_labels}
use Rattle.code_map.proofs.pass.Pass.table.Goals as goal

pub returns-in_default : goal.returns-in_default
returns-in_default c =
    on_ok c.mark.result _ _ c.mark.ensures
    (λ marks s matches. nothing_steps s c.args.pool.now matches c.args.instr c.args.self.now c.mark.new.self c.requires.room marks
    (λ left levels is. table_numbers c.args.pool.now matches c.args.instr c.args.first c.args.count left levels c.args.self.now is c.requires.sort c.in_default.not-Table))

pub returns-in_default-part_of : goal.returns-in_default-part_of
returns-in_default-part_of c =
    on_ok c.mark-in_default-part_of.result _ _ c.mark-in_default-part_of.ensures
    (λ marks s matches. nothing_steps s c.args.pool.now matches c.args.instr c.args.self.now c.mark-in_default-part_of.new.self c.requires.room marks
    (λ left levels is. table_labels c.args.pool.now matches c.args.instr c.args.first c.args.count left levels c.args.self.now is c.requires.sort c.in_default-part_of.ensures))

pub returns : goal.returns
returns c =
    on_ok c.mark_table.result _ _ c.mark_table.ensures
    (λ marks s matches. table_steps s c.args.pool.now matches c.args.instr c.args.first c.args.count _ _ _ c.in-Some.labels.now c.args.self.now c.mark_table.new.self c.requires.room c.requires.sort
    c.in-Table.is c.in-Some.ensures marks)
