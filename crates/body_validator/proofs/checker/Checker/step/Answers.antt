use Rattle.std.proofs.Common.{sym, ap, ◌∙◌, refl, Some}
use Rattle.body_validator.proofs.Advancing.{plain_advances, plain_refuses, nothing_sorted}
use Rattle.body_validator.proofs.checker.Checker.step.Goals as goal

pub returns-in-Some-Plain-clause-yes : goal.returns-in-Some-Plain-clause-yes
returns-in-Some-Plain-clause-yes c e =
    plain_advances c.args.function.now c.args.pool.now c.args.self.now (record { alloc = c.args.self.now.alloc; operands = c.plain.new.self; frames = c.args.self.now.frames })
    c.args.instr (sym c.of.ensures ∙ c.in-Some-Plain.is ∙ ap Some c.in-Some-Plain.field-0-is) refl (c.plain.ensures.yes e)

pub returns-in-Some-Plain-clause-no : goal.returns-in-Some-Plain-clause-no
returns-in-Some-Plain-clause-no c e =
    plain_refuses c.args.function.now c.args.pool.now c.args.self.now c.args.self.now c.args.instr (sym c.of.ensures ∙ c.in-Some-Plain.is ∙ ap Some c.in-Some-Plain.field-0-is) (c.plain.ensures.no e)

pub table-requires : goal.table-requires
table-requires c = sym c.of.ensures ∙ c.in-Some-Table.is ∙ ap Some c.in-Some-Table.field-0-is

pub returns-in-Some-Table-clause-yes : goal.returns-in-Some-Table-clause-yes
returns-in-Some-Table-clause-yes c e = c.table.ensures.yes e c.args.function.now

pub returns-in-Some-Table-clause-no : goal.returns-in-Some-Table-clause-no
returns-in-Some-Table-clause-no c e = c.table.ensures.no e c.args.function.now

pub block-requires : goal.block-requires
block-requires c = sym c.of.ensures ∙ c.in-Some-Block.is ∙ ap Some c.in-Some-Block.field-0-is

pub returns-in-Some-Block-clause-yes : goal.returns-in-Some-Block-clause-yes
returns-in-Some-Block-clause-yes c e = c.block.ensures.yes e c.args.function.now c.args.pool.now

pub returns-in-Some-Block-clause-no : goal.returns-in-Some-Block-clause-no
returns-in-Some-Block-clause-no c e = c.block.ensures.no e c.args.function.now c.args.pool.now

pub condition-requires : goal.condition-requires
condition-requires c = sym c.of.ensures ∙ c.in-Some-If.is ∙ ap Some c.in-Some-If.field-0-is

pub returns-in-Some-If-clause-yes : goal.returns-in-Some-If-clause-yes
returns-in-Some-If-clause-yes c e = c.condition.ensures.yes e c.args.function.now c.args.pool.now

pub returns-in-Some-If-clause-no : goal.returns-in-Some-If-clause-no
returns-in-Some-If-clause-no c e = c.condition.ensures.no e c.args.function.now c.args.pool.now

pub returns-in-Some-Else-clause-yes : goal.returns-in-Some-Else-clause-yes
returns-in-Some-Else-clause-yes c e = c.otherwise.ensures.yes e c.args.function.now c.args.pool.now c.args.instr (sym c.of.ensures ∙ c.in-Some-Else.is ∙ ap Some c.in-Some-Else.field-0-is)

pub returns-in-Some-Else-clause-no : goal.returns-in-Some-Else-clause-no
returns-in-Some-Else-clause-no c e = c.otherwise.ensures.no e c.args.function.now c.args.pool.now c.args.instr (sym c.of.ensures ∙ c.in-Some-Else.is ∙ ap Some c.in-Some-Else.field-0-is)

pub returns-in-Some-End-clause-yes : goal.returns-in-Some-End-clause-yes
returns-in-Some-End-clause-yes c e = c.end.ensures.yes e c.args.function.now c.args.pool.now c.args.instr (sym c.of.ensures ∙ c.in-Some-End.is ∙ ap Some c.in-Some-End.field-0-is)

pub returns-in-Some-End-clause-no : goal.returns-in-Some-End-clause-no
returns-in-Some-End-clause-no c e = c.end.ensures.no e c.args.function.now c.args.pool.now c.args.instr (sym c.of.ensures ∙ c.in-Some-End.is ∙ ap Some c.in-Some-End.field-0-is)

pub returns-in-None-clause-no : goal.returns-in-None-clause-no
returns-in-None-clause-no c e = nothing_sorted c.args.function.now c.args.pool.now c.args.self.now c.args.self.now c.args.instr (sym c.of.ensures ∙ c.in-None.is)
