use Rattle.body_validator.proofs.Rows.{no_row}
use Rattle.body_validator.proofs.operand_types.OperandTypes.plain.Goals as goal

pub with_row-requires : goal.with_row-requires
with_row-requires c = record { row = c.in-Some.ensures.row; load = c.in-Some.ensures.load; store = c.in-Some.ensures.store }

pub control-requires : goal.control-requires
control-requires c = no_row c.args.instr.code (λ t. absurd (cc (c.in-None.ensures.there.1 t)))

pub returns-in-Some-clause-yes : goal.returns-in-Some-clause-yes
returns-in-Some-clause-yes c e context is labels = c.with_row.ensures.yes e context is labels

pub returns-in-Some-clause-no : goal.returns-in-Some-clause-no
returns-in-Some-clause-no c e context is labels = c.with_row.ensures.no e context is labels

pub returns-in-None-clause-yes : goal.returns-in-None-clause-yes
returns-in-None-clause-yes c e context is labels = c.control.ensures.yes e context is labels

pub returns-in-None-clause-no : goal.returns-in-None-clause-no
returns-in-None-clause-no c e context is labels = c.control.ensures.no e context is labels
