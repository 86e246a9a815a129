use Rattle.std.proofs.Common.{refl}
use Rattle.body_validator.proofs.Advancing.{table_advances, table_refuses, table_never, table_past}
use Rattle.body_validator.proofs.checker.Checker.table.Goals as goal

pub returns-in_default-clause-no : goal.returns-in_default-clause-no
returns-in_default-clause-no c e function = table_never function c.args.pool.now c.args.self.now c.args.self.now c.args.instr c.args.first c.args.count c.requires c.in_default.not-Table

pub returns-in_default-part_of-clause-no : goal.returns-in_default-part_of-clause-no
returns-in_default-part_of-clause-no c e function = table_past function c.args.pool.now c.args.self.now c.args.self.now c.args.instr c.args.first c.args.count c.requires c.in_default-part_of.ensures

pub returns-clause-yes : goal.returns-clause-yes
returns-clause-yes c e function =
    table_advances function c.args.pool.now c.args.self.now (record { alloc = c.args.self.now.alloc; operands = c.table.new.self; frames = c.args.self.now.frames })
    c.args.instr c.args.first c.args.count c.in-Table.last c.in-Table.first c.in-Table.count c.in-Some.labels.now c.requires c.in-Table.is c.in-Some.ensures refl (c.table.ensures.yes (cc))

pub returns-clause-no : goal.returns-clause-no
returns-clause-no c e function =
    table_refuses function c.args.pool.now c.args.self.now c.args.self.now
    c.args.instr c.args.first c.args.count c.in-Table.last c.in-Table.first c.in-Table.count c.in-Some.labels.now c.requires c.in-Table.is c.in-Some.ensures (c.table.ensures.no (cc))
