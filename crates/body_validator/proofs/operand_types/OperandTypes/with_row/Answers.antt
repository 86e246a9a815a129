use Rattle.std.proofs.Common.{sym, ap, ◌∙◌}
use Rattle.body_validator.specs.Rules.{rule_of}
use Rattle.body_validator.proofs.Rules.{none_stuck, float_is, plain_is, load_is, store_is}
use Rattle.body_validator.proofs.Types.{untyped_none, own_row}
use Rattle.body_validator.proofs.operand_types.OperandTypes.with_row.Goals as goal

pub control-requires : goal.control-requires
control-requires c = sym c.requires.row.kind ∙ c.in-Control.is

pub returns-in-Control-clause-yes : goal.returns-in-Control-clause-yes
returns-in-Control-clause-yes c e context is labels = c.control.ensures.yes e context is labels

pub returns-in-Control-clause-no : goal.returns-in-Control-clause-no
returns-in-Control-clause-no c e context is labels = c.control.ensures.no e context is labels

pub numeric-requires-clause-row : goal.numeric-requires-clause-row
numeric-requires-clause-row c = own_row c.args.instr.code c.args.row.now c.requires.row

pub numeric-requires-clause-operation : goal.numeric-requires-clause-operation
numeric-requires-clause-operation c = ap rule_of c.requires.row.code ∙ plain_is c.args.instr.code (sym c.requires.row.kind ∙ c.in-Plain.is)

pub returns-in-Plain-clause-yes : goal.returns-in-Plain-clause-yes
returns-in-Plain-clause-yes c e context is labels = c.numeric.ensures.yes e context c.args.instr (sym c.requires.row.code)

pub returns-in-Plain-clause-no : goal.returns-in-Plain-clause-no
returns-in-Plain-clause-no c e context is labels = c.numeric.ensures.no e context c.args.instr (sym c.requires.row.code)

pub access-requires : goal.access-requires
access-requires c = record {
  row = own_row c.args.instr.code c.args.row.now c.requires.row;
  code = c.requires.row.code;
  access = load_is c.args.instr.code (sym c.requires.row.kind ∙ c.in-Load.is);
  width = c.requires.load c.in-Load.is;
}

pub returns-in-Load-clause-yes : goal.returns-in-Load-clause-yes
returns-in-Load-clause-yes c e context is labels = c.access.ensures.yes e context is.memory

pub returns-in-Load-clause-no : goal.returns-in-Load-clause-no
returns-in-Load-clause-no c e context is labels = c.access.ensures.no e context is.memory

pub access-requires-in-Store : goal.access-requires-in-Store
access-requires-in-Store c = record {
  row = own_row c.args.instr.code c.args.row.now c.requires.row;
  code = c.requires.row.code;
  access = store_is c.args.instr.code (sym c.requires.row.kind ∙ c.in-Store.is);
  width = c.requires.store c.in-Store.is;
}

pub returns-in-Store-clause-yes : goal.returns-in-Store-clause-yes
returns-in-Store-clause-yes c e context is labels = c.access-in-Store.ensures.yes e context is.memory

pub returns-in-Store-clause-no : goal.returns-in-Store-clause-no
returns-in-Store-clause-no c e context is labels = c.access-in-Store.ensures.no e context is.memory

pub returns-in-Float-clause-no : goal.returns-in-Float-clause-no
returns-in-Float-clause-no c e context is labels = none_stuck context c.args.instr _ (untyped_none context c.args.instr (float_is c.args.instr.code (sym c.requires.row.kind ∙ c.in-Float.is)))
