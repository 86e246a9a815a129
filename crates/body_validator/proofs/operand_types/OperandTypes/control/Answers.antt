use Rattle.std.proofs.Common.{sym, ◌∙◌}
use Rattle.body_validator.proofs.Rules.{only_image, none_stuck, control_is}
use Rattle.body_validator.proofs.Codes.{nop_code}
use Rattle.body_validator.proofs.Types.{nop_only, untyped_none, operation_not_control, access_not_control}
use Rattle.body_validator.proofs.Covering.{nothing_applied}
use Rattle.body_validator.proofs.operand_types.OperandTypes.control.Goals as goal

pub constant-requires : goal.constant-requires
constant-requires c = control_is c.args.instr.code c.requires ∙ sym c.of_control.ensures ∙ c.in-Constant.is

pub returns-in-Constant-clause-yes : goal.returns-in-Constant-clause-yes
returns-in-Constant-clause-yes c e context is labels = c.constant.ensures.yes e context

pub returns-in-Constant-clause-no : goal.returns-in-Constant-clause-no
returns-in-Constant-clause-no c e context is labels = c.constant.ensures.no e context

pub parametric-requires : goal.parametric-requires
parametric-requires c = control_is c.args.instr.code c.requires ∙ sym c.of_control.ensures ∙ c.in-Parametric.is

pub returns-in-Parametric-clause-yes : goal.returns-in-Parametric-clause-yes
returns-in-Parametric-clause-yes c e context is labels = c.parametric.ensures.yes e context

pub returns-in-Parametric-clause-no : goal.returns-in-Parametric-clause-no
returns-in-Parametric-clause-no c e context is labels = c.parametric.ensures.no e context

pub local-requires : goal.local-requires
local-requires c = control_is c.args.instr.code c.requires ∙ sym c.of_control.ensures ∙ c.in-Local.is

pub returns-in-Local-clause-yes : goal.returns-in-Local-clause-yes
returns-in-Local-clause-yes c e context is labels = c.local.ensures.yes e context is.locals

pub returns-in-Local-clause-no : goal.returns-in-Local-clause-no
returns-in-Local-clause-no c e context is labels = c.local.ensures.no e context is.locals

pub global-requires : goal.global-requires
global-requires c = control_is c.args.instr.code c.requires ∙ sym c.of_control.ensures ∙ c.in-Global.is

pub returns-in-Global-clause-yes : goal.returns-in-Global-clause-yes
returns-in-Global-clause-yes c e context is labels = c.global.ensures.yes e context is.globals

pub returns-in-Global-clause-no : goal.returns-in-Global-clause-no
returns-in-Global-clause-no c e context is labels = c.global.ensures.no e context is.globals

pub memory_size-requires : goal.memory_size-requires
memory_size-requires c = control_is c.args.instr.code c.requires ∙ sym c.of_control.ensures ∙ c.in-MemorySize.is

pub returns-in-MemorySize-clause-yes : goal.returns-in-MemorySize-clause-yes
returns-in-MemorySize-clause-yes c e context is labels = c.memory_size.ensures.yes e context is.memory

pub returns-in-MemorySize-clause-no : goal.returns-in-MemorySize-clause-no
returns-in-MemorySize-clause-no c e context is labels = c.memory_size.ensures.no e context is.memory

pub branch_if-requires : goal.branch_if-requires
branch_if-requires c = control_is c.args.instr.code c.requires ∙ sym c.of_control.ensures ∙ c.in-BranchIf.is

pub returns-in-BranchIf-clause-yes : goal.returns-in-BranchIf-clause-yes
returns-in-BranchIf-clause-yes c e context is labels = c.branch_if.ensures.yes e context labels

pub returns-in-BranchIf-clause-no : goal.returns-in-BranchIf-clause-no
returns-in-BranchIf-clause-no c e context is labels = c.branch_if.ensures.no e context labels

pub call-requires : goal.call-requires
call-requires c = control_is c.args.instr.code c.requires ∙ sym c.of_control.ensures ∙ c.in-Call.is

pub returns-in-Call-clause-yes : goal.returns-in-Call-clause-yes
returns-in-Call-clause-yes c e context is labels = c.call.ensures.yes e context is.types is.functions

pub returns-in-Call-clause-no : goal.returns-in-Call-clause-no
returns-in-Call-clause-no c e context is labels = c.call.ensures.no e context is.types is.functions

pub call_indirect-requires : goal.call_indirect-requires
call_indirect-requires c = control_is c.args.instr.code c.requires ∙ sym c.of_control.ensures ∙ c.in-CallIndirect.is

pub returns-in-CallIndirect-clause-yes : goal.returns-in-CallIndirect-clause-yes
returns-in-CallIndirect-clause-yes c e context is labels = c.call_indirect.ensures.yes e context is.types is.table

pub returns-in-CallIndirect-clause-no : goal.returns-in-CallIndirect-clause-no
returns-in-CallIndirect-clause-no c e context is labels = c.call_indirect.ensures.no e context is.types is.table

pub leaves-requires : goal.leaves-requires
leaves-requires c = control_is c.args.instr.code c.requires ∙ sym c.of_control.ensures ∙ c.in-Leaves.is

pub returns-in-Leaves-clause-yes : goal.returns-in-Leaves-clause-yes
returns-in-Leaves-clause-yes c e context is labels = c.leaves.ensures.yes (cc) context labels is.results

pub returns-in-Leaves-clause-no : goal.returns-in-Leaves-clause-no
returns-in-Leaves-clause-no c e context is labels = c.leaves.ensures.no (cc) context labels is.results

pub returns-in-Nop-clause-yes : goal.returns-in-Nop-clause-yes
returns-in-Nop-clause-yes c e context is labels =
    let r = control_is c.args.instr.code c.requires ∙ sym c.of_control.ensures ∙ c.in-Nop.is in
    only_image context c.args.instr _ _ _ (nop_only context c.args.instr r (nop_code c.args.instr.code r)) (nothing_applied c.args.self.now)

pub returns-in-Operation-clause-no : goal.returns-in-Operation-clause-no
returns-in-Operation-clause-no c e context is labels = none_stuck context c.args.instr _ (operation_not_control context c.args.instr (control_is c.args.instr.code c.requires ∙ sym c.of_control.ensures ∙ c.in-Operation.is) c.requires)

pub returns-in-Access-clause-no : goal.returns-in-Access-clause-no
returns-in-Access-clause-no c e context is labels = none_stuck context c.args.instr _ (access_not_control context c.args.instr (control_is c.args.instr.code c.requires ∙ sym c.of_control.ensures ∙ c.in-Access.is) c.requires)

pub returns-in-Untyped-clause-no : goal.returns-in-Untyped-clause-no
returns-in-Untyped-clause-no c e context is labels = none_stuck context c.args.instr _ (untyped_none context c.args.instr (control_is c.args.instr.code c.requires ∙ sym c.of_control.ensures ∙ c.in-Untyped.is))
