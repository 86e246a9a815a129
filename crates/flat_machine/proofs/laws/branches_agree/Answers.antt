use Rattle.flat_machine.proofs.BranchesAgree.{br_agrees, return_agrees}
use Rattle.flat_machine.proofs.ConditionalBranches.{branch_if_agrees, table_agrees}
use Rattle.flat_machine.proofs.laws.branches_agree.Goals as goal

pub returns-clause-label : goal.returns-clause-label
returns-clause-label c m maps flat config i label follows typed code index at goes = br_agrees m maps flat config follows typed i label code index at goes

pub returns-clause-outermost : goal.returns-clause-outermost
returns-clause-outermost c m maps flat config i follows typed code at goes = return_agrees m maps flat config follows typed i code at goes

pub returns-clause-number : goal.returns-clause-number
returns-clause-number c m maps flat config i label follows typed code index at goes =
    branch_if_agrees m maps flat config follows typed i label code index at goes

pub returns-clause-table : goal.returns-clause-table
returns-clause-table c m maps flat config first count last follows typed at goes = table_agrees m maps flat config follows typed first count last at goes
