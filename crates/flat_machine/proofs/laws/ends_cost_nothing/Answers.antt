use Rattle.flat_machine.proofs.Settling.{settle_list, settle_frame}
use Rattle.flat_machine.proofs.laws.ends_cost_nothing.Goals as goal

pub returns-clause-list : goal.returns-clause-list
returns-clause-list c m config f operands k ks below over = settle_list m config f operands k ks below over

pub returns-clause-function : goal.returns-clause-function
returns-clause-function c m config f operands below = settle_frame m config f operands below
