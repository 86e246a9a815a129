use Rattle.body_validator.proofs.Covering.{left_behind}
use Rattle.body_validator.proofs.operand_types.OperandTypes.leave.Goals as goal

pub returns : goal.returns
returns c = left_behind c.args.self.now c.clear.new.self.items c.clear.ensures.items
