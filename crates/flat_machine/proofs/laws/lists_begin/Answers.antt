use Rattle.flat_machine.proofs.BlocksAgree.{block_agrees, loop_agrees, if_agrees}
use Rattle.flat_machine.proofs.laws.lists_begin.Goals as goal

pub returns-clause-block : goal.returns-clause-block
returns-clause-block c m maps flat config result follows typed at = block_agrees m maps flat config follows typed result at

pub returns-clause-again : goal.returns-clause-again
returns-clause-again c m maps flat config result follows typed at = loop_agrees m maps flat config follows typed result at

pub returns-clause-chosen : goal.returns-clause-chosen
returns-clause-chosen c m maps flat config result follows typed at goes = if_agrees m maps flat config follows typed result at goes
