use Rattle.flat_machine.proofs.StraightAgrees.{straight_agrees}
use Rattle.flat_machine.proofs.StraightFollows.{straight_follows}
use Rattle.flat_machine.proofs.laws.straight_code_agrees.Goals as goal

pub returns-clause-alone : goal.returns-clause-alone
returns-clause-alone c m flat config i p tells at plain is goes = straight_agrees m flat config i p tells at plain is goes

pub returns-clause-mapped : goal.returns-clause-mapped
returns-clause-mapped c m maps flat config i p follows typed at plain is goes = straight_follows m maps flat config follows typed i p plain is at goes
