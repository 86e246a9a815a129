use Rattle.turn_rules.proofs.TurnLaws as laws
use Rattle.turn_rules.proofs.turn_laws.turns_are_one.Goals as goal

pub returns : goal.returns
returns g c = laws.turns_are_one
