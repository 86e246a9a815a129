use Rattle.flat_machine.proofs.Texts.{body_stands}
use Rattle.flat_machine.proofs.laws.bodies_stand.Goals as goal

pub returns : goal.returns
returns c e tree is = body_stands e tree is
