use Rattle.node_laws.proofs.Programs.{run-told}
use Rattle.node_laws.proofs.OutsideGives.{keeps-outside-answer}
use Rattle.node_laws.proofs.networking.an_answer_keeps.Goals as goal

pub returns : goal.returns
returns g c = λ setting old new was is pid worker brought reply engine keeps.
    keeps-outside-answer old new was is pid worker brought reply engine (c.sound.ensures.all_told old (run-told setting old keeps.run)) keeps
