use Rattle.node_laws.proofs.Programs.{run-told}
use Rattle.node_laws.proofs.Ticks.{untimed, timed, due, first-timed, timed-asleep}
use Rattle.node_laws.proofs.timing.deadlines_tell.Goals as goal

pub returns : goal.returns
returns g c = record {
  none = λ setting. untimed;
  timed = λ setting book held deadline keeps. timed book held deadline (c.sound.ensures.all_told book (run-told setting book keeps.run)) keeps;
  due = λ setting book held deadline now keeps. due book held deadline now (c.sound.ensures.all_told book (run-told setting book keeps.run)) keeps;
  alone = λ setting book held pid deadline keeps. first-timed book held pid deadline (c.sound.ensures.all_told book (run-told setting book keeps.run)) keeps;
  asleep = λ setting book held deadline keeps. timed-asleep book held deadline (c.sound.ensures.all_told book (run-told setting book keeps.run)) keeps;
}
