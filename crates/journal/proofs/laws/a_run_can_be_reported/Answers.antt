use Rattle.world_rules.specs.laws.LifeLaws.{run_reportable}
use Rattle.journal.proofs.laws.a_run_can_be_reported.Goals as goal

pub returns : goal.returns
returns g c = λ setting book run. run_reportable setting book run
