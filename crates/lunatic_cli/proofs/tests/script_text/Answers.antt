use Rattle.world_rules.specs.laws.LifeLaws.{run_reportable}
use Rattle.lunatic_cli.proofs.tests.script_text.Goals as goal

pub text_of-requires : goal.text_of-requires
text_of-requires c = run_reportable _ c.run_alone-journal.result.journal c.run_alone-journal.ensures.run
