use Rattle.std.proofs.Common.{subst}
use Rattle.command_words.specs.Meaning.{IsSound}
use Rattle.lunatic_cli.proofs.Asked.{run_in_range}
use Rattle.lunatic_cli.proofs.words.read_words.Goals as goal

pub returns-in-Run-clause-in_range : goal.returns-in-Run-clause-in_range
returns-in-Run-clause-in_range c = run_in_range _ _ c.one_file.result (subst IsSound c.in-Run.is c.in_ok-names.ensures.sound) c.one_file.ensures
