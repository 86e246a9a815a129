use Rattle.flat_machine.proofs.Replying.{reply_resumes}
use Rattle.flat_machine.proofs.call_laws.replies_go_on.Goals as goal

pub returns : goal.returns
returns c m maps flat config ask given results reply follows typed results_are fits form values =
    reply_resumes m maps flat config ask given results reply follows typed results_are fits form values
