use Rattle.flat_machine.proofs.RunsStand.{reply_fits, reply_stands}
use Rattle.flat_machine.proofs.run_laws.replies_stand.Goals as goal

pub returns-clause-fits : goal.returns-clause-fits
returns-clause-fits c m map start calls fuel ask flat reply mapped awaits fits form = reply_fits m map start calls fuel ask flat reply mapped awaits fits form

pub returns-clause-goes_on : goal.returns-clause-goes_on
returns-clause-goes_on c m map start calls fuel ask flat reply mapped awaits fits form = reply_stands m map start calls fuel ask flat reply mapped awaits fits form
