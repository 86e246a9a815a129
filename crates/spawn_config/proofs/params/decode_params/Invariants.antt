use Rattle.std.proofs.Common.{length}
use Rattle.spawn_config.proofs.Reading.{Reads}
use Rattle.spawn_config.proofs.params.decode_params.Given as goal

abbrev pub invariant-loop-left : goal.invariant-loop-left
invariant-loop-left l = Reads l.bytes l.params l.left

abbrev pub decreases-loop-left : goal.decreases-loop-left
decreases-loop-left l = length l.left
