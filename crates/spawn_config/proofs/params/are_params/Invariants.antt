use Rattle.std.proofs.Common.{List, length}
use Rattle.host_port.specs.TypedValue.{TypedValue}
use Rattle.spawn_config.proofs.Reading.{Reads}
use Rattle.spawn_config.proofs.params.are_params.Given as goal

abbrev pub invariant-loop-left : goal.invariant-loop-left
invariant-loop-left l = (params : List TypedValue) × Reads l.bytes params l.left

abbrev pub decreases-loop-left : goal.decreases-loop-left
decreases-loop-left l = length l.left
