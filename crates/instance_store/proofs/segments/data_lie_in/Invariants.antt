use Rattle.std.proofs.Common.{◌≡◌, true, take}
use Rattle.instance_store.specs.Segments.{data_lie_in}
use Rattle.instance_store.proofs.segments.data_lie_in.Given as goal

abbrev pub invariant-loop-segment : goal.invariant-loop-segment
invariant-loop-segment l = data_lie_in l.places (take l.segment-index l.segments) ≡ true
