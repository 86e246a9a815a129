use Rattle.std.proofs.Common.{◌≡◌, ◌-◌, length}
use Rattle.plain_world.specs.Shown.{streamed_in}
use Rattle.plain_world.proofs.streams.fill.Given as goal

abbrev pub invariant-filling : goal.invariant-filling
invariant-filling l = streamed_in l.streamed.items ≡ streamed_in l.initial.streamed.items

abbrev pub decreases-filling : goal.decreases-filling
decreases-filling l = l.len - length l.streamed.items
