use Rattle.std.proofs.Common.{◌≡◌, ◌-◌, length}
use Rattle.plain_world.specs.ShownProcess.{process_in}
use Rattle.plain_world.proofs.processes.fill.Given as goal

abbrev pub invariant-filling : goal.invariant-filling
invariant-filling l = process_in l.processes.items ≡ process_in l.initial.processes.items

abbrev pub decreases-filling : goal.decreases-filling
decreases-filling l = l.len - length l.processes.items
