use Rattle.std.proofs.Common.{◌≡◌, take}
use Rattle.plain_world.specs.Kept.{empty_ends}
use Rattle.plain_world.proofs.run.empty_memories.Given as goal

abbrev pub invariant-loop-exit : goal.invariant-loop-exit
invariant-loop-exit l = l.ends.items ≡ empty_ends (take l.exit-index l.exits)
