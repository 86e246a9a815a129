use Rattle.std.proofs.Common.{◌≡◌, take}
use Rattle.plain_world.proofs.child_start.are_same_params.Given as goal

abbrev pub invariant-loop-place : goal.invariant-loop-place
invariant-loop-place l = take l.place l.ones ≡ take l.place l.others
