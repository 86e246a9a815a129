use Rattle.std.proofs.Common.{take}
use Rattle.plain_world.proofs.Nearness.{NearBy}
use Rattle.plain_world.proofs.world.PlainWorld.neighbours.Given as goal

abbrev pub invariant-loop-link : goal.invariant-loop-link
invariant-loop-link l = NearBy l.members (take l.link-index l.link-items) l.near
