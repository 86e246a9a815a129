use Rattle.std.proofs.Common.{None, Some}
use Rattle.host_calls.proofs.OutsideNames.{outside_named}
use Rattle.host_calls.proofs.outside_calls.outside_call.Goals as goal

pub unreachable-requires : goal.unreachable-requires
unreachable-requires c = let there = outside_named c.args.number c.requires None c.in_default.ensures in absurd (cc)

pub returns : goal.returns
returns c = outside_named c.args.number c.requires (Some _) c.in-Some.ensures
