use Rattle.std.proofs.Common.{◌≡◌, ◌++◌, map, take, drop}
use Rattle.plain_world.proofs.NameList.{forgotten}
use Rattle.plain_world.proofs.name_list.forget.Given as goal

abbrev pub invariant-loop-name : goal.invariant-loop-name
invariant-loop-name l = l.names ≡ map (forgotten l.pid) (take l.name-index l.fn.names) ++ drop l.name-index l.fn.names
