use Rattle.std.proofs.Common.{◌≡◌, ◌++◌, map, take}
use Rattle.code_map.specs.Keys.{value_code}
use Rattle.code_map.proofs.classes.add_codes.Given as goal

abbrev pub invariant-loop-value : goal.invariant-loop-value
invariant-loop-value l = l.key.items ≡ l.fn.key.items ++ map value_code (take l.value-index l.fn.values)
