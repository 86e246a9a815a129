use Rattle.std.proofs.Common.{◌≡◌, map, take}
use Rattle.module_reader.proofs.bounds.bounds_of_memories.Given as goal

abbrev pub invariant-loop-ty : goal.invariant-loop-ty
invariant-loop-ty l = l.bounds ≡ map (λ ty. ty.bounds) (take l.ty-index l.types)
