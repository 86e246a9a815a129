use Rattle.std.proofs.Common.{◌≡◌, ◌%◌, ◌^◌, take}
use Rattle.linear_memory.proofs.Marks.{weighed}
use Rattle.linear_memory.proofs.memory.Memory.mark.Given as goal

abbrev pub invariant-loop-place : goal.invariant-loop-place
invariant-loop-place l = l.mark ≡ weighed 0 (take l.place l.byte-items) % 2 ^ 64
