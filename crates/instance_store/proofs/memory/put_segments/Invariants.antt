use Rattle.std.proofs.Common.{◌≡◌, take, length, Some}
use Rattle.std.specs.List.{fold}
use Rattle.tree_machine.specs.Instantiation.{put_segment}
use Rattle.instance_store.proofs.memory.put_segments.Given as goal

abbrev pub invariant-loop-segment : goal.invariant-loop-segment
invariant-loop-segment l =
    (Some l.memory ≡ fold put_segment (Some l.initial.memory) (take l.segment-index l.segments))
    × (length l.memory.bytes ≡ length l.initial.memory.bytes)
