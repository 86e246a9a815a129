use Rattle.std.proofs.Common.{◌≡◌, ◌+◌, drop, map}
use Rattle.outside.specs.Scripts.{bytes_in, cue_of}
use Rattle.outside.proofs.mem_stream.size_of_script.Given as goal

abbrev pub invariant-loop-piece : goal.invariant-loop-piece
invariant-loop-piece l = l.size + bytes_in (map cue_of (drop l.piece-index l.script)) ≡ bytes_in (map cue_of l.script)
