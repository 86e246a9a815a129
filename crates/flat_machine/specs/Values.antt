-- How the values of the flat machine are those of the frames.
use Rattle.std.specs.Prelude.{ℕ, List, [], ◌∷◌, ◌++◌, reverse, flat_map}
use Rattle.tree_machine.specs.Config.{Cont, Frame}

-- the operands of the innermost list, then those that lie below each list
abbrev pub operands_with : (operands : List ℕ) → List Cont → List ℕ
operands_with operands [] = operands
operands_with operands (k ∷ ks) = operands ++ operands_with k.under ks

-- the values of a frame: its operands, and below them its locals, the last one first
abbrev pub frame_values : Frame → List ℕ
frame_values f = operands_with f.operands f.conts ++ reverse f.locals

-- the values of all frames, the innermost first
abbrev pub all_values : List Frame → List ℕ
all_values frames = flat_map frame_values frames
