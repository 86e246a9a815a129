-- What leaving a list and returning from a function make of the frames.
use Rattle.std.specs.Prelude.{ℕ, List, [], ◌∷◌, ◌++◌}
use Rattle.tree_machine.specs.Config.{Cont, Frame, with_operands}

-- the frame with these operands and lists
abbrev pub frame_with : (operands : List ℕ) → List Cont → Frame → Frame
frame_with operands ks f = record f { operands = operands; conts = ks }

-- the frames below one that has returned with these operands
abbrev pub given : (operands : List ℕ) → List Frame → List Frame
given operands [] = []
given operands (f ∷ below) = with_operands (operands ++ f.operands) f ∷ below
