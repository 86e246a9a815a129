-- Exits, which cost nothing (Core 1.0, 4.4.6 and 4.4.7): the end of a list leaves its block, the end of a body its
-- function.
use Rattle.std.specs.Prelude.{ℕ, List, [], ◌∷◌, ◌++◌}
use Rattle.wasm_form.specs.Trees.{Code, Empty, Then, TableOf, BlockOf, LoopOf, IfOf, IfElseOf}
use Rattle.tree_machine.specs.Config.{Cont, Frame}

-- the frame stays as it is where an instruction is to come, and else goes on so
abbrev pub unless_ended : Code → (stays goes : Frame) → Frame
unless_ended Empty stays goes = goes
unless_ended (Then i rest) stays goes = stays
unless_ended (TableOf labels last rest) stays goes = stays
unless_ended (BlockOf result inside rest) stays goes = stays
unless_ended (LoopOf result inside rest) stays goes = stays
unless_ended (IfOf result inside rest) stays goes = stays
unless_ended (IfElseOf result inside other rest) stays goes = stays

-- each list that has come to its end is left, with its operands on top of those below it
abbrev pub leave_lists : (locals operands : List ℕ) → List Cont → Frame
leave_lists locals operands [] = record { locals = locals; operands = operands; conts = [] }
leave_lists locals operands (k ∷ ks) =
    unless_ended k.rest (record { locals = locals; operands = operands; conts = k ∷ ks })
    (leave_lists locals (operands ++ k.under) ks)

-- a frame whose body has ended gives its operands to the frame below it
abbrev pub unless_returned : List Cont → (stays goes : List Frame) → List Frame
unless_returned [] stays goes = goes
unless_returned (k ∷ ks) stays goes = stays

-- the frames after exits, where these results come on top of the innermost frame's operands; those of the last are
-- dropped
abbrev pub return_to : (results : List ℕ) → List Frame → List Frame
return_to results [] = []
return_to results (f ∷ below) =
    unless_returned (leave_lists f.locals (results ++ f.operands) f.conts).conts
    (leave_lists f.locals (results ++ f.operands) f.conts ∷ below)
    (return_to (leave_lists f.locals (results ++ f.operands) f.conts).operands below)

-- the frames after exits
unfoldable pub settled : List Frame → List Frame
settled frames = return_to [] frames
