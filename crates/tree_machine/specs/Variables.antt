-- Variable instructions (Core 1.0, 4.4.3).
use Rattle.std.specs.Prelude.{ℕ, List, [], ◌∷◌, cond, nat_lt, length, slice_set, Option, Some, None}
use Rattle.tree_machine.specs.Config.{Config, Frame, with_operands}
use Rattle.tree_machine.specs.Outcomes.{Effect, Gives, Undefined, Outcome, Goes, Stuck}

-- local.get and global.get: the variable's value is pushed
abbrev pub push_value : Option ℕ → (operands : List ℕ) → Effect (List ℕ)
push_value None operands = Undefined
push_value (Some value) operands = Gives (value ∷ operands)

-- the frame whose local x has this value, and which has these operands
abbrev pub set_local : (x value : ℕ) → (operands : List ℕ) → Frame → Effect Frame
set_local x value operands f =
    cond (nat_lt x (length f.locals))
    (Gives (record f { locals = slice_set f.locals x value; operands = operands })) Undefined

-- local.set: the topmost operand is taken
abbrev pub local_set : (x : ℕ) → (operands : List ℕ) → Frame → Effect Frame
local_set x [] f = Undefined
local_set x (value ∷ below) f = set_local x value below f

-- local.tee: it stays
abbrev pub local_tee : (x : ℕ) → (operands : List ℕ) → Frame → Effect Frame
local_tee x [] f = Undefined
local_tee x (value ∷ below) f = set_local x value (value ∷ below) f

-- global.set
abbrev pub global_set : (x : ℕ) → (operands : List ℕ) → Config → Frame → (frames : List Frame) → Outcome
global_set x [] c f frames = Stuck
global_set x (value ∷ below) c f frames =
    cond (nat_lt x (length c.globals))
    (Goes (record c { globals = slice_set c.globals x value; frames = with_operands below f ∷ frames }))
    Stuck
