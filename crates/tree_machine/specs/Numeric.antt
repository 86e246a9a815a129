-- Numeric instructions (Core 1.0, 4.4.1).
use Rattle.std.specs.Prelude.{ℕ, List, [], ◌∷◌, Option, Some, None, Result, Ok, Err}
use Rattle.wasm_ops.specs.declared.trap.Trap.{Trap}
use Rattle.wasm_ops.specs.Operations.{unary_value, binary_value}
use Rattle.tree_machine.specs.Outcomes.{Effect, Gives, Fails, Undefined}

-- the value of an operation on one operand, on top of what lies below
abbrev pub unary_on : Option ℕ → (below : List ℕ) → Effect (List ℕ)
unary_on None below = Undefined
unary_on (Some value) below = Gives (value ∷ below)

-- an operation on one operand
abbrev pub unary : (code : ℕ) → (operands : List ℕ) → Effect (List ℕ)
unary code [] = Undefined
unary code (a ∷ below) = unary_on (unary_value code a) below

-- the value of an operation on two operands, on top of what lies below, or its trap
abbrev pub binary_on : Option (Result ℕ Trap) → (below : List ℕ) → Effect (List ℕ)
binary_on None below = Undefined
binary_on (Some (Ok value)) below = Gives (value ∷ below)
binary_on (Some (Err trap)) below = Fails trap

-- an operation on two operands, of which the second lies on top
abbrev pub binary : (code : ℕ) → (operands : List ℕ) → Effect (List ℕ)
binary code [] = Undefined
binary code (b ∷ []) = Undefined
binary code (b ∷ a ∷ below) = binary_on (binary_value code a b) below
