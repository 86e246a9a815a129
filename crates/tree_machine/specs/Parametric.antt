-- Parametric instructions (Core 1.0, 4.4.2).
use Rattle.std.specs.Prelude.{ℕ, List, [], ◌∷◌, cond, nat_eq}
use Rattle.tree_machine.specs.Outcomes.{Effect, Gives, Undefined}

-- drop: the topmost operand is let go
abbrev pub drop_one : (operands : List ℕ) → Effect (List ℕ)
drop_one [] = Undefined
drop_one (a ∷ below) = Gives below

-- select: of two operands below a number the first, or the second where the number is 0
abbrev pub select : (operands : List ℕ) → Effect (List ℕ)
select [] = Undefined
select (number ∷ []) = Undefined
select (number ∷ b ∷ []) = Undefined
select (number ∷ b ∷ a ∷ below) = Gives (cond (nat_eq number 0) b a ∷ below)
