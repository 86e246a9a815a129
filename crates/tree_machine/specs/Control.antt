-- Blocks, loops, ifs and branches (Core 1.0, 4.4.5 and 4.4.6).
use Rattle.std.specs.Prelude.{ℕ, zero, suc, pred, List, [], ◌∷◌, ◌++◌, cond, nat_eq, nat_le, length, take, slice_index_or, Option, Some, None}
use Rattle.wasm_form.specs.declared.value_type.ValType.{ValType}
use Rattle.wasm_form.specs.Trees.{Code, LoopOf}
use Rattle.tree_machine.specs.Config.{Label, Leave, Again, Cont, cont, Frame, with_operands}
use Rattle.tree_machine.specs.Outcomes.{Effect, Gives, Undefined}

-- how many results a block has
abbrev pub result_count : Option ValType → ℕ
result_count None = 0
result_count (Some ty) = 1

-- a list is begun, under this label: inside there are no operands, and those at hand lie below it
abbrev pub begun : Code → Label → Frame → Frame
begun inside label f = record f { operands = []; conts = cont inside label f.operands ∷ f.conts }

-- block
abbrev pub begin_block : Option ValType → (inside : Code) → Frame → Frame
begin_block result inside f = begun inside (Leave (result_count result)) f

-- loop
abbrev pub begin_loop : Option ValType → (inside : Code) → Frame → Frame
begin_loop result inside f = begun inside (Again result inside) f

-- if: a number is taken, and one of the two lists is begun as a block, the other one exactly where the number is 0; an
-- if without else has an empty one
abbrev pub begin_if : Option ValType → (inside other : Code) → (operands : List ℕ) → Frame → Effect Frame
begin_if result inside other [] f = Undefined
begin_if result inside other (number ∷ below) f =
    Gives (begin_block result (cond (nat_eq number 0) other inside) (with_operands below f))

-- so many topmost operands, if there are so many
abbrev pub topmost : ℕ → (operands : List ℕ) → Option (List ℕ)
topmost n operands = cond (nat_le n (length operands)) (Some (take n operands)) None

-- a block is left: what is carried goes on top of what lies below it, in the lists around it
abbrev pub leave_block : (carried : Option (List ℕ)) → (under : List ℕ) → Frame → (around : List Cont) → Effect Frame
leave_block None under f around = Undefined
leave_block (Some values) under f around = Gives (record f { operands = values ++ under; conts = around })

-- a loop is to be executed again: its operands are dropped, and the loop stands before the rest of the list around it
abbrev pub repeat_loop : Option ValType → (inside : Code) → (under : List ℕ) →
    Frame → (around : List Cont) → Effect Frame
repeat_loop result inside under f [] = Undefined
repeat_loop result inside under f (k ∷ ks) =
    Gives (record f { operands = under; conts = record k { rest = LoopOf result inside k.rest } ∷ ks })

-- Core 1.0, 4.4.5, br, where the lists inside the label's are let go
abbrev pub land : Label → (under : List ℕ) → Frame → (around : List Cont) → Effect Frame
land (Leave results) under f around = leave_block (topmost results f.operands) under f around
land (Again result inside) under f around = repeat_loop result inside under f around

-- Core 1.0, 4.4.5, br: to the label with this number, the innermost being 0; the lists inside are let go with their
-- operands
abbrev pub branch_in : ℕ → Frame → List Cont → Effect Frame
branch_in label f [] = Undefined
branch_in zero f (k ∷ ks) = land k.label k.under f ks
branch_in (suc label) f (k ∷ ks) = branch_in label f ks

abbrev pub branch : (label : ℕ) → Frame → Effect Frame
branch label f = branch_in label f f.conts

-- br_if: a number is taken; no branch where it is 0
abbrev pub branch_if : (label : ℕ) → (operands : List ℕ) → Frame → Effect Frame
branch_if label [] f = Undefined
branch_if label (number ∷ below) f =
    cond (nat_eq number 0) (Gives (with_operands below f)) (branch label (with_operands below f))

-- br_table: a number is taken; the label at its place, or the default label where there is none
abbrev pub branch_table : (labels : List ℕ) → (last : ℕ) → (operands : List ℕ) → Frame → Effect Frame
branch_table labels last [] f = Undefined
branch_table labels last (number ∷ below) f = branch (slice_index_or labels number last) (with_operands below f)

-- return: a branch to the outermost label, that of the body
abbrev pub return_from : Frame → Effect Frame
return_from f = branch (pred (length f.conts)) f
