-- How the lists that have begun in a function stand in the flat list of its body.
use Rattle.std.specs.Prelude.{◌≡◌, ℕ, ◌+◌, ◌⊎◌, ⊤, List, [], ◌∷◌, length, slice_get, slice_range, Some}
use Rattle.wasm_form.specs.declared.expr.Expr.{Expr}
use Rattle.wasm_form.specs.declared.instr.Instr.{Instr}
use Rattle.wasm_form.specs.Trees.{Code, Empty, Then, TableOf, BlockOf, LoopOf, IfOf, IfElseOf, else_instr, end_instr, block_instr, loop_instr, if_instr, table_instr, size}
use Rattle.tree_machine.specs.Config.{Label, Leave, Again, Cont}

-- this instruction stands at this place
abbrev pub IsAt : Expr → (pc : ℕ) → Instr → Type 0
IsAt e pc i = slice_get e.code pc ≡ Some i

-- a br_table with these labels stands at this place
abbrev pub IsTableAt : Expr → (pc : ℕ) → (labels : List ℕ) → (last : ℕ) → Type 0
IsTableAt e pc labels last =
    (first : ℕ) × IsAt e pc (table_instr first (length labels) last)
    × (slice_range e.labels first (first + length labels) ≡ labels)

-- the flat text of this list stands from this place on
abbrev pub StandsAt : Expr → (pc : ℕ) → Code → Type 0
StandsAt e pc Empty = ⊤
StandsAt e pc (Then i rest) = IsAt e pc i × StandsAt e (pc + 1) rest
StandsAt e pc (TableOf labels last rest) = IsTableAt e pc labels last × StandsAt e (pc + 1) rest
StandsAt e pc (BlockOf result inside rest) =
    IsAt e pc (block_instr result) × StandsAt e (pc + 1) inside × IsAt e (pc + 1 + size inside) end_instr
    × StandsAt e (pc + 1 + size inside + 1) rest
StandsAt e pc (LoopOf result inside rest) =
    IsAt e pc (loop_instr result) × StandsAt e (pc + 1) inside × IsAt e (pc + 1 + size inside) end_instr
    × StandsAt e (pc + 1 + size inside + 1) rest
StandsAt e pc (IfOf result inside rest) =
    IsAt e pc (if_instr result) × StandsAt e (pc + 1) inside × IsAt e (pc + 1 + size inside) end_instr
    × StandsAt e (pc + 1 + size inside + 1) rest
StandsAt e pc (IfElseOf result inside other rest) =
    IsAt e pc (if_instr result) × StandsAt e (pc + 1) inside × IsAt e (pc + 1 + size inside) else_instr
    × StandsAt e (pc + 1 + size inside + 1) other × IsAt e (pc + 1 + size inside + 1 + size other) end_instr
    × StandsAt e (pc + 1 + size inside + 1 + size other + 1) rest

-- a list that ends at this place: the list around it goes on behind the end here, or behind the list after the else
-- here and that list's end
abbrev pub EndsAt : Expr → (stop after : ℕ) → Type 0
EndsAt e stop after =
    (IsAt e stop end_instr × (after ≡ stop + 1))
    ⊎ ((other : Code) × IsAt e stop else_instr × (after ≡ stop + 1 + size other + 1))

-- a loop that is executed again stands before the rest of the list around it
abbrev pub LoopStands : Expr → (after : ℕ) → Label → List Cont → Type 0
LoopStands e after (Leave results) ks = ⊤
LoopStands e after (Again result inside) [] = ⊤
LoopStands e after (Again result inside) (k ∷ ks) =
    (to : ℕ) × (after ≡ to + 1 + size inside + 1) × StandsAt e to (LoopOf result inside k.rest)

-- what is left of a list stands from this place on, and the list around it goes on at `after`
pub record ListStands (e : Expr) (pc after : ℕ) (k : Cont) (around : List Cont) : Type 0 where
  pub stop : ℕ
  pub stops : stop ≡ pc + size k.rest
  pub ends : EndsAt e stop after
  pub stands : StandsAt e pc k.rest
  pub loops : LoopStands e after k.label around

-- what is left of the lists that have begun: the innermost from this place on, each other one from the place behind the
-- list in it; behind the body's end the code is over
abbrev pub ListsStand : Expr → (pc : ℕ) → (afters : List ℕ) → List Cont → Type 0
ListsStand e pc [] [] = pc ≡ length e.code
ListsStand e pc [] (k ∷ ks) = ⊥
ListsStand e pc (after ∷ afters) [] = ⊥
ListsStand e pc (after ∷ afters) (k ∷ ks) = ListStands e pc after k ks × ListsStand e after afters ks

-- the flat text of the tree stands from the first place on, its end behind it, and no more
pub record BodyStands (e : Expr) (tree : Code) : Type 0 where
  pub stands : StandsAt e 0 tree
  pub ends : IsAt e (size tree) end_instr
  pub count : length e.code ≡ size tree + 1
