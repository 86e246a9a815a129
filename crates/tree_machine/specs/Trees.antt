-- Which tree an expression is. A module keeps its expressions flat, and the machine executes their trees. This is the
-- one place that goes over a flat list; that it gives the tree whose flat list an expression is, is the law `one_tree`
-- (src/laws.rt).
use Rattle.std.specs.Prelude.{ℕ, ◌+◌, ◌==◌, if◌then◌else◌, List, [], ◌∷◌, Option, Some, None, slice_range}
use Rattle.wasm_form.specs.declared.value_type.ValType.{ValType}
use Rattle.wasm_form.specs.declared.instr.Instr.{Instr}
use Rattle.wasm_form.specs.declared.instr.Imm.{Imm}
use Rattle.wasm_form.specs.declared.instr.Imm.TheVariants as imm
use Rattle.wasm_form.specs.declared.expr.Expr.{Expr}
use Rattle.wasm_form.specs.Trees.{Code, Empty, Then, TableOf, BlockOf, LoopOf, IfOf, IfElseOf}

-- an instruction list that is read from its end on: what was read of it, and the list after its else, if one was passed
pub record Reading : Type 0 where
  pub code : Code
  pub other : Option Code

abbrev pub reading : Code → Option Code → Reading
reading code other = record { code = code; other = other }

-- the result in the immediates of a block, loop or if
abbrev pub block_result : Imm → Option ValType
block_result (imm.Block result) = result
block_result i = None

-- an if with the list that was read inside it, and with its else, if it has one
abbrev pub if_with : Option ValType → (inside : Code) → (other : Option Code) → (rest : Code) → Code
if_with result inside None rest = IfOf result inside rest
if_with result inside (Some other) rest = IfElseOf result inside other rest

-- a br_table with its labels out of the expression's
abbrev pub table_with : Instr → Imm → (labels : List ℕ) → (rest : Code) → Code
table_with i (imm.Table first count last) labels rest = TableOf (slice_range labels first (first + count)) last rest
table_with i others labels rest = Then i rest

-- an instruction before the innermost list
abbrev pub before_list : (Code → Code) → List Reading → List Reading
before_list put [] = []
before_list put (r ∷ rs) = reading (put r.code) r.other ∷ rs

-- a block before the list around it, with the innermost list inside it
abbrev pub around_list : (Reading → Code → Code) → List Reading → List Reading
around_list put [] = []
around_list put (r ∷ []) = []
around_list put (r ∷ outer ∷ rs) = reading (put r outer.code) outer.other ∷ rs

-- an else: what was read is the list after it, and the list before it ends here
abbrev pub before_else : List Reading → List Reading
before_else [] = []
before_else (r ∷ rs) = reading Empty (Some r.code) ∷ rs

-- one instruction more, before the lists that have not begun yet, the innermost first
unfoldable pub read : (labels : List ℕ) → Instr → List Reading → List Reading
read labels i rs =
    if i.code == 0x0B then reading Empty None ∷ rs
    else if i.code == 0x05 then before_else rs
    else if i.code == 0x02 then around_list (λ r rest. BlockOf (block_result i.imm) r.code rest) rs
    else if i.code == 0x03 then around_list (λ r rest. LoopOf (block_result i.imm) r.code rest) rs
    else if i.code == 0x04 then around_list (λ r rest. if_with (block_result i.imm) r.code r.other rest) rs
    else if i.code == 0x0E then before_list (λ rest. table_with i i.imm labels rest) rs
    else before_list (λ rest. Then i rest) rs

-- a flat list, the last instruction first
abbrev pub read_all : (labels : List ℕ) → List Instr → List Reading
read_all labels [] = []
read_all labels (i ∷ list) = read labels i (read_all labels list)

-- the one list that is left
abbrev pub outermost : List Reading → Code
outermost [] = Empty
outermost (r ∷ rs) = r.code

-- the tree whose flat list the expression is, where there is one
unfoldable pub tree_of : Expr → Code
tree_of e = outermost (read_all e.labels e.code)
