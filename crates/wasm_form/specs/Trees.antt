-- Lists of instructions as trees, their spellings, and the flat lists that they make.
use Rattle.std.specs.Prelude.{◌≡◌, ℕ, ◌+◌, List, [], ◌∷◌, ◌++◌, length, Option, Some, None}
use Rattle.wasm_form.specs.Values.{SpellsU32, SpellsVector}
use Rattle.wasm_form.specs.Types.{SpellsBlockType}
use Rattle.wasm_form.specs.Instructions.{SpellsPlain}
use Rattle.wasm_form.specs.declared.value_type.ValType.{ValType}
use Rattle.wasm_form.specs.declared.instr.Instr.{Instr}
use Rattle.wasm_form.specs.declared.instr.Imm.TheVariants as imm
use Rattle.wasm_form.specs.declared.expr.Expr.{Expr}
use Rattle.wasm_form.specs.declared.expr.Match.{Match}

-- Core 1.0, 2.4.5 and 2.4.6: a list of instructions, in which a block, a loop and an if hold the lists inside them
pub data Code : Type 0 where
  Empty : Code
  Then : (i : Instr) (rest : Code) → Code
  TableOf : (labels : List ℕ) (last : ℕ) (rest : Code) → Code
  BlockOf : (result : Option ValType) (inside rest : Code) → Code
  LoopOf : (result : Option ValType) (inside rest : Code) → Code
  IfOf : (result : Option ValType) (inside rest : Code) → Code
  IfElseOf : (result : Option ValType) (inside other rest : Code) → Code

-- Core 1.0, 5.4.1, br_table: its labels, and the default label
abbrev pub SpellsTable : List ℕ → List ℕ → ℕ → Type 0
SpellsTable bytes labels last =
    (vector : List ℕ) × (number : List ℕ) × SpellsVector SpellsU32 vector labels × SpellsU32 number last × (bytes ≡ 0x0E ∷ (vector ++ number))

-- Core 1.0, 5.4, instructions: these bytes spell the instructions, one after another
abbrev pub SpellsCode : List ℕ → Code → Type 0
SpellsCode bytes Empty = bytes ≡ []
SpellsCode bytes (Then i rest) =
    (first : List ℕ) × (more : List ℕ) × SpellsPlain first i × SpellsCode more rest × (bytes ≡ first ++ more)
SpellsCode bytes (TableOf labels last rest) =
    (first : List ℕ) × (more : List ℕ) × SpellsTable first labels last × SpellsCode more rest × (bytes ≡ first ++ more)
SpellsCode bytes (BlockOf result inside rest) =
    (ty : List ℕ) × (inner : List ℕ) × (more : List ℕ) × SpellsBlockType ty result × SpellsCode inner inside × SpellsCode more rest
    × (bytes ≡ 0x02 ∷ (ty ++ (inner ++ 0x0B ∷ more)))
SpellsCode bytes (LoopOf result inside rest) =
    (ty : List ℕ) × (inner : List ℕ) × (more : List ℕ) × SpellsBlockType ty result × SpellsCode inner inside × SpellsCode more rest
    × (bytes ≡ 0x03 ∷ (ty ++ (inner ++ 0x0B ∷ more)))
SpellsCode bytes (IfOf result inside rest) =
    (ty : List ℕ) × (inner : List ℕ) × (more : List ℕ) × SpellsBlockType ty result × SpellsCode inner inside × SpellsCode more rest
    × (bytes ≡ 0x04 ∷ (ty ++ (inner ++ 0x0B ∷ more)))
SpellsCode bytes (IfElseOf result inside other rest) =
    (ty : List ℕ) × (inner : List ℕ) × (others : List ℕ) × (more : List ℕ) × SpellsBlockType ty result × SpellsCode inner inside
    × SpellsCode others other × SpellsCode more rest × (bytes ≡ 0x04 ∷ (ty ++ (inner ++ 0x05 ∷ (others ++ 0x0B ∷ more))))

-- the instructions of a flat list that the tree holds no instruction for
abbrev pub else_instr : Instr
else_instr = record { code = 0x05; imm = imm.None }

abbrev pub end_instr : Instr
end_instr = record { code = 0x0B; imm = imm.None }

abbrev pub block_instr : Option ValType → Instr
block_instr result = record { code = 0x02; imm = imm.Block result }

abbrev pub loop_instr : Option ValType → Instr
loop_instr result = record { code = 0x03; imm = imm.Block result }

abbrev pub if_instr : Option ValType → Instr
if_instr result = record { code = 0x04; imm = imm.Block result }

abbrev pub table_instr : (first count last : ℕ) → Instr
table_instr first count last = record { code = 0x0E; imm = imm.Table first count last }

-- the labels of the br_table instructions, by the order of the bytes, without the default labels
abbrev pub labels_of : Code → List ℕ
labels_of Empty = []
labels_of (Then i rest) = labels_of rest
labels_of (TableOf labels last rest) = labels ++ labels_of rest
labels_of (BlockOf result inside rest) = labels_of inside ++ labels_of rest
labels_of (LoopOf result inside rest) = labels_of inside ++ labels_of rest
labels_of (IfOf result inside rest) = labels_of inside ++ labels_of rest
labels_of (IfElseOf result inside other rest) = labels_of inside ++ (labels_of other ++ labels_of rest)

-- the instructions in the order of the bytes, with each else and end; `first` labels are pooled before them
abbrev pub flat : (first : ℕ) → Code → List Instr
flat first Empty = []
flat first (Then i rest) = i ∷ flat first rest
flat first (TableOf labels last rest) = table_instr first (length labels) last ∷ flat (first + length labels) rest
flat first (BlockOf result inside rest) =
    block_instr result ∷ (flat first inside ++ end_instr ∷ flat (first + length (labels_of inside)) rest)
flat first (LoopOf result inside rest) =
    loop_instr result ∷ (flat first inside ++ end_instr ∷ flat (first + length (labels_of inside)) rest)
flat first (IfOf result inside rest) =
    if_instr result ∷ (flat first inside ++ end_instr ∷ flat (first + length (labels_of inside)) rest)
flat first (IfElseOf result inside other rest) =
    if_instr result ∷ (flat first inside ++ else_instr ∷ (flat (first + length (labels_of inside)) other
    ++ end_instr ∷ flat (first + length (labels_of inside) + length (labels_of other)) rest))

-- how many instructions these are in the flat list
abbrev pub size : Code → ℕ
size Empty = 0
size (Then i rest) = 1 + size rest
size (TableOf labels last rest) = 1 + size rest
size (BlockOf result inside rest) = 2 + size inside + size rest
size (LoopOf result inside rest) = 2 + size inside + size rest
size (IfOf result inside rest) = 2 + size inside + size rest
size (IfElseOf result inside other rest) = 3 + size inside + size other + size rest

-- the places of the block, loop or if at `at`, which has no else and whose inside has this size
abbrev pub match_of : (at inside : ℕ) → Match
match_of at inside = record { at = at; other = None; end = at + 1 + inside }

-- the places of the if at `at` whose inside has this size, and what follows its else that one
abbrev pub else_match_of : (at inside other : ℕ) → Match
else_match_of at inside other = record { at = at; other = Some (at + 1 + inside); end = at + 2 + inside + other }

-- the matching places of each block, loop and if, where the first instruction stands at the place `at`
abbrev pub matches_of : (at : ℕ) → Code → List Match
matches_of at Empty = []
matches_of at (Then i rest) = matches_of (at + 1) rest
matches_of at (TableOf labels last rest) = matches_of (at + 1) rest
matches_of at (BlockOf result inside rest) =
    match_of at (size inside) ∷ (matches_of (at + 1) inside ++ matches_of (at + 2 + size inside) rest)
matches_of at (LoopOf result inside rest) =
    match_of at (size inside) ∷ (matches_of (at + 1) inside ++ matches_of (at + 2 + size inside) rest)
matches_of at (IfOf result inside rest) =
    match_of at (size inside) ∷ (matches_of (at + 1) inside ++ matches_of (at + 2 + size inside) rest)
matches_of at (IfElseOf result inside other rest) =
    else_match_of at (size inside) (size other) ∷ (matches_of (at + 1) inside
    ++ (matches_of (at + 2 + size inside) other ++ matches_of (at + 3 + size inside + size other) rest))

-- the expression is this tree, flat, and its end
pub record IsFlat (e : Expr) (tree : Code) : Type 0 where
  pub code : e.code ≡ flat 0 tree ++ end_instr ∷ []
  pub labels : e.labels ≡ labels_of tree
  pub matches : e.matches ≡ matches_of 0 tree

-- Core 1.0, 5.4.6, expressions: instructions, and 0B
abbrev pub SpellsExpr : List ℕ → Expr → Type 0
SpellsExpr bytes e = (tree : Code) × (code : List ℕ) × SpellsCode code tree × (bytes ≡ code ++ 0x0B ∷ []) × IsFlat e tree
