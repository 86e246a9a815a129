-- Instructions one by one, as they stand in a flat list; contracts of callers speak of trees alone.
use Rattle.std.specs.Prelude.{◌≡◌, ℕ, ◌+◌, ◌-◌, ◌<◌, ◌≤◌, ◌⊎◌, List, [], ◌∷◌, ◌++◌, length, Option, Result, MatchResult}
use Rattle.leb_read.specs.Place.{Place, Passes}
use Rattle.wasm_form.specs.Values.{SpellsItems}
use Rattle.wasm_form.specs.Types.{SpellsBlockType}
use Rattle.wasm_form.specs.Instructions.{SpellsPlain}
use Rattle.wasm_form.specs.Trees.{Code, Empty, Then, TableOf, BlockOf, LoopOf, IfOf, IfElseOf, SpellsTable, SpellsCode, else_instr, end_instr, table_instr}
use Rattle.wasm_form.specs.Matching.{IsPlain}
use Rattle.wasm_form.specs.declared.value_type.ValType.{ValType}
use Rattle.wasm_form.specs.declared.instr.Instr.{Instr}
use Rattle.wasm_form.specs.declared.instr.Imm.TheVariants as imm
use Rattle.body_reader.specs.Reading.{ReadsOnly, NoFront}
use Rattle.body_reader.specs.declared.fault.ReadFault.{ReadFault}
use Rattle.body_reader.specs.declared.fault.ReadFault.TheVariants.{Malformed}

-- one instruction of a flat list
pub data Item : Type 0 where
  PlainItem : (i : Instr) → Item
  TableItem : (labels : List ℕ) (last : ℕ) → Item
  OpenItem : (code : ℕ) (result : Option ValType) → Item
  ElseItem : Item
  EndItem : Item

-- the codes of block, loop and if
abbrev pub IsOpener : ℕ → Type 0
IsOpener code = (code ≡ 0x02) ⊎ ((code ≡ 0x03) ⊎ (code ≡ 0x04))

-- Core 1.0, 5.4: these bytes spell it
abbrev pub SpellsItem : List ℕ → Item → Type 0
SpellsItem bytes (PlainItem i) = SpellsPlain bytes i
SpellsItem bytes (TableItem labels last) = SpellsTable bytes labels last
SpellsItem bytes (OpenItem code result) = (ty : List ℕ) × IsOpener code × SpellsBlockType ty result × (bytes ≡ code ∷ ty)
SpellsItem bytes ElseItem = bytes ≡ 0x05 ∷ []
SpellsItem bytes EndItem = bytes ≡ 0x0B ∷ []

-- it as an instruction, where so many labels are pooled before it
abbrev pub instr_of : (first : ℕ) → Item → Instr
instr_of first (PlainItem i) = i
instr_of first (TableItem labels last) = table_instr first (length labels) last
instr_of first (OpenItem code result) = record { code = code; imm = imm.Block result }
instr_of first ElseItem = else_instr
instr_of first EndItem = end_instr

-- the labels that it pools
abbrev pub labels_in : Item → List ℕ
labels_in (PlainItem i) = []
labels_in (TableItem labels last) = labels
labels_in (OpenItem code result) = []
labels_in ElseItem = []
labels_in EndItem = []

-- the flat list of these, where so many labels are pooled before them
abbrev pub code_of : (first : ℕ) → List Item → List Instr
code_of first [] = []
code_of first (item ∷ items) = instr_of first item ∷ code_of (first + length (labels_in item)) items

abbrev pub pooled : List Item → List ℕ
pooled [] = []
pooled (item ∷ items) = labels_in item ++ pooled items

-- the instructions of a tree in the order of the bytes
abbrev pub items_of : Code → List Item
items_of Empty = []
items_of (Then i rest) = PlainItem i ∷ items_of rest
items_of (TableOf labels last rest) = TableItem labels last ∷ items_of rest
items_of (BlockOf result inside rest) = OpenItem 0x02 result ∷ (items_of inside ++ EndItem ∷ items_of rest)
items_of (LoopOf result inside rest) = OpenItem 0x03 result ∷ (items_of inside ++ EndItem ∷ items_of rest)
items_of (IfOf result inside rest) = OpenItem 0x04 result ∷ (items_of inside ++ EndItem ∷ items_of rest)
items_of (IfElseOf result inside other rest) =
    OpenItem 0x04 result ∷ (items_of inside ++ ElseItem ∷ (items_of other ++ EndItem ∷ items_of rest))

-- how many lists are open after it, of so many before
abbrev pub depth_after : Item → ℕ → ℕ
depth_after (PlainItem i) depth = depth
depth_after (TableItem labels last) depth = depth
depth_after (OpenItem code result) depth = depth + 1
depth_after ElseItem depth = depth
depth_after EndItem depth = depth - 1

-- What reading one instruction answers, where S says what spells it and the labels are pooled: the item that is spelled
-- at the cursor; Malformed only where none is.
abbrev pub AnswersItem : (S : List ℕ → Item → Type 0) → (old new : Place) → (pool pool' : List ℕ) → Result Instr ReadFault → Type 0
AnswersItem S old new pool pool' result =
    MatchResult result
    (λ instr. (item : Item) × ReadsOnly S old new item × (instr ≡ instr_of (length pool) item) × (pool' ≡ pool ++ labels_in item))
    (λ e. e ≡ Malformed → NoFront S old.left)

-- of so many open lists, these items leave none, and the last of them is the one that ends the last list
abbrev pub Closes : (depth : ℕ) → List Item → Type 0
Closes depth [] = depth ≡ 0
Closes depth (item ∷ items) = (0 < depth) × Closes (depth_after item depth) items

-- the item is what some bytes spell
abbrev pub IsKnown : Item → Type 0
IsKnown (PlainItem i) = IsPlain i
IsKnown (TableItem labels last) = Unit {0}
IsKnown (OpenItem code result) = IsOpener code
IsKnown ElseItem = Unit {0}
IsKnown EndItem = Unit {0}

-- What was read of an expression, where so many lists are still open: the bytes passed over spell these items, and of
-- every expression that is spelled there they are the first.
pub record Collects (old now : Place) (code : List Instr) (labels : List ℕ) (depth : ℕ) : Type 0 where
  pub items : List Item
  pub passed : List ℕ
  pub spells : SpellsItems SpellsItem passed items
  pub passes : Passes old now passed
  pub code_is : code ≡ code_of 0 items
  pub labels_are : labels ≡ pooled items
  pub no_more : length items + length labels ≤ length passed
  pub shallow : depth ≤ length items + 1
  pub only : (c : Code) (s : List ℕ) (rest : List ℕ) → SpellsCode s c → old.left ≡ (s ++ 0x0B ∷ []) ++ rest
      → (m : List Item) × (u : List ℕ) × SpellsItems SpellsItem u m × (items_of c ++ EndItem ∷ [] ≡ items ++ m) × (s ++ 0x0B ∷ [] ≡ passed ++ u) × Closes depth m
