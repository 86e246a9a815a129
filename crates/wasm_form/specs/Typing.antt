-- The types of instructions, over stacks of value types (Core 1.0, 3.3). A stack has its top first. What an instruction
-- takes and gives is listed as the standard lists it, the top last. No float instruction has a type here (the profile,
-- which has none, is judged first); the others take every value type.
use Rattle.std.specs.Prelude.{◌≡◌, ℕ, ◌≤◌, ◌^◌, ◌⊎◌, true, List, [], ◌∷◌, ◌++◌, reverse, All, slice_get, Some, None, option_map, option_to_list}
use Rattle.wasm_ops.specs.declared.num.Num.{Num}
use Rattle.wasm_ops.specs.declared.num.Num.TheVariants as num
use Rattle.wasm_ops.specs.declared.instruction.Kind.TheVariants as kinds
use Rattle.wasm_ops.specs.Table.{kind_of, first_of, second_of, result_of, width_of}
use Rattle.wasm_form.specs.declared.value_type.ValType.{ValType}
use Rattle.wasm_form.specs.declared.value_type.ValType.TheVariants.{I32, I64}
use Rattle.wasm_form.specs.declared.types.FuncType.{FuncType}
use Rattle.wasm_form.specs.declared.types.GlobalType.{GlobalType}
use Rattle.wasm_form.specs.declared.instr.Instr.{Instr}
use Rattle.wasm_form.specs.declared.instr.Imm.TheVariants as imm
use Rattle.wasm_form.specs.declared.expr.Expr.{Expr}
use Rattle.wasm_form.specs.Trees.{Code, Empty, Then, TableOf, BlockOf, LoopOf, IfOf, IfElseOf, IsFlat}
use Rattle.wasm_form.specs.Matching.{HasPlain}
use Rattle.wasm_form.specs.Context.{Context, with_label, IsFunctionType, HasTable, HasMemory}

-- the type of what takes these operands and gives these results
abbrev pub arrow : (takes gives : List ValType) → FuncType
arrow takes gives = record { params = takes; results = gives }

-- it leads from one stack to another, and keeps what lies below its operands
abbrev pub Applies : FuncType → (before after : List ValType) → Type 0
Applies ty before after =
    (below : List ValType) × (before ≡ reverse ty.params ++ below) × (after ≡ reverse ty.results ++ below)

-- the value type of an integer type
abbrev pub value_type : Num → ValType
value_type num.I32 = I32
value_type num.I64 = I64

-- what the table of the instructions says that an integer operation, a load or a store takes and gives
abbrev pub listed_type : (code : ℕ) → FuncType
listed_type code =
    arrow (option_to_list (option_map value_type (first_of code)) ++ option_to_list (option_map value_type (second_of code)))
    (option_to_list (option_map value_type (result_of code)))

-- Core 1.0, 3.3.1: a constant of this type
abbrev pub IsConstant : Instr → ValType → Type 0
IsConstant i t = ((i.code ≡ 0x41) × (t ≡ I32)) ⊎ ((i.code ≡ 0x42) × (t ≡ I64))

-- Core 1.0, 3.3.1, numeric instructions: a constant gives its value; the others are as the table says
abbrev pub IsNumeric : Instr → FuncType → Type 0
IsNumeric i ty =
    ((t : ValType) × IsConstant i t × (ty ≡ arrow [] (t ∷ [])))
    ⊎ ((kind_of i.code ≡ kinds.Plain) × (ty ≡ listed_type i.code))

-- Core 1.0, 3.3.2, parametric instructions: drop, and select
abbrev pub IsParametric : Instr → FuncType → Type 0
IsParametric i ty =
    ((t : ValType) × (i.code ≡ 0x1A) × (ty ≡ arrow (t ∷ []) []))
    ⊎ ((t : ValType) × (i.code ≡ 0x1B) × (ty ≡ arrow (t ∷ t ∷ I32 ∷ []) (t ∷ [])))

-- Core 1.0, 3.3.3, variable instructions: local.get, local.set, local.tee
abbrev pub IsLocal : Context → Instr → FuncType → Type 0
IsLocal context i ty =
    (x : ℕ) × (t : ValType) × (i.imm ≡ imm.Index x) × (slice_get context.locals x ≡ Some t)
    × (((i.code ≡ 0x20) × (ty ≡ arrow [] (t ∷ [])))
    ⊎ ((i.code ≡ 0x21) × (ty ≡ arrow (t ∷ []) []))
    ⊎ ((i.code ≡ 0x22) × (ty ≡ arrow (t ∷ []) (t ∷ []))))

-- Core 1.0, 3.3.3, variable instructions: global.get, and global.set of a mutable global
abbrev pub IsGlobal : Context → Instr → FuncType → Type 0
IsGlobal context i ty =
    (x : ℕ) × (g : GlobalType) × (i.imm ≡ imm.Index x) × (slice_get context.globals x ≡ Some g)
    × (((i.code ≡ 0x23) × (ty ≡ arrow [] (g.ty ∷ [])))
    ⊎ ((i.code ≡ 0x24) × (g.mutable ≡ true) × (ty ≡ arrow (g.ty ∷ []) [])))

-- Core 1.0, 3.3.4, memory instructions: loads and stores are as the table says, aligned at most to their width
abbrev pub IsAccess : Context → Instr → FuncType → Type 0
IsAccess context i ty =
    (align : ℕ) × (offset : ℕ) × (i.imm ≡ imm.Mem align offset) × (2 ^ align ≤ width_of i.code) × HasMemory context
    × ((kind_of i.code ≡ kinds.Load) ⊎ (kind_of i.code ≡ kinds.Store)) × (ty ≡ listed_type i.code)

-- Core 1.0, 3.3.4, memory instructions: memory.size and memory.grow
abbrev pub IsMemorySize : Context → Instr → FuncType → Type 0
IsMemorySize context i ty =
    HasMemory context
    × (((i.code ≡ 0x3F) × (ty ≡ arrow [] (I32 ∷ []))) ⊎ ((i.code ≡ 0x40) × (ty ≡ arrow (I32 ∷ []) (I32 ∷ []))))

-- Core 1.0, 3.3.5, control instructions: a br_if keeps what a branch to its label carries
abbrev pub IsBranchIf : Context → Instr → FuncType → Type 0
IsBranchIf context i ty =
    (label : ℕ) × (carried : List ValType) × (i.code ≡ 0x0D) × (i.imm ≡ imm.Index label)
    × (slice_get context.labels label ≡ Some carried) × (ty ≡ arrow (carried ++ I32 ∷ []) carried)

-- Core 1.0, 3.3.5, control instructions: a call is of its function's type
abbrev pub IsCall : Context → Instr → FuncType → Type 0
IsCall context i ty =
    (function : ℕ) × (i.code ≡ 0x10) × (i.imm ≡ imm.Index function) × IsFunctionType context function ty

-- Core 1.0, 3.3.5, control instructions: a call through the table takes the place in the table besides
abbrev pub IsCallIndirect : Context → Instr → FuncType → Type 0
IsCallIndirect context i ty =
    (x : ℕ) × (callee : FuncType) × (i.code ≡ 0x11) × (i.imm ≡ imm.Index x) × HasTable context
    × (slice_get context.types x ≡ Some callee) × (ty ≡ arrow (callee.params ++ I32 ∷ []) callee.results)

-- Core 1.0, 3.3.1 to 3.3.5: an instruction that goes on to the next one has this type
pub data HasType (context : Context) (i : Instr) (ty : FuncType) : Type 0 where
  Numeric : (is : IsNumeric i ty) → HasType context i ty
  Parametric : (is : IsParametric i ty) → HasType context i ty
  Local : (is : IsLocal context i ty) → HasType context i ty
  Global : (is : IsGlobal context i ty) → HasType context i ty
  Access : (is : IsAccess context i ty) → HasType context i ty
  MemorySize : (is : IsMemorySize context i ty) → HasType context i ty
  Nop : (code : i.code ≡ 0x01) (is : ty ≡ arrow [] []) → HasType context i ty
  BranchIf : (is : IsBranchIf context i ty) → HasType context i ty
  Call : (is : IsCall context i ty) → HasType context i ty
  CallIndirect : (is : IsCallIndirect context i ty) → HasType context i ty

-- Core 1.0, 3.3.5: unreachable, br and return, which do not go on to the next instruction, need these on top
abbrev pub Leaves : Context → Instr → (needs : List ValType) → Type 0
Leaves context i needs =
    ((i.code ≡ 0x00) × (needs ≡ []))
    ⊎ ((label : ℕ) × (i.code ≡ 0x0C) × (i.imm ≡ imm.Index label) × (slice_get context.labels label ≡ Some needs))
    ⊎ ((i.code ≡ 0x0F) × (needs ≡ context.results))

-- Core 1.0, 3.3.5: br_table needs what its labels carry, each of them the same, and a number
abbrev pub TableLeaves : Context → (labels : List ℕ) → (last : ℕ) → (needs : List ValType) → Type 0
TableLeaves context labels last needs =
    (carried : List ValType) × (slice_get context.labels last ≡ Some carried)
    × All (λ label. slice_get context.labels label ≡ Some carried) labels × (needs ≡ carried ++ I32 ∷ [])

-- these lie on top
abbrev pub EndsIn : (needs stack : List ValType) → Type 0
EndsIn needs stack = (below : List ValType) × (stack ≡ reverse needs ++ below)

-- an instruction leads from one stack to another; after one that does not go on to the next, to any stack
abbrev pub Leads : Context → Instr → (before after : List ValType) → Type 0
Leads context i before after =
    ((ty : FuncType) × HasType context i ty × Applies ty before after)
    ⊎ ((needs : List ValType) × Leaves context i needs × EndsIn needs before)

-- Core 1.0, 3.3.5 and 3.3.6, blocks and sequences: the instructions lead from one stack to another, one after another.
-- The inside of a block leads from the empty stack to its result; a branch to a loop carries nothing
abbrev pub Types : Context → Code → (before after : List ValType) → Type 0
Types context Empty before after = after ≡ before
Types context (Then i rest) before after =
    (between : List ValType) × Leads context i before between × Types context rest between after
Types context (TableOf labels last rest) before after =
    (between : List ValType) × (needs : List ValType) × TableLeaves context labels last needs × EndsIn needs before
    × Types context rest between after
Types context (BlockOf result inside rest) before after =
    Types (with_label (option_to_list result) context) inside [] (option_to_list result)
    × Types context rest (option_to_list result ++ before) after
Types context (LoopOf result inside rest) before after =
    Types (with_label [] context) inside [] (option_to_list result)
    × Types context rest (option_to_list result ++ before) after
Types context (IfOf result inside rest) before after =
    (below : List ValType) × (before ≡ I32 ∷ below) × (result ≡ None)
    × Types (with_label [] context) inside [] [] × Types context rest below after
Types context (IfElseOf result inside other rest) before after =
    (below : List ValType) × (before ≡ I32 ∷ below)
    × Types (with_label (option_to_list result) context) inside [] (option_to_list result)
    × Types (with_label (option_to_list result) context) other [] (option_to_list result)
    × Types context rest (option_to_list result ++ below) after

-- Core 1.0, 3.3.7, expressions: the instructions lead from the empty stack to these results
abbrev pub IsTyped : Context → Expr → (results : List ValType) → Type 0
IsTyped context e results = (tree : Code) × HasPlain tree × IsFlat e tree × Types context tree [] (reverse results)
