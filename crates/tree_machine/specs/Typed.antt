-- Typed configurations: the typing of a module says of each which types its values have, so that a rule applies to it.
use Rattle.std.specs.Prelude.{◌≡◌, ℕ, ◌*◌, ◌%◌, ◌^◌, ◌<◌, ◌≤◌, ⊤, List, [], ◌∷◌, ◌++◌, length, map, reverse, replicate, flat_map, All, slice_get, Option, Some, None, option_map, option_to_list, true}
use Rattle.linear_memory.specs.Contents.{Contents, page_size}
use Rattle.host_port.specs.Standing.{State, Ready, Asking, Finished, Trapped, Exhausted}
use Rattle.wasm_form.specs.declared.value_type.ValType.{ValType}
use Rattle.wasm_form.specs.declared.value_type.ValType.TheVariants.{I32, I64, F32, F64}
use Rattle.wasm_form.specs.declared.types.FuncType.{FuncType}
use Rattle.wasm_form.specs.declared.types.GlobalType.{GlobalType}
use Rattle.wasm_form.specs.declared.body.LocalRun.{LocalRun}
use Rattle.wasm_form.specs.declared.parts.Parts.{Parts}
use Rattle.wasm_form.specs.Trees.{Code, Empty, Then, TableOf, BlockOf, LoopOf, IfOf, IfElseOf}
use Rattle.wasm_form.specs.Matching.{IsPlain}
use Rattle.wasm_form.specs.Ranges.{IsOctet}
use Rattle.wasm_form.specs.declared.instr.Imm.{Imm}
use Rattle.wasm_form.specs.declared.instr.Imm.TheVariants as imm
use Rattle.wasm_form.specs.Context.{Context, functions_of, memories_of, globals_of, context_of}
use Rattle.wasm_form.specs.Typing.{arrow, value_type, Types}
use Rattle.wasm_form.specs.Profile.{Host as Offer}
use Rattle.host_port.specs.Forms.{HasForm}
use Rattle.host_port.specs.HostTable.{Row, row_of_import}
use Rattle.host_port.specs.declared.call.Call.{Call}
use Rattle.host_port.specs.declared.start.Start.{Start}
use Rattle.host_port.specs.TypedValue.{TypedValue}
use Rattle.tree_machine.specs.Functions.{Function, Callee, Host, type_of, own_function, callee_of}
use Rattle.tree_machine.specs.Config.{Label, Leave, Again, Cont, Frame, Invocation, Config}
use Rattle.tree_machine.specs.Point.{Point}
use Rattle.tree_machine.specs.Outcomes.{Outcome, Goes, Calls, Traps, Exceeds, Stuck}

-- Core 1.0, 4.2.1: a number is a value of this type
abbrev pub IsValue : ValType → ℕ → Type 0
IsValue I32 n = n < 2 ^ 32
IsValue I64 n = n < 2 ^ 64
IsValue F32 n = n < 2 ^ 32
IsValue F64 n = n < 2 ^ 64

-- as many values as types, each of its type
abbrev pub AreValues : List ValType → List ℕ → Type 0
AreValues [] [] = ⊤
AreValues (t ∷ ts) (n ∷ ns) = IsValue t n × AreValues ts ns
AreValues [] (n ∷ ns) = ⊥
AreValues (t ∷ ts) [] = ⊥

-- a constant is a value of its type
abbrev pub HasConstant : Imm → Type 0
HasConstant (imm.I32 n) = n < 2 ^ 32
HasConstant (imm.I64 n) = n < 2 ^ 64
HasConstant i = ⊤

-- each instruction that stands by itself is a plain one, and a constant is a value of its type
abbrev pub HasInstrs : Code → Type 0
HasInstrs Empty = ⊤
HasInstrs (Then i rest) = IsPlain i × HasConstant i.imm × HasInstrs rest
HasInstrs (TableOf labels last rest) = HasInstrs rest
HasInstrs (BlockOf result inside rest) = HasInstrs inside × HasInstrs rest
HasInstrs (LoopOf result inside rest) = HasInstrs inside × HasInstrs rest
HasInstrs (IfOf result inside rest) = HasInstrs inside × HasInstrs rest
HasInstrs (IfElseOf result inside other rest) = HasInstrs inside × HasInstrs other × HasInstrs rest

-- the context with these labels
abbrev pub with_labels : List (List ValType) → Context → Context
with_labels labels context = record context { labels = labels }

-- a branch to the label carries these, and the list under it ends with that stack; there is a list around a loop's, and
-- the loop may begin again
abbrev pub LabelTyped : Context → Label → (carried ends : List ValType) → (around : List (List ValType)) → Type 0
LabelTyped context (Leave results) carried ends around = (results ≡ length carried) × (ends ≡ reverse carried)
LabelTyped context (Again result inside) carried ends [] = ⊥
LabelTyped context (Again result inside) carried ends (a ∷ around) =
    (carried ≡ []) × (ends ≡ option_to_list result) × HasInstrs inside
    × Types (with_labels ([] ∷ a ∷ around) context) inside [] ends

-- what is left of a list leads from this stack to the stack with which it ends, and the operands below it have their
-- types; below the body's there are none
pub record ContTyped (context : Context) (carried : List ValType) (around : List (List ValType)) (k : Cont)
    (stack ends below : List ValType) : Type 0 where
  pub instrs : HasInstrs k.rest
  pub leads : Types (with_labels (carried ∷ around) context) k.rest stack ends
  pub label : LabelTyped context k.label carried ends around
  pub under : AreValues below k.under
  pub outermost : around ≡ [] → below ≡ []

-- the lists that have begun, from this stack on; where none is left, the stack is the function's results
abbrev pub ContsTyped : Context → (labels : List (List ValType)) → List Cont → (stack : List ValType) → Type 0
ContsTyped context [] [] stack = stack ≡ reverse context.results
ContsTyped context (carried ∷ around) (k ∷ ks) stack =
    (ends : List ValType) × (below : List ValType) × ContTyped context carried around k stack ends below
    × ContsTyped context around ks (ends ++ below)
ContsTyped context [] (k ∷ ks) stack = ⊥
ContsTyped context (carried ∷ around) [] stack = ⊥

-- a frame of a function of this type, which goes on when these are given on top of its operands
pub record FrameTyped (m : Parts) (given : List ValType) (f : Frame) (ty : FuncType) : Type 0 where
  pub runs : List LocalRun
  pub labels : List (List ValType)
  pub stack : List ValType
  pub locals : AreValues (context_of m ty runs).locals f.locals
  pub operands : AreValues stack f.operands
  pub conts : ContsTyped (context_of m ty runs) labels f.conts (given ++ stack)

-- frames, each of which gives its results to the one below it
abbrev pub FramesTyped : Parts → (given : List ValType) → List Frame → Type 0
FramesTyped m given [] = ⊤
FramesTyped m given (f ∷ below) = (ty : FuncType) × FrameTyped m given f ty × FramesTyped m (reverse ty.results) below

-- each element that is set is a function
abbrev pub ElementsKnown : Parts → List (Option ℕ) → Type 0
ElementsKnown m table =
    (place index : ℕ) → slice_get table place ≡ Some (Some index) → (callee : Callee) × (callee_of m index ≡ Some callee)

-- the bytes of a memory are bytes, whole pages of them, no more than it may have, and its pages are counted by an i32
pub record IsTypedMemory (memory : Contents) : Type 0 where
  pub octets : All IsOctet memory.bytes
  pub whole : length memory.bytes % page_size ≡ 0
  pub within : length memory.bytes ≤ memory.most * page_size
  pub most : memory.most ≤ 65536

-- a memory is there where the module has one
abbrev pub MemoryTyped : Parts → Option Contents → Type 0
MemoryTyped m None = ¬ (0 < length (memories_of m))
MemoryTyped m (Some memory) = IsTypedMemory memory

-- the function is the module's, and the arguments have the types of its parameters
abbrev pub InvocationTyped : Parts → Invocation → Type 0
InvocationTyped m i =
    (function : Function) × (own_function m i.function ≡ Some function) × AreValues function.ty.params i.arguments

abbrev pub InvocationsTyped : Parts → List Invocation → Type 0
InvocationsTyped m [] = ⊤
InvocationsTyped m (i ∷ rest) = InvocationTyped m i × InvocationsTyped m rest

-- a typed configuration, whose innermost frame goes on when these are given on top of its operands
pub record IsTyped (m : Parts) (given : List ValType) (c : Config) : Type 0 where
  pub globals : AreValues (map (λ (g : GlobalType). g.ty) (globals_of m)) c.globals
  pub table : ElementsKnown m c.table
  pub memory : MemoryTyped m c.memory
  pub invocations : InvocationsTyped m c.invocations
  pub frames : FramesTyped m given c.frames

-- an instruction is to come
abbrev pub IsNext : Code → Type 0
IsNext Empty = ⊥
IsNext code = ⊤

abbrev pub HasNextIn : List Cont → Type 0
HasNextIn [] = ⊥
HasNextIn (k ∷ ks) = IsNext k.rest

abbrev pub HasNext : List Frame → Type 0
HasNext [] = ⊥
HasNext (f ∷ below) = HasNextIn f.conts

-- a run stands at a typed configuration: ready at its next instruction, or waiting for results of this call's type
abbrev pub IsTypedAt : Parts → State → Config → Type 0
IsTypedAt m Ready c = IsTyped m [] c × HasNext c.frames
IsTypedAt m (Asking ask) c =
    (index : ℕ) × (ty : FuncType) × (callee_of m index ≡ Some (Host ty ask.call)) × IsTyped m (reverse ty.results) c
IsTypedAt m Finished c = ⊤
IsTypedAt m (Trapped trap) c = ⊤
IsTypedAt m (Exhausted spent) c = ⊤

-- a run stands somewhere, at a typed configuration
abbrev pub StandsTyped : Parts → Option Point → Type 0
StandsTyped m o = (p : Point) × (o ≡ Some p) × IsTypedAt m p.state p.config

-- what the typing of a module says of a function of its own
pub record IsTypedFunction (m : Parts) (function : Function) : Type 0 where
  pub runs : List LocalRun
  pub locals : function.locals ≡ length (flat_map (λ (run : LocalRun). replicate run.count run.ty) runs)
  pub instrs : HasInstrs function.code
  pub typed : Types (context_of m function.ty runs) function.code [] (reverse function.ty.results)

-- a module whose functions are typed, each function that is named being there with its type
pub record IsTypedModule (m : Parts) : Type 0 where
  pub functions : (index : ℕ) (function : Function) → own_function m index ≡ Some function → IsTypedFunction m function
  pub callees : (index place : ℕ) (ty : FuncType) →
      slice_get (functions_of m) index ≡ Some place → slice_get m.types place ≡ Some ty →
      (callee : Callee) × (callee_of m index ≡ Some callee) × (type_of callee ≡ ty)

-- a rule applies, and what it leaves is typed again; a call of the host waits for the results of its type
abbrev pub IsKept : Parts → Outcome → Type 0
IsKept m (Goes to) = IsTyped m [] to
IsKept m (Calls ask results waits) =
    (index : ℕ) × (ty : FuncType) × (callee_of m index ≡ Some (Host ty ask.call)) × (results ≡ length ty.results)
    × IsTyped m (reverse ty.results) waits
IsKept m (Traps trap) = ⊤
IsKept m (Exceeds spent) = ⊤
IsKept m Stuck = ⊥

-- the type of the host call in a row of the host table, as a module writes it
abbrev pub offered_type : Row → FuncType
offered_type row = arrow (map value_type row.params) (option_to_list (option_map value_type row.result))

-- this is what the host offers by its table
abbrev pub Offers : Offer → Type 0
Offers host = (import_module name : List ℕ) → host import_module name ≡ option_map offered_type (row_of_import import_module name)

-- a call was answered so: the areas of its request fit, and the reply has the form of the call
pub record IsAnswered (call : Call) : Type 0 where
  pub fits : call.request.fits ≡ true
  pub form : HasForm call.request.ask call.reply

-- each of these calls was
abbrev pub HasForms : List Call → Type 0
HasForms calls = All IsAnswered calls

-- a process may have 1,024 pages at most, and the parameters are values of their types
pub record IsTypedStart (start : Start) : Type 0 where
  pub pages : start.limits.pages ≤ 1024
  pub params : AreValues (map (λ (p : TypedValue). value_type p.num) start.params) (map (λ (p : TypedValue). p.value) start.params)
