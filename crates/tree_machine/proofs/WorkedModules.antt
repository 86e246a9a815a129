-- Modules with functions, a table, a memory and imports, run by the definitions.
use Rattle.std.proofs.Common.{◌≡◌, ℕ, ◌+◌, ◌^◌, ◌-◌, ◌*◌, List, [], ◌∷◌, ◌++◌, replicate, Some, None, refl, true, codes}
use Rattle.wasm_ops.specs.declared.num.Num.TheVariants as num
use Rattle.wasm_ops.specs.declared.trap.Trap.TheVariants as traps
use Rattle.host_port.specs.HostTable.{areas_read, areas_of, are_sound, row_of, row_of_import, all_rows, is_served}
use Rattle.host_port.specs.Standing.{Ready, Asking, Finished, Trapped, Exhausted, state_of}
use Rattle.host_port.specs.declared.stop.Spent.TheVariants as limit
use Rattle.host_port.specs.declared.ask.Ask.{Ask}
use Rattle.host_port.specs.declared.call.Call.{Call}
use Rattle.host_port.specs.declared.start.StartRefusal.TheVariants.{NoExport, BadParams, PagesOver, SegmentOut}
use Rattle.wasm_form.specs.declared.instr.Instr.{Instr}
use Rattle.wasm_form.specs.declared.instr.Imm.TheVariants as imm
use Rattle.wasm_form.specs.declared.expr.Expr.{Expr}
use Rattle.wasm_form.specs.declared.body.Body.{Body}
use Rattle.wasm_form.specs.declared.types.FuncType.{FuncType}
use Rattle.wasm_form.specs.declared.value_type.ValType.{ValType}
use Rattle.wasm_form.specs.declared.value_type.ValType.TheVariants.{I32, I64}
use Rattle.wasm_form.specs.declared.parts.Parts.{Parts}
use Rattle.wasm_form.specs.declared.parts.ExportKind.TheVariants as kind
use Rattle.wasm_form.specs.declared.parts.Imported.TheVariants as imported
use Rattle.wasm_form.specs.Trees.{end_instr, if_instr}
use Rattle.tree_machine.specs.Trees.{read, tree_of}
use Rattle.tree_machine.specs.Instructions.{plain_of}
use Rattle.tree_machine.specs.Functions.{Function, own_function, callee_of}
use Rattle.tree_machine.specs.Config.{Config, Frame, frame_of, with_frames}
use Rattle.tree_machine.specs.Outcomes.{Goes, Exceeds}
use Rattle.tree_machine.specs.Calls.{enter}
use Rattle.tree_machine.specs.Limits.{judged}
use Rattle.tree_machine.specs.Exits.{settled}
use Rattle.tree_machine.specs.Point.{settle}
use Rattle.tree_machine.specs.Step.{execute_plain, next, step}
use Rattle.tree_machine.specs.Replies.{same_request, replied}
use Rattle.tree_machine.specs.Instantiation.{value_of, segments_lie_in}
use Rattle.tree_machine.specs.Begin.{entry_of, begin, begun}
use Rattle.tree_machine.specs.Run.{run, point_at, at}
use Rattle.tree_machine.proofs.Worked.{start, bare, i32, index}

abbrev ty : List ValType → List ValType → FuncType
ty params results = record { params = params; results = results }

abbrev expr : List Instr → Expr
expr list = record { code = list ++ end_instr ∷ []; labels = []; matches = [] }

abbrev no_locals : List Instr → Body
no_locals list = record { locals = []; expr = expr list }

-- functions 0 and on, of these types, the first of which is exported as `_start`; a table of three, a memory of one page
abbrev functions : List FuncType → List Body → Parts
functions types bodies = record {
  types = types;
  imports = [];
  functions = [];
  tables = record { min = 3; max = None } ∷ [];
  memories = record { min = 1; max = None } ∷ [];
  globals = record { ty = record { ty = I32; mutable = true }; init = expr (i32 9 ∷ []) } ∷ [];
  exports = record { name = codes "_start"; kind = kind.Function; index = 0 } ∷ [];
  start = None;
  elements = [];
  segments = [];
  bodies = bodies;
}

-- 10 - 3 by a call, in the order of the arguments: const const call get get sub const sub if
calls : state_of (at (record (functions (ty [] [] ∷ ty (I32 ∷ I32 ∷ []) (I32 ∷ []) ∷ []) (no_locals (i32 10 ∷ i32 3 ∷ index 0x10 1 ∷ i32 7 ∷ bare 0x6B ∷ if_instr None ∷ bare 0x00 ∷ end_instr ∷ []) ∷ no_locals (index 0x20 0 ∷ index 0x20 1 ∷ bare 0x6B ∷ []) ∷ [])) { functions = 0 ∷ 1 ∷ [] }) (start 100) [] 9) ≡ Some Finished
unfolding at point_at run step next execute_plain judged settle settled begin begun entry_of own_function callee_of tree_of read plain_of value_of segments_lie_in same_request replied areas_read areas_of
calls = refl

-- a function that calls itself: ready after 40
deep : state_of (at (record (functions (ty [] [] ∷ []) (no_locals (index 0x10 0 ∷ []) ∷ [])) { functions = 0 ∷ [] }) (start 10000) [] 40) ≡ Some Ready
unfolding at point_at run step next execute_plain judged settle settled begin begun entry_of own_function callee_of tree_of read plain_of value_of segments_lie_in same_request replied areas_read areas_of
deep = refl

-- at as many frames as may be a call is refused
too_deep : (function : Function) (c : Config) (f : Frame) → enter function [] c (replicate 2048 f) ≡ Exceeds limit.Frames
too_deep function c f = refl

-- at one less it makes the last frame
deepest : (function : Function) (c : Config) (f : Frame) →
    enter function [] c (replicate 2047 f) ≡ Goes (with_frames (frame_of function [] ∷ replicate 2047 f) c)
deepest function c f = refl

-- as many locals as may be: none further
full : state_of (at (record (functions (ty [] [] ∷ []) (record { locals = record { count = 32768; ty = I32 } ∷ []; expr = expr (i32 1 ∷ bare 0x1A ∷ []) } ∷ [])) { functions = 0 ∷ [] }) (start 10000) [] 0) ≡ Some Ready
unfolding at point_at run step next execute_plain judged settle settled begin begun entry_of own_function callee_of tree_of read plain_of value_of segments_lie_in same_request replied areas_read areas_of
full = refl

-- one operand more
overfull : state_of (at (record (functions (ty [] [] ∷ []) (record { locals = record { count = 32768; ty = I32 } ∷ []; expr = expr (i32 1 ∷ bare 0x1A ∷ []) } ∷ [])) { functions = 0 ∷ [] }) (start 10000) [] 1) ≡ Some (Exhausted limit.Values)
unfolding at point_at run step next execute_plain judged settle settled begin begun entry_of own_function callee_of tree_of read plain_of value_of segments_lie_in same_request replied areas_read areas_of
overfull = refl

-- one local too many, also of a function that returns at once
overfull_entry : state_of (at (record (functions (ty [] [] ∷ []) (record { locals = record { count = 32769; ty = I32 } ∷ []; expr = expr [] } ∷ [])) { functions = 0 ∷ [] }) (start 10000) [] 0) ≡ Some (Exhausted limit.Values)
unfolding at point_at run step next execute_plain judged settle settled begin begun entry_of own_function callee_of tree_of read plain_of value_of segments_lie_in same_request replied areas_read areas_of
overfull_entry = refl

-- an empty start function is left at once, and then the entry stands
start_first : state_of (at (record (functions (ty [] [] ∷ []) (no_locals (bare 0x01 ∷ []) ∷ no_locals ([]) ∷ [])) { functions = 0 ∷ 0 ∷ []; start = Some 1 }) (start 10000) [] 0) ≡ Some Ready
unfolding at point_at run step next execute_plain judged settle settled begin begun entry_of own_function callee_of tree_of read plain_of value_of segments_lie_in same_request replied areas_read areas_of
start_first = refl

-- the start function is executed, and then an empty entry function
start_then_entry : state_of (at (record (functions (ty [] [] ∷ []) (no_locals ([]) ∷ no_locals (bare 0x01 ∷ bare 0x01 ∷ []) ∷ [])) { functions = 0 ∷ 0 ∷ []; start = Some 1 }) (start 10000) [] 2) ≡ Some Finished
unfolding at point_at run step next execute_plain judged settle settled begin begun entry_of own_function callee_of tree_of read plain_of value_of segments_lie_in same_request replied areas_read areas_of
start_then_entry = refl

-- call_indirect of the element that is set
indirect : state_of (at (record (functions (ty [] [] ∷ ty (I32 ∷ I32 ∷ []) (I32 ∷ []) ∷ []) (no_locals (i32 1 ∷ index 0x11 0 ∷ []) ∷ no_locals ([]) ∷ [])) { functions = 0 ∷ 0 ∷ []; elements = record { table = 0; offset = expr (i32 1 ∷ []); functions = 1 ∷ [] } ∷ [] }) (start 100) [] 2) ≡ Some Finished
unfolding at point_at run step next execute_plain judged settle settled begin begun entry_of own_function callee_of tree_of read plain_of value_of segments_lie_in same_request replied areas_read areas_of
indirect = refl

-- of one that is not
indirect_unset : state_of (at (record (functions (ty [] [] ∷ ty (I32 ∷ I32 ∷ []) (I32 ∷ []) ∷ []) (no_locals (i32 2 ∷ index 0x11 0 ∷ []) ∷ no_locals ([]) ∷ [])) { functions = 0 ∷ 0 ∷ []; elements = record { table = 0; offset = expr (i32 1 ∷ []); functions = 1 ∷ [] } ∷ [] }) (start 100) [] 2) ≡ Some (Trapped traps.NoElement)
unfolding at point_at run step next execute_plain judged settle settled begin begun entry_of own_function callee_of tree_of read plain_of value_of segments_lie_in same_request replied areas_read areas_of
indirect_unset = refl

-- of one past the table
indirect_past : state_of (at (record (functions (ty [] [] ∷ ty (I32 ∷ I32 ∷ []) (I32 ∷ []) ∷ []) (no_locals (i32 3 ∷ index 0x11 0 ∷ []) ∷ no_locals ([]) ∷ [])) { functions = 0 ∷ 0 ∷ []; elements = record { table = 0; offset = expr (i32 1 ∷ []); functions = 1 ∷ [] } ∷ [] }) (start 100) [] 2) ≡ Some (Trapped traps.TableBounds)
unfolding at point_at run step next execute_plain judged settle settled begin begun entry_of own_function callee_of tree_of read plain_of value_of segments_lie_in same_request replied areas_read areas_of
indirect_past = refl

-- by another type
indirect_type : state_of (at (record (functions (ty [] [] ∷ ty (I32 ∷ I32 ∷ []) (I32 ∷ []) ∷ []) (no_locals (i32 1 ∷ index 0x11 1 ∷ []) ∷ no_locals ([]) ∷ [])) { functions = 0 ∷ 0 ∷ []; elements = record { table = 0; offset = expr (i32 1 ∷ []); functions = 1 ∷ [] } ∷ [] }) (start 100) [] 2) ≡ Some (Trapped traps.WrongType)
unfolding at point_at run step next execute_plain judged settle settled begin begun entry_of own_function callee_of tree_of read plain_of value_of segments_lie_in same_request replied areas_read areas_of
indirect_type = refl

-- i32.load at -1 with the greatest offset
load_far : state_of (at (record (functions (ty [] [] ∷ []) (no_locals (i32 (2 ^ 32 - 1) ∷ record { code = 0x28; imm = imm.Mem 0 4294967295 } ∷ bare 0x1A ∷ []) ∷ [])) { functions = 0 ∷ [] }) (start 100) [] 2) ≡ Some (Trapped traps.Bounds)
unfolding at point_at run step next execute_plain judged settle settled begin begun entry_of own_function callee_of tree_of read plain_of value_of segments_lie_in same_request replied areas_read areas_of
load_far = refl

-- at the last place
load_last : state_of (at (record (functions (ty [] [] ∷ []) (no_locals (i32 (65532) ∷ record { code = 0x28; imm = imm.Mem 0 0 } ∷ bare 0x1A ∷ []) ∷ [])) { functions = 0 ∷ [] }) (start 100) [] 3) ≡ Some Finished
unfolding at point_at run step next execute_plain judged settle settled begin begun entry_of own_function callee_of tree_of read plain_of value_of segments_lie_in same_request replied areas_read areas_of
load_last = refl

-- one further
load_past : state_of (at (record (functions (ty [] [] ∷ []) (no_locals (i32 (65533) ∷ record { code = 0x28; imm = imm.Mem 0 0 } ∷ bare 0x1A ∷ []) ∷ [])) { functions = 0 ∷ [] }) (start 100) [] 2) ≡ Some (Trapped traps.Bounds)
unfolding at point_at run step next execute_plain judged settle settled begin begun entry_of own_function callee_of tree_of read plain_of value_of segments_lie_in same_request replied areas_read areas_of
load_past = refl

-- a data segment past the end
segment_out : begin (record (functions (ty [] [] ∷ []) (no_locals ([]) ∷ [])) { functions = 0 ∷ []; segments = record { memory = 0; offset = expr (i32 65535 ∷ []); bytes = 7 ∷ 255 ∷ [] } ∷ [] }) (start 100) ≡ Some SegmentOut
unfolding at point_at run step next execute_plain judged settle settled begin begun entry_of own_function callee_of tree_of read plain_of value_of segments_lie_in same_request replied areas_read areas_of
segment_out = refl

-- at the end
segment_in : begin (record (functions (ty [] [] ∷ []) (no_locals ([]) ∷ [])) { functions = 0 ∷ []; segments = record { memory = 0; offset = expr (i32 65534 ∷ []); bytes = 7 ∷ 255 ∷ [] } ∷ [] }) (start 100) ≡ None
unfolding at point_at run step next execute_plain judged settle settled begin begun entry_of own_function callee_of tree_of read plain_of value_of segments_lie_in same_request replied areas_read areas_of
segment_in = refl

-- its bytes: i32.load8_s of 255 is -1
segment_read : state_of (at (record (functions (ty [] [] ∷ []) (no_locals (i32 65535 ∷ record { code = 0x2C; imm = imm.Mem 0 0 } ∷ i32 1 ∷ bare 0x6A ∷ if_instr None ∷ bare 0x00 ∷ end_instr ∷ []) ∷ [])) { functions = 0 ∷ []; segments = record { memory = 0; offset = expr (i32 65534 ∷ []); bytes = 7 ∷ 255 ∷ [] } ∷ [] }) (start 100) [] 5) ≡ Some Finished
unfolding at point_at run step next execute_plain judged settle settled begin begun entry_of own_function callee_of tree_of read plain_of value_of segments_lie_in same_request replied areas_read areas_of
segment_read = refl

-- i64.store16 and i64.load32_u: the low bytes, little-endian
stored : state_of (at (record (functions (ty [] [] ∷ []) (no_locals (i32 4 ∷ record { code = 0x42; imm = imm.I64 (2 ^ 40 + 259) } ∷ record { code = 0x3D; imm = imm.Mem 0 1 } ∷ i32 5 ∷ record { code = 0x35; imm = imm.Mem 0 0 } ∷ record { code = 0x42; imm = imm.I64 (259 + 7 * 2 ^ 24) } ∷ bare 0x52 ∷ if_instr None ∷ bare 0x00 ∷ end_instr ∷ []) ∷ [])) { functions = 0 ∷ []; segments = record { memory = 0; offset = expr (i32 8 ∷ []); bytes = 7 ∷ 255 ∷ [] } ∷ [] }) (start 100) [] 8) ≡ Some Finished
unfolding at point_at run step next execute_plain judged settle settled begin begun entry_of own_function callee_of tree_of read plain_of value_of segments_lie_in same_request replied areas_read areas_of
stored = refl

-- memory.grow by 1 gives 1, and then the size is 2
grown : state_of (at (record (functions (ty [] [] ∷ []) (no_locals (i32 1 ∷ bare 0x40 ∷ bare 0x3F ∷ bare 0x6A ∷ i32 3 ∷ bare 0x47 ∷ if_instr None ∷ bare 0x00 ∷ end_instr ∷ []) ∷ [])) { functions = 0 ∷ [] }) (start 100) [] 7) ≡ Some Finished
unfolding at point_at run step next execute_plain judged settle settled begin begun entry_of own_function callee_of tree_of read plain_of value_of segments_lie_in same_request replied areas_read areas_of
grown = refl

-- by 64 gives -1, and by 0 then still 1
not_grown : state_of (at (record (functions (ty [] [] ∷ []) (no_locals (i32 64 ∷ bare 0x40 ∷ i32 0 ∷ bare 0x40 ∷ bare 0x6A ∷ if_instr None ∷ bare 0x00 ∷ end_instr ∷ []) ∷ [])) { functions = 0 ∷ [] }) (start 100) [] 6) ≡ Some Finished
unfolding at point_at run step next execute_plain judged settle settled begin begun entry_of own_function callee_of tree_of read plain_of value_of segments_lie_in same_request replied areas_read areas_of
not_grown = refl

-- a global is set and read
global : state_of (at (record (functions (ty [] [] ∷ []) (no_locals (index 0x23 0 ∷ i32 2 ∷ bare 0x6A ∷ index 0x24 0 ∷ index 0x23 0 ∷ i32 11 ∷ bare 0x47 ∷ if_instr None ∷ bare 0x00 ∷ end_instr ∷ []) ∷ [])) { functions = 0 ∷ [] }) (start 100) [] 8) ≡ Some Finished
unfolding at point_at run step next execute_plain judged settle settled begin begun entry_of own_function callee_of tree_of read plain_of value_of segments_lie_in same_request replied areas_read areas_of
global = refl

-- another name
other_name : begin (record (functions (ty [] [] ∷ []) (no_locals ([]) ∷ [])) { functions = 0 ∷ [] }) (record (start 100) { entry = codes "_begin" }) ≡ Some NoExport
unfolding at point_at run step next execute_plain judged settle settled begin begun entry_of own_function callee_of tree_of read plain_of value_of segments_lie_in same_request replied areas_read areas_of
other_name = refl

-- a parameter too many
one_param : begin (record (functions (ty [] [] ∷ []) (no_locals ([]) ∷ [])) { functions = 0 ∷ [] }) (record (start 100) { params = record { num = num.I32; value = 5 } ∷ [] }) ≡ Some BadParams
unfolding at point_at run step next execute_plain judged settle settled begin begun entry_of own_function callee_of tree_of read plain_of value_of segments_lie_in same_request replied areas_read areas_of
one_param = refl

-- fewer pages than the memory begins with
pages_over : begin (record (functions (ty [] [] ∷ []) (no_locals ([]) ∷ [])) { functions = 0 ∷ [] }) (record (start 100) { limits = record { pages = 0; fuel = 1; traffic = 1 } }) ≡ Some PagesOver
unfolding at point_at run step next execute_plain judged settle settled begin begun entry_of own_function callee_of tree_of read plain_of value_of segments_lie_in same_request replied areas_read areas_of
pages_over = refl

abbrev ask : (call first : ℕ) → Ask
ask call first = record { call = call; args = first ∷ 0 ∷ 0 ∷ 0 ∷ 0 ∷ 0 ∷ 0 ∷ 0 ∷ [] }

-- a call that was answered so; no areas are read
abbrev answer_to : Ask → (result : ℕ) → Call
answer_to a result = record {
  request = record { ask = a; fits = true; first = []; second = [] };
  reply = record { result = Some result; word = None; text = None };
}

-- a host call is asked
asks : state_of (at (record (functions (ty (I64 ∷ []) (I32 ∷ []) ∷ ty [] (I64 ∷ []) ∷ ty [] [] ∷ []) (no_locals (index 0x10 1 ∷ index 0x10 0 ∷ i32 2 ∷ bare 0x47 ∷ if_instr None ∷ bare 0x00 ∷ end_instr ∷ []) ∷ [])) { functions = 2 ∷ []; imports = record { «module» = codes "lunatic::message"; name = codes "send"; what = imported.Function 0 } ∷ record { «module» = codes "lunatic::process"; name = codes "process_id"; what = imported.Function 1 } ∷ []; exports = record { name = codes "_start"; kind = kind.Function; index = 2 } ∷ [] }) (start 100) [] 1) ≡ Some (Asking (ask 10 0))
unfolding at point_at run step next execute_plain judged settle settled begin begun entry_of own_function callee_of tree_of read plain_of value_of segments_lie_in
    same_request replied areas_read areas_of are_sound row_of row_of_import all_rows is_served
asks = refl

-- its result is the argument of the next
answered_so : state_of (at (record (functions (ty (I64 ∷ []) (I32 ∷ []) ∷ ty [] (I64 ∷ []) ∷ ty [] [] ∷ []) (no_locals (index 0x10 1 ∷ index 0x10 0 ∷ i32 2 ∷ bare 0x47 ∷ if_instr None ∷ bare 0x00 ∷ end_instr ∷ []) ∷ [])) { functions = 2 ∷ []; imports = record { «module» = codes "lunatic::message"; name = codes "send"; what = imported.Function 0 } ∷ record { «module» = codes "lunatic::process"; name = codes "process_id"; what = imported.Function 1 } ∷ []; exports = record { name = codes "_start"; kind = kind.Function; index = 2 } ∷ [] }) (start 100) (answer_to (ask 10 0) 77 ∷ []) 2) ≡ Some (Asking (ask 8 77))
unfolding at point_at run step next execute_plain judged settle settled begin begun entry_of own_function callee_of tree_of read plain_of value_of segments_lie_in
    same_request replied areas_read areas_of are_sound row_of row_of_import all_rows is_served
answered_so = refl

-- and that one's result goes on
answered_on : state_of (at (record (functions (ty (I64 ∷ []) (I32 ∷ []) ∷ ty [] (I64 ∷ []) ∷ ty [] [] ∷ []) (no_locals (index 0x10 1 ∷ index 0x10 0 ∷ i32 2 ∷ bare 0x47 ∷ if_instr None ∷ bare 0x00 ∷ end_instr ∷ []) ∷ [])) { functions = 2 ∷ []; imports = record { «module» = codes "lunatic::message"; name = codes "send"; what = imported.Function 0 } ∷ record { «module» = codes "lunatic::process"; name = codes "process_id"; what = imported.Function 1 } ∷ []; exports = record { name = codes "_start"; kind = kind.Function; index = 2 } ∷ [] }) (start 100) (answer_to (ask 10 0) 77 ∷ answer_to (ask 8 77) 2 ∷ []) 5) ≡ Some Finished
unfolding at point_at run step next execute_plain judged settle settled begin begun entry_of own_function callee_of tree_of read plain_of value_of segments_lie_in
    same_request replied areas_read areas_of are_sound row_of row_of_import all_rows is_served
answered_on = refl

-- calls that are not asked
too_many_calls : state_of (at (record (functions (ty (I64 ∷ []) (I32 ∷ []) ∷ ty [] (I64 ∷ []) ∷ ty [] [] ∷ []) (no_locals (index 0x10 1 ∷ index 0x10 0 ∷ i32 2 ∷ bare 0x47 ∷ if_instr None ∷ bare 0x00 ∷ end_instr ∷ []) ∷ [])) { functions = 2 ∷ []; imports = record { «module» = codes "lunatic::message"; name = codes "send"; what = imported.Function 0 } ∷ record { «module» = codes "lunatic::process"; name = codes "process_id"; what = imported.Function 1 } ∷ []; exports = record { name = codes "_start"; kind = kind.Function; index = 2 } ∷ [] }) (start 100) (answer_to (ask 10 0) 77 ∷ answer_to (ask 8 77) 2 ∷ []) 1) ≡ None
unfolding at point_at run step next execute_plain judged settle settled begin begun entry_of own_function callee_of tree_of read plain_of value_of segments_lie_in
    same_request replied areas_read areas_of are_sound row_of row_of_import all_rows is_served
too_many_calls = refl

-- another request
other_call : state_of (at (record (functions (ty (I64 ∷ []) (I32 ∷ []) ∷ ty [] (I64 ∷ []) ∷ ty [] [] ∷ []) (no_locals (index 0x10 1 ∷ index 0x10 0 ∷ i32 2 ∷ bare 0x47 ∷ if_instr None ∷ bare 0x00 ∷ end_instr ∷ []) ∷ [])) { functions = 2 ∷ []; imports = record { «module» = codes "lunatic::message"; name = codes "send"; what = imported.Function 0 } ∷ record { «module» = codes "lunatic::process"; name = codes "process_id"; what = imported.Function 1 } ∷ []; exports = record { name = codes "_start"; kind = kind.Function; index = 2 } ∷ [] }) (start 100) (answer_to (ask 10 1) 77 ∷ []) 1) ≡ None
unfolding at point_at run step next execute_plain judged settle settled begin begun entry_of own_function callee_of tree_of read plain_of value_of segments_lie_in
    same_request replied areas_read areas_of are_sound row_of row_of_import all_rows is_served
other_call = refl

-- an imported function is no entry
imported_entry : begin (record (record (functions (ty (I64 ∷ []) (I32 ∷ []) ∷ ty [] (I64 ∷ []) ∷ ty [] [] ∷ []) (no_locals (index 0x10 1 ∷ index 0x10 0 ∷ i32 2 ∷ bare 0x47 ∷ if_instr None ∷ bare 0x00 ∷ end_instr ∷ []) ∷ [])) { functions = 2 ∷ []; imports = record { «module» = codes "lunatic::message"; name = codes "send"; what = imported.Function 0 } ∷ record { «module» = codes "lunatic::process"; name = codes "process_id"; what = imported.Function 1 } ∷ []; exports = record { name = codes "_start"; kind = kind.Function; index = 2 } ∷ [] }) { exports = record { name = codes "_start"; kind = kind.Function; index = 1 } ∷ [] }) (start 100) ≡ Some NoExport
unfolding at point_at run step next execute_plain judged settle settled begin begun entry_of own_function callee_of tree_of read plain_of value_of segments_lie_in
    same_request replied areas_read areas_of are_sound row_of row_of_import all_rows is_served
imported_entry = refl
