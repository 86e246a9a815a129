-- What one instruction makes of a configuration (Core 1.0, 4.4).
use Rattle.std.specs.Prelude.{List, [], ◌∷◌, slice_get, Option, Some, None}
use Rattle.wasm_ops.specs.declared.trap.Trap.TheVariants as traps
use Rattle.host_port.specs.Standing.{Asking, Trapped, Exhausted}
use Rattle.wasm_form.specs.declared.parts.Parts.{Parts}
use Rattle.wasm_form.specs.Trees.{Code, Empty, Then, TableOf, BlockOf, LoopOf, IfOf, IfElseOf}
use Rattle.tree_machine.specs.Instructions.{Plain, plain_of}
use Rattle.tree_machine.specs.Instructions as op
use Rattle.tree_machine.specs.Functions.{callee_of}
use Rattle.tree_machine.specs.Config.{Cont, Frame, Config}
use Rattle.tree_machine.specs.Outcomes.{Outcome, Goes, Calls, Traps, Exceeds, Stuck, Gives, to_frame, to_operands}
use Rattle.tree_machine.specs.Numeric.{unary, binary}
use Rattle.tree_machine.specs.Parametric.{drop_one, select}
use Rattle.tree_machine.specs.Variables.{push_value, local_set, local_tee, global_set}
use Rattle.tree_machine.specs.MemoryAccess.{load_from, store}
use Rattle.tree_machine.specs.MemorySize.{size_of, grow}
use Rattle.tree_machine.specs.Control.{begin_block, begin_loop, begin_if, branch, branch_if, branch_table, return_from}
use Rattle.tree_machine.specs.Calls.{call, call_indirect}
use Rattle.tree_machine.specs.Limits.{judged}
use Rattle.tree_machine.specs.Point.{Point, point, settle}

-- an instruction that opens no block, taken from the innermost list of the frame f; below it stand these frames
unfoldable pub execute_plain : Parts → Plain → Config → Frame → (below : List Frame) → Outcome
execute_plain m op.Unreachable c f below = Traps traps.Unreachable
execute_plain m op.Nop c f below = to_frame c below (Gives f)
execute_plain m (op.Br label) c f below = to_frame c below (branch label f)
execute_plain m (op.BrIf label) c f below = to_frame c below (branch_if label f.operands f)
execute_plain m op.Return c f below = to_frame c below (return_from f)
execute_plain m (op.Call function) c f below = call (callee_of m function) f.operands c f below
execute_plain m (op.CallIndirect ty) c f below = call_indirect m ty f.operands c f below
execute_plain m op.Drop c f below = to_operands c f below (drop_one f.operands)
execute_plain m op.Select c f below = to_operands c f below (select f.operands)
execute_plain m (op.LocalGet x) c f below = to_operands c f below (push_value (slice_get f.locals x) f.operands)
execute_plain m (op.LocalSet x) c f below = to_frame c below (local_set x f.operands f)
execute_plain m (op.LocalTee x) c f below = to_frame c below (local_tee x f.operands f)
execute_plain m (op.GlobalGet x) c f below = to_operands c f below (push_value (slice_get c.globals x) f.operands)
execute_plain m (op.GlobalSet x) c f below = global_set x f.operands c f below
execute_plain m (op.Load code offset) c f below = to_operands c f below (load_from code offset c.memory f.operands)
execute_plain m (op.Store code offset) c f below = store code offset c.memory f.operands c f below
execute_plain m op.MemorySize c f below = to_operands c f below (size_of c.memory f.operands)
execute_plain m op.MemoryGrow c f below = grow c.memory f.operands c f below
execute_plain m (op.Const value) c f below = to_operands c f below (Gives (value ∷ f.operands))
execute_plain m (op.Unary code) c f below = to_operands c f below (unary code f.operands)
execute_plain m (op.Binary code) c f below = to_operands c f below (binary code f.operands)

-- the same, where there is such an instruction
abbrev pub execute : Parts → Option Plain → Config → Frame → (below : List Frame) → Outcome
execute m None c f below = Stuck
execute m (Some i) c f below = execute_plain m i c f below

-- the frame whose innermost list has this rest
abbrev pub with_rest : Code → Frame → Cont → List Cont → Frame
with_rest rest f k ks = record f { conts = record k { rest = rest } ∷ ks }

-- the next instruction of the frame f, whose lists are these
abbrev pub next_of : Parts → Code → Config → Frame → Cont → List Cont → (below : List Frame) → Outcome
next_of m Empty c f k ks below = Stuck
next_of m (Then i rest) c f k ks below = execute m (plain_of i) c (with_rest rest f k ks) below
next_of m (TableOf labels last rest) c f k ks below =
    to_frame c below (branch_table labels last f.operands (with_rest rest f k ks))
next_of m (BlockOf result inside rest) c f k ks below =
    to_frame c below (Gives (begin_block result inside (with_rest rest f k ks)))
next_of m (LoopOf result inside rest) c f k ks below =
    to_frame c below (Gives (begin_loop result inside (with_rest rest f k ks)))
next_of m (IfOf result inside rest) c f k ks below =
    to_frame c below (begin_if result inside Empty f.operands (with_rest rest f k ks))
next_of m (IfElseOf result inside other rest) c f k ks below =
    to_frame c below (begin_if result inside other f.operands (with_rest rest f k ks))

abbrev pub next_in : Parts → Config → Frame → List Cont → (below : List Frame) → Outcome
next_in m c f [] below = Stuck
next_in m c f (k ∷ ks) below = next_of m k.rest c f k ks below

abbrev pub next_among : Parts → Config → List Frame → Outcome
next_among m c [] = Stuck
next_among m c (f ∷ below) = next_in m c f f.conts below

-- what the next instruction makes of a configuration whose exits are made
unfoldable pub next : Parts → Config → Outcome
next m c = next_among m c c.frames

-- Where the run stands then. Exits are made after the limit of values was judged; a trap and a limit leave the
-- configuration as it was, and the host is asked before anything is written
abbrev pub stands_after : Parts → (before : Config) → Outcome → Option Point
stands_after m before (Goes to) = Some (settle m to)
stands_after m before (Calls ask results waits) = Some (point (Asking ask) waits)
stands_after m before (Traps trap) = Some (point (Trapped trap) before)
stands_after m before (Exceeds spent) = Some (point (Exhausted spent) before)
stands_after m before Stuck = None

-- one instruction; nothing where no rule applies
unfoldable pub step : Parts → Config → Option Point
step m c = stands_after m c (judged (next m c))
