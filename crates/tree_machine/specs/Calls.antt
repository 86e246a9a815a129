-- Calls of functions and of the host (Core 1.0, 4.4.5 and 4.4.7).
use Rattle.std.specs.Prelude.{ℕ, ◌+◌, ◌-◌, List, [], ◌∷◌, ◌++◌, cond, nat_le, length, take, drop, reverse, replicate, slice_get, Option, Some, None}
use Rattle.wasm_ops.specs.declared.trap.Trap.TheVariants as traps
use Rattle.host_port.specs.declared.ask.Ask.{Ask}
use Rattle.host_port.specs.declared.stop.Spent.TheVariants as limit
use Rattle.wasm_form.specs.declared.types.FuncType.{FuncType}
use Rattle.wasm_form.specs.declared.parts.Parts.{Parts}
use Rattle.tree_machine.specs.Functions.{Function, Callee, Own, Host, type_of, callee_of, same_type}
use Rattle.tree_machine.specs.Config.{Config, Frame, frame_of, with_frames, with_operands}
use Rattle.tree_machine.specs.Outcomes.{Outcome, Goes, Calls, Traps, Exceeds, Stuck}
use Rattle.tree_machine.specs.Limits.{most_frames}

-- an ask has eight arguments; those that the call does not have are 0
abbrev pub ask_of : (call : ℕ) → (arguments : List ℕ) → Ask
ask_of call arguments = record { call = call; args = arguments ++ replicate (8 - length arguments) 0 }

-- a function of the module gets a frame, unless that is one too many
abbrev pub enter : Function → (arguments : List ℕ) → Config → (frames : List Frame) → Outcome
enter function arguments c frames =
    cond (nat_le (length frames + 1) most_frames)
    (Goes (with_frames (frame_of function arguments ∷ frames) c))
    (Exceeds limit.Frames)

-- Core 1.0, 4.4.7, invocation with these arguments; a call of the host makes no frame
abbrev pub invoke : Callee → (arguments : List ℕ) → Config → (frames : List Frame) → Outcome
invoke (Own function) arguments c frames = enter function arguments c frames
invoke (Host ty call) arguments c frames = Calls (ask_of call arguments) (length ty.results) (with_frames frames c)

-- so many operands are taken as arguments; the last argument lies on top
abbrev pub invoke_with : Callee → (count : ℕ) → (operands : List ℕ) → Config → Frame → (below : List Frame) → Outcome
invoke_with callee count operands c f below =
    cond (nat_le count (length operands))
    (invoke callee (reverse (take count operands)) c (with_operands (drop count operands) f ∷ below))
    Stuck

-- call
abbrev pub call : Option Callee → (operands : List ℕ) → Config → Frame → (below : List Frame) → Outcome
call None operands c f below = Stuck
call (Some callee) operands c f below = invoke_with callee (length (type_of callee).params) operands c f below

-- a call of what has to be of this type
abbrev pub call_typed : Option FuncType → Option Callee → (operands : List ℕ) →
    Config → Frame → (below : List Frame) → Outcome
call_typed None callee operands c f below = Stuck
call_typed (Some ty) None operands c f below = Stuck
call_typed (Some ty) (Some callee) operands c f below =
    cond (same_type (type_of callee) ty) (call (Some callee) operands c f below) (Traps traps.WrongType)

-- a call of an element of the table: past the table's end it traps, then where the element is unset, then where the
-- type differs
abbrev pub call_element : Parts → (ty : ℕ) → Option (Option ℕ) → (operands : List ℕ) →
    Config → Frame → (below : List Frame) → Outcome
call_element m ty None operands c f below = Traps traps.TableBounds
call_element m ty (Some None) operands c f below = Traps traps.NoElement
call_element m ty (Some (Some function)) operands c f below =
    call_typed (slice_get m.types ty) (callee_of m function) operands c f below

-- call_indirect: the place in the table lies on top of the arguments
abbrev pub call_indirect : Parts → (ty : ℕ) → (operands : List ℕ) → Config → Frame → (below : List Frame) → Outcome
call_indirect m ty [] c f below = Stuck
call_indirect m ty (place ∷ operands) c f below = call_element m ty (slice_get c.table place) operands c f below
