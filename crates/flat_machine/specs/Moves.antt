-- What the flat machine does next, as one function of where it stands: the map of the code says where branches lead and
-- what is called. Where an operand, a target, a callee or a place for it is missing it is stuck, which no accepted
-- module's machine ever is.
use Rattle.std.specs.Prelude.{ℕ, ◌+◌, ◌-◌, ◌^◌, ◌==◌, ◌&&◌, Bool, true, false, if◌then◌else◌, cond, nat_eq, nat_lt, nat_le, min, List, [], ◌∷◌, ◌++◌, length, take, drop, reverse, replicate, slice_get, Option, Some, None, option_and_then}
use Rattle.wasm_ops.specs.Table.{first_of, second_of}
use Rattle.wasm_ops.specs.declared.num.Num.{Num}
use Rattle.wasm_ops.specs.declared.num.Num.TheVariants.{I32, I64}
use Rattle.wasm_ops.specs.declared.trap.Trap.{Trap}
use Rattle.wasm_ops.specs.declared.trap.Trap.TheVariants as traps
use Rattle.host_port.specs.declared.ask.Ask.{Ask}
use Rattle.host_port.specs.declared.stop.Spent.{Spent}
use Rattle.host_port.specs.declared.stop.Spent.TheVariants as limit
use Rattle.wasm_form.specs.declared.body.Body.{Body}
use Rattle.wasm_form.specs.declared.instr.Instr.{Instr}
use Rattle.wasm_form.specs.declared.instr.Imm.{Imm}
use Rattle.wasm_form.specs.declared.instr.Imm.TheVariants as imm
use Rattle.wasm_form.specs.declared.parts.Parts.{Parts}
use Rattle.code_map.specs.declared.target.Target.{Target}
use Rattle.code_map.specs.declared.body_map.BodyMap.{BodyMap}
use Rattle.code_map.specs.declared.callee.Callee.{Callee}
use Rattle.code_map.specs.declared.callee.Callee.TheVariants as callee
use Rattle.code_map.specs.declared.map.CodeMap.{CodeMap}
use Rattle.code_map.specs.Targets.{count_if}
use Rattle.tree_machine.specs.Calls.{ask_of}
use Rattle.tree_machine.specs.Config.{Invocation}
use Rattle.tree_machine.specs.Instructions.{Plain, plain_of, index_in}
use Rattle.tree_machine.specs.Instructions as op
use Rattle.tree_machine.specs.Limits.{most_frames, most_values}
use Rattle.tree_machine.specs.Outcomes.{Effect, Gives, Fails, Undefined}
use Rattle.flat_machine.specs.Flat.{Place, Flat, goes_on}
use Rattle.flat_machine.specs.Tells.{opens_of}
use Rattle.flat_machine.specs.Straight.{straight}
use Rattle.flat_machine.specs.Control.{jump, begin_list, begin_chosen, end_list, skip_other, end_body, return_to}
use Rattle.flat_machine.specs.Calls.{enter_body}

-- An instruction was executed. An end, an else, a return or the entry of the next function was passed, which costs
-- nothing. The host is asked, for so many results. The instruction traps. It passes a limit. The next function's values
-- would pass their limit. No function is left. It is stuck.
pub data Move : Type 0 where
  Executes : (to : Flat) → Move
  Passes : (to : Flat) → Move
  Asks : (ask : Ask) (results : ℕ) (waits : Flat) → Move
  Traps : (trap : Trap) → Move
  Exceeds : (spent : Spent) → Move
  Overfull : Move
  Ends : Move
  Stuck : Move

-- it is stuck unless this holds
abbrev pub where_holds : Bool → Move → Move
where_holds holds move = cond holds move Stuck

-- the value places that are in use
abbrev pub places_in : Flat → ℕ
places_in flat = length flat.values + flat.place.opens

-- an instruction has this effect; more values than may be pass their limit
abbrev pub executes : Effect Flat → Move
executes (Gives flat) = cond (nat_le (places_in flat) most_values) (Executes flat) (Exceeds limit.Values)
executes (Fails trap) = Traps trap
executes Undefined = Stuck

-- the target at this place of a body's map
abbrev pub target_in : (place : ℕ) → BodyMap → Option Target
target_in place map = option_and_then (slice_get map.targets) (slice_get map.slots place)

abbrev pub target_at : List BodyMap → Place → Option Target
target_at maps place = option_and_then (target_in place.pc) (slice_get maps place.body)

-- the target with this number of the br_table at this place of a body's map
abbrev pub entry_in : (place number : ℕ) → BodyMap → Option Target
entry_in place number map =
    option_and_then (λ first. slice_get map.tables (first + number)) (slice_get map.slots place)

abbrev pub entry_at : List BodyMap → Place → (number : ℕ) → Option Target
entry_at maps place number = option_and_then (entry_in place.pc number) (slice_get maps place.body)

-- the target lies in the body or behind it, and no more than so many blocks are open there
abbrev pub leads : Target → (size opens : ℕ) → Flat → Bool
leads t size opens flat = nat_le t.to size && nat_le (opens_of flat.callers + t.opens) opens

-- what the branch carries lies above the values that stay
abbrev pub carries_over : Target → (values : List ℕ) → Flat → Bool
carries_over t values flat = nat_le (flat.place.base + t.height + count_if t.carries) (length values)

-- a branch from these values
abbrev pub jump_to : Option Target → (size : ℕ) → (values : List ℕ) → Flat → Move
jump_to None size values flat = Stuck
jump_to (Some t) size values flat =
    where_holds (leads t size flat.place.opens flat && carries_over t values flat)
    (executes (Gives (jump t values flat)))

-- br_if
abbrev pub branch_if : Option Target → (size : ℕ) → (values : List ℕ) → Flat → Move
branch_if t size [] flat = Stuck
branch_if t size (number ∷ below) flat =
    cond (nat_eq number 0) (executes (Gives (goes_on below flat))) (jump_to t size below flat)

-- br_table, with so many labels before the default
abbrev pub branch_among : List BodyMap → (count size : ℕ) → (values : List ℕ) → Flat → Move
branch_among maps count size [] flat = Stuck
branch_among maps count size (number ∷ below) flat =
    jump_to (entry_at maps flat.place (min number count)) size below flat

abbrev pub branch_table : List BodyMap → Imm → (size : ℕ) → Flat → Move
branch_table maps (imm.Table first count last) size flat = branch_among maps count size flat.values flat
branch_table maps others size flat = Stuck

-- if
abbrev pub choose : Option Target → (size : ℕ) → Flat → Move
choose None size flat = Stuck
choose (Some t) size flat =
    where_holds (leads t size (flat.place.opens + 1) flat) (executes (begin_chosen t flat.values flat))

-- an end: of a block, a loop or an if; or of the body
abbrev pub pass_end : (size : ℕ) → Flat → Move
pass_end size flat =
    cond (nat_lt (flat.place.pc + 1) size)
    (where_holds (nat_lt 0 flat.place.opens) (Passes (end_list flat)))
    (Passes (end_body flat))

-- an else, which leads on
abbrev pub pass_other : Option Target → (size : ℕ) → Flat → Move
pass_other None size flat = Stuck
pass_other (Some t) size flat =
    where_holds (nat_lt flat.place.pc t.to && leads t size flat.place.opens flat) (Passes (skip_other t flat))

-- the body with this number is there, with its map
abbrev pub has_body : Parts → CodeMap → (body : ℕ) → Bool
has_body m map body = nat_lt body (length m.bodies) && nat_lt body (length map.bodies)

-- a call from these values, where a function that the module defines gets a frame, unless that is one too many; the
-- host is asked where its results have room
abbrev pub call : Parts → CodeMap → Option Callee → (values : List ℕ) → Flat → Move
call m map None values flat = Stuck
call m map (Some (callee.Own body params locals gives class)) values flat =
    where_holds (nat_le params (length values) && has_body m map body)
    (cond (nat_le (length flat.callers + 2) most_frames)
    (executes (Gives (enter_body body params locals (record flat { values = values }))))
    (Exceeds limit.Frames))
call m map (Some (callee.Host number params gives class)) values flat =
    where_holds (nat_le params (length values) && nat_le params 8)
    (cond (nat_le (length values - params + flat.place.opens + count_if gives) most_values)
    (Asks (ask_of number (reverse (take params values))) (count_if gives) (goes_on (drop params values) flat))
    (Exceeds limit.Values))

abbrev pub call_function : Parts → CodeMap → (function : Option ℕ) → Flat → Move
call_function m map None flat = Stuck
call_function m map (Some function) flat = call m map (slice_get map.callees function) flat.values flat

-- the class of what is called
abbrev pub class_of : Callee → ℕ
class_of (callee.Own body params locals gives class) = class
class_of (callee.Host number params gives class) = class

-- a call of what has to have this class
abbrev pub call_class : Parts → CodeMap → (class : Option ℕ) → Option Callee → (values : List ℕ) → Flat → Move
call_class m map None c values flat = Stuck
call_class m map (Some class) None values flat = Stuck
call_class m map (Some class) (Some c) values flat =
    cond (nat_eq (class_of c) class) (call m map (Some c) values flat) (Traps traps.WrongType)

-- a call of this element of the table
abbrev pub call_element : Parts → CodeMap → (ty : ℕ) → Option (Option ℕ) → (values : List ℕ) → Flat → Move
call_element m map ty None values flat = Traps traps.TableBounds
call_element m map ty (Some None) values flat = Traps traps.NoElement
call_element m map ty (Some (Some function)) values flat =
    call_class m map (slice_get map.classes ty) (slice_get map.callees function) values flat

abbrev pub call_top : Parts → CodeMap → (ty : ℕ) → (values : List ℕ) → Flat → Move
call_top m map ty [] flat = Stuck
call_top m map ty (place ∷ below) flat = call_element m map ty (slice_get flat.table place) below flat

abbrev pub call_indirect : Parts → CodeMap → (ty : Option ℕ) → Flat → Move
call_indirect m map None flat = Stuck
call_indirect m map (Some ty) flat = call_top m map ty flat.values flat

-- a number fits the type of an operand
abbrev pub fits : Option Num → ℕ → Bool
fits None n = false
fits (Some I32) n = nat_lt n (2 ^ 32)
fits (Some I64) n = nat_lt n (2 ^ 64)

-- a number of 32 bits
abbrev pub is_i32 : ℕ → Bool
is_i32 n = nat_lt n (2 ^ 32)

-- the operands have the types that a straight instruction takes, and its local is there
abbrev pub operands_fit : Plain → (base : ℕ) → (values : List ℕ) → Bool
operands_fit (op.Unary code) base (a ∷ below) = fits (first_of code) a
operands_fit (op.Binary code) base (b ∷ a ∷ below) = fits (first_of code) a && fits (second_of code) b
operands_fit (op.Load code offset) base (address ∷ below) = is_i32 address
operands_fit (op.Store code offset) base (value ∷ address ∷ below) = is_i32 address
operands_fit op.MemoryGrow base (pages ∷ below) = is_i32 pages
operands_fit (op.LocalSet x) base (value ∷ below) = nat_lt (base + x) (length below)
operands_fit (op.LocalTee x) base (value ∷ below) = nat_lt (base + x) (length below)
operands_fit i base values = true

-- a straight instruction
abbrev pub go_straight : Option Plain → Flat → Move
go_straight None flat = Stuck
go_straight (Some i) flat = where_holds (operands_fit i flat.place.base flat.values) (executes (straight i flat))

-- the instruction at hand, in a body of so many
unfoldable pub move_by : Parts → CodeMap → (size : ℕ) → Instr → Flat → Move
move_by m map size i flat =
    if i.code == 0x0B then pass_end size flat
    else if i.code == 0x05 then pass_other (target_at map.bodies flat.place) size flat
    else if i.code == 0x02 then executes (Gives (begin_list flat.values flat))
    else if i.code == 0x03 then executes (Gives (begin_list flat.values flat))
    else if i.code == 0x04 then choose (target_at map.bodies flat.place) size flat
    else if i.code == 0x0C then jump_to (target_at map.bodies flat.place) size flat.values flat
    else if i.code == 0x0D then branch_if (target_at map.bodies flat.place) size flat.values flat
    else if i.code == 0x0E then branch_table map.bodies i.imm size flat
    else if i.code == 0x0F then jump_to (target_at map.bodies flat.place) size flat.values flat
    else if i.code == 0x10 then call_function m map (index_in i.imm) flat
    else if i.code == 0x11 then call_indirect m map (index_in i.imm) flat
    else go_straight (plain_of i) flat

-- the next function is entered with these arguments
abbrev pub enter : Parts → CodeMap → Option Callee → (arguments : List ℕ) → (rest : List Invocation) → Flat → Move
enter m map None arguments rest flat = Stuck
enter m map (Some (callee.Host number params gives class)) arguments rest flat = Stuck
enter m map (Some (callee.Own body params locals gives class)) arguments rest flat =
    where_holds (nat_eq (length arguments) params && has_body m map body)
    (cond (nat_le (params + locals) most_values)
    (Passes (record flat {
      values = replicate locals 0 ++ reverse arguments;
      place = record { pc = 0; body = body; base = 0; opens = 0 };
      callers = [];
      invocations = rest;
    }))
    Overfull)

-- no function is at work: the next one is entered
abbrev pub enter_next : Parts → CodeMap → List Invocation → Flat → Move
enter_next m map [] flat = Ends
enter_next m map (i ∷ rest) flat = enter m map (slice_get map.callees i.function) i.arguments rest flat

-- the callee that has this body; the functions that are imported come first
abbrev pub callee_with : Parts → CodeMap → (body : ℕ) → Option Callee
callee_with m map body = slice_get map.callees (length map.callees - length m.bodies + body)

-- the return of a function with this callee
abbrev pub return_from : Option Callee → (caller : Place) → (callers : List Place) → Flat → Move
return_from None caller callers flat = Stuck
return_from (Some (callee.Host number params gives class)) caller callers flat = Stuck
return_from (Some (callee.Own body params locals gives class)) caller callers flat =
    where_holds
    (nat_le (flat.place.base + count_if gives) (length flat.values) && nat_le caller.opens flat.place.opens)
    (Passes (return_to (count_if gives) caller callers flat))

-- behind the body's end
abbrev pub leave : Parts → CodeMap → (callers : List Place) → Flat → Move
leave m map [] flat = enter_next m map flat.invocations flat
leave m map (caller ∷ callers) flat = return_from (callee_with m map flat.place.body) caller callers flat

-- at this instruction of a body of so many, or behind its end
abbrev pub move_at : Parts → CodeMap → (size : ℕ) → Option Instr → Flat → Move
move_at m map size None flat = leave m map flat.callers flat
move_at m map size (Some i) flat = move_by m map size i flat

abbrev pub move_in : Parts → CodeMap → Option Body → Flat → Move
move_in m map None flat = Stuck
move_in m map (Some body) flat = move_at m map (length body.expr.code) (slice_get body.expr.code flat.place.pc) flat

-- what the machine does next
unfoldable pub move : Parts → CodeMap → Flat → Move
move m map flat = move_in m map (slice_get m.bodies flat.place.body) flat
