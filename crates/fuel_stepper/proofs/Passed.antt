-- The limits that a move of the flat machine may pass: frames and values.
use Rattle.std.proofs.Common.{◌≡◌, ◌⊎◌, inl, inr, ℕ, ◌+◌, ◌-◌, ◌==◌, if◌then◌else◌, Bool, true, false, cond, nat_eq, nat_lt, nat_le, ◌&&◌, min, List, [], ◌∷◌, ◌++◌, length, drop, take, reverse, replicate, Option, Some, None, refl, subst}
use Rattle.std.specs.Prelude.{slice_get}
use Rattle.wasm_ops.specs.declared.trap.Trap.TheVariants as traps
use Rattle.host_port.specs.declared.stop.Spent.{Spent}
use Rattle.host_port.specs.declared.stop.Spent.TheVariants as limit
use Rattle.wasm_form.specs.declared.body.Body.{Body}
use Rattle.wasm_form.specs.declared.instr.Instr.{Instr}
use Rattle.wasm_form.specs.declared.instr.Imm.{Imm}
use Rattle.wasm_form.specs.declared.instr.Imm.TheVariants as imm
use Rattle.wasm_form.specs.declared.parts.Parts.{Parts}
use Rattle.code_map.specs.declared.target.Target.{Target}
use Rattle.code_map.specs.declared.body_map.BodyMap.{BodyMap}
use Rattle.code_map.specs.declared.callee.Callee.{Callee}
use Rattle.code_map.specs.declared.callee.Callee.TheVariants as callee
use Rattle.code_map.specs.declared.map.CodeMap.{CodeMap}
use Rattle.code_map.specs.Targets.{count_if}
use Rattle.tree_machine.specs.Calls.{ask_of}
use Rattle.tree_machine.specs.Config.{Invocation}
use Rattle.tree_machine.specs.Limits.{most_frames, most_values}
use Rattle.flat_machine.specs.Straight.{straight}
use Rattle.flat_machine.specs.Control.{jump, begin_list, begin_chosen, end_list, skip_other, end_body, return_to}
use Rattle.flat_machine.specs.Calls.{enter_body}
use Rattle.tree_machine.specs.Instructions.{Plain, plain_of, index_in}
use Rattle.tree_machine.specs.Outcomes.{Effect, Gives, Fails, Undefined}
use Rattle.flat_machine.specs.Flat.{Place, Flat, goes_on}
use Rattle.flat_machine.specs.Moves.{Move, Executes, Passes, Asks, Traps, Exceeds, Overfull, Ends, Stuck, where_holds, leads, carries_over, target_at, entry_at, has_body, class_of, callee_with, operands_fit, executes, jump_to, branch_if, branch_among, branch_table, choose, pass_end, pass_other, call, call_function, call_class, call_element, call_top, call_indirect, go_straight, move_by, enter, enter_next, return_from, leave, move_at, move_in, move}

-- it is one of these two
abbrev pub IsCounted : Spent → Type 0
IsCounted spent = (spent ≡ limit.Frames) ⊎ (spent ≡ limit.Values)

abbrev Counted : Move → Type 0
Counted (Executes to) = Unit {0}
Counted (Passes to) = Unit {0}
Counted (Asks ask results waits) = Unit {0}
Counted (Traps trap) = Unit {0}
Counted (Exceeds spent) = IsCounted spent
Counted Overfull = Unit {0}
Counted Ends = Unit {0}
Counted Stuck = Unit {0}

record IsFine (move : Move) : Type 0 where
  is : Counted move

either : (b : Bool) (one two : Move) → IsFine one → IsFine two → IsFine (cond b one two)
either true one two first second = first
either false one two first second = second

chosen : (b : Bool) (one two : Move) → IsFine one → IsFine two → IsFine (if b then one else two)
chosen true one two first second = first
chosen false one two first second = second

held : (b : Bool) (move : Move) → IsFine move → IsFine (cond b move Stuck)
held true move counted = counted
held false move counted = record { is = tt }

executes_counted : (e : Effect Flat) → IsFine (executes e)
executes_counted (Gives flat) = either _ (Executes flat) (Exceeds limit.Values) (record { is = tt }) (record { is = inr refl })
executes_counted (Fails trap) = record { is = tt }
executes_counted Undefined = record { is = tt }

jump_counted : (t : Option Target) (size : ℕ) (values : List ℕ) (flat : Flat) → IsFine (jump_to t size values flat)
jump_counted None size values flat = record { is = tt }
jump_counted (Some t) size values flat =
    held (leads t size flat.place.opens flat && carries_over t values flat) (executes (Gives (jump t values flat))) (executes_counted (Gives (jump t values flat)))

if_counted : (t : Option Target) (size : ℕ) (values : List ℕ) (flat : Flat) → IsFine (branch_if t size values flat)
if_counted t size [] flat = record { is = tt }
if_counted t size (number ∷ below) flat = either (nat_eq number 0) (executes (Gives (goes_on below flat))) (jump_to t size below flat)
    (executes_counted (Gives (goes_on below flat))) (jump_counted t size below flat)

among_counted : (maps : List BodyMap) (count size : ℕ) (values : List ℕ) (flat : Flat) → IsFine (branch_among maps count size values flat)
among_counted maps count size [] flat = record { is = tt }
among_counted maps count size (number ∷ below) flat = jump_counted (entry_at maps flat.place (min number count)) size below flat

table_counted : (maps : List BodyMap) (i : Imm) (size : ℕ) (flat : Flat) → IsFine (branch_table maps i size flat)
table_counted maps (imm.Table first count last) size flat = among_counted maps count size flat.values flat
table_counted maps i size flat = record { is = tt }

choose_counted : (t : Option Target) (size : ℕ) (flat : Flat) → IsFine (choose t size flat)
choose_counted None size flat = record { is = tt }
choose_counted (Some t) size flat =
    held (leads t size (flat.place.opens + 1) flat) (executes (begin_chosen t flat.values flat)) (executes_counted (begin_chosen t flat.values flat))

end_counted : (size : ℕ) (flat : Flat) → IsFine (pass_end size flat)
end_counted size flat =
    either (nat_lt (flat.place.pc + 1) size) (where_holds (nat_lt 0 flat.place.opens) (Passes (end_list flat))) (Passes (end_body flat))
    (held (nat_lt 0 flat.place.opens) (Passes (end_list flat)) (record { is = tt })) (record { is = tt })

other_counted : (t : Option Target) (size : ℕ) (flat : Flat) → IsFine (pass_other t size flat)
other_counted None size flat = record { is = tt }
other_counted (Some t) size flat =
    held (nat_lt flat.place.pc t.to && leads t size flat.place.opens flat) (Passes (skip_other t flat)) (record { is = tt })

call_counted : (m : Parts) (map : CodeMap) (c : Option Callee) (values : List ℕ) (flat : Flat) → IsFine (call m map c values flat)
call_counted m map None values flat = record { is = tt }
call_counted m map (Some (callee.Own body params locals gives class)) values flat =
    let entered : Flat = enter_body body params locals (record flat { values = values }) in
    held (nat_le params (length values) && has_body m map body)
    (cond (nat_le (length flat.callers + 2) most_frames) (executes (Gives entered)) (Exceeds limit.Frames))
    (either (nat_le (length flat.callers + 2) most_frames) (executes (Gives entered)) (Exceeds limit.Frames)
    (executes_counted (Gives entered)) (record { is = inl refl }))
call_counted m map (Some (callee.Host number params gives class)) values flat =
    let asks : Move = Asks (ask_of number (reverse (take params values))) (count_if gives) (goes_on (drop params values) flat) in
    held (nat_le params (length values) && nat_le params 8)
    (cond (nat_le (length values - params + flat.place.opens + count_if gives) most_values) asks (Exceeds limit.Values))
    (either (nat_le (length values - params + flat.place.opens + count_if gives) most_values) asks (Exceeds limit.Values)
    (record { is = tt }) (record { is = inr refl }))

function_counted : (m : Parts) (map : CodeMap) (function : Option ℕ) (flat : Flat) → IsFine (call_function m map function flat)
function_counted m map None flat = record { is = tt }
function_counted m map (Some function) flat = call_counted m map (slice_get map.callees function) flat.values flat

class_counted : (m : Parts) (map : CodeMap) (class : Option ℕ) (c : Option Callee) (values : List ℕ) (flat : Flat) →
    IsFine (call_class m map class c values flat)
class_counted m map None c values flat = record { is = tt }
class_counted m map (Some class) None values flat = record { is = tt }
class_counted m map (Some class) (Some c) values flat =
    either (nat_eq (class_of c) class) (call m map (Some c) values flat) (Traps traps.WrongType) (call_counted m map (Some c) values flat) (record { is = tt })

element_counted : (m : Parts) (map : CodeMap) (ty : ℕ) (element : Option (Option ℕ)) (values : List ℕ) (flat : Flat) →
    IsFine (call_element m map ty element values flat)
element_counted m map ty None values flat = record { is = tt }
element_counted m map ty (Some None) values flat = record { is = tt }
element_counted m map ty (Some (Some function)) values flat = class_counted m map (slice_get map.classes ty) (slice_get map.callees function) values flat

top_counted : (m : Parts) (map : CodeMap) (ty : ℕ) (values : List ℕ) (flat : Flat) → IsFine (call_top m map ty values flat)
top_counted m map ty [] flat = record { is = tt }
top_counted m map ty (place ∷ below) flat = element_counted m map ty (slice_get flat.table place) below flat

indirect_counted : (m : Parts) (map : CodeMap) (ty : Option ℕ) (flat : Flat) → IsFine (call_indirect m map ty flat)
indirect_counted m map None flat = record { is = tt }
indirect_counted m map (Some ty) flat = top_counted m map ty flat.values flat

straight_counted : (i : Option Plain) (flat : Flat) → IsFine (go_straight i flat)
straight_counted None flat = record { is = tt }
straight_counted (Some i) flat = held (operands_fit i flat.place.base flat.values) (executes (straight i flat)) (executes_counted (straight i flat))

instr_counted : (m : Parts) (map : CodeMap) (size : ℕ) (i : Instr) (flat : Flat) → IsFine (move_by m map size i flat)
unfolding move_by
instr_counted m map size i flat =
    let move10 : Move = if i.code == 0x11 then call_indirect m map (index_in i.imm) flat else go_straight (plain_of i) flat in
    let fine10 : IsFine move10 = chosen (i.code == 0x11) (call_indirect m map (index_in i.imm) flat) (go_straight (plain_of i) flat) (indirect_counted m map (index_in i.imm) flat) (straight_counted (plain_of i) flat) in
    let move9 : Move = if i.code == 0x10 then call_function m map (index_in i.imm) flat else move10 in
    let fine9 : IsFine move9 = chosen (i.code == 0x10) (call_function m map (index_in i.imm) flat) (move10) (function_counted m map (index_in i.imm) flat) (fine10) in
    let move8 : Move = if i.code == 0x0F then jump_to (target_at map.bodies flat.place) size flat.values flat else move9 in
    let fine8 : IsFine move8 = chosen (i.code == 0x0F) (jump_to (target_at map.bodies flat.place) size flat.values flat) (move9) (jump_counted (target_at map.bodies flat.place) size flat.values flat) (fine9) in
    let move7 : Move = if i.code == 0x0E then branch_table map.bodies i.imm size flat else move8 in
    let fine7 : IsFine move7 = chosen (i.code == 0x0E) (branch_table map.bodies i.imm size flat) (move8) (table_counted map.bodies i.imm size flat) (fine8) in
    let move6 : Move = if i.code == 0x0D then branch_if (target_at map.bodies flat.place) size flat.values flat else move7 in
    let fine6 : IsFine move6 = chosen (i.code == 0x0D) (branch_if (target_at map.bodies flat.place) size flat.values flat) (move7) (if_counted (target_at map.bodies flat.place) size flat.values flat) (fine7) in
    let move5 : Move = if i.code == 0x0C then jump_to (target_at map.bodies flat.place) size flat.values flat else move6 in
    let fine5 : IsFine move5 = chosen (i.code == 0x0C) (jump_to (target_at map.bodies flat.place) size flat.values flat) (move6) (jump_counted (target_at map.bodies flat.place) size flat.values flat) (fine6) in
    let move4 : Move = if i.code == 0x04 then choose (target_at map.bodies flat.place) size flat else move5 in
    let fine4 : IsFine move4 = chosen (i.code == 0x04) (choose (target_at map.bodies flat.place) size flat) (move5) (choose_counted (target_at map.bodies flat.place) size flat) (fine5) in
    let move3 : Move = if i.code == 0x03 then executes (Gives (begin_list flat.values flat)) else move4 in
    let fine3 : IsFine move3 = chosen (i.code == 0x03) (executes (Gives (begin_list flat.values flat))) (move4) (executes_counted (Gives (begin_list flat.values flat))) (fine4) in
    let move2 : Move = if i.code == 0x02 then executes (Gives (begin_list flat.values flat)) else move3 in
    let fine2 : IsFine move2 = chosen (i.code == 0x02) (executes (Gives (begin_list flat.values flat))) (move3) (executes_counted (Gives (begin_list flat.values flat))) (fine3) in
    let move1 : Move = if i.code == 0x05 then pass_other (target_at map.bodies flat.place) size flat else move2 in
    let fine1 : IsFine move1 = chosen (i.code == 0x05) (pass_other (target_at map.bodies flat.place) size flat) (move2) (other_counted (target_at map.bodies flat.place) size flat) (fine2) in
    let move0 : Move = if i.code == 0x0B then pass_end size flat else move1 in
    let fine0 : IsFine move0 = chosen (i.code == 0x0B) (pass_end size flat) (move1) (end_counted size flat) (fine1) in
    fine0

enter_counted : (m : Parts) (map : CodeMap) (c : Option Callee) (arguments : List ℕ) (rest : List Invocation) (flat : Flat) →
    IsFine (enter m map c arguments rest flat)
enter_counted m map None arguments rest flat = record { is = tt }
enter_counted m map (Some (callee.Host number params gives class)) arguments rest flat = record { is = tt }
enter_counted m map (Some (callee.Own body params locals gives class)) arguments rest flat =
    let entered : Flat = record flat {
      values = replicate locals 0 ++ reverse arguments;
      place = record { pc = 0; body = body; base = 0; opens = 0 };
      callers = [];
      invocations = rest;
    } in
    held (nat_eq (length arguments) params && has_body m map body) (cond (nat_le (params + locals) most_values) (Passes entered) Overfull)
    (either (nat_le (params + locals) most_values) (Passes entered) Overfull (record { is = tt }) (record { is = tt }))

next_counted : (m : Parts) (map : CodeMap) (invocations : List Invocation) (flat : Flat) → IsFine (enter_next m map invocations flat)
next_counted m map [] flat = record { is = tt }
next_counted m map (i ∷ rest) flat = enter_counted m map (slice_get map.callees i.function) i.arguments rest flat

return_counted : (c : Option Callee) (caller : Place) (callers : List Place) (flat : Flat) → IsFine (return_from c caller callers flat)
return_counted None caller callers flat = record { is = tt }
return_counted (Some (callee.Host number params gives class)) caller callers flat = record { is = tt }
return_counted (Some (callee.Own body params locals gives class)) caller callers flat =
    held (nat_le (flat.place.base + count_if gives) (length flat.values) && nat_le caller.opens flat.place.opens)
    (Passes (return_to (count_if gives) caller callers flat)) (record { is = tt })

leave_counted : (m : Parts) (map : CodeMap) (callers : List Place) (flat : Flat) → IsFine (leave m map callers flat)
leave_counted m map [] flat = next_counted m map flat.invocations flat
leave_counted m map (caller ∷ callers) flat = return_counted (callee_with m map flat.place.body) caller callers flat

at_counted : (m : Parts) (map : CodeMap) (size : ℕ) (i : Option Instr) (flat : Flat) → IsFine (move_at m map size i flat)
at_counted m map size None flat = leave_counted m map flat.callers flat
at_counted m map size (Some i) flat = instr_counted m map size i flat

in_counted : (m : Parts) (map : CodeMap) (body : Option Body) (flat : Flat) → IsFine (move_in m map body flat)
in_counted m map None flat = record { is = tt }
in_counted m map (Some body) flat = at_counted m map (length body.expr.code) (slice_get body.expr.code flat.place.pc) flat

move_counted : (m : Parts) (map : CodeMap) (flat : Flat) → IsFine (move m map flat)
unfolding move
move_counted m map flat = in_counted m map (slice_get m.bodies flat.place.body) flat

-- a limit that a move passes is that of frames or of values
pub exceeds_counted : (m : Parts) (map : CodeMap) (flat : Flat) (spent : Spent) → move m map flat ≡ Exceeds spent → IsCounted spent
exceeds_counted m map flat spent is = subst Counted is (move_counted m map flat).is
