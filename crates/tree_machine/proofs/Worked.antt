-- Small modules, run by the definitions.
use Rattle.std.proofs.Common.{◌≡◌, ℕ, ◌^◌, ◌-◌, List, [], ◌∷◌, ◌++◌, Some, None, refl, codes}
use Rattle.wasm_ops.specs.declared.trap.Trap.TheVariants as traps
use Rattle.host_port.specs.Standing.{Ready, Finished, Trapped, state_of}
use Rattle.host_port.specs.declared.start.Start.{Start}
use Rattle.wasm_form.specs.declared.instr.Instr.{Instr}
use Rattle.wasm_form.specs.declared.instr.Imm.TheVariants as imm
use Rattle.wasm_form.specs.declared.value_type.ValType.TheVariants.{I32}
use Rattle.wasm_form.specs.declared.parts.Parts.{Parts}
use Rattle.wasm_form.specs.Trees.{end_instr, block_instr, loop_instr, if_instr, else_instr}
use Rattle.wasm_form.specs.Start.{start_parts}
use Rattle.tree_machine.specs.Trees.{read, tree_of}
use Rattle.tree_machine.specs.Instructions.{plain_of}
use Rattle.tree_machine.specs.Functions.{own_function, callee_of}
use Rattle.tree_machine.specs.Limits.{judged}
use Rattle.tree_machine.specs.Exits.{settled}
use Rattle.tree_machine.specs.Point.{settle}
use Rattle.tree_machine.specs.Step.{execute_plain, next, step}
use Rattle.tree_machine.specs.Replies.{same_request, replied}
use Rattle.tree_machine.specs.Instantiation.{value_of, segments_lie_in}
use Rattle.tree_machine.specs.Begin.{entry_of, begin, begun}
use Rattle.tree_machine.specs.Run.{run, point_at, at}

abbrev pub start : (fuel : ℕ) → Start
start fuel = record {
  pid = 1;
  «module» = 0;
  entry = codes "_start";
  params = [];
  limits = record { pages = 64; fuel = fuel; traffic = 67108864 };
}

abbrev pub bare : ℕ → Instr
bare code = record { code = code; imm = imm.None }

abbrev pub i32 : ℕ → Instr
i32 n = record { code = 0x41; imm = imm.I32 n }

abbrev pub index : ℕ → ℕ → Instr
index code n = record { code = code; imm = imm.Index n }

abbrev pub body : List Instr → Parts
body list = start_parts (list ++ end_instr ∷ [])

-- i32.const 42, drop: after two instructions the run is over
const_drop : state_of (at (body (i32 42 ∷ bare 0x1A ∷ [])) (start 2) [] 2) ≡ Some Finished
unfolding at point_at run step next execute_plain judged settle settled begin begun entry_of own_function callee_of tree_of read plain_of value_of segments_lie_in
const_drop = refl

-- br 0, i32.add, drop: the branch leaves the body
branch_out : state_of (at (body (index 0x0C 0 ∷ bare 0x6A ∷ bare 0x1A ∷ [])) (start 100) [] 1) ≡ Some Finished
unfolding at point_at run step next execute_plain judged settle settled begin begun entry_of own_function callee_of tree_of read plain_of value_of segments_lie_in same_request replied
branch_out = refl

-- the least number divided by -1 traps
divides : state_of (at (body (i32 (2 ^ 31) ∷ i32 (2 ^ 32 - 1) ∷ bare 0x6D ∷ bare 0x1A ∷ [])) (start 100) [] 3) ≡ Some (Trapped traps.Overflow)
unfolding at point_at run step next execute_plain judged settle settled begin begun entry_of own_function callee_of tree_of read plain_of value_of segments_lie_in same_request replied
divides = refl

-- its remainder does not
remains : state_of (at (body (i32 (2 ^ 31) ∷ i32 (2 ^ 32 - 1) ∷ bare 0x6F ∷ bare 0x1A ∷ [])) (start 100) [] 4) ≡ Some Finished
unfolding at point_at run step next execute_plain judged settle settled begin begun entry_of own_function callee_of tree_of read plain_of value_of segments_lie_in same_request replied
remains = refl

-- after a trap there is no run
past_trap : at (body (bare 0x00 ∷ [])) (start 100) [] 2 ≡ None
unfolding at point_at run step next execute_plain judged settle settled begin begun entry_of own_function callee_of tree_of read plain_of value_of segments_lie_in same_request replied
past_trap = refl

-- loop, br 0: goes on and on
loops : state_of (at (body (loop_instr None ∷ index 0x0C 0 ∷ end_instr ∷ [])) (start 1000) [] 51) ≡ Some Ready
unfolding at point_at run step next execute_plain judged settle settled begin begun entry_of own_function callee_of tree_of read plain_of value_of segments_lie_in same_request replied
loops = refl

-- the loop instruction is executed again
loops_even : state_of (at (body (loop_instr None ∷ index 0x0C 0 ∷ end_instr ∷ [])) (start 1000) [] 52) ≡ Some Ready
unfolding at point_at run step next execute_plain judged settle settled begin begun entry_of own_function callee_of tree_of read plain_of value_of segments_lie_in same_request replied
loops_even = refl

-- as many instructions as are allowed
fueled : state_of (at (body (i32 42 ∷ bare 0x1A ∷ [])) (start 1) [] 1) ≡ Some Ready
unfolding at point_at run step next execute_plain judged settle settled begin begun entry_of own_function callee_of tree_of read plain_of value_of segments_lie_in same_request replied
fueled = refl

-- one more than are allowed
starved : at (body (i32 42 ∷ bare 0x1A ∷ [])) (start 1) [] 2 ≡ None
unfolding at point_at run step next execute_plain judged settle settled begin begun entry_of own_function callee_of tree_of read plain_of value_of segments_lie_in same_request replied
starved = refl

-- a branch out of two blocks with a value: block (result i32) block i32.const 7 br 1 end i32.const 8 end i32.const 7 i32.sub if unreachable end
out_of_two : state_of (at (body (block_instr (Some I32) ∷ block_instr None ∷ i32 7 ∷ index 0x0C 1 ∷ end_instr ∷ i32 8 ∷ end_instr ∷ i32 7 ∷ bare 0x6B ∷ if_instr None ∷ bare 0x00 ∷ end_instr ∷ [])) (start 100) [] 7) ≡ Some Finished
unfolding at point_at run step next execute_plain judged settle settled begin begun entry_of own_function callee_of tree_of read plain_of value_of segments_lie_in same_request replied
out_of_two = refl

-- the same, by br_if 0 and without a value: the rest of the outer block is executed
out_of_one : state_of (at (body (block_instr (Some I32) ∷ block_instr None ∷ i32 7 ∷ index 0x0D 0 ∷ end_instr ∷ i32 8 ∷ end_instr ∷ i32 7 ∷ bare 0x6B ∷ if_instr None ∷ bare 0x00 ∷ end_instr ∷ [])) (start 100) [] 9) ≡ Some (Trapped traps.Unreachable)
unfolding at point_at run step next execute_plain judged settle settled begin begun entry_of own_function callee_of tree_of read plain_of value_of segments_lie_in same_request replied
out_of_one = refl

-- if with 0 takes the else
else_taken : state_of (at (body (i32 0 ∷ if_instr None ∷ bare 0x00 ∷ else_instr ∷ bare 0x01 ∷ bare 0x01 ∷ end_instr ∷ [])) (start 100) [] 4) ≡ Some Finished
unfolding at point_at run step next execute_plain judged settle settled begin begun entry_of own_function callee_of tree_of read plain_of value_of segments_lie_in same_request replied
else_taken = refl

-- if with another number the first list
then_taken : state_of (at (body (i32 5 ∷ if_instr None ∷ bare 0x01 ∷ else_instr ∷ bare 0x00 ∷ end_instr ∷ [])) (start 100) [] 3) ≡ Some Finished
unfolding at point_at run step next execute_plain judged settle settled begin begun entry_of own_function callee_of tree_of read plain_of value_of segments_lie_in same_request replied
then_taken = refl

-- return out of a loop in a block
returns : state_of (at (body (block_instr None ∷ loop_instr None ∷ bare 0x0F ∷ end_instr ∷ end_instr ∷ bare 0x00 ∷ [])) (start 100) [] 3) ≡ Some Finished
unfolding at point_at run step next execute_plain judged settle settled begin begun entry_of own_function callee_of tree_of read plain_of value_of segments_lie_in same_request replied
returns = refl
