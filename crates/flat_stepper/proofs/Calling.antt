-- Calls have their index.
use Rattle.std.proofs.Common.{◌≡◌, ◌≢◌, ℕ, List, Option, Some, None, refl, ◌∙◌}
use Rattle.linear_memory.specs.Contents.{Contents}
use Rattle.wasm_form.specs.declared.instr.Instr.{Instr}
use Rattle.wasm_form.specs.declared.parts.Parts.{Parts}
use Rattle.code_map.specs.declared.map.CodeMap.{CodeMap}
use Rattle.tree_machine.specs.Instructions.{index_in}
use Rattle.flat_machine.specs.Flat.{Flat}
use Rattle.flat_machine.specs.Moves.{Stuck, call_function, call_indirect}
use Rattle.flat_stepper.specs.declared.within.Within.{Within}
use Rattle.flat_stepper.specs.declared.within.Spot.{Spot}
use Rattle.flat_stepper.specs.Standing.{CanStep}
use Rattle.flat_stepper.proofs.Codes.{moves_call, moves_call_indirect}

function_there : (m : Parts) (map : CodeMap) (flat : Flat) (o : Option ℕ) → call_function m map o flat ≢ Stuck → o ≢ None
function_there m map flat None free = λ w. free refl
function_there m map flat (Some x) free = λ w. cc

type_there : (m : Parts) (map : CodeMap) (flat : Flat) (o : Option ℕ) → call_indirect m map o flat ≢ Stuck → o ≢ None
type_there m map flat None free = λ w. free refl
type_there m map flat (Some x) free = λ w. cc

pub calls_there : (within : Within) (i : Instr) (old : List ℕ) (memory : Contents) (globals : List ℕ) (at : Spot) → CanStep within i old memory globals at → i.code ≡ 0x10 → index_in i.imm ≢ None
calls_there within i old memory globals at can code =
    let s = can.4 in
    function_there can.0 can.1 can.2 (index_in i.imm) (λ w. s.free (s.moves ∙ moves_call can.0 can.1 _ i can.2 code ∙ w))

pub calls_type : (within : Within) (i : Instr) (old : List ℕ) (memory : Contents) (globals : List ℕ) (at : Spot) → CanStep within i old memory globals at → i.code ≡ 0x11 → index_in i.imm ≢ None
calls_type within i old memory globals at can code =
    let s = can.4 in
    type_there can.0 can.1 can.2 (index_in i.imm) (λ w. s.free (s.moves ∙ moves_call_indirect can.0 can.1 _ i can.2 code ∙ w))
