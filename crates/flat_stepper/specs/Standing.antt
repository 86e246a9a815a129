-- Where a machine stands at an instruction of a body, and what its move is.
use Rattle.std.specs.Prelude.{◌≡◌, ◌≢◌, ◌≤◌, ◌+◌, ◌&&◌, ℕ, nat_lt, List, length, slice_get, Bool, true, cond, Some, Result, Ok, Err}
use Rattle.linear_memory.specs.Contents.{Contents}
use Rattle.wasm_form.specs.declared.body.Body.{Body}
use Rattle.wasm_form.specs.declared.instr.Instr.{Instr}
use Rattle.wasm_form.specs.declared.instr.Imm.{Imm}
use Rattle.wasm_form.specs.declared.instr.Imm.TheVariants as imm
use Rattle.wasm_form.specs.declared.parts.Parts.{Parts}
use Rattle.code_map.specs.declared.body_map.BodyMap.{BodyMap}
use Rattle.code_map.specs.declared.map.CodeMap.{CodeMap}
use Rattle.flat_machine.specs.Flat.{Flat}
use Rattle.flat_machine.specs.Tells.{opens_of}
use Rattle.flat_machine.specs.Moves.{Executes, Passes, Traps, Stuck, move, move_by}
use Rattle.flat_machine.specs.Shown.{IsShown, moved}
use Rattle.flat_stepper.specs.declared.place.Place.{Place}
use Rattle.flat_stepper.specs.declared.turn.Pause.{Pause}
use Rattle.flat_stepper.specs.declared.turn.Pause.TheVariants as pause
use Rattle.flat_stepper.specs.declared.within.Within.{Within}
use Rattle.flat_stepper.specs.declared.within.Spot.{Spot}
use Rattle.flat_stepper.specs.Pauses.{IsFull}

-- the map of the machine's body is the one at hand
pub record IsMappedBy (map : CodeMap) (body : ℕ) (within : Within) : Type 0 where
  pub found : BodyMap
  pub is : slice_get map.bodies body ≡ Some found
  pub slots : found.slots ≡ within.slots.now
  pub targets : found.targets ≡ within.targets.now
  pub tables : found.tables ≡ within.tables.now

-- the instructions and the map are those of the body at this place
pub record IsFetched (m : Parts) (map : CodeMap) (at : Place) (outer : ℕ) (within : Within) : Type 0 where
  pub text : Body
  pub text_is : slice_get m.bodies at.body ≡ Some text
  pub code_is : text.expr.code ≡ within.code.now
  pub mapped : IsMappedBy map at.body within
  pub base_is : at.base ≡ within.base
  pub outer_is : outer ≡ within.outer

-- the machine stands at this instruction of the body, at this spot, and is not stuck there
pub record Stands (m : Parts) (map : CodeMap) (flat : Flat) (has : Bool) (within : Within) (i : Instr)
    (values : List ℕ) (memory : Contents) (globals : List ℕ) (at : Spot) : Type 0 where
  pub shown : IsShown flat has values at.sp within.base memory globals
  pub pc_is : flat.place.pc ≡ at.pc
  pub opens_are : flat.place.opens ≡ at.opens
  pub outer_is : opens_of flat.callers ≡ within.outer
  pub mapped : IsMappedBy map flat.place.body within
  pub instr_is : slice_get within.code.now at.pc ≡ Some i
  pub moves : move m map flat ≡ move_by m map (length within.code.now) i flat
  pub free : move m map flat ≢ Stuck

-- it comes to this spot with these values by passing the instruction
abbrev pub PassesTo : Parts → CodeMap → Flat → (has : Bool) → (values : List ℕ) → Contents → (globals : List ℕ) → Spot
    → Type 0
PassesTo m map flat has values memory globals to =
    move m map flat ≡ Passes (moved flat has values to.sp memory globals to.pc to.opens)

-- the instruction is not executed, for this reason, where the array has so many places
abbrev pub HoldsBack : Parts → CodeMap → Pause → (places : ℕ) → Instr → Flat → Type 0
HoldsBack m map pause.Slice places i flat = ⊥
HoldsBack m map pause.Over places i flat = ⊥
HoldsBack m map pause.Full places i flat = IsFull m map places flat
HoldsBack m map (pause.Call function) places i flat = (i.code ≡ 0x10) × (i.imm ≡ imm.Index function)
HoldsBack m map (pause.CallIndirect ty) places i flat = (i.code ≡ 0x11) × (i.imm ≡ imm.Index ty)
HoldsBack m map (pause.Trap trap) places i flat = move m map flat ≡ Traps trap

-- By the instruction at this spot the machine comes to another one with these values. Or it isn't executed, and these
-- values still show the machine.
abbrev pub Steps : Parts → CodeMap → Flat → (has : Bool) → Instr → (at : Spot) → (values : List ℕ) → Contents
    → (globals : List ℕ) → Result Spot Pause → Type 0
Steps m map flat has i at values memory globals (Ok to) =
    move m map flat ≡ Executes (moved flat has values to.sp memory globals to.pc to.opens)
Steps m map flat has i at values memory globals (Err reason) =
    HoldsBack m map reason (length values) i flat
    × (moved flat has values at.sp memory globals at.pc at.opens ≡ flat)

-- some machine stands so
abbrev pub CanStep : (within : Within) → Instr → (values : List ℕ) → Contents → (globals : List ℕ) → Spot → Type 0
CanStep within i values memory globals at =
    (m : Parts) × (map : CodeMap) × (flat : Flat) × (has : Bool) × Stands m map flat has within i values memory globals at

-- some machine stands so, with this memory and these globals or others
abbrev pub CanBranch : (within : Within) → Instr → (values : List ℕ) → Spot → Type 0
CanBranch within i values at =
    (memory : Contents) × (globals : List ℕ) × CanStep within i values memory globals at

-- each machine that stands so comes to this spot with these values, or the instruction isn't executed
abbrev pub StepsAll : (within : Within) → Instr → (old : List ℕ) → (memory_old : Contents) → (globals_old : List ℕ)
    → (at : Spot) → (new : List ℕ) → (memory_new : Contents) → (globals_new : List ℕ) → Result Spot Pause → Type 0
StepsAll within i old memory_old globals_old at new memory_new globals_new outcome =
    (m : Parts) (map : CodeMap) (flat : Flat) (has : Bool) → Stands m map flat has within i old memory_old globals_old at
    → Steps m map flat has i at new memory_new globals_new outcome

-- the same, where memory and globals stay
abbrev pub Branches : (within : Within) → Instr → (old : List ℕ) → (at : Spot) → (new : List ℕ) → Result Spot Pause
    → Type 0
Branches within i old at new outcome =
    (memory : Contents) (globals : List ℕ) → StepsAll within i old memory globals at new memory globals outcome

-- each machine that stands so comes to this spot by passing the instruction
abbrev pub PassesAll : (within : Within) → Instr → (at to : Spot) → Type 0
PassesAll within i at to =
    (m : Parts) (map : CodeMap) (flat : Flat) (has : Bool) (values : List ℕ) (memory : Contents) (globals : List ℕ)
    → Stands m map flat has within i values memory globals at → PassesTo m map flat has values memory globals to

-- the spot has room in an array of so many places
abbrev pub HasRoom : Spot → (places : ℕ) → Type 0
HasRoom at places = at.sp + at.opens ≤ places

-- some machine stands so, whatever its values
abbrev pub CanPass : (within : Within) → Instr → Spot → Type 0
CanPass within i at =
    (values : List ℕ) × (memory : Contents) × (globals : List ℕ) × CanStep within i values memory globals at

-- the immediates of a br_table
abbrev pub IsTable : Imm → Type 0
IsTable i = (first : ℕ) × (count : ℕ) × (last : ℕ) × (i ≡ imm.Table first count last)

-- no branch, no call, no end and no else has this code, and no instruction that leaves a value or an open block more
abbrev pub IsLow : (code : ℕ) → Type 0
IsLow code =
    (code ≢ 0x02) × (code ≢ 0x03) × (code ≢ 0x04) × (code ≢ 0x05) × (code ≢ 0x0B) × (code ≢ 0x0C) × (code ≢ 0x0D)
    × (code ≢ 0x0E) × (code ≢ 0x0F) × (code ≢ 0x10) × (code ≢ 0x11) × (code ≢ 0x20) × (code ≢ 0x23) × (code ≢ 0x3F)
    × (code ≢ 0x41) × (code ≢ 0x42)

-- a code below or above those of control whose instruction is such a one
abbrev pub is_low : (code : ℕ) → Bool
is_low code =
    cond (nat_lt code 0x02) true
    (nat_lt 0x11 code && cond (nat_lt code 0x24) (cond (nat_lt 0x20 code) (nat_lt code 0x23) (nat_lt code 0x20))
    (cond (nat_lt code 0x3F) true (nat_lt 0x42 code)))
