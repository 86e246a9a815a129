-- Where the execution of a body pauses.
use Rattle.std.specs.Prelude.{◌≡◌, ◌<◌, ◌+◌, ℕ}
use Rattle.host_port.specs.declared.stop.Spent.TheVariants as limit
use Rattle.wasm_form.specs.declared.instr.Instr.{Instr}
use Rattle.wasm_form.specs.declared.instr.Imm.TheVariants as imm
use Rattle.wasm_form.specs.declared.parts.Parts.{Parts}
use Rattle.code_map.specs.declared.map.CodeMap.{CodeMap}
use Rattle.tree_machine.specs.Limits.{most_values}
use Rattle.flat_machine.specs.Flat.{Flat}
use Rattle.flat_machine.specs.Tells.{IsInstrAt}
use Rattle.flat_machine.specs.Moves.{Traps, Exceeds, leave, move, places_in}
use Rattle.flat_machine.specs.Runs.{IsReady}
use Rattle.flat_stepper.specs.declared.turn.Pause.{Pause}
use Rattle.flat_stepper.specs.declared.turn.Pause.TheVariants as pause

-- the next instruction has this code and this index
abbrev pub IsIndexedAt : Parts → Flat → (code index : ℕ) → Type 0
IsIndexedAt m flat code index =
    (i : Instr) × IsInstrAt m flat.place i × (i.code ≡ code) × (i.imm ≡ imm.Index index)

-- the next instruction needs a place more than there are, and more than there may be where that is how many there are
abbrev pub IsFull : Parts → CodeMap → (places : ℕ) → Flat → Type 0
IsFull m map places flat =
    (places < places_in flat + 1) × (places ≡ most_values → move m map flat ≡ Exceeds limit.Values)

-- A machine whose array has so many places pauses so, where so many instructions of the budget were executed.
abbrev pub PausesSo : Parts → CodeMap → Pause → (budget executed places : ℕ) → Flat → Type 0
PausesSo m map pause.Slice budget executed places flat = (executed ≡ budget) × IsReady m flat
PausesSo m map pause.Over budget executed places flat = move m map flat ≡ leave m map flat.callers flat
PausesSo m map pause.Full budget executed places flat = (executed < budget) × IsFull m map places flat
PausesSo m map (pause.Call function) budget executed places flat =
    (executed < budget) × IsIndexedAt m flat 0x10 function
PausesSo m map (pause.CallIndirect ty) budget executed places flat =
    (executed < budget) × IsIndexedAt m flat 0x11 ty
PausesSo m map (pause.Trap trap) budget executed places flat =
    (executed < budget) × (move m map flat ≡ Traps trap)
