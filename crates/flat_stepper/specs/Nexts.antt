-- What comes after an instruction.
use Rattle.std.specs.Prelude.{◌≡◌, ◌≢◌, ◌<◌, ℕ, List, Bool, Result, Ok, Err}
use Rattle.linear_memory.specs.Contents.{Contents}
use Rattle.wasm_form.specs.declared.instr.Instr.{Instr}
use Rattle.wasm_form.specs.declared.parts.Parts.{Parts}
use Rattle.code_map.specs.declared.map.CodeMap.{CodeMap}
use Rattle.flat_machine.specs.Flat.{Flat}
use Rattle.flat_stepper.specs.declared.next.Next.{Next}
use Rattle.flat_stepper.specs.declared.next.Next.TheVariants as next
use Rattle.flat_stepper.specs.declared.turn.Pause.{Pause}
use Rattle.flat_stepper.specs.declared.within.Within.{Within}
use Rattle.flat_stepper.specs.declared.within.Spot.{Spot}
use Rattle.flat_stepper.specs.Standing.{Stands, StepsAll, PassesTo, HasRoom}

-- what an instruction at this spot that costs fuel came to
abbrev pub next_of : (at : Spot) → Result Spot Pause → Next
next_of at (Ok to) = next.Goes to
next_of at (Err reason) = next.Pauses at reason

-- it costs fuel: it is no end and no else
abbrev pub IsCounted : Instr → Type 0
IsCounted i = (i.code ≢ 0x0B) × (i.code ≢ 0x05)

-- it costs fuel, and each machine that stands so comes to this spot with these values, or it isn't executed
abbrev pub CountsAll : (within : Within) → Instr → (old : List ℕ) → (memory_old : Contents) → (globals_old : List ℕ)
    → (at : Spot) → (new : List ℕ) → (memory_new : Contents) → (globals_new : List ℕ) → Result Spot Pause → Type 0
CountsAll within i old memory_old globals_old at new memory_new globals_new outcome =
    IsCounted i × StepsAll within i old memory_old globals_old at new memory_new globals_new outcome

-- What comes after the instruction: it costs fuel and was executed, or it is passed and lies behind, or it costs fuel
-- and isn't executed, and the body stands where it stood.
abbrev pub NextOf : (within : Within) → Instr → (old : List ℕ) → (memory_old : Contents) → (globals_old : List ℕ)
    → (at : Spot) → (new : List ℕ) → (memory_new : Contents) → (globals_new : List ℕ) → Next → Type 0
NextOf within i old memory_old globals_old at new memory_new globals_new (next.Goes to) =
    CountsAll within i old memory_old globals_old at new memory_new globals_new (Ok to)
NextOf within i old memory_old globals_old at new memory_new globals_new (next.Passes to) =
    (at.pc < to.pc)
    × ((m : Parts) (map : CodeMap) (flat : Flat) (has : Bool)
    → Stands m map flat has within i old memory_old globals_old at
    → PassesTo m map flat has new memory_new globals_new to)
NextOf within i old memory_old globals_old at new memory_new globals_new (next.Pauses here reason) =
    (here ≡ at) × CountsAll within i old memory_old globals_old at new memory_new globals_new (Err reason)

-- where it goes on, there is room in an array of so many places
abbrev pub GoesWithin : Next → (places : ℕ) → Type 0
GoesWithin (next.Goes to) places = HasRoom to places
GoesWithin (next.Passes to) places = HasRoom to places
GoesWithin (next.Pauses here reason) places = Unit {0}
