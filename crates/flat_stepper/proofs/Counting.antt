-- Instructions that cost fuel.
use Rattle.std.proofs.Common.{◌≡◌, ◌<◌, ℕ, List, IfOk, Result, Ok, Err, refl, sym, subst, arith}
use Rattle.linear_memory.specs.Contents.{Contents}
use Rattle.wasm_form.specs.declared.instr.Instr.{Instr}
use Rattle.flat_stepper.specs.declared.next.Next.{Next}
use Rattle.flat_stepper.specs.declared.turn.Pause.{Pause}
use Rattle.flat_stepper.specs.declared.within.Within.{Within}
use Rattle.flat_stepper.specs.declared.within.Spot.{Spot}
use Rattle.flat_stepper.specs.Standing.{StepsAll, HasRoom, IsLow}
use Rattle.flat_stepper.specs.Nexts.{next_of, IsCounted, NextOf, GoesWithin}

pub low_counted : (i : Instr) → IsLow i.code → IsCounted i
low_counted i low = (low.4, low.3)

counted_next : (within : Within) (i : Instr) (old : List ℕ) (memory_old : Contents) (globals_old : List ℕ) (at : Spot) (new : List ℕ) (memory_new : Contents) (globals_new : List ℕ)
    (outcome : Result Spot Pause) → IsCounted i → StepsAll within i old memory_old globals_old at new memory_new globals_new outcome →
    NextOf within i old memory_old globals_old at new memory_new globals_new (next_of at outcome)
counted_next within i old memory_old globals_old at new memory_new globals_new (Ok to) counted steps = (counted, steps)
counted_next within i old memory_old globals_old at new memory_new globals_new (Err reason) counted steps = (refl, (counted, steps))

-- what comes after an instruction that costs fuel
pub comes_next : (within : Within) (i : Instr) (old : List ℕ) (memory_old : Contents) (globals_old : List ℕ) (at : Spot) (new : List ℕ) (memory_new : Contents) (globals_new : List ℕ)
    (outcome : Result Spot Pause) (n : Next) → n ≡ next_of at outcome → IsCounted i → StepsAll within i old memory_old globals_old at new memory_new globals_new outcome →
    NextOf within i old memory_old globals_old at new memory_new globals_new n
comes_next within i old memory_old globals_old at new memory_new globals_new outcome n is counted steps =
    subst (λ (x : Next). NextOf within i old memory_old globals_old at new memory_new globals_new x) (sym is)
    (counted_next within i old memory_old globals_old at new memory_new globals_new outcome counted steps)

counted_room : (at : Spot) (outcome : Result Spot Pause) (places : ℕ) → IfOk outcome (λ to. HasRoom to places) → GoesWithin (next_of at outcome) places
counted_room at (Ok to) places room = room
counted_room at (Err reason) places room = room

-- and its room
pub room_next : (at : Spot) (outcome : Result Spot Pause) (places : ℕ) (n : Next) → n ≡ next_of at outcome → IfOk outcome (λ to. HasRoom to places) → GoesWithin n places
room_next at outcome places n is room = subst (λ (x : Next). GoesWithin x places) (sym is) (counted_room at outcome places room)

-- codes below else, and above end
pub counted_low : (i : Instr) → i.code < 0x05 → IsCounted i
counted_low i low = (λ w. absurd (omega (arith, low, w)), λ w. absurd (omega (arith, low, w)))

pub counted_high : (i : Instr) → 0x0B < i.code → IsCounted i
counted_high i high = (λ w. absurd (omega (arith, high, w)), λ w. absurd (omega (arith, high, w)))
