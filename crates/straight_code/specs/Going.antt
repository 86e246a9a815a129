-- What a straight instruction asks of an array of values, of which the first `sp` are the machine's, and what it makes
-- of it.
use Rattle.std.specs.Prelude.{◌≡◌, ◌≢◌, ◌≤◌, ℕ, ◌+◌, ◌-◌, ◌^◌, ◌<◌, Bool, List, slice_index, if◌then◌else◌, Option, Some, None, Result, Ok, Err}
use Rattle.wasm_ops.specs.Table.{first_of, second_of, takes_one, FitsType}
use Rattle.wasm_ops.specs.declared.trap.Trap.{Trap}
use Rattle.linear_memory.specs.Contents.{Contents}
use Rattle.tree_machine.specs.Instructions.{Plain}
use Rattle.tree_machine.specs.Outcomes.{Effect, Gives, Fails, Undefined}
use Rattle.tree_machine.specs.Numeric.{unary, binary}
use Rattle.flat_machine.specs.Flat.{Flat}
use Rattle.flat_machine.specs.Straight.{straight}
use Rattle.flat_machine.specs.Moves.{Stuck, go_straight}
use Rattle.flat_machine.specs.Shown.{IsShown, moved}

-- what an instruction makes of the machine, where there is such an instruction
abbrev pub straight_of : Option Plain → Flat → Effect Flat
straight_of None flat = Undefined
straight_of (Some i) flat = straight i flat

-- some machine that these show goes on at this instruction, or traps
abbrev pub CanGo : Option Plain → (values : List ℕ) → (sp base : ℕ) → Contents → (globals : List ℕ) → Type 0
CanGo i values sp base memory globals =
    (flat : Flat) × (has : Bool) × IsShown flat has values sp base memory globals × (go_straight i flat ≢ Stuck)

-- the machine has these values, of which so many are its own, this memory and these globals at the next instruction, or
-- it traps
abbrev pub GoesTo : Effect Flat → Flat → (has : Bool) → Result ℕ Trap → (values : List ℕ) → Contents →
    (globals : List ℕ) → Type 0
GoesTo effect flat has (Ok sp) values memory globals =
    effect ≡ Gives (moved flat has values sp memory globals (flat.place.pc + 1) flat.place.opens)
GoesTo effect flat has (Err trap) values memory globals = effect ≡ Fails trap

-- no instruction with this code leaves a value more: not local.get, global.get, memory.size, i32.const, i64.const
abbrev pub AddsNone : ℕ → Type 0
AddsNone code = (code ≢ 0x20) × (code ≢ 0x23) × (code ≢ 0x3F) × (code ≢ 0x41) × (code ≢ 0x42)

-- the operand of a numeric instruction is there, and has its type
pub record TakesOne (code : ℕ) (values : List ℕ) (sp : ℕ) : Type 0 where
  pub one : 1 ≤ sp
  pub first : FitsType (first_of code) (slice_index values (sp - 1))

-- both operands are there, and have their types
pub record TakesTwo (code : ℕ) (values : List ℕ) (sp : ℕ) : Type 0 where
  pub two : 2 ≤ sp
  pub first : FitsType (first_of code) (slice_index values (sp - 2))
  pub second : FitsType (second_of code) (slice_index values (sp - 1))

-- the address of a load is there, or the pages of memory.grow
pub record TakesAddress (values : List ℕ) (sp : ℕ) : Type 0 where
  pub one : 1 ≤ sp
  pub short : slice_index values (sp - 1) < 2 ^ 32

-- the value of a store and its address are there
pub record TakesStored (values : List ℕ) (sp : ℕ) : Type 0 where
  pub two : 2 ≤ sp
  pub short : slice_index values (sp - 2) < 2 ^ 32

-- a value is there to be put into this local, which lies below it
pub record TakesLocal (base x sp : ℕ) : Type 0 where
  pub below : base + x + 1 < sp

-- what a plain instruction makes of the operands
abbrev pub numeric : (code : ℕ) → (operands : List ℕ) → Effect (List ℕ)
numeric code operands = if takes_one code then unary code operands else binary code operands

-- what an instruction makes of each machine that was shown so and is not stuck: it goes to what is shown now
abbrev pub Leaves : Option Plain → (values : List ℕ) → (sp base : ℕ) → Contents → (globals : List ℕ) →
    Result ℕ Trap → (after : List ℕ) → (now : Contents) → (variables : List ℕ) → Type 0
Leaves i values sp base memory globals result after now variables =
    (flat : Flat) (has : Bool) → IsShown flat has values sp base memory globals → go_straight i flat ≢ Stuck →
    GoesTo (straight_of i flat) flat has result after now variables
