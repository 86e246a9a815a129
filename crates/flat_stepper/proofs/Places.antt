-- The place behind an instruction.
use Rattle.std.proofs.Common.{◌<◌, ℕ, List, length}
use Rattle.std.proofs.lemmas.Option.{slice_get_within}
use Rattle.linear_memory.specs.Contents.{Contents}
use Rattle.wasm_form.specs.declared.instr.Instr.{Instr}
use Rattle.flat_stepper.specs.declared.within.Within.{Within}
use Rattle.flat_stepper.specs.declared.within.Spot.{Spot}
use Rattle.flat_stepper.specs.Standing.{CanStep, CanBranch, CanPass}

pub step_within : (within : Within) (i : Instr) (old : List ℕ) (memory : Contents) (globals : List ℕ) (at : Spot) → CanStep within i old memory globals at → at.pc < length within.code.now
step_within within i old memory globals at can = slice_get_within within.code.now at.pc i can.4.instr_is

pub branch_within : (within : Within) (i : Instr) (old : List ℕ) (at : Spot) → CanBranch within i old at → at.pc < length within.code.now
branch_within within i old at can = step_within within i old can.0 can.1 at can.2

pub pass_within : (within : Within) (i : Instr) (at : Spot) → CanPass within i at → at.pc < length within.code.now
pass_within within i at can = step_within within i can.0 can.1 can.2 at can.3
