-- The configuration of an instance (Core 1.0, 4.2). Values are plain numbers, those of an i32 below 2^32; of a list of
-- operands the top comes first.
use Rattle.std.specs.Prelude.{ℕ, List, [], ◌∷◌, ◌++◌, replicate, Option, Some, None, length}
use Rattle.wasm_form.specs.declared.value_type.ValType.{ValType}
use Rattle.wasm_form.specs.Trees.{Code}
use Rattle.linear_memory.specs.Contents.{Contents}
use Rattle.tree_machine.specs.Functions.{Function}

-- Core 1.0, 4.2.12, labels: a branch leaves the block with so many results, or executes the loop with this inside again
pub data Label : Type 0 where
  Leave : (results : ℕ) → Label
  Again : (result : Option ValType) (inside : Code) → Label

-- what is left of the list of a block, a loop, an if or a body, its label, and the operands below it
pub record Cont : Type 0 where
  pub rest : Code
  pub label : Label
  pub under : List ℕ

abbrev pub cont : Code → Label → List ℕ → Cont
cont rest label under = record { rest = rest; label = label; under = under }

-- Core 1.0, 4.2.12, frames: a function at work, with its locals, the operands in the innermost list, and the lists that
-- have begun, the innermost first and the body last
pub record Frame : Type 0 where
  pub locals : List ℕ
  pub operands : List ℕ
  pub conts : List Cont

-- Core 1.0, 4.5.5, invocation: a function that is to be entered, and its arguments
pub record Invocation : Type 0 where
  pub function : ℕ
  pub arguments : List ℕ

-- the globals; the table, where an element may be unset; the memory, if there is one; the functions still to be
-- entered; and the frames, the innermost first
pub record Config : Type 0 where
  pub globals : List ℕ
  pub table : List (Option ℕ)
  pub memory : Option Contents
  pub invocations : List Invocation
  pub frames : List Frame

-- Core 1.0, 4.4.7, entering a function: the arguments are the first locals, and the others are 0
abbrev pub frame_of : Function → (arguments : List ℕ) → Frame
frame_of function arguments = record {
  locals = arguments ++ replicate function.locals 0;
  operands = [];
  conts = cont function.code (Leave (length function.ty.results)) [] ∷ [];
}

-- the configuration with these frames
abbrev pub with_frames : List Frame → Config → Config
with_frames frames c = record c { frames = frames }

-- the frame with these operands
abbrev pub with_operands : List ℕ → Frame → Frame
with_operands operands f = record f { operands = operands }

-- the bytes of a memory; without one there are none
abbrev pub bytes_of : Option Contents → List ℕ
bytes_of None = []
bytes_of (Some memory) = memory.bytes

-- the memory with these bytes
abbrev pub with_bytes : List ℕ → Option Contents → Option Contents
with_bytes bytes None = None
with_bytes bytes (Some memory) = Some (record memory { bytes = bytes })
