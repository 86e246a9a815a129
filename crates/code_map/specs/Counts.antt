-- How many operands instructions take and give.
use Rattle.std.specs.Prelude.{◌≡◌, ◌==◌, ℕ, ◌+◌, ◌≤◌, ◌||◌, length, Option, Some, None, if◌then◌else◌}
use Rattle.wasm_ops.specs.declared.instruction.Row.{Row}
use Rattle.wasm_form.specs.declared.types.FuncType.{FuncType}
use Rattle.wasm_form.specs.declared.instr.Instr.{Instr}
use Rattle.wasm_form.specs.declared.parts.Parts.{Parts}
use Rattle.wasm_form.specs.Context.{Context, functions_of}
use Rattle.wasm_form.specs.Typing.{HasType}
use Rattle.code_map.specs.declared.counts.Counts.{Counts}
use Rattle.code_map.specs.declared.signatures.Signatures.{Signatures}
use Rattle.code_map.specs.Flows.{IsContextOf}

abbrev pub counts : (takes gives : ℕ) → Counts
counts takes gives = record { takes = takes; gives = gives }

-- of those that neither are integer operations, loads or stores nor calls, by code; what they leave alone doesn't count
unfoldable pub control_counts : (code : ℕ) → Counts
control_counts code =
    -- br_if, drop, local.set, global.set
    if code == 0x0D || code == 0x1A || code == 0x21 || code == 0x24 then counts 1 0
    -- select
    else if code == 0x1B then counts 2 0
    -- local.get, global.get, memory.size, the constants
    else if code == 0x20 || code == 0x23 || code == 0x3F || code == 0x41 || code == 0x42 then counts 0 1
    else counts 0 0

-- one, if there is one
abbrev pub one_if : {A : Type 0} → Option A → ℕ
one_if None = 0
one_if (Some x) = 1

-- of an integer operation, a load or a store, as the table says
abbrev pub listed_counts : Row → Counts
listed_counts row = counts (one_if row.first + one_if row.second) (one_if row.result)

-- it has one result at most, and few parameters
pub record IsNarrow (ty : FuncType) : Type 0 where
  pub results : length ty.results ≤ 1
  pub params : length ty.params ≤ 1000

-- they change the number of operands as an instruction of this type does, and take no more than it
pub record Count (c : Counts) (ty : FuncType) : Type 0 where
  pub same : c.takes + length ty.results ≡ c.gives + length ty.params
  pub few : c.takes ≤ length ty.params

-- these are the types and functions of the module
pub record AreSignatures (m : Parts) (s : Signatures) : Type 0 where
  pub types : m.types ≡ s.types.now
  pub functions : functions_of m ≡ s.functions.now

-- they count the instruction, whatever type it has in a module with these types and functions
abbrev pub CountsOf : Signatures → Instr → Counts → Type 0
CountsOf s i c =
    (m : Parts) (context : Context) (ty : FuncType) → AreSignatures m s → IsContextOf m context
    → HasType context i ty → Count c ty
