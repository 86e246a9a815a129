-- What an instruction that opens and closes no block does to the flow: it goes on to the next one, branches to labels,
-- or ends there.
use Rattle.std.specs.Prelude.{◌≡◌, ℕ, ◌+◌, ◌⊎◌, length}
use Rattle.wasm_form.specs.declared.types.FuncType.{FuncType}
use Rattle.wasm_form.specs.declared.instr.Instr.{Instr}
use Rattle.wasm_form.specs.declared.instr.Imm.TheVariants as imm
use Rattle.wasm_form.specs.declared.parts.Parts.{Parts}
use Rattle.wasm_form.specs.Context.{Context, functions_of}
use Rattle.wasm_form.specs.Typing.{HasType}

-- Core 1.0, 4.4.5 and 4.4.6: br and br_if may branch to their label, return to the outermost of so many
abbrev pub MayBranch : (labels : ℕ) → Instr → (label : ℕ) → Type 0
MayBranch labels i label =
    (((i.code ≡ 0x0C) ⊎ (i.code ≡ 0x0D)) × (i.imm ≡ imm.Index label)) ⊎ ((i.code ≡ 0x0F) × (labels ≡ label + 1))

-- the context has the module's types and functions
pub record IsContextOf (m : Parts) (context : Context) : Type 0 where
  pub types : context.types ≡ m.types
  pub functions : context.functions ≡ functions_of m

-- Core 1.0, 3.3.1 to 3.3.5: somewhere in the module the instruction has a type, so it goes on to the next one; where so
-- many values stood, so many stand after it. What leaves, as br, return and unreachable, has none
pub record GoesOn (m : Parts) (i : Instr) (before after : ℕ) : Type 0 where
  pub context : Context
  pub inside : IsContextOf m context
  pub ty : FuncType
  pub typed : HasType context i ty
  pub below : ℕ
  pub stood : before ≡ length ty.params + below
  pub stands : after ≡ length ty.results + below
