-- The spellings of types.
use Rattle.std.specs.Prelude.{◌≡◌, ℕ, List, [], ◌∷◌, ◌++◌, Bool, true, false, Option, Some, None}
use Rattle.wasm_form.specs.Values.{SpellsU32, SpellsVector}
use Rattle.wasm_form.specs.declared.value_type.ValType.{ValType}
use Rattle.wasm_form.specs.declared.value_type.ValType.TheVariants.{I32, I64, F32, F64}
use Rattle.wasm_form.specs.declared.types.FuncType.{FuncType}
use Rattle.wasm_form.specs.declared.types.Bounds.{Bounds}
use Rattle.wasm_form.specs.declared.types.GlobalType.{GlobalType}

-- Core 1.0, 5.3.1, value types
abbrev pub SpellsValType : List ℕ → ValType → Type 0
SpellsValType bytes I32 = bytes ≡ 0x7F ∷ []
SpellsValType bytes I64 = bytes ≡ 0x7E ∷ []
SpellsValType bytes F32 = bytes ≡ 0x7D ∷ []
SpellsValType bytes F64 = bytes ≡ 0x7C ∷ []

-- Core 1.0, 5.3.2, result types: of a block, which has one result or none
abbrev pub SpellsBlockType : List ℕ → Option ValType → Type 0
SpellsBlockType bytes None = bytes ≡ 0x40 ∷ []
SpellsBlockType bytes (Some ty) = SpellsValType bytes ty

-- Core 1.0, 5.3.3, function types
abbrev pub SpellsFuncType : List ℕ → FuncType → Type 0
SpellsFuncType bytes ty =
    (params : List ℕ) × (results : List ℕ) × SpellsVector SpellsValType params ty.params × SpellsVector SpellsValType results ty.results
    × (bytes ≡ 0x60 ∷ (params ++ results))

-- Core 1.0, 5.3.4, limits: a minimum, and a maximum where there is one
abbrev pub SpellsMinMax : List ℕ → ℕ → Option ℕ → Type 0
SpellsMinMax bytes min None = (n : List ℕ) × SpellsU32 n min × (bytes ≡ 0x00 ∷ n)
SpellsMinMax bytes min (Some max) = (n : List ℕ) × (m : List ℕ) × SpellsU32 n min × SpellsU32 m max × (bytes ≡ 0x01 ∷ (n ++ m))

-- Core 1.0, 5.3.4 and 5.3.5, limits and memory types
abbrev pub SpellsLimits : List ℕ → Bounds → Type 0
SpellsLimits bytes bounds = SpellsMinMax bytes bounds.min bounds.max

-- Core 1.0, 5.3.6, table types: of functions, the one type of elements
abbrev pub SpellsTableType : List ℕ → Bounds → Type 0
SpellsTableType bytes bounds = (limits : List ℕ) × SpellsLimits limits bounds × (bytes ≡ 0x70 ∷ limits)

-- Core 1.0, 5.3.7, global types: whether the global may be written
abbrev pub SpellsMutability : List ℕ → Bool → Type 0
SpellsMutability bytes false = bytes ≡ 0x00 ∷ []
SpellsMutability bytes true = bytes ≡ 0x01 ∷ []

-- Core 1.0, 5.3.7, global types
abbrev pub SpellsGlobalType : List ℕ → GlobalType → Type 0
SpellsGlobalType bytes ty =
    (value : List ℕ) × (mutability : List ℕ) × SpellsValType value ty.ty × SpellsMutability mutability ty.mutable × (bytes ≡ value ++ mutability)
