-- A list of bytes for each type, by which equal types are found; and the first index of each type.
use Rattle.std.specs.Prelude.{◌≡◌, ◌≢◌, ℕ, ◌<◌, List, [], ◌∷◌, ◌++◌, map, slice_get, Vec, Option, Some, None}
use Rattle.std.specs.declared.alloc.Global.{Global}
use Rattle.std.specs.declared.cmp.Ordering.{Ordering}
use Rattle.std.specs.Ordering.{nat_cmp}
use Rattle.std.specs.Cmp.Lexicographic.{slice_cmp}
use Rattle.std.specs.BTreeMap.{BTreeMap, get}
use Rattle.wasm_form.specs.declared.types.FuncType.{FuncType}
use Rattle.wasm_form.specs.declared.value_type.ValType.{ValType}
use Rattle.wasm_form.specs.declared.value_type.ValType.TheVariants.{I32, I64, F32, F64}

-- each value type has a number of its own, and none has 0
abbrev pub value_code : ValType → ℕ
value_code I32 = 1
value_code I64 = 2
value_code F32 = 3
value_code F64 = 4

-- the key of a type: its parameters, a 0, its results
abbrev pub type_key : FuncType → List ℕ
type_key ty = map value_code ty.params ++ 0 ∷ map value_code ty.results

-- keys in the order of their bytes
abbrev pub key_cmp : Vec ℕ Global → Vec ℕ Global → Ordering
key_cmp x y = slice_cmp nat_cmp x.items y.items

-- the first index of a type among the first `count` types, or none where it isn't among them
abbrev pub IsFirst : List FuncType → (count : ℕ) → FuncType → Option ℕ → Type 0
IsFirst types count ty None = (index : ℕ) → index < count → slice_get types index ≢ Some ty
IsFirst types count ty (Some first) =
    (first < count)
    × (slice_get types first ≡ Some ty)
    × ((lesser : ℕ) → lesser < first → slice_get types lesser ≢ Some ty)

-- under the key of each type stands its first index among the first `count` types
abbrev pub AreFirsts : List FuncType → (count : ℕ) → BTreeMap (Vec ℕ Global) ℕ → Type 0
AreFirsts types count firsts =
    (ty : FuncType) (key : Vec ℕ Global) → key.items ≡ type_key ty → IsFirst types count ty (get key_cmp firsts key)
