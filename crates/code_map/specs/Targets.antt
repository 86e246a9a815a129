-- The targets in a body's map.
use Rattle.std.specs.Prelude.{◌≡◌, ℕ, ◌+◌, ◌-◌, List, length, slice_get, Option, Some, Bool, true, false, is_some}
use Rattle.wasm_form.specs.declared.value_type.ValType.{ValType}
use Rattle.code_map.specs.declared.target.Target.{Target}
use Rattle.code_map.specs.declared.body_map.BodyMap.{BodyMap}

abbrev pub target : (to height opens : ℕ) → (carries : Bool) → Target
target to height opens carries = record { to = to; height = height; opens = opens; carries = carries }

-- a block with this result gives a value
abbrev pub gives_value : Option ValType → Bool
gives_value result = is_some result

-- how many values that is
abbrev pub count_if : Bool → ℕ
count_if false = 0
count_if true = 1

-- how many blocks, loops and ifs these labels stand for; the outermost is the body's
abbrev pub opens_of : List Target → ℕ
opens_of labels = length labels - 1

-- at this place of the flat list the map has this target
abbrev pub HasTarget : BodyMap → (place : ℕ) → Target → Type 0
HasTarget map place t = (slot : ℕ) × (slice_get map.slots place ≡ Some slot) × (slice_get map.targets slot ≡ Some t)

-- at this place the map has, one after another, the targets of those of these labels that are there
abbrev pub HasTable : BodyMap → (place : ℕ) → (targets : List Target) → (labels : List ℕ) → Type 0
HasTable map place targets labels =
    (first : ℕ) × (slice_get map.slots place ≡ Some first)
    × ((k label : ℕ) (t : Target) → slice_get labels k ≡ Some label → slice_get targets label ≡ Some t
    → slice_get map.tables (first + k) ≡ Some t)
