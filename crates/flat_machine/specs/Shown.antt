-- How an array of values, and what stands beside it, show a flat machine.
use Rattle.std.specs.Prelude.{◌≡◌, ℕ, zero, suc, List, [], ◌∷◌, slice_index, Bool, cond, Option, Some, None}
use Rattle.linear_memory.specs.Contents.{Contents}
use Rattle.flat_machine.specs.Flat.{Flat}

-- the first so many values of the array, the last of them on top
abbrev pub stack_of : (values : List ℕ) → (count : ℕ) → List ℕ
stack_of values zero = []
stack_of values (suc n) = slice_index values n ∷ stack_of values n

-- the memory, if there is one
abbrev pub memory_where : Bool → Contents → Option Contents
memory_where has memory = cond has (Some memory) None

-- the machine's values are the first `sp` of the array, its function's locals begin at `base`, and its memory, where it
-- has one, and its globals are these
pub record IsShown (flat : Flat) (has : Bool) (values : List ℕ) (sp base : ℕ) (memory : Contents) (globals : List ℕ) :
    Type 0 where
  pub values_are : flat.values ≡ stack_of values sp
  pub base_is : flat.place.base ≡ base
  pub memory_is : flat.memory ≡ memory_where has memory
  pub globals_are : flat.globals ≡ globals

-- the machine with these in place of its own, at this place of its body, with so many open blocks
abbrev pub moved : Flat → (has : Bool) → (values : List ℕ) → (sp : ℕ) → Contents → (globals : List ℕ) →
    (pc opens : ℕ) → Flat
moved flat has values sp memory globals pc opens = record flat {
  values = stack_of values sp;
  memory = memory_where has memory;
  globals = globals;
  place = record flat.place { pc = pc; opens = opens };
}
