-- Blocks, branches and ends: what they make of the flat machine. None of them counts labels: where they lead stands in
-- the map of the body.
use Rattle.std.specs.Prelude.{ℕ, ◌+◌, ◌-◌, pred, List, [], ◌∷◌, ◌++◌, cond, nat_eq, length, take, drop}
use Rattle.code_map.specs.declared.target.Target.{Target}
use Rattle.code_map.specs.Targets.{count_if}
use Rattle.tree_machine.specs.Outcomes.{Effect, Gives, Undefined}
use Rattle.flat_machine.specs.Flat.{Place, Flat}
use Rattle.flat_machine.specs.Tells.{opens_of}

-- the machine with these values at this place of its body, where so many blocks are open in the function
abbrev pub at_place : (pc opens : ℕ) → (values : List ℕ) → Flat → Flat
at_place pc opens values flat =
    record flat { values = values; place = record flat.place { pc = pc; opens = opens_of flat.callers + opens } }

-- so many of the values, the first places
abbrev pub lowest : (count : ℕ) → (values : List ℕ) → List ℕ
lowest count values = drop (length values - count) values

-- a branch: what it carries goes on top of the values up to the target's height
abbrev pub jump : Target → (values : List ℕ) → Flat → Flat
jump t values flat =
    at_place t.to t.opens (take (count_if t.carries) values ++ lowest (flat.place.base + t.height) values) flat

-- a block, a loop, or the inside of an if begins
abbrev pub begin_list : (values : List ℕ) → Flat → Flat
begin_list values flat =
    record flat { values = values; place = record flat.place { pc = flat.place.pc + 1; opens = flat.place.opens + 1 } }

-- if: a number is taken; where it is 0 the machine goes to the target, and no value is moved
abbrev pub begin_chosen : Target → (values : List ℕ) → Flat → Effect Flat
begin_chosen t [] flat = Undefined
begin_chosen t (number ∷ below) flat =
    Gives (cond (nat_eq number 0) (at_place t.to t.opens below flat) (begin_list below flat))

-- the end of a block, a loop or an if
abbrev pub end_list : Flat → Flat
end_list flat = record flat { place = record flat.place { pc = flat.place.pc + 1; opens = pred flat.place.opens } }

-- else, where the inside of an if is over
abbrev pub skip_other : Target → Flat → Flat
skip_other t flat = at_place t.to t.opens flat.values flat

-- the end of a body
abbrev pub end_body : Flat → Flat
end_body flat = record flat { place = record flat.place { pc = flat.place.pc + 1 } }

-- the return to a caller: so many results go on top of the values below the function's locals
abbrev pub return_to : (count : ℕ) → (caller : Place) → (callers : List Place) → Flat → Flat
return_to count caller callers flat = record flat {
  values = take count flat.values ++ lowest flat.place.base flat.values;
  place = caller;
  callers = callers;
}
