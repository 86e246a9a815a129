-- What the code answers beside what the flat machine does.
use Rattle.std.specs.Prelude.{◌≡◌, ℕ, ◌+◌, ◌-◌, ◌*◌, List, [], ◌∷◌, length, Bool, true, false, Option, Some, None}
use Rattle.wasm_form.specs.declared.parts.Parts.{Parts}
use Rattle.code_map.specs.declared.map.CodeMap.{CodeMap}
use Rattle.code_map.specs.declared.callee.Callee.{Callee}
use Rattle.code_map.specs.declared.callee.Callee.TheVariants as callee
use Rattle.tree_machine.specs.Config.{Invocation}
use Rattle.flat_machine.specs.declared.halt.Halt.{Halt}
use Rattle.flat_machine.specs.declared.halt.Halt.TheVariants as halt
use Rattle.flat_machine.specs.Flat.{Flat}
use Rattle.flat_machine.specs.Moves.{Move, Executes, Passes, Asks, Traps, Exceeds, Overfull, Ends, Stuck, enter}
use Rattle.flat_machine.specs.Runs.{Runs}
use Rattle.flat_machine.specs.Halts.{HaltsSo}
use Rattle.flat_stepper.specs.declared.state.State.{State}

-- why the machine halts, if it does
abbrev pub reason : (halts : Bool) → Halt → Option Halt
reason true halt = Some halt
reason false halt = None

-- a call: it was executed, or the machine halts so
abbrev pub Calls : Move → Option Halt → (from to : Flat) → Type 0
Calls move None from to = move ≡ Executes to
Calls move (Some (halt.Asks ask)) from to = (results : ℕ) × (move ≡ Asks ask results to)
Calls move (Some (halt.Trap trap)) from to = (move ≡ Traps trap) × (to ≡ from)
Calls move (Some (halt.Spent spent)) from to = (move ≡ Exceeds spent) × (to ≡ from)
Calls move (Some others) from to = ⊥

-- a function is over: a return or the next function was passed, or there is none to enter
abbrev pub Leaves : Move → Option Halt → (from to : Flat) → Type 0
Leaves move None from to = move ≡ Passes to
Leaves move (Some halt.Overfull) from to = (move ≡ Overfull) × (to ≡ from)
Leaves move (Some halt.Ends) from to = (move ≡ Ends) × (to ≡ from)
Leaves move (Some others) from to = ⊥

-- it is a function of the module
abbrev pub IsOwn : Option Callee → Type 0
IsOwn None = ⊥
IsOwn (Some (callee.Own body params locals gives class)) = Unit {0}
IsOwn (Some (callee.Host number params gives class)) = ⊥

-- whether a function of the module gives a value
abbrev pub gives_value : Option Callee → Bool
gives_value None = false
gives_value (Some (callee.Own body params locals gives class)) = gives
gives_value (Some (callee.Host number params gives class)) = false

-- the next function, which is this one, is entered
abbrev pub enters : Parts → CodeMap → Callee → List Invocation → Flat → Move
enters m map c [] flat = Stuck
enters m map c (i ∷ rest) flat = enter m map (Some c) i.arguments rest flat

-- how many callers are left, and how many functions to be entered, of so many
abbrev pub left_in : State → ℕ
left_in s = 2048 * (length s.invocations.items - s.entered) + length s.callers.items

-- a number that falls wherever the machine goes on: by what is left of a budget, then by what is left to return to and
-- to enter, then by the places that the array of values does not have yet
abbrev pub weight : (budget : ℕ) → State → ℕ
weight budget s = budget * 67110912 + left_in s * 32769 + (32768 - length s.values.items)

-- a part of a run of at most so many instructions, of which so many were executed: it goes on, or the run halts so
abbrev pub AdvancesSo : Parts → CodeMap → Option Halt → (budget executed : ℕ) → (from to : Flat) → Type 0
AdvancesSo m map None budget executed from to = Runs m map executed from to
AdvancesSo m map (Some halt) budget executed from to = HaltsSo m map halt budget executed from to
