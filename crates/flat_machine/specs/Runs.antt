-- Runs of the flat machine, move by move.
use Rattle.std.specs.Prelude.{◌≡◌, ◌≢◌, ◌⊎◌, ℕ, zero, suc, ◌+◌}
use Rattle.wasm_form.specs.declared.instr.Instr.{Instr}
use Rattle.wasm_form.specs.declared.parts.Parts.{Parts}
use Rattle.code_map.specs.declared.map.CodeMap.{CodeMap}
use Rattle.flat_machine.specs.Flat.{Flat}
use Rattle.flat_machine.specs.Tells.{IsInstrAt}
use Rattle.flat_machine.specs.Moves.{Executes, Passes, Stuck, move}

-- one move, by so many instructions: one, or none
abbrev pub MovesBy : Parts → CodeMap → (executed : ℕ) → Flat → Flat → Type 0
MovesBy m map executed from to =
    ((executed ≡ 1) × (move m map from ≡ Executes to)) ⊎ ((executed ≡ 0) × (move m map from ≡ Passes to))

-- so many moves, by so many instructions; the last move is the outermost
abbrev pub RunsIn : Parts → CodeMap → (moves executed : ℕ) → Flat → Flat → Type 0
RunsIn m map zero executed from to = (executed ≡ 0) × (from ≡ to)
RunsIn m map (suc moves) executed from to =
    (mid : Flat) × (before : ℕ) × (last : ℕ) × (executed ≡ before + last)
    × RunsIn m map moves before from mid × MovesBy m map last mid to

-- from one machine to another by so many instructions
abbrev pub Runs : Parts → CodeMap → (executed : ℕ) → Flat → Flat → Type 0
Runs m map executed from to = (moves : ℕ) × RunsIn m map moves executed from to

-- wherever it comes, it is not stuck
abbrev pub IsSafe : Parts → CodeMap → Flat → Type 0
IsSafe m map flat = (executed : ℕ) (to : Flat) → Runs m map executed flat to → move m map to ≢ Stuck

-- an instruction is to come
abbrev pub IsReady : Parts → Flat → Type 0
IsReady m flat = (i : Instr) × IsInstrAt m flat.place i × (i.code ≢ 0x0B) × (i.code ≢ 0x05)
