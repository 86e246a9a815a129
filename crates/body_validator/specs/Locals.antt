-- Runs of locals one by one, and by how many there are up to each run.
use Rattle.std.specs.Prelude.{◌≡◌, ℕ, ◌+◌, ◌<◌, List, length, take, sum_by, slice_index, flat_map, replicate}
use Rattle.wasm_form.specs.declared.value_type.ValType.{ValType}
use Rattle.wasm_form.specs.declared.body.LocalRun.{LocalRun}

-- each local of these runs
abbrev pub spread : List LocalRun → List ValType
spread runs = flat_map (λ (run : LocalRun). replicate run.count run.ty) runs

-- how many locals these runs are
abbrev pub count_of : List LocalRun → ℕ
count_of runs = sum_by (λ (run : LocalRun). run.count) runs

-- for each run, how many locals there are up to its end
pub record IsEnds (runs : List LocalRun) (ends : List ℕ) : Type 0 where
  pub length_is : length ends ≡ length runs
  pub each : (k : ℕ) → k < length runs → slice_index ends k ≡ count_of (take (k + 1) runs)
