-- What a write to a sink does.
use Rattle.std.specs.Prelude.{◌≡◌, ℕ, ◌<◌, ◌≤◌, List, length, take, Option, Result, IfOk, OnErr}
use Rattle.std.specs.Io.KnownBytes.{append_known}
use Rattle.outside.specs.Causes.{Rose, RoseOrFull}

-- the first n bytes of the piece were appended to what was written
pub record TakesFirst (piece : List ℕ) (old new : Option (List ℕ)) (n : ℕ) : Type 0 where
  pub within : n ≤ length piece
  pub appended : new ≡ append_known old (take n piece)

-- the count of faults did not fall; it rose where the write failed; it rose or stands at its end where nothing was
-- taken of a piece that has bytes; and it rose only there
pub record SinkFault {E : Type 0} (before now : ℕ) (piece : List ℕ) (result : Result ℕ E) : Type 0 where
  pub later : before ≤ now
  pub failed : OnErr result (Rose before now)
  pub none_taken : IfOk result (λ n. n ≡ 0 → 0 < length piece → RoseOrFull before now)
  pub only : Rose before now → IfOk result (λ n. (n ≡ 0) × (0 < length piece))
