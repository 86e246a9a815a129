-- What a call on a stream gave and why.
use Rattle.std.specs.Prelude.{◌≡◌, ℕ, ◌<◌, ◌≤◌, List, [], Bool, false, Option, IfSome}
use Rattle.outside.specs.declared.stream.IoStep.{IoStep}
use Rattle.outside.specs.declared.stream.IoStep.TheVariants.{Done, NotReady, Failed}
use Rattle.outside.specs.Causes.{Rose, RoseOrFull}
use Rattle.outside.specs.Sinks.{TakesFirst}

-- the first bytes of a buffer, or of a piece, were moved, and so many as the answer says; or none were
abbrev pub Moves : IoStep → List ℕ → (before now : Option (List ℕ)) → Type 0
Moves (Done n) bytes before now = TakesFirst bytes before now n
Moves NotReady bytes before now = now ≡ before
Moves Failed bytes before now = now ≡ before

-- the count of faults did not fall, and it rose exactly where the call failed
pub record StreamFault (before now : ℕ) (step : IoStep) : Type 0 where
  pub later : before ≤ now
  pub failed : step ≡ Failed → Rose before now
  pub only : Rose before now → step ≡ Failed

-- the count of waits did not fall, and it rose where the stream was not ready
pub record StreamWait (before now : ℕ) (step : IoStep) : Type 0 where
  pub later : before ≤ now
  pub waited : step ≡ NotReady → Rose before now

-- the count of empty answers did not fall, and it rose or stands at its end where no byte was moved though there was
-- room or there were bytes
pub record StreamEmpty (before now size : ℕ) (step : IoStep) : Type 0 where
  pub later : before ≤ now
  pub emptied : step ≡ Done 0 → 0 < size → RoseOrFull before now

-- a stream as it is made: it is not down, and where it tells what was read and written, that is nothing
pub record IsFresh (down : Bool) (taken put : Option (List ℕ)) : Type 0 where
  pub up : down ≡ false
  pub nothing_taken : IfSome taken (λ bytes. bytes ≡ [])
  pub nothing_put : IfSome put (λ bytes. bytes ≡ [])
