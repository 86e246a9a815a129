-- What the calls of an outside that make something gave and why, its clock, and the numbers that were entered.
use Rattle.std.specs.Prelude.{◌≡◌, ℕ, ◌≤◌, List, [], ◌∷◌, Option, Some, None, IsSomeAnd}
use Rattle.std.specs.Io.KnownBytes.{append_known}
use Rattle.outside.specs.declared.outside.AcceptStep.{AcceptStep}
use Rattle.outside.specs.declared.outside.AcceptStep.TheVariants as accept
use Rattle.outside.specs.declared.outside.MakeStep.{MakeStep}
use Rattle.outside.specs.declared.outside.MakeStep.TheVariants as make
use Rattle.outside.specs.Causes.{Rose}

-- a fact of what was made, if something was
abbrev pub IfMade : {T : Type 0} → MakeStep T → (T → Type 0) → Type 0
IfMade (make.Done made) P = P made
IfMade make.Failed P = Unit {0}
IfMade make.NoMemory P = Unit {0}

-- a fact of what was accepted, if something was
abbrev pub IfAccepted : {T : Type 0} → AcceptStep T → (T → Type 0) → Type 0
IfAccepted (accept.Done accepted) P = P accepted
IfAccepted accept.NotReady P = Unit {0}
IfAccepted accept.Failed P = Unit {0}
IfAccepted accept.NoMemory P = Unit {0}

-- the count of faults did not fall, and it rose exactly where nothing was made for another cause than want of memory
pub record MakeFault {T : Type 0} (before now : ℕ) (step : MakeStep T) : Type 0 where
  pub later : before ≤ now
  pub failed : step ≡ make.Failed → Rose before now
  pub only : Rose before now → step ≡ make.Failed

-- the count of faults did not fall, and it rose exactly where the accept failed
pub record AcceptFault {T : Type 0} (before now : ℕ) (step : AcceptStep T) : Type 0 where
  pub later : before ≤ now
  pub failed : step ≡ accept.Failed → Rose before now
  pub only : Rose before now → step ≡ accept.Failed

-- the count of waits did not fall, and it rose where nobody had connected
pub record AcceptWait {T : Type 0} (before now : ℕ) (step : AcceptStep T) : Type 0 where
  pub later : before ≤ now
  pub waited : step ≡ accept.NotReady → Rose before now

-- a clock is told always or never, and never goes back
abbrev pub GoesNotBack : (before now : Option ℕ) → Type 0
GoesNotBack None now = now ≡ None
GoesNotBack (Some time) now = IsSomeAnd now (λ later. time ≤ later)

-- the numbers that were entered, where they are told, with one more at their end
abbrev pub entered_also : ℕ → Option (List ℕ) → Option (List ℕ)
entered_also pid entered = append_known entered (pid ∷ [])
