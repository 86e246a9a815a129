-- What the read of a file may answer.
use Rattle.std.specs.Prelude.{◌≡◌, ℕ, ◌<◌, ◌≤◌, ◌⊎◌, List, length, Option, Some, None, IsSomeAnd}
use Rattle.outside.specs.declared.files.FileStep.{FileStep}
use Rattle.outside.specs.declared.files.FileStep.TheVariants.{Done, TooLong, Missing, Failed, NoMemory}
use Rattle.outside.specs.Causes.{Rose}

-- what a store tells of its files: the bytes of the file of each name, or that there is none
abbrev pub Contents : Type 0
Contents = List ℕ → Option (List ℕ)

-- the answer to a read of at most limit bytes fits the file, given what was read
abbrev pub FitsFile : Option (List ℕ) → ℕ → List ℕ → FileStep → Type 0
FitsFile file limit into Done = file ≡ Some into
FitsFile file limit into TooLong = IsSomeAnd file (λ bytes. limit < length bytes)
FitsFile file limit into Missing = file ≡ None
FitsFile file limit into Failed = Unit {0}
FitsFile file limit into NoMemory = Unit {0}

-- the count of faults did not fall, and it rose exactly where the read failed
pub record FaultCause (before now : ℕ) (step : FileStep) : Type 0 where
  pub later : before ≤ now
  pub failed : step ≡ Failed → Rose before now
  pub only : Rose before now → step ≡ Failed

-- the count of lacks did not fall, and it rose exactly where the file was missing or too long
pub record LackCause (before now : ℕ) (step : FileStep) : Type 0 where
  pub later : before ≤ now
  pub too_long : step ≡ TooLong → Rose before now
  pub missing : step ≡ Missing → Rose before now
  pub only : Rose before now → (step ≡ TooLong) ⊎ (step ≡ Missing)
