-- What writing a text leaves in a sink that tells what was written.
use Rattle.std.specs.Prelude.{◌≡◌, ℕ, ◌≤◌, List, length, take, Option}
use Rattle.std.specs.Io.KnownBytes.{append_known}
use Rattle.outside.specs.Causes.{StayedBelow}

-- a sink's count of faults and what was written to it, before and after
pub record Written : Type 0 where
  pub faults_before : ℕ
  pub faults_after : ℕ
  pub before : Option (List ℕ)
  pub after : Option (List ℕ)

-- the whole text was appended
abbrev pub AppendsAll : Option (List ℕ) → Option (List ℕ) → List ℕ → Type 0
AppendsAll old new text = new ≡ append_known old text

-- a front of the text was appended; nothing and the whole of it are among the fronts
abbrev pub AppendsFront : Option (List ℕ) → Option (List ℕ) → List ℕ → Type 0
AppendsFront old new text = (n : ℕ) × (n ≤ length text) × (new ≡ append_known old (take n text))

-- a front of the line was appended, and the whole line where the sink's count of faults stayed, below its end
pub record WritesLine (line : List ℕ) (sink : Written) : Type 0 where
  pub front : AppendsFront sink.before sink.after line
  pub whole : StayedBelow sink.faults_before sink.faults_after → AppendsAll sink.before sink.after line
