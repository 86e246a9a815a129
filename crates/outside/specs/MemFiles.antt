-- Files in memory: what each read of them does.
use Rattle.std.specs.Prelude.{◌≡◌, ◌≢◌, ℕ, Bool, true, false, List, [], ◌∷◌, Some, None, MatchBool, if◌then◌else◌}
use Rattle.std.specs.Str.{bytes_eq}
use Rattle.outside.specs.declared.files.FileStep.{FileStep}
use Rattle.outside.specs.declared.files.FileStep.TheVariants.{Done, TooLong, Missing, Failed, NoMemory}
use Rattle.outside.specs.Causes.{counted, is_full, is_listed}
use Rattle.outside.specs.Files.{Contents, FitsFile}

-- files by their names, the numbers of the reads that are to fail, the number of the next read, and the counts
pub record MemStore : Type 0 where
  pub files : List (List ℕ × List ℕ)
  pub fails : List ℕ
  pub calls : ℕ
  pub faults : ℕ
  pub lacks : ℕ

-- what a store of these files starts with: no call made and no count raised
abbrev pub new_store : List (List ℕ × List ℕ) → List ℕ → MemStore
new_store files fails = record { files = files; fails = fails; calls = 0; faults = 0; lacks = 0 }

-- the bytes of the first file of this name
abbrev pub contents_of : List (List ℕ × List ℕ) → Contents
contents_of [] name = None
contents_of (file ∷ files) name = if bytes_eq file.0 name then Some file.1 else contents_of files name

-- the file is missing or too long
abbrev pub lacks_file : FileStep → Bool
lacks_file TooLong = true
lacks_file Missing = true
lacks_file Done = false
lacks_file Failed = false
lacks_file NoMemory = false

-- a read fails exactly where its number is listed, or wants memory there where the count of faults stands at its end;
-- else it answers as the file of the name is; and it raises the count of its cause alone
pub record PlannedRead (old : MemStore) (name : List ℕ) (limit : ℕ) (into : List ℕ) (step : FileStep) (new : MemStore)
    : Type 0 where
  pub failed :
      MatchBool (is_listed old.fails old.calls) (step ≡ (if is_full old.faults then NoMemory else Failed)) (step ≢ Failed)
  pub fits : FitsFile (contents_of old.files name) limit into step
  pub files : new.files ≡ old.files
  pub fails : new.fails ≡ old.fails
  pub calls : new.calls ≡ counted old.calls
  pub faults : new.faults ≡ (if is_listed old.fails old.calls then counted old.faults else old.faults)
  pub lacks : new.lacks ≡ (if lacks_file step then counted old.lacks else old.lacks)
