-- A stream in memory: what each of its calls does.
use Rattle.std.specs.Prelude.{◌≡◌, ℕ, ◌-◌, ◌≤◌, ◌==◌, ◌||◌, min, Bool, true, false, List, [], ◌∷◌, ◌++◌, length, take, drop, MatchBool, if◌then◌else◌}
use Rattle.outside.specs.declared.stream.IoStep.{IoStep}
use Rattle.outside.specs.declared.stream.IoStep.TheVariants.{Done, NotReady, Failed}
use Rattle.outside.specs.Causes.{counted, is_full, is_listed}
use Rattle.outside.specs.Streams.{StreamFault, StreamWait, StreamEmpty}
use Rattle.outside.specs.Scripts.{Cue, Bytes, Wait, Fail, behind}

-- the counts of a stream
pub record Counts : Type 0 where
  pub faults : ℕ
  pub waits : ℕ
  pub empties : ℕ

-- each answer that is no success has its cause in the counts
pub record HasCauses (size : ℕ) (old : Counts) (step : IoStep) (new : Counts) : Type 0 where
  pub faults : StreamFault old.faults new.faults step
  pub waits : StreamWait old.waits new.waits step
  pub empties : StreamEmpty old.empties new.empties size step

-- no count was raised
abbrev pub no_counts : Counts
no_counts = record { faults = 0; waits = 0; empties = 0 }

-- after a call that moved no byte, though there were so many, or room for so many
abbrev pub emptied : ℕ → Counts → Counts
emptied size counts =
    record {
      faults = counts.faults;
      waits = counts.waits;
      empties = if size == 0 then counts.empties else counted counts.empties;
    }

-- a call that moves no byte
pub record IsEmptied (size : ℕ) (old : Counts) (step : IoStep) (new : Counts) : Type 0 where
  pub step_is : step ≡ Done 0
  pub new_is : new ≡ emptied size old

-- a call that fails, and counts a fault
pub record IsFailed (old : Counts) (step : IoStep) (new : Counts) : Type 0 where
  pub step_is : step ≡ Failed
  pub new_is : new ≡ record { faults = counted old.faults; waits = old.waits; empties = old.empties }

-- a call that is not ready, and counts a wait
pub record IsWaiting (old : Counts) (step : IoStep) (new : Counts) : Type 0 where
  pub step_is : step ≡ NotReady
  pub new_is : new ≡ record { faults = old.faults; waits = counted old.waits; empties = old.empties }

-- a call that is to fail: where the count of faults stands at its end, it moves no byte instead
abbrev pub Fails : ℕ → Counts → IoStep → Counts → Type 0
Fails size old step new = MatchBool (is_full old.faults) (IsEmptied size old step new) (IsFailed old step new)

-- a call that is not to be ready: where the count of waits stands at its end, it moves no byte instead
abbrev pub Waits : ℕ → Counts → IoStep → Counts → Type 0
Waits size old step new = MatchBool (is_full old.waits) (IsEmptied size old step new) (IsWaiting old step new)

-- what was read and what is to be read; what was written, how many bytes more there is room for, the numbers of the
-- writes that are to fail and of the next write; the counts; and whether it was shut
pub record Line : Type 0 where
  pub taken : List ℕ
  pub script : List Cue
  pub put : List ℕ
  pub room : ℕ
  pub write_fails : List ℕ
  pub writes : ℕ
  pub counts : Counts
  pub down : Bool

-- what a stream starts with: nothing read and nothing written, no count raised, and not down
abbrev pub new_line : List Cue → List ℕ → ℕ → Line
new_line script write_fails room = record {
  taken = [];
  script = script;
  put = [];
  room = room;
  write_fails = write_fails;
  writes = 0;
  counts = no_counts;
  down = false;
}

-- the log of what is written fits its room, for which there is memory, and so does the log of what is read
pub record HasRoom (put room put_capacity to_read read_capacity : ℕ) : Type 0 where
  pub within : put ≤ room
  pub made : room ≤ put_capacity
  pub reads : to_read ≤ read_capacity

-- a stream that was shut
abbrev pub shut : Line → Line
shut line = record line { down = true }

-- nothing was read or written, and the stream is not down
pub record IsNew (line : Line) : Type 0 where
  pub up : line.down ≡ false
  pub taken : line.taken ≡ []
  pub put : line.put ≡ []

-- a read keeps all that belongs to writing
pub record KeepsPut (old new : Line) : Type 0 where
  pub put : new.put ≡ old.put
  pub room : new.room ≡ old.room
  pub write_fails : new.write_fails ≡ old.write_fails
  pub writes : new.writes ≡ old.writes
  pub down : new.down ≡ old.down

-- a read moved this many of the bytes; the others are left; and it is an empty one where the piece had none
pub record Reads (n : ℕ) (bytes : List ℕ) (cues : List Cue) (size : ℕ) (buffer : List ℕ) (old : Line) (step : IoStep)
    (new : Line) : Type 0 where
  pub step_is : step ≡ Done n
  pub buffer_is : take n buffer ≡ take n bytes
  pub taken : new.taken ≡ old.taken ++ take n bytes
  pub script : new.script ≡ behind (drop n bytes) cues
  pub counts : new.counts ≡ (if n == 0 then emptied size old.counts else old.counts)

-- a read moved nothing, and this is left of the script
pub record Skips (cues : List Cue) (old new : Line) : Type 0 where
  pub taken : new.taken ≡ old.taken
  pub script : new.script ≡ cues

-- what a read does by what comes next: at the end of the script, it is at the end of the stream
abbrev pub ReadsCues : List Cue → (size : ℕ) → (buffer : List ℕ) → Line → IoStep → Line → Type 0
ReadsCues [] size buffer old step new = Skips [] old new × IsEmptied size old.counts step new.counts
ReadsCues (Wait ∷ cues) size buffer old step new = Skips cues old new × Waits size old.counts step new.counts
ReadsCues (Fail ∷ cues) size buffer old step new = Skips cues old new × Fails size old.counts step new.counts
ReadsCues (Bytes bytes ∷ cues) size buffer old step new =
    Reads (min size (length bytes)) bytes cues size buffer old step new

-- a write keeps all that belongs to reading, and counts itself
pub record KeepsTaken (old new : Line) : Type 0 where
  pub taken : new.taken ≡ old.taken
  pub script : new.script ≡ old.script
  pub write_fails : new.write_fails ≡ old.write_fails
  pub writes : new.writes ≡ counted old.writes
  pub down : new.down ≡ old.down

-- a write moved this many of the bytes
pub record Puts (n : ℕ) (bytes : List ℕ) (old : Line) (step : IoStep) (new : Line) : Type 0 where
  pub step_is : step ≡ Done n
  pub put : new.put ≡ old.put ++ take n bytes
  pub room : new.room ≡ old.room - n
  pub counts : new.counts ≡ old.counts

-- a write fails and leaves what was written
pub record PutsNone (size : ℕ) (old : Line) (step : IoStep) (new : Line) : Type 0 where
  pub put : new.put ≡ old.put
  pub room : new.room ≡ old.room
  pub counts : Fails size old.counts step new.counts

-- a write fails where its number is listed and where there is no room; else it appends what there is room for
abbrev pub WritesPiece : (bytes : List ℕ) → Line → IoStep → Line → Type 0
WritesPiece bytes old step new =
    MatchBool (is_listed old.write_fails old.writes || old.room == 0) (PutsNone (length bytes) old step new)
    (Puts (min (length bytes) old.room) bytes old step new)
