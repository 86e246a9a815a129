-- A sink in memory: what each write to it does.
use Rattle.std.specs.Prelude.{◌≡◌, ℕ, ◌+◌, ◌≤◌, ◌==◌, ◌||◌, ◌&&◌, not, min, Bool, List, [], ◌++◌, length, take, Result, is_err, IfOk, MatchResult, if◌then◌else◌}
use Rattle.outside.specs.Causes.{counted, is_full, is_listed}

-- what was written, how many bytes more there is room for, the most that one write takes,
-- the numbers of the writes that are to fail and to take nothing, the number of the next write, and the count of faults
pub record Tape : Type 0 where
  pub written : List ℕ
  pub room : ℕ
  pub longest : ℕ
  pub fails : List ℕ
  pub zeros : List ℕ
  pub calls : ℕ
  pub faults : ℕ

-- what a sink starts with: nothing written, no call made and no fault
abbrev pub new_tape : ℕ → ℕ → List ℕ → List ℕ → Tape
new_tape room longest fails zeros = record {
  written = [];
  room = room;
  longest = longest;
  fails = fails;
  zeros = zeros;
  calls = 0;
  faults = 0;
}

-- what is written fits the room, for which there is memory, and a write may take a byte
pub record FitsRoom (written room capacity most : ℕ) : Type 0 where
  pub within : written ≤ room
  pub made : room ≤ capacity
  pub takes : 1 ≤ most

-- the next write is to fail, or there is no room
abbrev pub fails_next : Tape → Bool
fails_next tape = is_listed tape.fails tape.calls || tape.room == 0

-- the next write is to take nothing
abbrev pub takes_none_next : Tape → Bool
takes_none_next tape = is_listed tape.zeros tape.calls

-- how many bytes of a piece the next write takes where it does not fail; nothing, where it is to fail and the count of
-- faults stands at its end
abbrev pub taken_next : Tape → List ℕ → ℕ
taken_next tape piece =
    if fails_next tape || takes_none_next tape then 0 else min (min (length piece) tape.longest) tape.room

-- the next write of this piece counts a fault: it is to fail, or to take nothing of a piece that has bytes
abbrev pub faults_next : Tape → List ℕ → Bool
faults_next tape piece = fails_next tape || (takes_none_next tape && not (length piece == 0))

-- a write keeps what the tape was made with, and counts itself, and its fault
pub record NextCall (old : Tape) (piece : List ℕ) (new : Tape) : Type 0 where
  pub longest : new.longest ≡ old.longest
  pub fails : new.fails ≡ old.fails
  pub zeros : new.zeros ≡ old.zeros
  pub calls : new.calls ≡ counted old.calls
  pub faults : new.faults ≡ (if faults_next old piece then counted old.faults else old.faults)

-- a write took n bytes of the piece
pub record Takes (old : Tape) (piece : List ℕ) (new : Tape) (n : ℕ) : Type 0 where
  pub written : new.written ≡ old.written ++ take n piece
  pub room : new.room + n ≡ old.room

-- a write fails exactly where it is to fail or finds no room, and its fault can be counted; else it takes what it can
pub record PlannedWrite {E : Type 0} (old : Tape) (piece : List ℕ) (result : Result ℕ E) (new : Tape) : Type 0 where
  pub failed : is_err result ≡ (fails_next old && not (is_full old.faults))
  pub taken : IfOk result (λ n. n ≡ taken_next old piece)
  pub tape : MatchResult result (Takes old piece new) (λ _. Takes old piece new 0)
  pub next : NextCall old piece new
