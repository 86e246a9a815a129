-- What a read, a write and the closing do to a stream, by what it tells of itself.
use Rattle.std.specs.Prelude.{◌≡◌, ℕ, ◌≤◌, List, [], ◌∷◌, ◌++◌, Bool, true, Option}
use Rattle.outside.specs.declared.stream.IoStep.{IoStep}
use Rattle.outside.specs.Streams.{Moves, StreamFault, StreamWait, StreamEmpty}
use Rattle.resource_table.specs.Handles.{Handle}

-- what a stream tells: the bytes read and written, its three counts, and whether it was shut
pub record Told (S : Type 0) : Type 0 where
  pub taken : S → Option (List ℕ)
  pub put : S → Option (List ℕ)
  pub faults : S → ℕ
  pub waits : S → ℕ
  pub empties : S → ℕ
  pub down : S → Bool

abbrev pub told : {S : Type 0} → (taken put : S → Option (List ℕ)) → (faults waits empties : S → ℕ)
    → (down : S → Bool) → Told S
told taken put faults waits empties down =
    record { taken = taken; put = put; faults = faults; waits = waits; empties = empties; down = down }

-- each answer has its cause in the counts, and the stream is down as before
pub record HasCauses {S : Type 0} (tells : Told S) (size : ℕ) (step : IoStep) (before now : S) : Type 0 where
  pub faults : StreamFault (tells.faults before) (tells.faults now) step
  pub waits : StreamWait (tells.waits before) (tells.waits now) step
  pub empties : StreamEmpty (tells.empties before) (tells.empties now) size step
  pub down : tells.down now ≡ tells.down before

-- a read into a buffer of this size, with these bytes in it afterwards
pub record Reads {S : Type 0} (tells : Told S) (size : ℕ) (buffer : List ℕ) (step : IoStep) (before now : S)
    : Type 0 where
  pub taken : Moves step buffer (tells.taken before) (tells.taken now)
  pub put : tells.put now ≡ tells.put before
  pub causes : HasCauses tells size step before now

-- a write of a piece of this size
pub record Writes {S : Type 0} (tells : Told S) (size : ℕ) (piece : List ℕ) (step : IoStep) (before now : S)
    : Type 0 where
  pub put : Moves step piece (tells.put before) (tells.put now)
  pub taken : tells.taken now ≡ tells.taken before
  pub causes : HasCauses tells size step before now

-- a stream was shut: it is down, nothing was read or written, and nothing failed
pub record Shuts {S : Type 0} (tells : Told S) (before now : S) : Type 0 where
  pub down : tells.down now ≡ true
  pub taken : tells.taken now ≡ tells.taken before
  pub put : tells.put now ≡ tells.put before
  pub faults : tells.faults now ≡ tells.faults before
  pub waits : tells.waits before ≤ tells.waits now
  pub empties : tells.empties before ≤ tells.empties now

-- a handle with its stream shut
pub record IsShut {S : Type 0} (tells : Told S) (before now : Handle S) : Type 0 where
  pub number : now.number ≡ before.number
  pub shut : Shuts tells before.stream now.stream

-- the same handles, each with its stream shut
abbrev pub AreShut : {S : Type 0} → Told S → List (Handle S) → List (Handle S) → Type 0
AreShut tells [] [] = Unit {0}
AreShut tells (h ∷ hs) (k ∷ ks) = IsShut tells h k × AreShut tells hs ks
AreShut tells _ _ = ⊥

-- these handles were shut, and stand in their order behind those that were there
pub record Sheds {S : Type 0} (tells : Told S) (handles old new : List (Handle S)) : Type 0 where
  pub closed : List (Handle S)
  pub shut : AreShut tells handles closed
  pub behind : new ≡ old ++ closed
