-- The times that a journal records, and what the outsides of a run keep.
use Rattle.std.specs.Prelude.{ℕ, ◌≤◌, List, [], ◌∷◌, ◌++◌, Option, All, Any, IsSome, IsSomeAnd, IfSome}
use Rattle.outside.specs.Makes.{GoesNotBack}
use Rattle.world_rules.specs.declared.entry.Entry.{Entry}
use Rattle.world_rules.specs.declared.entry.Entry.TheVariants as EntryIs
use Rattle.world_rules.specs.declared.entry.Side.{Side}
use Rattle.world_rules.specs.declared.entry.Side.TheVariants as SideIs

-- the time that came with a Give, if one did
abbrev pub time_beside : Side → List ℕ
time_beside (SideIs.Clock now) = now ∷ []
time_beside _ = []

-- the time that an entry records, if it does
abbrev pub time_of : Entry → List ℕ
time_of (EntryIs.Take worker pid) = []
time_of (EntryIs.Give worker pid calls fuel halt side) = time_beside side
time_of (EntryIs.Tick worker now) = now ∷ []
time_of (EntryIs.Stall worker) = []
time_of (EntryIs.Idle worker) = []
time_of (EntryIs.Starve worker) = []

-- the times that the entries record, in their order
abbrev pub times_of : List Entry → List ℕ
times_of [] = []
times_of (entry ∷ entries) = time_of entry ++ times_of entries

-- where this clock is told before and after, each recorded time lies between what it told then
abbrev pub AreBetween : (before after : Option ℕ) → List ℕ → Type 0
AreBetween before after times =
    IfSome before (λ from. IfSome after (λ to. All (λ time. (from ≤ time) × (time ≤ to)) times))

-- the time lies between the least and the greatest of what these clocks tell
pub record IsWithin (before after : List (Option ℕ)) (time : ℕ) : Type 0 where
  pub from : Any (λ clock. IsSomeAnd clock (λ told. told ≤ time)) before
  pub to : Any (λ clock. IsSomeAnd clock (λ told. time ≤ told)) after

-- where all clocks are told, each recorded time lies between the least of them before and the greatest after
abbrev pub AllAreWithin : (before after : List (Option ℕ)) → List ℕ → Type 0
AllAreWithin before after times = All IsSome before → All IsSome after → All (IsWithin before after) times

-- each count is at least what it was
abbrev pub NoneFalls : (before after : List ℕ) → Type 0
NoneFalls [] [] = Unit {0}
NoneFalls [] (now ∷ after) = ⊥
NoneFalls (was ∷ before) [] = ⊥
NoneFalls (was ∷ before) (now ∷ after) = (was ≤ now) × NoneFalls before after

-- each clock is told as before, and has not gone back
abbrev pub NoneGoesBack : (before after : List (Option ℕ)) → Type 0
NoneGoesBack [] [] = Unit {0}
NoneGoesBack [] (now ∷ after) = ⊥
NoneGoesBack (was ∷ before) [] = ⊥
NoneGoesBack (was ∷ before) (now ∷ after) = GoesNotBack was now × NoneGoesBack before after
