-- Counts: they never fall, and an answer that is no success has raised one.
use Rattle.std.specs.Prelude.{ℕ, ◌+◌, ◌-◌, ◌^◌, ◌<◌, ◌≤◌, ◌==◌, min, Bool, List}
use Rattle.std.specs.List.{list_any}

-- the count is greater than before
abbrev pub Rose : ℕ → ℕ → Type 0
Rose before now = before < now

-- the count is greater than before, or stands at its end
abbrev pub RoseOrFull : ℕ → ℕ → Type 0
RoseOrFull before now = min (before + 1) (2 ^ 64 - 1) ≤ now

-- the count did not rise
abbrev pub Stayed : ℕ → ℕ → Type 0
Stayed before now = now ≤ before

-- the count did not rise, and it stands below its end
abbrev pub StayedBelow : ℕ → ℕ → Type 0
StayedBelow before now = now < min (before + 1) (2 ^ 64 - 1)

-- the count stands at its end
abbrev pub is_full : ℕ → Bool
is_full count = count == 18446744073709551615

-- the count after one more, up to its end
abbrev pub counted : ℕ → ℕ
counted count = min (count + 1) (2 ^ 64 - 1)

-- the call of this number is one of those listed
abbrev pub is_listed : List ℕ → ℕ → Bool
is_listed calls call = list_any (λ listed. listed == call) calls
