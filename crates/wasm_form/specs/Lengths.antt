-- Lengths of 32 bits.
use Rattle.std.specs.Prelude.{◌≡◌, ℕ, ◌^◌, ◌≤◌, Option, MatchOption}

-- the length is the least one; none where that has more than 32 bits. Where there is one, R holds
abbrev pub IsLength : (least : ℕ) → (R : Type 0) → Option ℕ → Type 0
IsLength least R result = MatchOption result (2 ^ 32 ≤ least) (λ length. (length ≡ least) × R)
