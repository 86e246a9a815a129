-- What is left of a script.
use Rattle.std.proofs.Common.{◌≡◌, ◌<◌, ℕ, ◌+◌, List, [], ◌∷◌, length, refl, arith}
use Rattle.outside.specs.Scripts.{Cue, Bytes, behind, bytes_in}

pub behind-some : (xs : List ℕ) (cues : List Cue) → 0 < length xs → behind xs cues ≡ Bytes xs ∷ cues
behind-some [] cues some = absurd (omega arith)
behind-some (x ∷ xs) cues some = refl

pub behind-none : (xs : List ℕ) (cues : List Cue) → length xs ≡ 0 → behind xs cues ≡ cues
behind-none [] cues none = refl
behind-none (x ∷ xs) cues none = absurd (omega arith)

pub bytes_in_behind : (xs : List ℕ) (cues : List Cue) → bytes_in (behind xs cues) ≡ length xs + bytes_in cues
bytes_in_behind [] cues = omega arith
bytes_in_behind (x ∷ xs) cues = refl
