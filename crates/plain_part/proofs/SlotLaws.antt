-- Slots: the one that is emptied.
use Rattle.std.specs.Prelude.{◌≡◌, ℕ, ◌+◌, ◌<◌, List, ◌∷◌, ◌++◌, length, take, drop, slice_set}
use Rattle.std.proofs.Common.{sym, ◌∙◌, ap₂}
use Rattle.std.proofs.lemmas.List.{take-append-drop, take-set, drop-set}

-- a list with one place set is what comes before it, what is put there, and what comes after it
pub set_parts : {X : Type 0} (xs : List X) (i : ℕ) (x : X) → i < length xs →
    slice_set xs i x ≡ take i xs ++ x ∷ drop (i + 1) xs
set_parts xs i x h =
    sym (take-append-drop i (slice_set xs i x)) ∙ ap₂ (λ a b. a ++ b) (take-set xs i x) (drop-set xs i x h)
