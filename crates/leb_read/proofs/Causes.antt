-- Why no number is read, one byte earlier.
use Rattle.std.proofs.Common.{◌≡◌, ℕ, ◌+◌, ◌^◌, ◌≤◌, List, [], ◌∷◌, length, arith, ap, ◌∙◌}
use Rattle.leb_read.specs.declared.fault.LebFault.{LebFault}
use Rattle.leb_read.specs.declared.fault.LebFault.TheVariants.{Short, TooLong}
use Rattle.leb_read.specs.Numbers.{IsTooLong, Continues}
use Rattle.leb_read.specs.Reading.{Cause}
use Rattle.std.proofs.lemmas.List.Elements.{All-nil, All-cons, All-same}

-- the first byte is the last that the number may have, and may not end it
pub wrong_first : (P : ℕ → Type 0) (m b : ℕ) (bytes rest : List ℕ) → bytes ≡ b ∷ rest → m ≡ 1 → (P b → ⊥) → IsTooLong m P bytes
wrong_first P m b bytes rest here one wrong =
    record { before = []; last = b; after = rest; here = here; continues = All-nil Continues; at_most = omega arith; wrong = wrong }

-- what keeps the rest from being a number keeps the whole from it, behind a byte that continues
pub later : (P : ℕ → Type 0) (m n b : ℕ) (bytes rest : List ℕ) (e : LebFault) → bytes ≡ b ∷ rest → m ≡ n + 1 → 2 ^ 7 ≤ b → Cause P n rest e → Cause P m bytes e
later P m n b bytes rest Short here one more c =
    record { continues = All-same Continues bytes (b ∷ rest) here (All-cons Continues b rest more c.continues); fewer = omega (arith, ap length here, c.fewer) }
later P m n b bytes rest TooLong here one more c =
    record { before = b ∷ c.before; last = c.last; after = c.after; here = here ∙ ap (λ l. b ∷ l) c.here; continues = All-cons Continues b c.before more c.continues; at_most = omega (arith, c.at_most); wrong = c.wrong }
