-- What eight bytes, and fewer, add to the tags that are named.
use Rattle.std.proofs.Common.{◌≡◌, ℕ, ◌<◌, ◌≤◌, List, [], ◌∷◌, length, get_or, drop, eqb, false, refl, arith}
use Rattle.std.specs.Int.{w64, from_le_bytes}
use Rattle.std.proofs.lemmas.Bool.Decides.{nat_tests}
use Rattle.tagged_mailbox.specs.Pick.{tags_in}

-- the number that the first eight bytes spell
abbrev pub first_tag : List ℕ → ℕ
first_tag s = from_le_bytes w64 (get_or s 0 0 ∷ get_or s 1 0 ∷ get_or s 2 0 ∷ get_or s 3 0
    ∷ get_or s 4 0 ∷ get_or s 5 0 ∷ get_or s 6 0 ∷ get_or s 7 0 ∷ [])

-- fewer than eight bytes name no tag
pub tags_in-short : (s : List ℕ) → length s < 8 → tags_in s ≡ []
tags_in-short [] short = refl
tags_in-short (a ∷ []) short = refl
tags_in-short (a ∷ b ∷ []) short = refl
tags_in-short (a ∷ b ∷ c ∷ []) short = refl
tags_in-short (a ∷ b ∷ c ∷ d ∷ []) short = refl
tags_in-short (a ∷ b ∷ c ∷ d ∷ e ∷ []) short = refl
tags_in-short (a ∷ b ∷ c ∷ d ∷ e ∷ f ∷ []) short = refl
tags_in-short (a ∷ b ∷ c ∷ d ∷ e ∷ f ∷ g ∷ []) short = refl
tags_in-short (a ∷ b ∷ c ∷ d ∷ e ∷ f ∷ g ∷ h ∷ rest) short = absurd (omega arith)

-- eight bytes name the number that they spell
pub tags_in-long : (s : List ℕ) → 8 ≤ length s → tags_in s ≡ first_tag s ∷ tags_in (drop 8 s)
tags_in-long (a ∷ b ∷ c ∷ d ∷ e ∷ f ∷ g ∷ h ∷ rest) long = refl
tags_in-long [] long = absurd (omega arith)
tags_in-long (a ∷ []) long = absurd (omega arith)
tags_in-long (a ∷ b ∷ []) long = absurd (omega arith)
tags_in-long (a ∷ b ∷ c ∷ []) long = absurd (omega arith)
tags_in-long (a ∷ b ∷ c ∷ d ∷ []) long = absurd (omega arith)
tags_in-long (a ∷ b ∷ c ∷ d ∷ e ∷ []) long = absurd (omega arith)
tags_in-long (a ∷ b ∷ c ∷ d ∷ e ∷ f ∷ []) long = absurd (omega arith)
tags_in-long (a ∷ b ∷ c ∷ d ∷ e ∷ f ∷ g ∷ []) long = absurd (omega arith)

-- a number that is not the tag is not equal to it by the test either
pub other_tag : (n v tag : ℕ) → n ≡ v → (n ≡ tag → ⊥) → eqb v tag ≡ false
other_tag n v tag is apart = grind (arith, nat_tests)
