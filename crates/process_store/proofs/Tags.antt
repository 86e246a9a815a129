use Rattle.std.proofs.Common.{◌≡◌, ℕ, ◌%◌, List, [], ◌∷◌, length, Bool, true, nat_eq, eqb, refl, arith, ◌∙◌, ap}
use Rattle.std.proofs.lemmas.Bool.Decides.{nat_tests, eqb_tells}
use Rattle.std.specs.Int.{from_le_bytes, w64}
use Rattle.std.specs.List.{list_any}
use Rattle.tagged_mailbox.specs.Pick as Picks
use Rattle.world_rules.specs.Mail.{is_wanted, tags_in}

-- The tags that bytes name, in a mailbox and in the rules.

-- the numbers that bytes spell
same_tags : (bytes : List ℕ) → Picks.tags_in bytes ≡ tags_in bytes
same_tags [] = refl
same_tags (a ∷ []) = refl
same_tags (a ∷ b ∷ []) = refl
same_tags (a ∷ b ∷ c ∷ []) = refl
same_tags (a ∷ b ∷ c ∷ d ∷ []) = refl
same_tags (a ∷ b ∷ c ∷ d ∷ e ∷ []) = refl
same_tags (a ∷ b ∷ c ∷ d ∷ e ∷ f ∷ []) = refl
same_tags (a ∷ b ∷ c ∷ d ∷ e ∷ f ∷ g ∷ []) = refl
same_tags (a ∷ b ∷ c ∷ d ∷ e ∷ f ∷ g ∷ h ∷ rest) = ap (λ (tags : List ℕ). from_le_bytes w64 (a ∷ b ∷ c ∷ d ∷ e ∷ f ∷ g ∷ h ∷ []) ∷ tags) (same_tags rest)

turned : (a b : ℕ) → eqb a b ≡ nat_eq b a
turned a b = grind (arith, nat_tests)

named_turned : (tag : ℕ) (tags : List ℕ) → list_any (λ (named : ℕ). eqb named tag) tags ≡ list_any (nat_eq tag) tags
named_turned tag [] = refl
named_turned tag (first ∷ rest) = rw (turned first tag, named_turned tag rest) refl

named : (bytes : List ℕ) (tag : ℕ) → Picks.is_named bytes tag ≡ list_any (nat_eq tag) (tags_in bytes)
named bytes tag = named_turned tag (Picks.tags_in bytes) ∙ ap (list_any (nat_eq tag)) (same_tags bytes)

pub same-wanted : (bytes : List ℕ) (tag : ℕ) → length bytes % 8 ≡ 0 → Picks.is_wanted bytes tag ≡ is_wanted (tags_in bytes) tag
same-wanted [] tag whole = refl
same-wanted (a ∷ []) tag whole = absurd (cc)
same-wanted (a ∷ b ∷ []) tag whole = absurd (cc)
same-wanted (a ∷ b ∷ c ∷ []) tag whole = absurd (cc)
same-wanted (a ∷ b ∷ c ∷ d ∷ []) tag whole = absurd (cc)
same-wanted (a ∷ b ∷ c ∷ d ∷ e ∷ []) tag whole = absurd (cc)
same-wanted (a ∷ b ∷ c ∷ d ∷ e ∷ f ∷ []) tag whole = absurd (cc)
same-wanted (a ∷ b ∷ c ∷ d ∷ e ∷ f ∷ g ∷ []) tag whole = absurd (cc)
same-wanted (a ∷ b ∷ c ∷ d ∷ e ∷ f ∷ g ∷ h ∷ rest) tag whole = named (a ∷ b ∷ c ∷ d ∷ e ∷ f ∷ g ∷ h ∷ rest) tag
