use Rattle.std.specs.Prelude.{ℕ, Bool, true, List, [], ◌∷◌, Option, ◌==◌, if◌then◌else◌, find}
use Rattle.std.specs.List.{list_any}
use Rattle.std.specs.Int.{w64, from_le_bytes}

-- the tags that a receive names: eight little-endian bytes each
abbrev pub tags_in : List ℕ → List ℕ
tags_in (a ∷ b ∷ c ∷ d ∷ e ∷ f ∷ g ∷ h ∷ rest) = from_le_bytes w64 (a ∷ b ∷ c ∷ d ∷ e ∷ f ∷ g ∷ h ∷ []) ∷ tags_in rest
tags_in _ = []

-- whether a tag is among those that are named
abbrev pub is_named : List ℕ → ℕ → Bool
is_named tags tag = list_any (λ named. named == tag) (tags_in tags)

-- whether a tag is wanted: one that is named, and any where none is named
abbrev pub is_wanted : List ℕ → ℕ → Bool
is_wanted [] tag = true
is_wanted (byte ∷ bytes) tag = is_named (byte ∷ bytes) tag

-- the first item whose tag is wanted, if there is one
abbrev pub pick : {M : Type 0} → (M → ℕ) → List ℕ → List M → Option M
pick tag_of tags items = find (λ item. is_wanted tags (tag_of item)) items

-- a list without the first element that passes a test
abbrev pub without_first : {X : Type 0} → (X → Bool) → List X → List X
without_first test [] = []
without_first test (x ∷ xs) = if test x then xs else (x ∷ without_first test xs)

-- what is left where that item is taken out: the others, in their order
abbrev pub left_by_pick : {M : Type 0} → (M → ℕ) → List ℕ → List M → List M
left_by_pick tag_of tags items = without_first (λ item. is_wanted tags (tag_of item)) items
