use Rattle.std.specs.Prelude.{◌≡◌, ◌≢◌, ℕ, ◌+◌, Bool, List, ◌==◌, count_by}
use Rattle.tagged_mailbox.specs.declared.refused.PutRefused.{PutRefused}
use Rattle.tagged_mailbox.specs.declared.refused.PutRefused.TheVariants.{Full, NoMemory}

-- what a mailbox holds: its items in the order of their arrival, and the tag of each place that is reserved
pub record Mail (M : Type 0) : Type 0 where
  pub items : List M
  pub places : List ℕ

-- how many of the places are reserved for a tag
abbrev pub reserved : List ℕ → ℕ → ℕ
reserved places tag = count_by (λ place. place == tag) places

-- one place more for this tag, and as many as before for each other
pub record AddsPlace (old new : List ℕ) (tag : ℕ) : Type 0 where
  pub added : reserved new tag ≡ reserved old tag + 1
  pub others : (other : ℕ) → other ≢ tag → reserved new other ≡ reserved old other

-- one place less for this tag, and as many as before for each other
pub record UsesPlace (old new : List ℕ) (tag : ℕ) : Type 0 where
  pub used : reserved new tag + 1 ≡ reserved old tag
  pub others : (other : ℕ) → other ≢ tag → reserved new other ≡ reserved old other

-- how many of the items count
abbrev pub counted : {M : Type 0} → (M → Bool) → List M → ℕ
counted counts items = count_by counts items

-- whether 1,024 of the items count
abbrev pub is_full : {M : Type 0} → (M → Bool) → List M → Bool
is_full counts items = counted counts items == 1024

-- the item that a refusal hands back
abbrev pub handed_back : {M : Type 0} → PutRefused M → M
handed_back (Full item) = item
handed_back (NoMemory item) = item
