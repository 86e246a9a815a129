-- What reading answers.
use Rattle.std.specs.Prelude.{◌≡◌, ℕ, List, ◌++◌, Result, MatchResult}
use Rattle.leb_read.specs.Place.{Place, Passes}
use Rattle.body_reader.specs.declared.fault.ReadFault.{ReadFault}
use Rattle.body_reader.specs.declared.fault.ReadFault.TheVariants.{Malformed}

-- no front of these bytes spells a value, where S says what spells one
abbrev pub NoFront : {A : Type 0} → (S : List ℕ → A → Type 0) → List ℕ → Type 0
NoFront {A} S bytes = (v : A) (s : List ℕ) (rest : List ℕ) → S s v → bytes ≡ s ++ rest → ⊥

-- the bytes passed over spell this value, and no other front of the bytes left, and no other value, is spelled there
pub record ReadsOnly {A : Type 0} (S : List ℕ → A → Type 0) (old new : Place) (v : A) : Type 0 where
  pub spelling : List ℕ
  pub spells : S spelling v
  pub passes : Passes old new spelling
  pub only : (w : A) (s : List ℕ) (rest : List ℕ) → S s w → old.left ≡ s ++ rest → (s ≡ spelling) × (w ≡ v)

-- What reading at a cursor answers: the value that is spelled there; Malformed only where none is.
abbrev pub Answers : {A : Type 0} → (S : List ℕ → A → Type 0) → (old new : Place) → Result A ReadFault → Type 0
Answers S old new result = MatchResult result (λ v. ReadsOnly S old new v) (λ e. e ≡ Malformed → NoFront S old.left)

-- What reading the whole of these bytes answers: the one value that they spell; Malformed only where they spell none.
abbrev pub AnswersWhole : {A : Type 0} → (S : List ℕ → A → Type 0) → List ℕ → Result A ReadFault → Type 0
AnswersWhole {A} S bytes result =
    MatchResult result (λ v. S bytes v × ((w : A) → S bytes w → w ≡ v)) (λ e. e ≡ Malformed → (v : A) → S bytes v → ⊥)
