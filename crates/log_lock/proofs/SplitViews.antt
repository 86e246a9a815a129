-- The two views of a split, and a list of passes that grows at its end.
use Rattle.std.proofs.Common.{◌≡◌, ℕ, ◌+◌, ◌-◌, List, [], ◌∷◌, ◌++◌, reverse, sym, ap, ◌∙◌, subst}
use Rattle.std.proofs.lemmas.List.{reverse-append}
use Rattle.log_lock.specs.declared.knowledge.View.{View}
use Rattle.log_lock.proofs.Lists.{length_numbers_below}
use Rattle.log_lock.specs.Knowledge.{numbers_below}
use Rattle.log_lock.specs.Steps.{without_last, alone, last_alone}
use Rattle.log_lock.specs.Words.{EachFrom}

-- the view, with these numbers standing in it
abbrev pub with_numbers : {I B : Type 0} → List ℕ → View I B → View I B
with_numbers ns v = record v { knows = record v.knows { numbers = ns } }

module _ {I B : Type 0} (v0 v : View I B) (k : ℕ) where
  pub without_last_is : v ≡ with_numbers (numbers_below k) v0 → without_last v ≡ with_numbers (numbers_below (k - 1)) v0
  without_last_is e = ap without_last e ∙ ap (λ (x : ℕ). with_numbers (numbers_below (x - 1)) v0) (length_numbers_below k)

  pub last_alone_is : v ≡ with_numbers (numbers_below k) v0 → last_alone v ≡ alone (k - 1) v0
  last_alone_is e = ap last_alone e ∙ ap (λ (x : ℕ). alone (x - 1) v0) (length_numbers_below k)

pub each_push : {A : Type 0} (P : ℕ → A → Type 0) (j k : ℕ) (x : A) (xs : List A) → j + 1 ≡ k → P j x → EachFrom P k (reverse xs) → EachFrom P j (reverse (xs ++ x ∷ []))
each_push P j k x xs next p h = subst (EachFrom P j) (sym (reverse-append xs (x ∷ []))) (p, subst (λ (z : ℕ). EachFrom P z (reverse xs)) (sym next) h)

pub each_weaker : {A : Type 0} (P Q : ℕ → A → Type 0) → ((k : ℕ) (x : A) → P k x → Q k x) → (k : ℕ) (xs : List A) → EachFrom P k xs → EachFrom Q k xs
each_weaker P Q f k [] h = tt
each_weaker P Q f k (x ∷ xs) h = (f k x h.0, each_weaker P Q f (k + 1) xs h.1)
