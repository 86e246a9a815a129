-- Items one after another.
use Rattle.std.proofs.Common.{◌≡◌, ℕ, zero, suc, ◌+◌, ◌<◌, ◌≤◌, ◌^◌, List, [], ◌∷◌, ◌++◌, length, length-append, append_assoc, append-nil, get_or, take, sum_by, arith, refl, ap, subst, sym, ◌∙◌}
use Rattle.std.proofs.lemmas.List.{take_more, take_all}
use Rattle.std.proofs.lemmas.List.Sums.{sum_by_more}
use Rattle.leb_read.proofs.Unsigned.{fits}
use Rattle.wasm_form.specs.Values.{SpellsItems, SpellsVector}
use Rattle.module_writer.specs.Writing.{HasSpelling, Appends}

pub items_append : {A : Type 0} (S : List ℕ → A → Type 0) (xs ys : List A) (s t : List ℕ) → SpellsItems S s xs → SpellsItems S t ys → SpellsItems S (s ++ t) (xs ++ ys)
items_append S [] ys s t h k = subst (λ (l : List ℕ). SpellsItems S l ys) (ap (λ (l : List ℕ). l ++ t) (sym h)) k
items_append S (x ∷ xs) ys s t h k =
    (h.0, h.1 ++ t, h.2, items_append S xs ys h.1 t h.3 k, ap (λ (l : List ℕ). l ++ t) h.4 ∙ append_assoc h.0 h.1 t)

pub items_split : {A : Type 0} (S : List ℕ → A → Type 0) (xs ys : List A) (s : List ℕ) → SpellsItems S s (xs ++ ys)
    → (t : List ℕ) × (u : List ℕ) × SpellsItems S t xs × SpellsItems S u ys × (s ≡ t ++ u)
items_split S [] ys s h = ([], s, refl, h, refl)
items_split S (x ∷ xs) ys s h =
    let r = items_split S xs ys h.1 h.3 in
    (h.0 ++ r.0, r.1, (h.0, r.0, h.2, r.2, refl), r.3, h.4 ∙ ap (λ (l : List ℕ). h.0 ++ l) r.4 ∙ sym (append_assoc h.0 r.0 r.1))

-- each of them is spelled
pub item_at : {A : Type 0} (S : List ℕ → A → Type 0) (xs : List A) (i : ℕ) (d : A) → i < length xs → HasSpelling (SpellsItems S) xs → HasSpelling S (get_or xs i d)
item_at S [] i d low h = absurd (omega (arith, low))
item_at S (x ∷ xs) zero d low h = record { bytes = h.spells.0; spells = h.spells.2 }
item_at S (x ∷ xs) (suc i) d low h = item_at S xs i d (omega arith) (record { bytes = h.spells.1; spells = h.spells.3 })

-- one item more at the end
items_more : {A : Type 0} (S : List ℕ → A → Type 0) (xs : List A) (s t : List ℕ) (x : A) → SpellsItems S s xs → S t x → SpellsItems S (s ++ t) (xs ++ x ∷ [])
items_more S xs s t x h k = items_append S xs (x ∷ []) s t h (t, [], k, refl, sym (append-nil t))

pub appends_none : {A : Type 0} (S : List ℕ → A → Type 0) (f : A → ℕ) (xs : List A) (old : List ℕ) → Appends (SpellsItems S) (sum_by f) (take 0 xs) old old
appends_none S f xs old = record { bytes = []; spells = refl; long = refl; added = sym (append-nil old) }

pub appends_more : {A : Type 0} (S : List ℕ → A → Type 0) (f : A → ℕ) (xs : List A) (i : ℕ) (x d : A) (old mid new : List ℕ) → Appends (SpellsItems S) (sum_by f) (take i xs) old mid
    → Appends S f x mid new → x ≡ get_or xs i d → i < length xs → Appends (SpellsItems S) (sum_by f) (take (i + 1) xs) old new
appends_more {A} S f xs i x d old mid new a b is low =
    let same : take i xs ++ x ∷ [] ≡ take (i + 1) xs = ap (λ (y : A). take i xs ++ y ∷ []) is ∙ sym (take_more xs i d low) in
    record {
      bytes = a.bytes ++ b.bytes;
      spells = subst (λ (l : List A). SpellsItems S (a.bytes ++ b.bytes) l) same (items_more S (take i xs) a.bytes b.bytes x a.spells b.spells);
      long = omega (arith, a.long, b.long, ap f is, sum_by_more f xs i d low, length-append a.bytes b.bytes);
      added = b.added ∙ ap (λ (l : List ℕ). l ++ b.bytes) a.added ∙ append_assoc old a.bytes b.bytes;
    }

pub appends_all : {A : Type 0} (S : List ℕ → A → Type 0) (f : A → ℕ) (xs : List A) (i : ℕ) (old new : List ℕ) → Appends (SpellsItems S) (sum_by f) (take i xs) old new
    → length xs ≤ i → Appends (SpellsItems S) (sum_by f) xs old new
appends_all {A} S f xs i old new a all = subst (λ (l : List A). Appends (SpellsItems S) (sum_by f) l old new) (take_all i xs all) a

-- the number of items that are spelled has 32 bits
pub counted : {A : Type 0} (S : List ℕ → A → Type 0) (xs : List A) → HasSpelling (SpellsVector S) xs → length xs < 2 ^ 32
counted S xs h = fits 32 (length xs) h.spells.0 h.spells.2

pub items_of : {A : Type 0} (S : List ℕ → A → Type 0) (xs : List A) → HasSpelling (SpellsVector S) xs → HasSpelling (SpellsItems S) xs
items_of S xs h = record { bytes = h.spells.1; spells = h.spells.3 }
