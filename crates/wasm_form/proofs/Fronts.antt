-- Spellings none of which begins another, and which have one value each.
use Rattle.std.proofs.Common.{◌≡◌, ℕ, List, [], ◌∷◌, ◌++◌, length, append_assoc, arith, refl, ap, subst, sym, ◌∙◌}
use Rattle.std.proofs.lemmas.List.{append_cancel_left}
use Rattle.wasm_form.specs.Values.{SpellsU32, SpellsItems, SpellsVector, SpellsBytes, SpellsSized}

-- at most one front of any bytes spells a value, and it spells one
pub record OneFront {A : Type 0} (S : List ℕ → A → Type 0) : Type 0 where
  pub one : (s t x y : List ℕ) (v w : A) → S s v → S t w → s ++ x ≡ t ++ y → (s ≡ t) × (v ≡ w)

-- the same bytes spell one value
pub one_value : {A : Type 0} (S : List ℕ → A → Type 0) → OneFront S → (s : List ℕ) (v w : A) → S s v → S s w → v ≡ w
one_value S law s v w h k = (law.one s s [] [] v w h k refl).1

-- one spelling after another
abbrev pub Both : {A B : Type 0} → (S : List ℕ → A → Type 0) → (T : List ℕ → B → Type 0) → List ℕ → A × B → Type 0
Both S T bytes p = (s : List ℕ) × (t : List ℕ) × S s p.0 × T t p.1 × (bytes ≡ s ++ t)

-- a byte, and then a spelling
abbrev pub Led : {A : Type 0} → ℕ → (S : List ℕ → A → Type 0) → List ℕ → A → Type 0
Led b S bytes v = (s : List ℕ) × S s v × (bytes ≡ b ∷ s)

pub regroup : (s s1 s2 t t1 t2 x y : List ℕ) → s ≡ s1 ++ s2 → t ≡ t1 ++ t2 → s ++ x ≡ t ++ y → s1 ++ (s2 ++ x) ≡ t1 ++ (t2 ++ y)
regroup s s1 s2 t t1 t2 x y h k e =
    sym (append_assoc s1 s2 x) ∙ ap (λ (l : List ℕ). l ++ x) (sym h) ∙ e ∙ ap (λ (l : List ℕ). l ++ y) k ∙ append_assoc t1 t2 y

pub cancel : (s t x y : List ℕ) → s ≡ t → s ++ x ≡ t ++ y → x ≡ y
cancel s t x y same e = append_cancel_left s x y (e ∙ ap (λ (l : List ℕ). l ++ y) (sym same))

pub joined : (s s1 s2 t t1 t2 : List ℕ) → s ≡ s1 ++ s2 → t ≡ t1 ++ t2 → s1 ≡ t1 → s2 ≡ t2 → s ≡ t
joined s s1 s2 t t1 t2 h k a b = cc

pub heads : (a b : ℕ) (s t u v x y : List ℕ) → s ≡ a ∷ u → t ≡ b ∷ v → s ++ x ≡ t ++ y → a ≡ b
heads a b s t u v x y h k e =
    let both : a ∷ (u ++ x) ≡ b ∷ (v ++ y) = ap (λ (l : List ℕ). l ++ x) (sym h) ∙ e ∙ ap (λ (l : List ℕ). l ++ y) k in
    cc

pub tails : (a b : ℕ) (s t u v x y : List ℕ) → s ≡ a ∷ u → t ≡ b ∷ v → s ++ x ≡ t ++ y → u ++ x ≡ v ++ y
tails a b s t u v x y h k e =
    let both : a ∷ (u ++ x) ≡ b ∷ (v ++ y) = ap (λ (l : List ℕ). l ++ x) (sym h) ∙ e ∙ ap (λ (l : List ℕ). l ++ y) k in
    cc

pub one_both : {A B : Type 0} (S : List ℕ → A → Type 0) (T : List ℕ → B → Type 0) → OneFront S → OneFront T → OneFront (Both S T)
one_both {A} {B} S T a b =
    record {
      one = λ s t x y v w h k e.
          let whole : h.0 ++ (h.1 ++ x) ≡ k.0 ++ (k.1 ++ y) = regroup s h.0 h.1 t k.0 k.1 x y h.4 k.4 e in
          let first : (h.0 ≡ k.0) × (v.0 ≡ w.0) = a.one h.0 k.0 (h.1 ++ x) (k.1 ++ y) v.0 w.0 h.2 k.2 whole in
          let second : (h.1 ≡ k.1) × (v.1 ≡ w.1) = b.one h.1 k.1 x y v.1 w.1 h.3 k.3 (cancel h.0 k.0 (h.1 ++ x) (k.1 ++ y) first.0 whole) in
          (joined s h.0 h.1 t k.0 k.1 h.4 k.4 first.0 second.0, ap (λ (l : A). let p : A × B = (l, v.1) in p) first.1 ∙ ap (λ (l : B). let p : A × B = (w.0, l) in p) second.1);
    }

pub one_led : {A : Type 0} (b : ℕ) (S : List ℕ → A → Type 0) → OneFront S → OneFront (Led b S)
one_led b S law =
    record {
      one = λ s t x y v w h k e.
          let rest : (h.0 ≡ k.0) × (v ≡ w) = law.one h.0 k.0 x y v w h.1 k.1 (tails b b s t h.0 k.0 x y h.2 k.2 e) in
          (h.2 ∙ ap (λ (l : List ℕ). b ∷ l) rest.0 ∙ sym k.2, rest.1);
    }

-- a spelling of A that is one of B, where the value of B gives back that of A
pub one_by : {A B : Type 0} (S : List ℕ → A → Type 0) (T : List ℕ → B → Type 0) (f : A → B) (back : B → A)
    → ((v : A) → back (f v) ≡ v) → ((s : List ℕ) (v : A) → S s v → T s (f v)) → OneFront T → OneFront S
one_by S T f back same seen law =
    record {
      one = λ s t x y v w h k e.
          let r : (s ≡ t) × (f v ≡ f w) = law.one s t x y (f v) (f w) (seen s v h) (seen t w k) e in
          (r.0, sym (same v) ∙ ap back r.1 ∙ same w);
    }

-- fronts of one length are one
pub same_front : (s t x y : List ℕ) → length s ≡ length t → s ++ x ≡ t ++ y → s ≡ t
same_front [] [] x y n e = refl
same_front [] (b ∷ t) x y n e = absurd (omega arith)
same_front (a ∷ s) [] x y n e = absurd (omega arith)
same_front (a ∷ s) (b ∷ t) x y n e =
    let rest : s ≡ t = same_front s t x y (omega arith) (cc) in
    cc

-- as many items
pub one_items : {A : Type 0} (S : List ℕ → A → Type 0) → OneFront S → (xs ys : List A) (s t x y : List ℕ) → length xs ≡ length ys
    → SpellsItems S s xs → SpellsItems S t ys → s ++ x ≡ t ++ y → (s ≡ t) × (xs ≡ ys)
one_items S law [] [] s t x y n h k e = (h ∙ sym k, refl)
one_items S law [] (w ∷ ws) s t x y n h k e = absurd (omega arith)
one_items S law (v ∷ vs) [] s t x y n h k e = absurd (omega arith)
one_items {A} S law (v ∷ vs) (w ∷ ws) s t x y n h k e =
    let whole : h.0 ++ (h.1 ++ x) ≡ k.0 ++ (k.1 ++ y) = regroup s h.0 h.1 t k.0 k.1 x y h.4 k.4 e in
    let first : (h.0 ≡ k.0) × (v ≡ w) = law.one h.0 k.0 (h.1 ++ x) (k.1 ++ y) v w h.2 k.2 whole in
    let more : (h.1 ≡ k.1) × (vs ≡ ws) = one_items S law vs ws h.1 k.1 x y (omega arith) h.3 k.3 (cancel h.0 k.0 (h.1 ++ x) (k.1 ++ y) first.0 whole) in
    (joined s h.0 h.1 t k.0 k.1 h.4 k.4 first.0 more.0, ap (λ (l : A). l ∷ vs) first.1 ∙ ap (λ (l : List A). w ∷ l) more.1)

pub one_vector : {A : Type 0} (S : List ℕ → A → Type 0) → OneFront SpellsU32 → OneFront S → OneFront (SpellsVector S)
one_vector {A} S numbers law =
    record {
      one = λ s t x y v w h k e.
          let whole : h.0 ++ (h.1 ++ x) ≡ k.0 ++ (k.1 ++ y) = regroup s h.0 h.1 t k.0 k.1 x y h.4 k.4 e in
          let count : (h.0 ≡ k.0) × (length v ≡ length w) = numbers.one h.0 k.0 (h.1 ++ x) (k.1 ++ y) (length v) (length w) h.2 k.2 whole in
          let items : (h.1 ≡ k.1) × (v ≡ w) = one_items S law v w h.1 k.1 x y count.1 h.3 k.3 (cancel h.0 k.0 (h.1 ++ x) (k.1 ++ y) count.0 whole) in
          (joined s h.0 h.1 t k.0 k.1 h.4 k.4 count.0 items.0, items.1);
    }

pub one_bytes : OneFront SpellsU32 → OneFront SpellsBytes
one_bytes numbers =
    record {
      one = λ s t x y v w h k e.
          let whole : h.0 ++ (v ++ x) ≡ k.0 ++ (w ++ y) = regroup s h.0 v t k.0 w x y h.2 k.2 e in
          let count : (h.0 ≡ k.0) × (length v ≡ length w) = numbers.one h.0 k.0 (v ++ x) (w ++ y) (length v) (length w) h.1 k.1 whole in
          let content : v ≡ w = same_front v w x y count.1 (cancel h.0 k.0 (v ++ x) (w ++ y) count.0 whole) in
          (joined s h.0 v t k.0 w h.2 k.2 count.0 content, content);
    }

pub one_sized : {A : Type 0} (S : List ℕ → A → Type 0) → OneFront SpellsU32 → OneFront S → OneFront (SpellsSized S)
one_sized {A} S numbers law =
    record {
      one = λ s t x y v w h k e.
          let whole : h.0 ++ (h.1 ++ x) ≡ k.0 ++ (k.1 ++ y) = regroup s h.0 h.1 t k.0 k.1 x y h.4 k.4 e in
          let size : (h.0 ≡ k.0) × (length h.1 ≡ length k.1) = numbers.one h.0 k.0 (h.1 ++ x) (k.1 ++ y) (length h.1) (length k.1) h.2 k.2 whole in
          let contents : h.1 ≡ k.1 = same_front h.1 k.1 x y size.1 (cancel h.0 k.0 (h.1 ++ x) (k.1 ++ y) size.0 whole) in
          (joined s h.0 h.1 t k.0 k.1 h.4 k.4 size.0 contents, one_value S law k.1 v w (subst (λ (l : List ℕ). S l v) contents h.3) k.3);
    }
