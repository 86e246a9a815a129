-- Which bytes continue in a spelling, and what that rules out.
use Rattle.std.proofs.Common.{◌≡◌, ℕ, ◌-◌, ◌^◌, ◌<◌, ◌≤◌, List, [], ◌∷◌, ◌++◌, All, length, arith, ap, subst, sym}
use Rattle.std.proofs.lemmas.List.Elements.{All-head, All-tail}
use Rattle.leb_read.specs.Numbers.{Continues}

-- all bytes but the last continue, they are at most this many, and one more than these many may be last
abbrev pub Shape : (more : ℕ) → (MayBeLast : ℕ → Type 0) → List ℕ → Type 0
Shape more P [] = ⊥
Shape more P (b ∷ []) = (b < 2 ^ 7) × (more ≡ 0 → P b)
Shape more P (b ∷ c ∷ s) = (2 ^ 7 ≤ b) × (0 < more) × Shape (more - 1) P (c ∷ s)

pub head_of : (a b : ℕ) (s t : List ℕ) → a ∷ s ≡ b ∷ t → a ≡ b
head_of a b s t e = cc

pub tail_of : (a b : ℕ) (s t : List ℕ) → a ∷ s ≡ b ∷ t → s ≡ t
tail_of a b s t e = cc

-- no spelling begins another
pub one_front : (m n : ℕ) (P Q : ℕ → Type 0) (s t x y : List ℕ) → Shape m P s → Shape n Q t → s ++ x ≡ t ++ y → s ≡ t
one_front m n P Q [] t x y h k e = absurd h
one_front m n P Q (b ∷ []) [] x y h k e = absurd k
one_front m n P Q (b ∷ []) (d ∷ []) x y h k e = ap (λ (w : ℕ). w ∷ []) (head_of b d x y e)
one_front m n P Q (b ∷ []) (d ∷ f ∷ t) x y h k e = let same : b ≡ d = head_of b d x (f ∷ t ++ y) e in absurd (omega (arith, h.0, k.0))
one_front m n P Q (b ∷ c ∷ s) [] x y h k e = absurd k
one_front m n P Q (b ∷ c ∷ s) (d ∷ []) x y h k e = let same : b ≡ d = head_of b d (c ∷ s ++ x) y e in absurd (omega (arith, h.0, k.0))
one_front m n P Q (b ∷ c ∷ s) (d ∷ f ∷ t) x y h k e =
    let same : b ≡ d = head_of b d (c ∷ s ++ x) (f ∷ t ++ y) e in
    let rest : c ∷ s ≡ f ∷ t = one_front (m - 1) (n - 1) P Q (c ∷ s) (f ∷ t) x y h.2 k.2 (tail_of b d (c ∷ s ++ x) (f ∷ t ++ y) e) in
    cc

-- a spelling has a byte that doesn't continue
pub not_inside : (more : ℕ) (P : ℕ → Type 0) (s rest : List ℕ) → Shape more P s → All Continues (s ++ rest) → ⊥
not_inside more P [] rest h all = h
not_inside more P (b ∷ []) rest h all = omega (arith, h.0, All-head Continues b rest all)
not_inside more P (b ∷ c ∷ s) rest h all = not_inside (more - 1) P (c ∷ s) rest h.2 (All-tail Continues b ((c ∷ s) ++ rest) all)

-- a spelling ends before the last byte that a number may have, or in one that may be last
pub not_long : (more : ℕ) (P : ℕ → Type 0) (s rest before after : List ℕ) (last : ℕ) → Shape more P s → s ++ rest ≡ before ++ last ∷ after → All Continues before → length before ≡ more → (P last → ⊥) → ⊥
not_long more P [] rest before after last h e all count wrong = h
not_long more P (b ∷ []) rest [] after last h e all count wrong =
    wrong (subst P (head_of b last rest after e) (h.1 (sym count)))
not_long more P (b ∷ []) rest (d ∷ before) after last h e all count wrong =
    let same : b ≡ d = head_of b d rest (before ++ last ∷ after) e in
    omega (arith, h.0, All-head Continues d before all)
not_long more P (b ∷ c ∷ s) rest [] after last h e all count wrong = omega (arith, h.1, count)
not_long more P (b ∷ c ∷ s) rest (d ∷ before) after last h e all count wrong =
    not_long (more - 1) P (c ∷ s) rest before after last h.2 (tail_of b d ((c ∷ s) ++ rest) (before ++ last ∷ after) e) (All-tail Continues d before all) (omega (arith, count)) wrong

-- spellings of one kind: how they end, and that each has one value
pub record Spelled {V : Type 0} (Spells : List ℕ → V → Type 0) (more : ℕ) (P : ℕ → Type 0) : Type 0 where
  pub shaped : (s : List ℕ) (v : V) → Spells s v → Shape more P s
  pub one : (s : List ℕ) (v w : V) → Spells s v → Spells s w → v ≡ w
