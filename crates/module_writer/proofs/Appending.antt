-- Bytes that are written one after another.
use Rattle.std.proofs.Common.{◌≡◌, ℕ, ◌+◌, List, [], ◌∷◌, ◌++◌, length, length-append, append_assoc, append-nil, Option, arith, refl, ap, subst, sym, ◌∙◌}
use Rattle.wasm_form.specs.Types.{SpellsMinMax, SpellsLimits}
use Rattle.wasm_form.specs.Least.{least_unsigned, least_max, least_limits}
use Rattle.wasm_form.specs.declared.types.Bounds.{Bounds}
use Rattle.module_writer.specs.Writing.{Appends}

-- one byte
abbrev pub Byte : List ℕ → ℕ → Type 0
Byte s b = s ≡ b ∷ []

abbrev pub one : ℕ → ℕ
one b = 1

pub pushed : (b : ℕ) (old new : List ℕ) → new ≡ old ++ b ∷ [] → Appends Byte one b old new
pushed b old new e = record { bytes = b ∷ []; spells = refl; long = refl; added = e }

-- bytes as they are
abbrev pub Same : List ℕ → List ℕ → Type 0
Same s l = s ≡ l

pub extended : (l old new : List ℕ) → new ≡ old ++ l → Appends Same (λ l. length l) l old new
extended l old new e = record { bytes = l; spells = refl; long = refl; added = e }

-- what spells x spells y, too
pub appends_as : {A B : Type 0} (S : List ℕ → A → Type 0) (T : List ℕ → B → Type 0) (f : A → ℕ) (g : B → ℕ) (x : A) (y : B) (old new : List ℕ)
    → Appends S f x old new → ((s : List ℕ) → S s x → T s y) → f x ≡ g y → Appends T g y old new
appends_as S T f g x y old new h seen same =
    record { bytes = h.bytes; spells = seen h.bytes h.spells; long = h.long ∙ same; added = h.added }

-- x, and then y, make a z
pub appends_both : {A B C : Type 0} (S : List ℕ → A → Type 0) (T : List ℕ → B → Type 0) (U : List ℕ → C → Type 0) (f : A → ℕ) (g : B → ℕ) (h : C → ℕ) (x : A) (y : B) (z : C) (old mid new : List ℕ)
    → Appends S f x old mid → Appends T g y mid new → ((s t : List ℕ) → S s x → T t y → U (s ++ t) z) → f x + g y ≡ h z → Appends U h z old new
appends_both S T U f g h x y z old mid new a b both sum =
    record {
      bytes = a.bytes ++ b.bytes;
      spells = both a.bytes b.bytes a.spells b.spells;
      long = omega (arith, a.long, b.long, sum, length-append a.bytes b.bytes);
      added = b.added ∙ ap (λ (l : List ℕ). l ++ b.bytes) a.added ∙ append_assoc old a.bytes b.bytes;
    }

-- nothing is written
pub appends_nothing : {A : Type 0} (S : List ℕ → A → Type 0) (f : A → ℕ) (x : A) (old : List ℕ) → S [] x → f x ≡ 0 → Appends S f x old old
appends_nothing S f x old h e = record { bytes = []; spells = h; long = sym e; added = sym (append-nil old) }

-- one byte that spells x
pub pushed_as : {A : Type 0} (S : List ℕ → A → Type 0) (f : A → ℕ) (b : ℕ) (x : A) (old new : List ℕ) → new ≡ old ++ b ∷ [] → S (b ∷ []) x → f x ≡ 1 → Appends S f x old new
pushed_as S f b x old new e h one = record { bytes = b ∷ []; spells = h; long = sym one; added = e }

-- three, one after another
pub appends_three : {A B C D : Type 0} (S : List ℕ → A → Type 0) (T : List ℕ → B → Type 0) (V : List ℕ → C → Type 0) (U : List ℕ → D → Type 0) (f : A → ℕ) (g : B → ℕ) (k : C → ℕ) (h : D → ℕ) (x : A) (y : B) (w : C) (z : D)
    (old one two new : List ℕ) → Appends S f x old one → Appends T g y one two → Appends V k w two new
    → ((s t u : List ℕ) → S s x → T t y → V u w → U (s ++ (t ++ u)) z) → f x + (g y + k w) ≡ h z → Appends U h z old new
appends_three S T V U f g k h x y w z old one two new a b c all sum =
    record {
      bytes = a.bytes ++ (b.bytes ++ c.bytes);
      spells = all a.bytes b.bytes c.bytes a.spells b.spells c.spells;
      long = omega (arith, a.long, b.long, c.long, sum, length-append a.bytes (b.bytes ++ c.bytes), length-append b.bytes c.bytes);
      added = c.added ∙ ap (λ (l : List ℕ). l ++ c.bytes) b.added ∙ ap (λ (l : List ℕ). (l ++ b.bytes) ++ c.bytes) a.added ∙ regroup old a.bytes b.bytes c.bytes;
    }
  where
    regroup : (o s t u : List ℕ) → ((o ++ s) ++ t) ++ u ≡ o ++ (s ++ (t ++ u))
    regroup o s t u = simp append_assoc

-- limits, by their maximum
pub limits_as : (bounds : Bounds) (max : Option ℕ) (old new : List ℕ) → bounds.max ≡ max → Appends (λ s n. SpellsMinMax s n max) (λ n. 1 + (least_unsigned n + least_max max)) bounds.min old new
    → Appends SpellsLimits least_limits bounds old new
limits_as bounds max old new e h =
    record {
      bytes = h.bytes;
      spells = subst (λ (m : Option ℕ). SpellsMinMax h.bytes bounds.min m) (sym e) h.spells;
      long = h.long ∙ ap (λ (m : Option ℕ). 1 + (least_unsigned bounds.min + least_max m)) (sym e);
      added = h.added;
    }

-- the same for an equal value
pub appends_at : {A : Type 0} (S : List ℕ → A → Type 0) (f : A → ℕ) (x y : A) (old new : List ℕ) → x ≡ y → Appends S f y old new → Appends S f x old new
appends_at {A} S f x y old new e h = subst (λ (z : A). Appends S f z old new) (sym e) h
