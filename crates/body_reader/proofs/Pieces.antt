-- What is read one piece after another.
use Rattle.std.proofs.Common.{◌≡◌, ℕ, ◌<◌, ◌≤◌, List, [], ◌∷◌, ◌++◌, length, length-append, append_assoc, append-nil, Result, Err, MatchResult, arith, refl, ap, subst, sym, ◌∙◌}
use Rattle.std.proofs.lemmas.List.{append_cancel_left, nil_from_length}
use Rattle.leb_read.specs.Place.{Place, Passes}
use Rattle.wasm_form.specs.Values.{SpellsItems}
use Rattle.body_reader.specs.Reading.{NoFront, ReadsOnly, Answers}
use Rattle.body_reader.specs.declared.fault.ReadFault.{ReadFault}
use Rattle.body_reader.specs.declared.fault.ReadFault.TheVariants.{Malformed}

-- two ways from a place pass over the bytes of both
pub passed_both : (old mid new : Place) (s t : List ℕ) → Passes old mid s → Passes mid new t → Passes old new (s ++ t)
passed_both old mid new s t h k =
    record {
      left = h.left ∙ ap (λ (l : List ℕ). s ++ l) k.left ∙ sym (append_assoc s t new.left);
      at = omega (arith, h.at, k.at, length-append s t);
    }

-- what follows a front that was passed over
pub follows : (old mid : Place) (s t rest : List ℕ) → Passes old mid s → old.left ≡ (s ++ t) ++ rest → mid.left ≡ t ++ rest
follows old mid s t rest h e = append_cancel_left s mid.left (t ++ rest) (sym h.left ∙ e ∙ append_assoc s t rest)

-- a piece of A, and one of B whose form may depend on it, that make a C
pub record Parts {A B C : Type 0} (S : List ℕ → A → Type 0) (T : List ℕ → B → Type 0) (U : List ℕ → C → Type 0) (mk : A → B → C) (a : A) : Type 0 where
  pub put : (s t : List ℕ) (b : B) → S s a → T t b → U (s ++ t) (mk a b)
  pub split : (u : List ℕ) (w : C) → U u w → (s : List ℕ) × (t : List ℕ) × (x : A) × (y : B) × S s x × (u ≡ s ++ t) × (x ≡ a → T t y) × (w ≡ mk x y)

pub read_both : {A B C : Type 0} (S : List ℕ → A → Type 0) (T : List ℕ → B → Type 0) (U : List ℕ → C → Type 0) (mk : A → B → C) (a : A) (b : B) (old mid new : Place)
    → Parts S T U mk a → ReadsOnly S old mid a → ReadsOnly T mid new b → ReadsOnly U old new (mk a b)
read_both {A} {B} {C} S T U mk a b old mid new parts h k =
    record {
      spelling = h.spelling ++ k.spelling;
      spells = parts.put h.spelling k.spelling b h.spells k.spells;
      passes = passed_both old mid new h.spelling k.spelling h.passes k.passes;
      only = λ w s rest spelled here.
          let p = parts.split s w spelled in
          let first : (p.0 ≡ h.spelling) × (p.2 ≡ a) = h.only p.2 p.0 (p.1 ++ rest) p.4 (here ∙ ap (λ (l : List ℕ). l ++ rest) p.5 ∙ append_assoc p.0 p.1 rest) in
          let whole : s ≡ h.spelling ++ p.1 = p.5 ∙ ap (λ (l : List ℕ). l ++ p.1) first.0 in
          let after : mid.left ≡ p.1 ++ rest = follows old mid h.spelling p.1 rest h.passes (here ∙ ap (λ (l : List ℕ). l ++ rest) whole) in
          let second : (p.1 ≡ k.spelling) × (p.3 ≡ b) = k.only p.3 p.1 rest (p.6 first.1) after in
          (whole ∙ ap (λ (l : List ℕ). h.spelling ++ l) second.0, p.7 ∙ ap (λ (x : A). mk x p.3) first.1 ∙ ap (λ (y : B). mk a y) second.1);
    }

pub none_first : {A B C : Type 0} (S : List ℕ → A → Type 0) (T : List ℕ → B → Type 0) (U : List ℕ → C → Type 0) (mk : A → B → C) (a : A) (old : Place)
    → Parts S T U mk a → NoFront S old.left → NoFront U old.left
none_first S T U mk a old parts none w s rest spelled here =
    let p = parts.split s w spelled in
    none p.2 p.0 (p.1 ++ rest) p.4 (here ∙ ap (λ (l : List ℕ). l ++ rest) p.5 ∙ append_assoc p.0 p.1 rest)

pub none_second : {A B C : Type 0} (S : List ℕ → A → Type 0) (T : List ℕ → B → Type 0) (U : List ℕ → C → Type 0) (mk : A → B → C) (a : A) (old mid : Place)
    → Parts S T U mk a → ReadsOnly S old mid a → NoFront T mid.left → NoFront U old.left
none_second S T U mk a old mid parts h none w s rest spelled here =
    let p = parts.split s w spelled in
    let first : (p.0 ≡ h.spelling) × (p.2 ≡ a) = h.only p.2 p.0 (p.1 ++ rest) p.4 (here ∙ ap (λ (l : List ℕ). l ++ rest) p.5 ∙ append_assoc p.0 p.1 rest) in
    let whole : s ≡ h.spelling ++ p.1 = p.5 ∙ ap (λ (l : List ℕ). l ++ p.1) first.0 in
    none p.3 p.1 rest (p.6 first.1) (follows old mid h.spelling p.1 rest h.passes (here ∙ ap (λ (l : List ℕ). l ++ rest) whole))

-- one piece that is seen as another value
pub record Seen {A C : Type 0} (S : List ℕ → A → Type 0) (U : List ℕ → C → Type 0) (mk : A → C) : Type 0 where
  pub put : (s : List ℕ) (a : A) → S s a → U s (mk a)
  pub back : (u : List ℕ) (w : C) → U u w → (x : A) × S u x × (w ≡ mk x)

pub read_seen : {A C : Type 0} (S : List ℕ → A → Type 0) (U : List ℕ → C → Type 0) (mk : A → C) (a : A) (old new : Place) → Seen S U mk → ReadsOnly S old new a → ReadsOnly U old new (mk a)
read_seen {A} S U mk a old new seen h =
    record {
      spelling = h.spelling;
      spells = seen.put h.spelling a h.spells;
      passes = h.passes;
      only = λ w s rest spelled here.
          let p = seen.back s w spelled in
          let r : (s ≡ h.spelling) × (p.0 ≡ a) = h.only p.0 s rest p.1 here in
          (r.0, p.2 ∙ ap mk r.1);
    }

pub none_seen : {A C : Type 0} (S : List ℕ → A → Type 0) (U : List ℕ → C → Type 0) (mk : A → C) (old : Place) → Seen S U mk → NoFront S old.left → NoFront U old.left
none_seen S U mk old seen none w s rest spelled here = let p = seen.back s w spelled in none p.0 s rest p.1 here

-- The items that were read from a place on; of any list of as many items or more that is spelled there they are the first.
pub record Gathers {A : Type 0} (S : List ℕ → A → Type 0) (old now : Place) (xs : List A) : Type 0 where
  pub passed : List ℕ
  pub spells : SpellsItems S passed xs
  pub passes : Passes old now passed
  pub only : (ws : List A) (s rest : List ℕ) → SpellsItems S s ws → length xs ≤ length ws → old.left ≡ s ++ rest
      → (u : List ℕ) × (ys : List A) × SpellsItems S u ys × (ws ≡ xs ++ ys) × (s ≡ passed ++ u)

pub gather_none : {A : Type 0} (S : List ℕ → A → Type 0) (p : Place) → Gathers S p p []
gather_none S p =
    record { passed = []; spells = refl; passes = record { left = refl; at = omega arith }; only = λ ws s rest h n e. (s, ws, h, refl, refl) }

-- one item more at the end
pub spells_more : {A : Type 0} (S : List ℕ → A → Type 0) (xs : List A) (s t : List ℕ) (x : A) → SpellsItems S s xs → S t x → SpellsItems S (s ++ t) (xs ++ x ∷ [])
spells_more S [] s t x h k = (t, [], k, refl, ap (λ (l : List ℕ). l ++ t) h ∙ sym (append-nil t))
spells_more S (y ∷ xs) s t x h k =
    (h.0, h.1 ++ t, h.2, spells_more S xs h.1 t x h.3 k, ap (λ (l : List ℕ). l ++ t) h.4 ∙ append_assoc h.0 h.1 t)

pub gather_more : {A : Type 0} (S : List ℕ → A → Type 0) (old mid new : Place) (xs : List A) (x : A) → Gathers S old mid xs → ReadsOnly S mid new x → Gathers S old new (xs ++ x ∷ [])
gather_more {A} S old mid new xs x h k =
    record {
      passed = h.passed ++ k.spelling;
      spells = spells_more S xs h.passed k.spelling x h.spells k.spells;
      passes = passed_both old mid new h.passed k.spelling h.passes k.passes;
      only = λ ws s rest spelled many here.
          let p = h.only ws s rest spelled (omega (arith, length-append xs (x ∷ []))) here in
          next ws s rest p.0 p.1 p.2 p.3 p.4 many (follows old mid h.passed p.0 rest h.passes (here ∙ ap (λ (l : List ℕ). l ++ rest) p.4));
    }
  where
    next : (ws : List A) (s rest u : List ℕ) (ys : List A) → SpellsItems S u ys → ws ≡ xs ++ ys → s ≡ h.passed ++ u → length (xs ++ x ∷ []) ≤ length ws → mid.left ≡ u ++ rest
        → (v : List ℕ) × (zs : List A) × SpellsItems S v zs × (ws ≡ (xs ++ x ∷ []) ++ zs) × (s ≡ (h.passed ++ k.spelling) ++ v)
    next ws s rest u [] spelled list text many here =
        absurd (omega (arith, ap (λ (l : List A). length l) list, length-append xs (x ∷ []), length-append {A = A} xs []))
    next ws s rest u (y ∷ ys) spelled list text many here =
        let r : (spelled.0 ≡ k.spelling) × (y ≡ x) = k.only y spelled.0 (spelled.1 ++ rest) spelled.2 (here ∙ ap (λ (l : List ℕ). l ++ rest) spelled.4 ∙ append_assoc spelled.0 spelled.1 rest) in (
          spelled.1,
          ys,
          spelled.3,
          list ∙ ap (λ (z : A). xs ++ z ∷ ys) r.1 ∙ sym (append_assoc xs (x ∷ []) ys),
          text ∙ ap (λ (l : List ℕ). h.passed ++ l) (spelled.4 ∙ ap (λ (l : List ℕ). l ++ spelled.1) r.0) ∙ sym (append_assoc h.passed k.spelling spelled.1),
        )

-- as many items as there are to be
abbrev pub ItemsOf : {A : Type 0} → (S : List ℕ → A → Type 0) → ℕ → List ℕ → List A → Type 0
ItemsOf S n s xs = SpellsItems S s xs × (length xs ≡ n)

pub gather_whole : {A : Type 0} (S : List ℕ → A → Type 0) (n : ℕ) (old new : Place) (xs : List A) → length xs ≡ n → Gathers S old new xs → ReadsOnly (ItemsOf S n) old new xs
gather_whole {A} S n old new xs count h =
    record {
      spelling = h.passed;
      spells = (h.spells, count);
      passes = h.passes;
      only = λ ws s rest spelled here.
          let p = h.only ws s rest spelled.0 (omega (arith, spelled.1)) here in
          let none : p.1 ≡ [] = nil_from_length p.1 (omega (arith, spelled.1, ap (λ (l : List A). length l) p.3, length-append xs p.1)) in
          let empty : p.0 ≡ [] = subst (λ (l : List A). SpellsItems S p.0 l) none p.2 in
          (p.4 ∙ ap (λ (l : List ℕ). h.passed ++ l) empty ∙ append-nil h.passed, p.3 ∙ ap (λ (l : List A). xs ++ l) none ∙ append-nil xs);
    }

pub gather_fails : {A : Type 0} (S : List ℕ → A → Type 0) (n : ℕ) (old mid : Place) (xs : List A) → length xs < n → Gathers S old mid xs → NoFront S mid.left → NoFront (ItemsOf S n) old.left
gather_fails {A} S n old mid xs few h none ws s rest spelled here =
    let p = h.only ws s rest spelled.0 (omega (arith, spelled.1)) here in
    next p.1 p.0 p.2 p.3 (follows old mid h.passed p.0 rest h.passes (here ∙ ap (λ (l : List ℕ). l ++ rest) p.4))
  where
    next : (ys : List A) (u : List ℕ) → SpellsItems S u ys → ws ≡ xs ++ ys → mid.left ≡ u ++ rest → ⊥
    next [] u items list here = omega (arith, spelled.1, ap (λ (l : List A). length l) list, length-append {A = A} xs [])
    next (y ∷ ys) u items list here = none y items.0 (items.1 ++ rest) items.2 (here ∙ ap (λ (l : List ℕ). l ++ rest) items.4 ∙ append_assoc items.0 items.1 rest)

-- what is answered where a call inside was refused
pub refused : {A : Type 0} (U : List ℕ → A → Type 0) (old new : Place) (r : Result A ReadFault) (y e : ReadFault) → r ≡ Err y → y ≡ e → (e ≡ Malformed → NoFront U old.left) → Answers U old new r
refused {A} U old new r y e is same none =
    let no : Answers U old new (Err y) = λ m. none (sym same ∙ m) in
    subst (λ (q : Result A ReadFault). Answers U old new q) (sym is) no

-- the same for any two outcomes
pub refused_with : {A : Type 0} (P : A → Type 0) (Q : Type 0) (r : Result A ReadFault) (y e : ReadFault) → r ≡ Err y → y ≡ e → (e ≡ Malformed → Q) → MatchResult r P (λ f. f ≡ Malformed → Q)
refused_with {A} P Q r y e is same none =
    let no : MatchResult {T = A} {E = ReadFault} (Err y) P (λ f. f ≡ Malformed → Q) = λ m. none (sym same ∙ m) in
    subst (λ (q : Result A ReadFault). MatchResult q P (λ f. f ≡ Malformed → Q)) (sym is) no
