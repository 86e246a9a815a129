-- What a cursor answers, from what reading the bytes left gave.
use Rattle.std.proofs.Common.{◌≡◌, ℕ, ◌+◌, ◌-◌, List, ◌∷◌, ◌++◌, length, length-append, arith, refl, ap, subst, sym, ◌∙◌, Result, Ok, Err}
use Rattle.std.proofs.lemmas.List.Elements.{All-same}
use Rattle.leb_read.specs.declared.fault.LebFault.{LebFault}
use Rattle.leb_read.specs.declared.fault.LebFault.TheVariants.{Short, TooLong}
use Rattle.leb_read.specs.Place.{Place}
use Rattle.leb_read.specs.Numbers.{EndsInside, IsTooLong, Continues}
use Rattle.leb_read.specs.Reading.{IsRead, Cause, AnswersNumber}
use Rattle.leb_read.proofs.Shapes.{Shape, Spelled, one_front, not_inside, not_long}

-- the three outcomes exclude each other
pub inside_not_long : (most : ℕ) (P : ℕ → Type 0) (bytes : List ℕ) → EndsInside most bytes → IsTooLong most P bytes → ⊥
inside_not_long most P bytes h k =
    omega (arith, h.fewer, k.at_most, ap length k.here, length-append k.before (k.last ∷ k.after))

pub spelled_not_inside : (most more : ℕ) (P : ℕ → Type 0) (bytes s rest : List ℕ) → bytes ≡ s ++ rest → Shape more P s → EndsInside most bytes → ⊥
spelled_not_inside most more P bytes s rest here h k =
    not_inside more P s rest h (All-same Continues (s ++ rest) bytes (sym here) k.continues)

pub spelled_not_long : (more : ℕ) (P : ℕ → Type 0) (bytes s rest : List ℕ) → bytes ≡ s ++ rest → Shape more P s → IsTooLong (more + 1) P bytes → ⊥
spelled_not_long more P bytes s rest here h k =
    not_long more P s rest k.before k.after k.last h (sym here ∙ k.here) k.continues (omega (arith, k.at_most)) k.wrong

pub answers_err : {V : Type 0} (Spells : List ℕ → V → Type 0) (more : ℕ) (P : ℕ → Type 0) (old : Place) (bytes : List ℕ) (e : LebFault)
    → Spelled Spells more P → old.left ≡ bytes → Cause P (more + 1) bytes e → AnswersNumber Spells (more + 1) P old old (Err e)
answers_err Spells more P old bytes Short kind here cause =
    let inside : EndsInside (more + 1) old.left = subst (EndsInside (more + 1)) (sym here) cause in
    record {
      ok = tt;
      only = λ v s rest h e. absurd (spelled_not_inside (more + 1) more P old.left s rest e (kind.shaped s v h) inside);
      short = (λ _. inside, λ _. refl);
      long = (λ w. absurd (cc), λ k. absurd (inside_not_long (more + 1) P old.left inside k));
      err = refl;
    }
answers_err Spells more P old bytes TooLong kind here cause =
    let long : IsTooLong (more + 1) P old.left = subst (IsTooLong (more + 1) P) (sym here) cause in
    record {
      ok = tt;
      only = λ v s rest h e. absurd (spelled_not_long more P old.left s rest e (kind.shaped s v h) long);
      short = (λ w. absurd (cc), λ k. absurd (inside_not_long (more + 1) P old.left k long));
      long = (λ _. long, λ _. refl);
      err = refl;
    }

pub answers_ok : {V : Type 0} (Spells : List ℕ → V → Type 0) (more : ℕ) (P : ℕ → Type 0) (old new : Place) (bytes rest : List ℕ) (v : V)
    → Spelled Spells more P → old.left ≡ bytes → new.left ≡ rest → new.at ≡ old.at + (length bytes - length rest)
    → IsRead (λ s. Spells s v) bytes rest → AnswersNumber Spells (more + 1) P old new (Ok v)
answers_ok Spells more P old new bytes rest v kind here after moved h =
    let spelled : old.left ≡ h.0 ++ new.left = here ∙ h.2 ∙ ap (λ l. h.0 ++ l) (sym after) in
    record {
      ok = (h.0, h.1, record { left = spelled; at = omega (arith, moved, ap length h.2, length-append h.0 rest) });
      only = λ w s tail k e.
          let same : h.0 ≡ s = one_front more more P P h.0 s new.left tail (kind.shaped h.0 v h.1) (kind.shaped s w k) (sym spelled ∙ e) in
          ap Ok (kind.one s v w (subst (λ (l : List ℕ). Spells l v) same h.1) k);
      short = (λ w. absurd (cc), λ k. absurd (spelled_not_inside (more + 1) more P old.left h.0 new.left spelled (kind.shaped h.0 v h.1) k));
      long = (λ w. absurd (cc), λ k. absurd (spelled_not_long more P old.left h.0 new.left spelled (kind.shaped h.0 v h.1) k));
      err = tt;
    }

-- the outcome where the result is that error
pub answers_refused : {V : Type 0} (Spells : List ℕ → V → Type 0) (more : ℕ) (P : ℕ → Type 0) (old : Place) (bytes : List ℕ) (e : LebFault) (result : Result V LebFault)
    → Spelled Spells more P → old.left ≡ bytes → result ≡ Err e → Cause P (more + 1) bytes e → AnswersNumber Spells (more + 1) P old old result
answers_refused {V} Spells more P old bytes e result kind here is cause =
    subst (λ (r : Result V LebFault). AnswersNumber Spells (more + 1) P old old r) (sym is) (answers_err Spells more P old bytes e kind here cause)

-- the same, where the value went through a register
pub answers_same : {V : Type 0} (Spells : List ℕ → V → Type 0) (more : ℕ) (P : ℕ → Type 0) (old new : Place) (bytes rest : List ℕ) (v w : V)
    → Spelled Spells more P → old.left ≡ bytes → new.left ≡ rest → new.at ≡ old.at + (length bytes - length rest)
    → w ≡ v → IsRead (λ s. Spells s v) bytes rest → AnswersNumber Spells (more + 1) P old new (Ok w)
answers_same {V} Spells more P old new bytes rest v w kind here after moved same h =
    subst (λ (k : V). AnswersNumber Spells (more + 1) P old new (Ok k)) (sym same) (answers_ok Spells more P old new bytes rest v kind here after moved h)
