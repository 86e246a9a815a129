use Rattle.std.specs.Prelude.{◌≡◌, ℕ, zero, suc, List, [], ◌∷◌, ◌++◌, map, take, drop, find, filter, cond, option_map, slice_get, Option, Some, None, Bool, true, false, refl}
use Rattle.std.proofs.Common.{sym, ◌∙◌, ap, set}

-- The first item that passes a test, in a list that was changed.

same_either : {X : Type 0} (b : Bool) (x : X) → x ≡ cond b x x
same_either true x = refl
same_either false x = refl

-- TAKEN OUT

find_step : {X : Type 0} (test keep : X → Bool) (kept : Bool) (x : X) (xs : List X) (t k : Bool) → test x ≡ t → keep x ≡ k →
    (t ≡ true → k ≡ kept) → find test (filter keep xs) ≡ cond kept (find test xs) None →
    find test (filter keep (x ∷ xs)) ≡ cond kept (find test (x ∷ xs)) None
find_step test keep kept x xs true true e f is rest =
    ap (λ (z : Bool). find test (cond z (x ∷ filter keep xs) (filter keep xs))) f
    ∙ ap (λ (z : Bool). cond z (Some x) (find test (filter keep xs))) e
    ∙ sym (ap (λ (z : Bool). cond z (find test (x ∷ xs)) None) (sym (is refl)) ∙ ap (λ (z : Bool). cond z (Some x) (find test xs)) e)
find_step test keep kept x xs true false e f is rest =
    ap (λ (z : Bool). find test (cond z (x ∷ filter keep xs) (filter keep xs))) f ∙ rest
    ∙ ap (λ (z : Bool). cond z (find test xs) None) (sym (is refl))
    ∙ sym (ap (λ (z : Bool). cond z (find test (x ∷ xs)) None) (sym (is refl)))
find_step test keep kept x xs false true e f is rest =
    ap (λ (z : Bool). find test (cond z (x ∷ filter keep xs) (filter keep xs))) f
    ∙ ap (λ (z : Bool). cond z (Some x) (find test (filter keep xs))) e ∙ rest
    ∙ sym (ap (λ (z : Bool). cond kept (cond z (Some x) (find test xs)) None) e)
find_step test keep kept x xs false false e f is rest =
    ap (λ (z : Bool). find test (cond z (x ∷ filter keep xs) (filter keep xs))) f ∙ rest
    ∙ sym (ap (λ (z : Bool). cond kept (cond z (Some x) (find test xs)) None) e)

-- where all that pass the test are kept, or all are taken out
pub find_kept : {X : Type 0} (test keep : X → Bool) (kept : Bool) (xs : List X) → ((x : X) → test x ≡ true → keep x ≡ kept) →
    find test (filter keep xs) ≡ cond kept (find test xs) None
find_kept test keep kept [] is = same_either kept None
find_kept test keep kept (x ∷ xs) is =
    find_step test keep kept x xs (test x) (keep x) refl refl (is x) (find_kept test keep kept xs is)

-- PUT BEHIND

pub find_pushed_other : {X : Type 0} (test : X → Bool) (xs : List X) (x : X) → test x ≡ false →
    find test (xs ++ x ∷ []) ≡ find test xs
find_pushed_other test [] x isnt = ap (λ (z : Bool). cond z (Some x) None) isnt
find_pushed_other {X = X} test (y ∷ xs) x isnt = ap (λ (o : Option X). cond (test y) (Some y) o) (find_pushed_other test xs x isnt)

pushed_step : {X : Type 0} (test : X → Bool) (xs : List X) (x y : X) (t : Bool) → test y ≡ t →
    (find test xs ≡ None → find test (xs ++ x ∷ []) ≡ Some x) → cond t (Some y) (find test xs) ≡ None →
    cond (test y) (Some y) (find test (xs ++ x ∷ [])) ≡ Some x
pushed_step {X = X} test xs x y true e rest none = absurd (some_none none)
  where
    some_none : Some y ≡ None → ⊥
    some_none h = cc
pushed_step test xs x y false e rest none =
    ap (λ (z : Bool). cond z (Some y) (find test (xs ++ x ∷ []))) e ∙ rest none

pub find_pushed_first : {X : Type 0} (test : X → Bool) (xs : List X) (x : X) → test x ≡ true → find test xs ≡ None →
    find test (xs ++ x ∷ []) ≡ Some x
find_pushed_first test [] x is none = ap (λ (z : Bool). cond z (Some x) None) is
find_pushed_first test (y ∷ xs) x is none =
    pushed_step test xs x y (test y) refl (find_pushed_first test xs x is) none

-- MARKED

marked_either : {X : Type 0} (mark : X → X) (t : Bool) (x : X) (o : Option X) →
    cond t (Some (mark x)) (option_map mark o) ≡ option_map mark (cond t (Some x) o)
marked_either mark true x o = refl
marked_either mark false x o = refl

-- where the mark is nothing that the test reads
pub find_marked : {X : Type 0} (test : X → Bool) (mark : X → X) (xs : List X) → ((x : X) → test (mark x) ≡ test x) →
    find test (map mark xs) ≡ option_map mark (find test xs)
find_marked test mark [] same = refl
find_marked {X = X} test mark (x ∷ xs) same =
    ap (λ (z : Bool). cond z (Some (mark x)) (find test (map mark xs))) (same x)
    ∙ ap (λ (o : Option X). cond (test x) (Some (mark x)) o) (find_marked test mark xs same)
    ∙ marked_either mark (test x) x (find test xs)

-- one item more is marked
pub marked_more : {X : Type 0} (mark : X → X) (xs : List X) (place : ℕ) (x : X) → slice_get xs place ≡ Some x →
    set (map mark (take place xs) ++ drop place xs) place (mark x) ≡ map mark (take (suc place) xs) ++ drop (suc place) xs
marked_more {X = X} mark [] place x is = absurd (none_some is)
  where
    none_some : None ≡ Some x → ⊥
    none_some h = cc
marked_more {X = X} mark (y ∷ xs) zero x is = ap (λ (z : X). mark z ∷ xs) (same is)
  where
    same : Some y ≡ Some x → x ≡ y
    same h = cc
marked_more {X = X} mark (y ∷ xs) (suc place) x is = ap (λ (zs : List X). mark y ∷ zs) (marked_more mark xs place x is)

-- the item at the place is not marked yet
pub unmarked_yet : {X : Type 0} (mark : X → X) (xs : List X) (place : ℕ) →
    slice_get (map mark (take place xs) ++ drop place xs) place ≡ slice_get xs place
unmarked_yet mark [] zero = refl
unmarked_yet mark [] (suc place) = refl
unmarked_yet mark (y ∷ xs) zero = refl
unmarked_yet mark (y ∷ xs) (suc place) = unmarked_yet mark xs place
