use Rattle.std.proofs.Common.{◌≡◌, ◌<◌, ℕ, ◌+◌, List, [], ◌∷◌, ◌++◌, length, Contains, refl, arith, append_assoc, ap, sym, ◌∙◌, subst, ◌⊎◌, inl, inr}
use Rattle.std.proofs.lemmas.List.Elements.{Contains-append_cases, Contains-push_cases, Contains-push, Contains-append_left, Contains-append_right}
use Rattle.resource_table.specs.Handles.{Handle, numbers_of}
use Rattle.resource_table.specs.Steps.{Told, IsShut, AreShut}

-- Streams that were shut, each from one that was there.

pub contains-none : {X : Type 0} (x : X) → Contains {X = X} [] x → ⊥
contains-none x has = let lt = has.1 in omega (arith, lt)

module _ {S : Type 0} (tells : Told S) where
  pub numbers-shut : (xs ys : List (Handle S)) → AreShut tells xs ys → numbers_of ys ≡ numbers_of xs
  numbers-shut [] [] shut = refl
  numbers-shut [] (y ∷ ys) shut = absurd shut
  numbers-shut (x ∷ xs) [] shut = absurd shut
  numbers-shut (x ∷ xs) (y ∷ ys) shut = ap (λ n. n ∷ numbers_of ys) shut.0.number ∙ ap (λ ns. x.number ∷ ns) (numbers-shut xs ys shut.1)

  -- one that was shut, before
  abbrev pub Before : List (Handle S) → Handle S → Type 0
  Before xs h = (before : Handle S) × Contains xs before × IsShut tells before h

  more_before : (x : Handle S) (xs : List (Handle S)) (h : Handle S) → Before xs h → Before (x ∷ xs) h
  more_before x xs h before = (before.0, Contains-append_right (x ∷ []) xs before.0 before.1, before.2)

  first_before : (x y : Handle S) (xs : List (Handle S)) (h : Handle S) → IsShut tells x y → Contains (y ∷ []) h → Before (x ∷ xs) h
  first_before x y xs h shut has = by (Contains-push_cases [] y h has)
    where
      by : Contains {X = Handle S} [] h ⊎ (y ≡ h) → Before (x ∷ xs) h
      by (inl none) = absurd (contains-none h none)
      by (inr same) = (x, Contains-append_left (x ∷ []) xs x (Contains-push [] x), subst (λ k. IsShut tells x k) same shut)

  pub shut-before : (xs ys : List (Handle S)) (h : Handle S) → AreShut tells xs ys → Contains ys h → Before xs h
  shut-before [] [] h shut has = absurd (contains-none h has)
  shut-before [] (y ∷ ys) h shut has = absurd shut
  shut-before (x ∷ xs) [] h shut has = absurd shut
  shut-before (x ∷ xs) (y ∷ ys) h shut has = by (λ rest. shut-before xs ys h shut.1 rest) (Contains-append_cases (y ∷ []) ys h has)
    where
      by : (Contains ys h → Before xs h) → Contains (y ∷ []) h ⊎ Contains ys h → Before (x ∷ xs) h
      by later (inl first) = first_before x y xs h shut.0 first
      by later (inr rest) = more_before x xs h (later rest)

  -- from a greater pool
  pub before-in : (pool : List (Handle S)) (xs : List (Handle S)) (h : Handle S) → ((x : Handle S) → Contains xs x → Contains pool x) → Before xs h → Before pool h
  before-in pool xs h into before = (before.0, into before.0 before.1, before.2)

  -- what was closed besides is what was shed, or from the pool and shut
  abbrev pub IsClosedFrom : (pool shed : List (Handle S)) → Handle S → Type 0
  IsClosedFrom pool shed h = ∥ (Contains shed h) ⊎ (Before pool h) ∥₁

  pub closed-more : (pool shed xs ys : List (Handle S)) → AreShut tells xs ys → ((x : Handle S) → Contains xs x → Contains pool x) → (h : Handle S) → Contains (shed ++ ys) h → IsClosedFrom pool shed h
  closed-more pool shed xs ys shut into h has = by (Contains-append_cases shed ys h has)
    where
      by : Contains shed h ⊎ Contains ys h → IsClosedFrom pool shed h
      by (inl here) = ∣ inl here ∣₁
      by (inr there) = ∣ inr (before-in pool xs h into (shut-before xs ys h shut there)) ∣₁

-- the closed streams, after three times
pub closed-three : {X : Type 0} (closed shed first second one two three : List X) → one ≡ closed ++ shed → two ≡ one ++ first → three ≡ two ++ second → three ≡ closed ++ (shed ++ (first ++ second))
closed-three closed shed first second one two three a b c =
    c ∙ ap (λ xs. xs ++ second) (b ∙ ap (λ xs. xs ++ first) a ∙ append_assoc closed shed first) ∙ append_assoc closed (shed ++ first) second
    ∙ ap (λ xs. closed ++ xs) (append_assoc shed first second)

-- and after two
pub closed-two : {X : Type 0} (closed shed more one two : List X) → one ≡ closed ++ shed → two ≡ one ++ more → two ≡ closed ++ (shed ++ more)
closed-two closed shed more one two a b = b ∙ ap (λ xs. xs ++ more) a ∙ append_assoc closed shed more
