use Rattle.std.specs.Prelude.{◌≡◌, ◌≢◌, ◌⊎◌, ℕ, zero, suc, ◌<◌, ◌≤◌, List, [], ◌∷◌, ◌++◌, length, slice_get, Bool, true, false, nat_eq, if◌then◌else◌, refl}
use Rattle.std.specs.Option.{option_map_or}
use Rattle.std.proofs.Common.{sym, ◌∙◌, ap, inl, inr, arith, set}
use Rattle.std.proofs.Math.Path.{fun_ext}
use Rattle.std.proofs.lemmas.Bool.Decides.{eqb_tells}
use Rattle.std.proofs.lemmas.Option.{slice_get_past}

-- A list that is read at places, with a value for the places past its end.

abbrev pub look : {X Y : Type 0} → (X → Y) → Y → List X → ℕ → Y
look show nothing xs place = option_map_or show (slice_get xs place) nothing

pub look_past : {X Y : Type 0} (show : X → Y) (nothing : Y) (xs : List X) (place : ℕ) → length xs ≤ place →
    look show nothing xs place ≡ nothing
look_past show nothing xs place past = ap (λ o. option_map_or show o nothing) (slice_get_past xs place past)

look_set_same : {X Y : Type 0} (show : X → Y) (nothing : Y) (xs : List X) (place : ℕ) (x : X) → place < length xs →
    look show nothing (set xs place x) place ≡ show x
look_set_same show nothing [] place x within = grind arith
look_set_same show nothing (y ∷ xs) zero x within = refl
look_set_same show nothing (y ∷ xs) (suc place) x within = look_set_same show nothing xs place x (omega (arith, within))

look_set_other : {X Y : Type 0} (show : X → Y) (nothing : Y) (xs : List X) (place other : ℕ) (x : X) → other ≢ place →
    look show nothing (set xs place x) other ≡ look show nothing xs other
look_set_other show nothing [] place other x differ = refl
look_set_other show nothing (y ∷ xs) zero zero x differ = absurd (differ refl)
look_set_other show nothing (y ∷ xs) zero (suc other) x differ = refl
look_set_other show nothing (y ∷ xs) (suc place) zero x differ = refl
look_set_other show nothing (y ∷ xs) (suc place) (suc other) x differ =
    look_set_other show nothing xs place other x (λ same. differ (ap suc same))

-- an item replaced
pub look_set : {X Y : Type 0} (show : X → Y) (nothing : Y) (xs : List X) (place : ℕ) (x : X) → place < length xs →
    look show nothing (set xs place x) ≡ (λ other. if nat_eq other place then show x else look show nothing xs other)
look_set show nothing xs place x within = fun_ext (λ other. by other (eqb_tells other place))
  where
    by : (other : ℕ) → ((nat_eq other place ≡ true) × (other ≡ place)) ⊎ ((nat_eq other place ≡ false) × (other ≢ place)) →
        look show nothing (set xs place x) other ≡ (if nat_eq other place then show x else look show nothing xs other)
    by other (inl h) =
        ap (look show nothing (set xs place x)) h.1 ∙ look_set_same show nothing xs place x within
        ∙ sym (ap (λ (b : Bool). if b then show x else look show nothing xs other) h.0)
    by other (inr h) =
        look_set_other show nothing xs place other x h.1
        ∙ sym (ap (λ (b : Bool). if b then show x else look show nothing xs other) h.0)

look_push_same : {X Y : Type 0} (show : X → Y) (nothing : Y) (xs : List X) (x : X) →
    look show nothing (xs ++ x ∷ []) (length xs) ≡ show x
look_push_same show nothing [] x = refl
look_push_same show nothing (y ∷ xs) x = look_push_same show nothing xs x

look_push_other : {X Y : Type 0} (show : X → Y) (nothing : Y) (xs : List X) (other : ℕ) (x : X) → other ≢ length xs →
    look show nothing (xs ++ x ∷ []) other ≡ look show nothing xs other
look_push_other show nothing [] zero x differ = absurd (differ refl)
look_push_other show nothing [] (suc other) x differ = refl
look_push_other show nothing (y ∷ xs) zero x differ = refl
look_push_other show nothing (y ∷ xs) (suc other) x differ =
    look_push_other show nothing xs other x (λ same. differ (ap suc same))

-- an item more
pub look_push : {X Y : Type 0} (show : X → Y) (nothing : Y) (xs : List X) (x : X) →
    look show nothing (xs ++ x ∷ []) ≡ (λ other. if nat_eq other (length xs) then show x else look show nothing xs other)
look_push show nothing xs x = fun_ext (λ other. by other (eqb_tells other (length xs)))
  where
    by : (other : ℕ) → ((nat_eq other (length xs) ≡ true) × (other ≡ length xs)) ⊎ ((nat_eq other (length xs) ≡ false) × (other ≢ length xs)) →
        look show nothing (xs ++ x ∷ []) other ≡ (if nat_eq other (length xs) then show x else look show nothing xs other)
    by other (inl h) =
        ap (look show nothing (xs ++ x ∷ [])) h.1 ∙ look_push_same show nothing xs x
        ∙ sym (ap (λ (b : Bool). if b then show x else look show nothing xs other) h.0)
    by other (inr h) =
        look_push_other show nothing xs other x h.1
        ∙ sym (ap (λ (b : Bool). if b then show x else look show nothing xs other) h.0)

-- an item more that shows nothing
pub look_push_nothing : {X Y : Type 0} (show : X → Y) (nothing : Y) (xs : List X) (x : X) → show x ≡ nothing →
    look show nothing (xs ++ x ∷ []) ≡ look show nothing xs
look_push_nothing show nothing xs x is = fun_ext (λ other. by other (eqb_tells other (length xs)))
  where
    by : (other : ℕ) → ((nat_eq other (length xs) ≡ true) × (other ≡ length xs)) ⊎ ((nat_eq other (length xs) ≡ false) × (other ≢ length xs)) →
        look show nothing (xs ++ x ∷ []) other ≡ look show nothing xs other
    by other (inl h) =
        ap (look show nothing (xs ++ x ∷ [])) h.1 ∙ look_push_same show nothing xs x ∙ is
        ∙ sym (ap (look show nothing xs) h.1 ∙ look_past show nothing xs (length xs) (omega arith))
    by other (inr h) = look_push_other show nothing xs other x h.1

-- the item of the place, where the function changes nothing there
pub same_function : {Y : Type 0} (f : ℕ → Y) (place : ℕ) (y : Y) → f place ≡ y →
    f ≡ (λ other. if nat_eq other place then y else f other)
same_function f place y is = fun_ext (λ other. by other (eqb_tells other place))
  where
    by : (other : ℕ) → ((nat_eq other place ≡ true) × (other ≡ place)) ⊎ ((nat_eq other place ≡ false) × (other ≢ place)) →
        f other ≡ (if nat_eq other place then y else f other)
    by other (inl h) = ap f h.1 ∙ is ∙ sym (ap (λ (b : Bool). if b then y else f other) h.0)
    by other (inr h) = sym (ap (λ (b : Bool). if b then y else f other) h.0)
