use Rattle.std.proofs.Common.{◌≡◌, ◌≢◌, ◌<◌, ◌≤◌, ℕ, ◌+◌, List, [], ◌∷◌, ◌++◌, length, Option, Some, None, Bool, true, false, nat_eq, refl, arith, sym, ◌∙◌, ap, subst, ◌⊎◌, inl, inr, length-append}
use Rattle.std.proofs.lemmas.Bool.Decides.{eqb_tells}
use Rattle.std.specs.Option.{option_to_list}
use Rattle.world_rules.specs.Part.{is_among}
use Rattle.world_rules.specs.Sound.{times}
use Rattle.world_rules.specs.Streams.{one_if}
use Rattle.node_laws.proofs.Numbers.{times-append}
use Rattle.node_mirror.proofs.Members.{times_none, times_some, among_of_times}

-- Lists of numbers in which one number comes or goes.

-- all other numbers are in both lists as often, and the longer list is longer by as much as this number is in it oftener
pub record IsBut (old new : List ℕ) (pid : ℕ) : Type 0 where
  pub others : (q : ℕ) → q ≢ pid → times q new ≡ times q old
  pub long : length new + times pid old ≡ length old + times pid new

pub but_same : (old new : List ℕ) (pid : ℕ) → new ≡ old → IsBut old new pid
but_same old new pid same = record { others = λ q differs. ap (times q) same; long = rw same refl }

times_one : (q pid : ℕ) → q ≢ pid → times q (pid ∷ []) ≡ 0
times_one q pid differs = by (eqb_tells q pid)
  where
    by : ((nat_eq q pid ≡ true) × (q ≡ pid)) ⊎ ((nat_eq q pid ≡ false) × (q ≢ pid)) → one_if (nat_eq q pid) 0 ≡ 0
    by (inl same) = absurd (differs same.1)
    by (inr other) = ap (λ (b : Bool). one_if b 0) other.0

times_self : (pid : ℕ) → times pid (pid ∷ []) ≡ 1
times_self pid = by (eqb_tells pid pid)
  where
    by : ((nat_eq pid pid ≡ true) × (pid ≡ pid)) ⊎ ((nat_eq pid pid ≡ false) × (pid ≢ pid)) → one_if (nat_eq pid pid) 0 ≡ 1
    by (inl same) = ap (λ (b : Bool). one_if b 0) same.0
    by (inr other) = absurd (other.1 refl)

-- a list with one number more, somewhere
pub times_more : (q pid : ℕ) (xs ys : List ℕ) → times q (xs ++ (pid ∷ [] ++ ys)) ≡ times q (xs ++ ys) + times q (pid ∷ [])
times_more q pid xs ys =
    let a = times-append q xs (pid ∷ [] ++ ys) in
    let b = times-append q (pid ∷ []) ys in
    let c = times-append q xs ys in
    omega (arith, a, b, c)

length_more : (pid : ℕ) (xs ys : List ℕ) → length (xs ++ (pid ∷ [] ++ ys)) ≡ length (xs ++ ys) + 1
length_more pid xs ys =
    let a = length-append xs (pid ∷ [] ++ ys) in
    let b = length-append (pid ∷ []) ys in
    let c = length-append xs ys in
    omega (arith, a, b, c)

-- a number comes in
pub but_more : (pid : ℕ) (xs ys old new : List ℕ) → old ≡ xs ++ ys → new ≡ xs ++ (pid ∷ [] ++ ys) → IsBut old new pid
but_more pid xs ys old new was is = record {
  others = λ q differs.
      let a = times_more q pid xs ys in
      let b = times_one q pid differs in
      let n = ap (times q) is in
      let o = ap (times q) was in
      omega (arith, a, b, n, o);
  long =
      let a = times_more pid pid xs ys in
      let b = times_self pid in
      let l = length_more pid xs ys in
      let n = ap (times pid) is in
      let o = ap (times pid) was in
      let ln = ap length is in
      let lo = ap length was in
      omega (arith, a, b, l, n, o, ln, lo);
}

-- and goes
pub but_less : (pid : ℕ) (xs ys old new : List ℕ) → old ≡ xs ++ (pid ∷ [] ++ ys) → new ≡ xs ++ ys → IsBut old new pid
but_less pid xs ys old new was is =
    let b = but_more pid xs ys new old is was in
    record { others = λ q differs. sym (b.others q differs); long = let l = b.long in omega (arith, l) }

pub came_more : (pid : ℕ) (xs ys old new : List ℕ) → old ≡ xs ++ ys → new ≡ xs ++ (pid ∷ [] ++ ys) → times pid new ≡ times pid old + 1
came_more pid xs ys old new was is =
    let a = times_more pid pid xs ys in
    let b = times_self pid in
    let n = ap (times pid) is in
    let o = ap (times pid) was in
    omega (arith, a, b, n, o)

pub among_same : (q : ℕ) (xs ys : List ℕ) → times q xs ≡ times q ys → is_among xs q ≡ true → is_among ys q ≡ true
among_same q xs ys same is = among_of_times q ys (let a = times_some q xs is in omega (arith, a, same))

pub not_among : (q : ℕ) (xs : List ℕ) → (is_among xs q ≡ true → ⊥) → times q xs ≡ 0
not_among q xs isnt = by (is_among xs q) refl
  where
    by : (b : Bool) → is_among xs q ≡ b → times q xs ≡ 0
    by true e = absurd (isnt e)
    by false e = times_none q xs e

pub none_among : (q : ℕ) (xs : List ℕ) → times q xs ≡ 0 → is_among xs q ≡ true → ⊥
none_among q xs none is = let a = times_some q xs is in omega (arith, a, none)
