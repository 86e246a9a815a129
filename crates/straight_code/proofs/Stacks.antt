-- The first n values of an array, the last of them on top.
use Rattle.std.proofs.Common.{◌≡◌, ◌≢◌, ℕ, zero, suc, ◌+◌, ◌<◌, ◌≤◌, List, [], ◌∷◌, length, reverse, take, slice_get, Some, refl, sym, ap, ◌∙◌, arith, get_or-set_other, get_or-set_same}
use Rattle.std.specs.Prelude.{slice_index, slice_set}
use Rattle.std.proofs.Math.Seq.{take-suc, take-set-lt}
use Rattle.std.proofs.lemmas.List.{length-set, get_or-take, length-take, reverse-append, reverse-reverse}
use Rattle.std.proofs.lemmas.Option.{slice_get-get_or}
use Rattle.flat_machine.specs.Shown.{stack_of}

pub length_stack : (xs : List ℕ) (n : ℕ) → length (stack_of xs n) ≡ n
length_stack xs zero = refl
length_stack xs (suc n) = let rest : length (stack_of xs n) ≡ n = length_stack xs n in omega arith

-- a write above the stack leaves it
pub stack_above : (xs : List ℕ) (v n i : ℕ) → n ≤ i → stack_of (slice_set xs i v) n ≡ stack_of xs n
stack_above xs v zero i h = refl
stack_above xs v (suc n) i h =
    let ne : n ≢ i = omega arith in
    let le : n ≤ i = omega arith in
    let head = get_or-set_other xs i n v 0 ne in
    let tail = stack_above xs v n i le in
    cc

-- the top, and what lies below it
pub top_of : (xs : List ℕ) (n i : ℕ) → i + 1 ≡ n → stack_of xs n ≡ slice_index xs i ∷ stack_of xs i
top_of xs n i e = ap (λ (m : ℕ). stack_of xs m) (let is : n ≡ suc i = omega arith in is)

-- the two on top
pub two_of : (xs : List ℕ) (n i j : ℕ) → i + 2 ≡ n → i + 1 ≡ j → stack_of xs n ≡ slice_index xs j ∷ slice_index xs i ∷ stack_of xs i
two_of xs n i j e f =
    top_of xs n j (omega arith) ∙ ap (λ (s : List ℕ). slice_index xs j ∷ s) (top_of xs j i f)

-- the three on top
pub three_of : (xs : List ℕ) (n i j k : ℕ) → i + 3 ≡ n → i + 1 ≡ j → i + 2 ≡ k →
    stack_of xs n ≡ slice_index xs k ∷ slice_index xs j ∷ slice_index xs i ∷ stack_of xs i
three_of xs n i j k e f g =
    top_of xs n k (omega arith) ∙ ap (λ (s : List ℕ). slice_index xs k ∷ s) (two_of xs k i j g f)

-- a value written at the height stands on top
pub stack_push : (xs : List ℕ) (v n m : ℕ) → n < length xs → n + 1 ≡ m → stack_of (slice_set xs n v) m ≡ v ∷ stack_of xs n
stack_push xs v n m h e =
    let le : n ≤ n = omega arith in
    top_of (slice_set xs n v) m n e
    ∙ ap (λ (a : ℕ). a ∷ stack_of (slice_set xs n v) n) (get_or-set_same xs n v 0 h)
    ∙ ap (λ (s : List ℕ). v ∷ s) (stack_above xs v n n le)

-- the stack is the front of the array, turned round
pub stack_turned : (xs : List ℕ) (n : ℕ) → n ≤ length xs → stack_of xs n ≡ reverse (take n xs)
stack_turned xs zero h = refl
stack_turned xs (suc n) h =
    let less : n < length xs = omega arith in
    ap (λ (s : List ℕ). slice_index xs n ∷ s) (stack_turned xs n (omega arith))
    ∙ sym (ap reverse (take-suc xs n 0 less) ∙ reverse-append (take n xs) (slice_index xs n ∷ []))

pub turned_stack : (xs : List ℕ) (n : ℕ) → n ≤ length xs → reverse (stack_of xs n) ≡ take n xs
turned_stack xs n h = ap reverse (stack_turned xs n h) ∙ reverse-reverse (take n xs)

-- the value at a place of the stack, counted from below
pub stack_get : (xs : List ℕ) (n k : ℕ) → n ≤ length xs → k < n → slice_get (reverse (stack_of xs n)) k ≡ Some (slice_index xs k)
stack_get xs n k h below =
    let long : length (take n xs) ≡ n = let count = length-take n xs in omega arith in
    ap (λ (l : List ℕ). slice_get l k) (turned_stack xs n h)
    ∙ slice_get-get_or (take n xs) k 0 (omega arith)
    ∙ ap (λ (v : ℕ). Some v) (get_or-take n xs k 0 below)

-- a write below the height changes the stack at that place
pub stack_set : (xs : List ℕ) (n k v : ℕ) → n ≤ length xs → k < n → reverse (slice_set (reverse (stack_of xs n)) k v) ≡ stack_of (slice_set xs k v) n
stack_set xs n k v h below =
    let long : length (slice_set xs k v) ≡ length xs = length-set xs k v in
    ap (λ (l : List ℕ). reverse (slice_set l k v)) (turned_stack xs n h)
    ∙ ap reverse (sym (take-set-lt n xs k v below))
    ∙ sym (stack_turned (slice_set xs k v) n (omega arith))
