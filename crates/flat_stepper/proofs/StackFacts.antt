-- The first so many values of an array, the last of them on top.
use Rattle.std.proofs.Common.{◌≡◌, ◌≢◌, ℕ, zero, suc, ◌+◌, ◌-◌, ◌<◌, ◌≤◌, List, [], ◌∷◌, ◌++◌, length, take, drop, reverse, replicate, refl, sym, ap, ◌∙◌, arith, add-one, add-suc, get_or, get_or-set_other, get_or-set_same}
use Rattle.std.proofs.lemmas.List.{get_or_append_left, append_assoc, take_more, reverse-append, set-append_right, length-reverse, length-take-le, take-append-le, take_all, drop_all}
use Rattle.std.specs.Prelude.{slice_index, slice_set}
use Rattle.flat_machine.specs.Shown.{stack_of}

pub stack_length : (xs : List ℕ) (n : ℕ) → length (stack_of xs n) ≡ n
stack_length xs zero = refl
stack_length xs (suc n) = ap suc (stack_length xs n)

-- two arrays whose first so many values are the same
pub stack_same : (xs ys : List ℕ) (n : ℕ) → ((k : ℕ) → k < n → slice_index xs k ≡ slice_index ys k) → stack_of xs n ≡ stack_of ys n
stack_same xs ys zero same = refl
stack_same xs ys (suc n) same =
    let head : slice_index xs n ≡ slice_index ys n = same n (omega arith) in
    let tail : stack_of xs n ≡ stack_of ys n = stack_same xs ys n (λ k h. same k (omega arith)) in
    cc

-- a write above the stack leaves it
pub stack_above : (xs : List ℕ) (v n i : ℕ) → n ≤ i → stack_of (slice_set xs i v) n ≡ stack_of xs n
stack_above xs v n i h = stack_same (slice_set xs i v) xs n (λ k less. get_or-set_other xs i k v 0 (omega arith))

-- a write just above the stack puts a value on top
pub stack_push : (xs : List ℕ) (v n : ℕ) → n < length xs → stack_of (slice_set xs n v) (n + 1) ≡ v ∷ stack_of xs n
stack_push xs v n h =
    let le : n ≤ n = omega arith in
    let head = get_or-set_same xs n v 0 h in
    let tail = stack_above xs v n n le in
    rw add-one (cc)

-- the value on top
pub stack_top : (xs : List ℕ) (n : ℕ) → stack_of xs (n + 1) ≡ slice_index xs n ∷ stack_of xs n
stack_top xs n = rw add-one refl

-- what is added to the array leaves the stack
pub stack_longer : (xs ys : List ℕ) (n : ℕ) → n ≤ length xs → stack_of (xs ++ ys) n ≡ stack_of xs n
stack_longer xs ys n h = stack_same (xs ++ ys) xs n (λ k less. get_or_append_left xs ys 0 k (omega arith))

-- below so many values
pub stack_drop : (xs : List ℕ) (low more : ℕ) → drop more (stack_of xs (low + more)) ≡ stack_of xs low
stack_drop xs low zero = ap (λ (n : ℕ). stack_of xs n) (omega arith)
stack_drop xs low (suc more) = rw add-suc (stack_drop xs low more)

-- the lowest so many values
pub stack_lowest : (xs : List ℕ) (low sp : ℕ) → low ≤ sp → drop (length (stack_of xs sp) - low) (stack_of xs sp) ≡ stack_of xs low
stack_lowest xs low sp h =
    let count : length (stack_of xs sp) - low ≡ sp - low = ap (λ (n : ℕ). n - low) (stack_length xs sp) in
    let split : sp ≡ low + (sp - low) = omega arith in
    ap (λ (n : ℕ). drop n (stack_of xs sp)) count
    ∙ ap (λ (n : ℕ). drop (sp - low) (stack_of xs n)) split
    ∙ stack_drop xs low (sp - low)

-- an array as it comes back from a slice of all of it
pub written_back : (new old : List ℕ) (count : ℕ) → length new ≡ count → length old ≡ count → take count (new ++ drop (length new) old) ≡ new
written_back new old count new_is old_is =
    let none : drop (length new) old ≡ [] = drop_all (length new) old (omega arith) in
    let within : count ≤ length new = omega arith in
    take-append-le count new (drop (length new) old) within ∙ take_all count new (omega arith)

-- one argument more
pub one_argument_more : (xs : List ℕ) (low count : ℕ) →
    reverse (take (count + 1) (stack_of xs (low + (count + 1)))) ≡ reverse (take count (stack_of xs (low + count))) ++ (slice_index xs (low + count) ∷ [])
one_argument_more xs low count =
    let more : low + (count + 1) ≡ (low + count) + 1 = omega arith in
    ap (λ (n : ℕ). reverse (take (count + 1) (stack_of xs n))) more
    ∙ ap (λ (l : List ℕ). reverse (take (count + 1) l)) (stack_top xs (low + count))
    ∙ rw add-one (reverse-append (slice_index xs (low + count) ∷ []) (take count (stack_of xs (low + count))))

-- one zero more
pub zeros_more : (xs ys : List ℕ) (sp i : ℕ) → sp + i < length xs → stack_of xs (sp + i) ≡ replicate i 0 ++ stack_of ys sp →
    stack_of (slice_set xs (sp + i) 0) (sp + (i + 1)) ≡ replicate (i + 1) 0 ++ stack_of ys sp
zeros_more xs ys sp i h e =
    let more : sp + (i + 1) ≡ (sp + i) + 1 = omega arith in
    ap (λ (n : ℕ). stack_of (slice_set xs (sp + i) 0) n) more
    ∙ stack_push xs 0 (sp + i) h
    ∙ ap (λ (l : List ℕ). 0 ∷ l) e
    ∙ rw add-one refl

-- one more of the first values
pub begun_more : (xs args : List ℕ) (i : ℕ) → i < length xs → i < length args → stack_of xs i ≡ reverse (take i args) →
    stack_of (slice_set xs i (slice_index args i)) (i + 1) ≡ reverse (take (i + 1) args)
begun_more xs args i h less e =
    stack_push xs (slice_index args i) i h
    ∙ ap (λ (l : List ℕ). slice_index args i ∷ l) e
    ∙ sym (ap reverse (take_more args i 0 less) ∙ reverse-append (take i args) (slice_index args i ∷ []))

-- one argument more of eight
pub arguments_more : (xs args : List ℕ) (low i : ℕ) → i < 8 → args ≡ reverse (take i (stack_of xs (low + i))) ++ replicate (8 - i) 0 →
    slice_set args i (slice_index xs (low + i)) ≡ reverse (take (i + 1) (stack_of xs (low + (i + 1)))) ++ replicate (8 - (i + 1)) 0
arguments_more xs args low i few e =
    let front = reverse (take i (stack_of xs (low + i))) in
    let v = slice_index xs (low + i) in
    let high : i ≤ length (stack_of xs (low + i)) = omega (arith, stack_length xs (low + i)) in
    let count : length front ≡ i = length-reverse (take i (stack_of xs (low + i))) ∙ length-take-le i (stack_of xs (low + i)) high in
    let left : 8 - i ≡ suc (8 - (i + 1)) = omega arith in
    let none : i - i ≡ 0 = omega arith in
    ap (λ (l : List ℕ). slice_set l i v) e
    ∙ set-append_right front (replicate (8 - i) 0) i i v count (omega arith)
    ∙ ap (λ (n : ℕ). front ++ slice_set (replicate (8 - i) 0) n v) none
    ∙ ap (λ (n : ℕ). front ++ slice_set (replicate n 0) 0 v) left
    ∙ sym (append_assoc front (v ∷ []) (replicate (8 - (i + 1)) 0))
    ∙ ap (λ (l : List ℕ). l ++ replicate (8 - (i + 1)) 0) (sym (one_argument_more xs low i))

-- the value on top comes on those below
pub carried_down : (xs : List ℕ) (base sp : ℕ) → base + 1 ≤ sp → sp ≤ length xs →
    stack_of (slice_set xs base (slice_index xs (sp - 1))) (base + 1) ≡ take 1 (stack_of xs sp) ++ stack_of xs base
carried_down xs base sp above there =
    let split : sp ≡ (sp - 1) + 1 = omega arith in
    let one : take 1 (stack_of xs sp) ≡ slice_index xs (sp - 1) ∷ [] =
    ap (λ (n : ℕ). take 1 (stack_of xs n)) split ∙ ap (λ (l : List ℕ). take 1 l) (stack_top xs (sp - 1)) in
    stack_push xs (slice_index xs (sp - 1)) base (omega arith) ∙ sym (ap (λ (l : List ℕ). l ++ stack_of xs base) one)
