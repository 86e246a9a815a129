-- The mark of a list is made byte by byte.
use Rattle.std.proofs.Common.{◌≡◌, ℕ, ◌+◌, ◌*◌, ◌%◌, ◌^◌, ◌<◌, ◌≤◌, List, [], ◌∷◌, ◌++◌, length, take, get_or, length-take, sum_by, add_assoc, add-zero, zero-add, refl, sym, ◌∙◌, ap, arith}
use Rattle.std.specs.List.{enumerate_from}
use Rattle.std.proofs.lemmas.List.Sums.{sum_by-cons}
use Rattle.std.proofs.lemmas.List.{take_more, take_all}
use Rattle.std.proofs.Math.Nat.{mod-add-mod}
use Rattle.linear_memory.specs.Bytes.{mark_of}

-- the sum of each byte times one more than its place, from place n on
unfoldable pub weighed : ℕ → List ℕ → ℕ
weighed n bytes = sum_by (λ placed. (placed.0 + 1) * placed.1) (enumerate_from n bytes)

pub weighed-none : (n : ℕ) → weighed n [] ≡ 0
unfolding weighed
weighed-none n = refl

weighed-cons : (n byte : ℕ) (bytes : List ℕ) → weighed n (byte ∷ bytes) ≡ (n + 1) * byte + weighed (n + 1) bytes
unfolding weighed
weighed-cons n byte bytes = sum_by-cons (λ (placed : ℕ × ℕ). (placed.0 + 1) * placed.1) (n, byte) (enumerate_from (n + 1) bytes)

weighed-push : (n : ℕ) (bytes : List ℕ) (byte : ℕ) → weighed n (bytes ++ byte ∷ []) ≡ weighed n bytes + (n + length bytes + 1) * byte
weighed-push n [] byte =
    let none : weighed n [] ≡ 0 = weighed-none n in
    let rest : weighed (n + 1) [] ≡ 0 = weighed-none (n + 1) in
    rw (weighed-cons, rest, none, zero-add, add-zero, add-zero) refl
weighed-push n (b ∷ bytes) byte =
    let place : n + 1 + length bytes + 1 ≡ n + length (b ∷ bytes) + 1 = omega arith in
    rw (weighed-cons, weighed-cons, weighed-push (n + 1) bytes byte, place)
    (sym (add_assoc ((n + 1) * b) (weighed (n + 1) bytes) ((n + length (b ∷ bytes) + 1) * byte)))

-- one byte more
pub weighed_more : (bytes : List ℕ) (i : ℕ) → i < length bytes → weighed 0 (take (i + 1) bytes) ≡ weighed 0 (take i bytes) + (i + 1) * get_or bytes i 0
weighed_more bytes i below =
    let front : length (take i bytes) ≡ i = simp length-take (omega arith) in
    let more : take (i + 1) bytes ≡ take i bytes ++ get_or bytes i 0 ∷ [] = take_more bytes i 0 below in
    rw (more, weighed-push, front, zero-add) refl

-- the mark of the first i bytes, and one byte more
pub mark_step : (bytes : List ℕ) (i mark byte : ℕ) → i < length bytes → mark ≡ weighed 0 (take i bytes) % 2 ^ 64 → byte ≡ get_or bytes i 0
    → (mark + (i + 1) * byte) % 2 ^ 64 ≡ weighed 0 (take (i + 1) bytes) % 2 ^ 64
mark_step bytes i mark byte below so_far here =
    let before : ℕ = weighed 0 (take i bytes) in
    let all : weighed 0 (take (i + 1) bytes) ≡ before + (i + 1) * byte = weighed_more bytes i below ∙ ap (λ (b : ℕ). before + (i + 1) * b) (sym here) in
    rw (so_far, all) (mod-add-mod before (2 ^ 64) ((i + 1) * byte))

-- the mark of all bytes
pub mark_done : (bytes items : List ℕ) (i mark : ℕ) → items ≡ bytes → length items ≤ i → mark ≡ weighed 0 (take i items) % 2 ^ 64 → mark ≡ mark_of bytes
unfolding weighed
mark_done bytes items i mark same past so_far =
    let all : take i items ≡ bytes = take_all i items past ∙ same in
    so_far ∙ ap (λ (xs : List ℕ). weighed 0 xs % 2 ^ 64) all
