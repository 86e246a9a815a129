-- Bytes written one after another.
use Rattle.std.proofs.Common.{◌≡◌, ℕ, ◌+◌, ◌<◌, ◌≤◌, List, [], ◌∷◌, ◌++◌, length, take, drop, set, add-zero, sym, ◌∙◌, ap, arith, append_assoc, length-set}
use Rattle.std.proofs.lemmas.List.{take_more_set, take-append-drop, drop-set-lt}
use Rattle.linear_memory.specs.Bytes.{written}

-- no byte
written-none : (bytes : List ℕ) (at : ℕ) → written bytes at [] ≡ bytes
written-none bytes at = rw add-zero (take-append-drop at bytes)

-- the first byte, and then the others
written-cons : (bytes : List ℕ) (at byte : ℕ) (higher : List ℕ) → at < length bytes → written bytes at (byte ∷ higher) ≡ written (set bytes at byte) (at + 1) higher
written-cons bytes at byte higher inside =
    let front : take (at + 1) (set bytes at byte) ≡ take at bytes ++ byte ∷ [] = take_more_set bytes at byte inside in
    let place : at + 1 + length higher ≡ at + length (byte ∷ higher) = omega arith in
    let after : drop (at + length (byte ∷ higher)) (set bytes at byte) ≡ drop (at + length (byte ∷ higher)) bytes =
    drop-set-lt (at + length (byte ∷ higher)) bytes at byte (omega arith) in
    rw (front, place, after) (sym (append_assoc (take at bytes) (byte ∷ []) (higher ++ drop (at + length (byte ∷ higher)) bytes)))

-- the last byte
written-one : (bytes : List ℕ) (at byte : ℕ) → at < length bytes → written bytes at (byte ∷ []) ≡ set bytes at byte
written-one bytes at byte inside = written-cons bytes at byte [] inside ∙ written-none (set bytes at byte) (at + 1)

-- a byte was written before the others
before : (bytes : List ℕ) (at next byte : ℕ) (higher : List ℕ) → next ≡ at + 1 → at < length bytes
    → written (set bytes at byte) next higher ≡ written bytes at (byte ∷ higher)
before bytes at next byte higher is inside =
    ap (λ (p : ℕ). written (set bytes at byte) p higher) is ∙ sym (written-cons bytes at byte higher inside)

-- one byte
pub one_byte : (bytes : List ℕ) (at a : ℕ) → at + 1 ≤ length bytes
    → set bytes at a ≡ written bytes at (a ∷ [])
one_byte bytes at a inside =
    sym (written-one bytes at a (omega arith))

-- two bytes
pub two_bytes : (bytes : List ℕ) (at a b : ℕ) → at + 2 ≤ length bytes
    → set (set bytes at a) (at + 1) b ≡ written bytes at (a ∷ b ∷ [])
two_bytes bytes at a b inside =
    let s1 : List ℕ = set bytes at a in
    let kept1 : length s1 ≡ length bytes = length-set bytes at a in
    sym (written-one s1 (at + 1) b (omega arith))
    ∙ (before bytes at (at + 1) a (b ∷ []) (omega arith) (omega arith))

-- four bytes
pub four_bytes : (bytes : List ℕ) (at a b c d : ℕ) → at + 4 ≤ length bytes
    → set (set (set (set bytes at a) (at + 1) b) (at + 2) c) (at + 3) d ≡ written bytes at (a ∷ b ∷ c ∷ d ∷ [])
four_bytes bytes at a b c d inside =
    let s1 : List ℕ = set bytes at a in
    let kept1 : length s1 ≡ length bytes = length-set bytes at a in
    let s2 : List ℕ = set s1 (at + 1) b in
    let kept2 : length s2 ≡ length bytes = length-set s1 (at + 1) b ∙ kept1 in
    let s3 : List ℕ = set s2 (at + 2) c in
    let kept3 : length s3 ≡ length bytes = length-set s2 (at + 2) c ∙ kept2 in
    sym (written-one s3 (at + 3) d (omega arith))
    ∙ (before s2 (at + 2) (at + 3) c (d ∷ []) (omega arith) (omega arith)
    ∙ (before s1 (at + 1) (at + 2) b (c ∷ d ∷ []) (omega arith) (omega arith)
    ∙ (before bytes at (at + 1) a (b ∷ c ∷ d ∷ []) (omega arith) (omega arith))))

-- eight bytes
pub eight_bytes : (bytes : List ℕ) (at a b c d e f g h : ℕ) → at + 8 ≤ length bytes
    → set (set (set (set (set (set (set (set bytes at a) (at + 1) b) (at + 2) c) (at + 3) d) (at + 4) e) (at + 5) f) (at + 6) g) (at + 7) h ≡ written bytes at (a ∷ b ∷ c ∷ d ∷ e ∷ f ∷ g ∷ h ∷ [])
eight_bytes bytes at a b c d e f g h inside =
    let s1 : List ℕ = set bytes at a in
    let kept1 : length s1 ≡ length bytes = length-set bytes at a in
    let s2 : List ℕ = set s1 (at + 1) b in
    let kept2 : length s2 ≡ length bytes = length-set s1 (at + 1) b ∙ kept1 in
    let s3 : List ℕ = set s2 (at + 2) c in
    let kept3 : length s3 ≡ length bytes = length-set s2 (at + 2) c ∙ kept2 in
    let s4 : List ℕ = set s3 (at + 3) d in
    let kept4 : length s4 ≡ length bytes = length-set s3 (at + 3) d ∙ kept3 in
    let s5 : List ℕ = set s4 (at + 4) e in
    let kept5 : length s5 ≡ length bytes = length-set s4 (at + 4) e ∙ kept4 in
    let s6 : List ℕ = set s5 (at + 5) f in
    let kept6 : length s6 ≡ length bytes = length-set s5 (at + 5) f ∙ kept5 in
    let s7 : List ℕ = set s6 (at + 6) g in
    let kept7 : length s7 ≡ length bytes = length-set s6 (at + 6) g ∙ kept6 in
    sym (written-one s7 (at + 7) h (omega arith))
    ∙ (before s6 (at + 6) (at + 7) g (h ∷ []) (omega arith) (omega arith)
    ∙ (before s5 (at + 5) (at + 6) f (g ∷ h ∷ []) (omega arith) (omega arith)
    ∙ (before s4 (at + 4) (at + 5) e (f ∷ g ∷ h ∷ []) (omega arith) (omega arith)
    ∙ (before s3 (at + 3) (at + 4) d (e ∷ f ∷ g ∷ h ∷ []) (omega arith) (omega arith)
    ∙ (before s2 (at + 2) (at + 3) c (d ∷ e ∷ f ∷ g ∷ h ∷ []) (omega arith) (omega arith)
    ∙ (before s1 (at + 1) (at + 2) b (c ∷ d ∷ e ∷ f ∷ g ∷ h ∷ []) (omega arith) (omega arith)
    ∙ (before bytes at (at + 1) a (b ∷ c ∷ d ∷ e ∷ f ∷ g ∷ h ∷ []) (omega arith) (omega arith))))))))
