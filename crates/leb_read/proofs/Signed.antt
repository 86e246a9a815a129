-- Signed spellings.
use Rattle.std.proofs.Common.{◌≡◌, ℕ, ◌+◌, ◌-◌, ◌*◌, ◌^◌, ◌<◌, ◌≤◌, inl, inr, List, [], ◌∷◌, arith, ap, subst, sym, refl, ◌∙◌, FitsSigned, w32, w64, to_z, of_z, ℤ, pos, ◌+ℤ◌, ◌*ℤ◌, ◌≤ℤ◌, ◌<ℤ◌}
use Rattle.std.proofs.Math.Pow.{pow_mono}
use Rattle.std.proofs.lemmas.Nat.{pow-add}
use Rattle.std.proofs.lemmas.Int.{ints}
use Rattle.leb_read.specs.Numbers.{SpellsSigned, MayEndS32, MayEndS64}
use Rattle.leb_read.specs.Reading.{IsRead, MayEndSigned}
use Rattle.leb_read.proofs.Shapes.{Shape, Spelled}

-- a byte that ends a number of 7 bits ends one of more bits
pub wider : (N b : ℕ) (v : ℤ) → 7 ≤ N → SpellsSigned 7 (b ∷ []) v → SpellsSigned N (b ∷ []) v
wider N b v more h =
    let room : 2 ^ 6 ≤ 2 ^ (N - 1) = pow_mono {i = 6} {j = N - 1} (omega arith) in
    elim h [ inl p ↦ inl (p.0, omega (arith, room, p.1), p.2) | inr p ↦ inr (p.0, p.1, omega (arith, room, p.2), p.3) ]

-- a byte that continues, before a spelling of the bits above it
pub longer : (N M b : ℕ) (v w : ℤ) (s : List ℕ) → N ≡ M + 7 → 0 < M → 2 ^ 7 ≤ b → b < 2 ^ 8 → w ≡ pos (2 ^ 7) *ℤ v +ℤ pos (b - 2 ^ 7) → SpellsSigned M s v → SpellsSigned N (b ∷ s) w
longer N M b v w [] bits some more byte same high = absurd high
longer N M b v w (c ∷ s) bits some more byte same high =
    (more, byte, omega arith, v, subst (λ k. SpellsSigned k (c ∷ s) v) (omega arith) high, same)

pub read_longer : (N M b : ℕ) (v w : ℤ) (bytes inner rest : List ℕ) → bytes ≡ b ∷ inner → N ≡ M + 7 → 0 < M → 2 ^ 7 ≤ b → b < 2 ^ 8 → w ≡ pos (2 ^ 7) *ℤ v +ℤ pos (b - 2 ^ 7) → IsRead (λ s. SpellsSigned M s v) inner rest → IsRead (λ s. SpellsSigned N s w) bytes rest
read_longer N M b v w bytes inner rest here bits some more byte same h =
    (b ∷ h.0, longer N M b v w h.0 bits some more byte same h.1, here ∙ ap (λ l. b ∷ l) h.2)

-- the numbers of N bits
pub record Fits (N : ℕ) (v : ℤ) : Type 0 where
  pub low : pos 0 ≤ℤ (v +ℤ pos (2 ^ (N - 1)))
  pub high : v <ℤ pos (2 ^ (N - 1))

pub fits : (N : ℕ) (v : ℤ) (s : List ℕ) → 0 < N → SpellsSigned N s v → Fits N v
fits N v [] some h = absurd h
fits N v (b ∷ []) some h =
    elim h [
      | inl p ↦ record { low = omega (arith, ints, p.1, p.2); high = omega (arith, ints, p.1, p.2) }
      | inr p ↦ record { low = omega (arith, ints, p.1, p.2, p.3); high = omega (arith, ints, p.1, p.2, p.3) }
    ]
fits N v (b ∷ c ∷ s) some h =
    let inner : Fits (N - 7) h.3 = fits (N - 7) h.3 (c ∷ s) (omega (arith, h.2)) h.4 in
    let split : 2 ^ ((N - 8) + 7) ≡ 2 ^ (N - 8) * 2 ^ 7 = pow-add 2 (N - 8) 7 in
    let same : 2 ^ ((N - 8) + 7) ≡ 2 ^ (N - 1) = ap (λ k. 2 ^ k) (omega (arith, h.2)) in
    let less : 2 ^ ((N - 7) - 1) ≡ 2 ^ (N - 8) = ap (λ k. 2 ^ k) (omega (arith, h.2)) in
    record {
      low = omega (arith, ints, inner.low, inner.high, split, same, less, h.0, h.1, h.5);
      high = omega (arith, ints, inner.low, inner.high, split, same, less, h.0, h.1, h.5);
    }

-- a number of at most 64 bits stays what it is in a 64-bit register
pub same64 : (N : ℕ) (v : ℤ) (s : List ℕ) → 0 < N → N ≤ 64 → SpellsSigned N s v → to_z w64 (of_z w64 v) ≡ v
same64 N v s some at_most h =
    let f : Fits N v = fits N v s some h in
    let small : 2 ^ (N - 1) ≤ 2 ^ 63 = pow_mono {i = N - 1} {j = 63} (omega arith) in
    omega (arith, ints, f.low, f.high, small)

-- a byte that ends a number of N bits
pub last_byte : (N M b : ℕ) (v w : ℤ) (bytes rest : List ℕ) → bytes ≡ b ∷ rest → N ≡ M → w ≡ v → SpellsSigned M (b ∷ []) v → IsRead (λ s. SpellsSigned N s w) bytes rest
last_byte N M b v w bytes rest here bits same h =
    (b ∷ [], subst (λ (k : ℤ). SpellsSigned N (b ∷ []) k) (sym same) (subst (λ (k : ℕ). SpellsSigned k (b ∷ []) v) (sym bits) h), here)

-- the bits above a byte that continues are at most 57
pub record Above (v : ℤ) : Type 0 where
  pub low : pos 0 ≤ℤ (v +ℤ pos (2 ^ 56))
  pub high : v <ℤ pos (2 ^ 56)

pub above : (more last_bits : ℕ) (v : ℤ) (s : List ℕ) → (more ≡ 0 → ⊥) → 1 ≤ last_bits → 7 * more + last_bits ≤ 64 → SpellsSigned (7 * (more - 1) + last_bits) s v → Above v
above more last_bits v s some one at_most h =
    let f : Fits (7 * (more - 1) + last_bits) v = fits (7 * (more - 1) + last_bits) v s (omega arith) h in
    let small : 2 ^ ((7 * (more - 1) + last_bits) - 1) ≤ 2 ^ 56 = pow_mono {i = (7 * (more - 1) + last_bits) - 1} {j = 56} (omega arith) in
    record { low = omega (arith, ints, f.low, small); high = omega (arith, ints, f.high, small) }

-- the shape of a spelling
pub shape : (N more bits : ℕ) (v : ℤ) (s : List ℕ) → N ≡ 7 * more + bits → 1 ≤ bits → bits ≤ 7 → SpellsSigned N s v → Shape more (MayEndSigned bits) s
shape N more bits v [] sum some small h = absurd h
shape N more bits v (b ∷ []) sum some small h =
    elim h [
      | inl p ↦ (omega (arith, p.0), λ none. let same : 2 ^ (N - 1) ≡ 2 ^ (bits - 1) = ap (λ k. 2 ^ k) (omega arith) in inl (omega (arith, p.1)))
      | inr p ↦ (omega (arith, p.1), λ none. let same : 2 ^ (N - 1) ≡ 2 ^ (bits - 1) = ap (λ k. 2 ^ k) (omega arith) in inr (omega (arith, p.2), omega (arith, p.1)))
    ]
shape N more bits v (b ∷ c ∷ s) sum some small h =
    let above : 0 < more = omega (arith, h.2) in
    (h.0, above, shape (N - 7) (more - 1) bits h.3 (c ∷ s) (omega arith) some small h.4)

-- a spelling has one value
pub one_value : (N : ℕ) (v w : ℤ) (s : List ℕ) → SpellsSigned N s v → SpellsSigned N s w → v ≡ w
one_value N v w [] h k = absurd h
one_value N v w (b ∷ []) h k =
    elim h [
      | inl p ↦ elim k [ inl q ↦ p.2 ∙ sym q.2 | inr q ↦ absurd (omega (arith, p.0, q.0)) ]
      | inr p ↦ elim k [ inl q ↦ absurd (omega (arith, p.0, q.0)) | inr q ↦ p.3 ∙ sym q.3 ]
    ]
one_value N v w (b ∷ c ∷ s) h k =
    let high : h.3 ≡ k.3 = one_value (N - 7) h.3 k.3 (c ∷ s) h.4 k.4 in
    h.5 ∙ ap (λ m. pos (2 ^ 7) *ℤ m +ℤ pos (b - 2 ^ 7)) high ∙ sym k.5

-- the spellings of an s32
pub s32_spelled : Spelled (SpellsSigned 32) 4 MayEndS32
s32_spelled = record { shaped = λ s v h. shape 32 4 4 v s refl (omega arith) (omega arith) h; one = λ s v w. one_value 32 v w s }

-- the spellings of an s64
pub s64_spelled : Spelled (SpellsSigned 64) 9 MayEndS64
s64_spelled = record { shaped = λ s v h. shape 64 9 1 v s refl (omega arith) (omega arith) h; one = λ s v w. one_value 64 v w s }

-- the numbers of 32 bits in a 64-bit register
pub fits32 : (v : ℤ) (s : List ℕ) → SpellsSigned 32 s v → FitsSigned w32 (to_z w64 (of_z w64 v))
fits32 v s h =
    let f : Fits 32 v = fits 32 v s (omega arith) h in
    omega (arith, ints, f.low, f.high)

pub same32 : (v : ℤ) (s : List ℕ) → SpellsSigned 32 s v → to_z w32 (of_z w32 (to_z w64 (of_z w64 v))) ≡ v
same32 v s h =
    let f : Fits 32 v = fits 32 v s (omega arith) h in
    omega (arith, ints, f.low, f.high)

-- how a spelling of any width ends
pub ended : (N more : ℕ) (v : ℤ) (s : List ℕ) → N ≤ more → SpellsSigned N s v → Shape more (λ _. Unit {0}) s
ended N more v [] room h = absurd h
ended N more v (b ∷ []) room h =
    elim h [ inl p ↦ (omega (arith, p.0), λ _. tt) | inr p ↦ (omega (arith, p.1), λ _. tt) ]
ended N more v (b ∷ c ∷ s) room h =
    (h.0, omega (arith, h.2), ended (N - 7) (more - 1) h.3 (c ∷ s) (omega (arith, h.2)) h.4)
