-- How many bytes spell a number, at least.
use Rattle.std.proofs.Common.{◌≡◌, ℕ, zero, suc, ◌+◌, ◌-◌, ◌*◌, ◌/◌, ◌%◌, ◌^◌, ◌<◌, ◌≤◌, ◌⊎◌, inl, inr, List, [], ◌∷◌, length, All, Bool, true, false, cond, nat_lt, arith, refl, ap, subst, sym, ◌∙◌}
use Rattle.std.specs.Prelude.{ℤ, pos, negsuc, ◌+ℤ◌, ◌*ℤ◌, ◌-ℤ◌, ◌≤ℤ◌, ◌<ℤ◌}
use Rattle.std.specs.Int.{cast_unsigned, w32, w64}
use Rattle.std.proofs.lemmas.Nat.{pow-add}
use Rattle.std.proofs.lemmas.Int.{ints}
use Rattle.std.proofs.lemmas.Bool.Decides.{nat_tests}
use Rattle.leb_read.specs.Numbers.{SpellsUnsigned, SpellsSigned}
use Rattle.leb_read.proofs.Unsigned.{longer as longer_unsigned}
use Rattle.leb_read.proofs.Signed.{longer as longer_signed, Fits, fits}
use Rattle.wasm_form.specs.Values.{SpellsU32}
use Rattle.wasm_form.specs.Least.{least_unsigned, least_signed, magnitude, least_s32, least_s64}
use Rattle.wasm_form.proofs.Octets.{octets_by, octets_cons}

-- bytes, so many, that spell a value
pub record Spelling {A : Type 0} (S : List ℕ → A → Type 0) (x : A) (n : ℕ) : Type 0 where
  pub bytes : List ℕ
  pub octets : All (λ b. b < 2 ^ 8) bytes
  pub spells : S bytes x
  pub long : length bytes ≡ n

-- what a test of a number chooses
pub choice : {A : Type 0} (n limit : ℕ) (x y r : A) → cond (nat_lt n limit) x y ≡ r → ((n < limit) × (x ≡ r)) ⊎ ((limit ≤ n) × (y ≡ r))
choice {A} n limit x y r e =
    let Chosen : Bool → Type 0 = λ b. nat_lt n limit ≡ b → cond b x y ≡ r → ((n < limit) × (x ≡ r)) ⊎ ((limit ≤ n) × (y ≡ r)) in
    let cases : Chosen (nat_lt n limit) = elim (nat_lt n limit) as Chosen [
      | true ↦ λ is k. let low : n < limit = grind (arith, nat_tests) in inl (low, k)
      | false ↦ λ is k. let high : limit ≤ n = grind (arith, nat_tests) in inr (high, k)
    ] in
    cases refl e

-- a number is below a limit, or not
by_order : (n limit : ℕ) → (n < limit) ⊎ (limit ≤ n)
by_order n limit =
    elim (choice n limit true false (nat_lt n limit) (choose (nat_lt n limit))) [ inl p ↦ inl p.0 | inr p ↦ inr p.0 ]
  where
    choose : (b : Bool) → cond b true false ≡ b
    choose true = refl
    choose false = refl

-- unsigned numbers: seven bits to a byte
below : (N n : ℕ) (s : List ℕ) → SpellsUnsigned N s n → n < 2 ^ (7 * length s)
below N n [] h = absurd h
below N n (b ∷ []) h = omega (arith, h.0, h.2)
below N n (b ∷ c ∷ s) h =
    let high : h.3 < 2 ^ (7 * length (c ∷ s)) = below (N - 7) h.3 (c ∷ s) h.4 in
    let split : 2 ^ (7 * length (c ∷ s) + 7) ≡ 2 ^ (7 * length (c ∷ s)) * 2 ^ 7 = pow-add 2 (7 * length (c ∷ s)) 7 in
    let same : 2 ^ (7 * length (c ∷ s) + 7) ≡ 2 ^ (7 * length (b ∷ c ∷ s)) = ap (λ k. 2 ^ k) (omega arith) in
    omega (arith, high, split, same, h.0, h.1, h.5)

few_unsigned : (k n : ℕ) → n < 2 ^ (7 * suc k) → least_unsigned n ≤ suc k
unfolding least_unsigned
few_unsigned zero n h = grind (arith, nat_tests)
few_unsigned (suc zero) n h = grind (arith, nat_tests)
few_unsigned (suc (suc zero)) n h = grind (arith, nat_tests)
few_unsigned (suc (suc (suc zero))) n h = grind (arith, nat_tests)
few_unsigned (suc (suc (suc (suc k)))) n h = grind (arith, nat_tests)

pub least_rises : (m n : ℕ) → m ≤ n → least_unsigned m ≤ least_unsigned n
unfolding least_unsigned
least_rises m n h = grind (arith, nat_tests)

pub at_least_unsigned : (n : ℕ) (s : List ℕ) → SpellsU32 s n → least_unsigned n ≤ length s
at_least_unsigned n [] h = absurd h
at_least_unsigned n (b ∷ s) h = few_unsigned (length s) n (below 32 n (b ∷ s) h)

pub at_least_below : (m n : ℕ) (s : List ℕ) → SpellsU32 s n → m ≤ n → least_unsigned m ≤ length s
at_least_below m n [] h less = absurd h
at_least_below m n (b ∷ s) h less = few_unsigned (length s) m (omega (arith, below 32 n (b ∷ s) h))

-- a number that so many bytes can hold is spelled by so many
spell_unsigned : (k N n : ℕ) → n < 2 ^ (7 * k + 7) → n < 2 ^ N → 7 * k < N → Spelling (SpellsUnsigned N) n (suc k)
spell_unsigned zero N n low fits room =
    record { bytes = n ∷ []; octets = octets_cons n [] (omega arith) (octets_by [] refl); spells = (low, fits, refl); long = refl }
spell_unsigned (suc k) N n low fits room =
    let split : 2 ^ ((7 * k + 7) + 7) ≡ 2 ^ (7 * k + 7) * 2 ^ 7 = pow-add 2 (7 * k + 7) 7 in
    let same : 2 ^ ((7 * k + 7) + 7) ≡ 2 ^ (7 * suc k + 7) = ap (λ j. 2 ^ j) (omega arith) in
    let wide : 2 ^ ((N - 7) + 7) ≡ 2 ^ (N - 7) * 2 ^ 7 = pow-add 2 (N - 7) 7 in
    let whole : 2 ^ ((N - 7) + 7) ≡ 2 ^ N = ap (λ j. 2 ^ j) (omega arith) in
    let rest : Spelling (SpellsUnsigned (N - 7)) (n / 2 ^ 7) (suc k) =
    spell_unsigned k (N - 7) (n / 2 ^ 7) (omega (arith, split, same)) (omega (arith, wide, whole)) (omega arith) in
    let value : 2 ^ 7 * (n / 2 ^ 7) + n % 2 ^ 7 ≡ n = omega arith in
    record {
      bytes = (2 ^ 7 + n % 2 ^ 7) ∷ rest.bytes;
      octets = octets_cons (2 ^ 7 + n % 2 ^ 7) rest.bytes (omega arith) rest.octets;
      spells = subst (λ (v : ℕ). SpellsUnsigned N ((2 ^ 7 + n % 2 ^ 7) ∷ rest.bytes) v) value
          (longer_unsigned N (N - 7) (2 ^ 7 + n % 2 ^ 7) (n % 2 ^ 7) (n / 2 ^ 7) rest.bytes (omega arith) (omega arith) (omega arith) (omega arith) (omega arith) rest.spells);
      long = omega (arith, rest.long);
    }

pub shortest_unsigned : (n : ℕ) → n < 2 ^ 32 → Spelling SpellsU32 n (least_unsigned n)
unfolding least_unsigned
shortest_unsigned n fits =
    let by : (k : ℕ) → n < 2 ^ (7 * k + 7) → 7 * k < 32 → suc k ≡ least_unsigned n → Spelling SpellsU32 n (least_unsigned n) =
    λ k low room e. subst (λ (m : ℕ). Spelling SpellsU32 n m) e (spell_unsigned k 32 n low fits room) in
    elim (choice n (2 ^ 7) 1 (cond (nat_lt n (2 ^ 14)) 2 (cond (nat_lt n (2 ^ 21)) 3 (cond (nat_lt n (2 ^ 28)) 4 5))) (least_unsigned n) refl) [
      | inl p ↦ by 0 p.0 (omega arith) p.1
      | inr p ↦ elim (choice n (2 ^ 14) 2 (cond (nat_lt n (2 ^ 21)) 3 (cond (nat_lt n (2 ^ 28)) 4 5)) (least_unsigned n) p.1) [
        | inl q ↦ by 1 q.0 (omega arith) q.1
        | inr q ↦ elim (choice n (2 ^ 21) 3 (cond (nat_lt n (2 ^ 28)) 4 5) (least_unsigned n) q.1) [
          | inl r ↦ by 2 r.0 (omega arith) r.1
          | inr r ↦ elim (choice n (2 ^ 28) 4 5 (least_unsigned n) r.1) [
            | inl s ↦ by 3 s.0 (omega arith) s.1
            | inr s ↦ by 4 (omega arith) (omega arith) s.1
          ]
        ]
      ]
    ]

-- signed numbers: seven bits to a byte, the sign among them
record Near (bytes : ℕ) (v : ℤ) : Type 0 where
  low : pos 0 ≤ℤ (v +ℤ pos (2 ^ (7 * bytes - 1)))
  high : v <ℤ pos (2 ^ (7 * bytes - 1))

near : (N : ℕ) (v : ℤ) (s : List ℕ) → SpellsSigned N s v → Near (length s) v
near N v [] h = absurd h
near N v (b ∷ []) h =
    elim h [
      | inl p ↦ record { low = omega (arith, ints, p.0, p.2); high = omega (arith, ints, p.0, p.2) }
      | inr p ↦ record { low = omega (arith, ints, p.0, p.1, p.3); high = omega (arith, ints, p.0, p.1, p.3) }
    ]
near N v (b ∷ c ∷ s) h =
    let inner : Near (length (c ∷ s)) h.3 = near (N - 7) h.3 (c ∷ s) h.4 in
    let split : 2 ^ ((7 * length (c ∷ s) - 1) + 7) ≡ 2 ^ (7 * length (c ∷ s) - 1) * 2 ^ 7 = pow-add 2 (7 * length (c ∷ s) - 1) 7 in
    let same : 2 ^ ((7 * length (c ∷ s) - 1) + 7) ≡ 2 ^ (7 * length (b ∷ c ∷ s) - 1) = ap (λ k. 2 ^ k) (omega arith) in
    record {
      low = omega (arith, ints, inner.low, inner.high, split, same, h.0, h.1, h.5);
      high = omega (arith, ints, inner.low, inner.high, split, same, h.0, h.1, h.5);
    }

near_pos : (bytes n : ℕ) → Near bytes (pos n) → n < 2 ^ (7 * bytes - 1)
near_pos bytes n h = omega (arith, ints, h.high)

near_neg : (bytes n : ℕ) → Near bytes (negsuc n) → n < 2 ^ (7 * bytes - 1)
near_neg bytes n h = omega (arith, ints, h.low)

few_signed : (k n : ℕ) → n < 2 ^ (7 * k + 6) → least_signed n ≤ suc k
unfolding least_signed
few_signed zero n h = grind (arith, nat_tests)
few_signed (suc zero) n h = grind (arith, nat_tests)
few_signed (suc (suc zero)) n h = grind (arith, nat_tests)
few_signed (suc (suc (suc zero))) n h = grind (arith, nat_tests)
few_signed (suc (suc (suc (suc zero)))) n h = grind (arith, nat_tests)
few_signed (suc (suc (suc (suc (suc zero))))) n h = grind (arith, nat_tests)
few_signed (suc (suc (suc (suc (suc (suc zero)))))) n h = grind (arith, nat_tests)
few_signed (suc (suc (suc (suc (suc (suc (suc zero))))))) n h = grind (arith, nat_tests)
few_signed (suc (suc (suc (suc (suc (suc (suc (suc zero)))))))) n h = grind (arith, nat_tests)
few_signed (suc (suc (suc (suc (suc (suc (suc (suc (suc k))))))))) n h = grind (arith, nat_tests)

-- the bits of a signed number
abbrev Held : (half : ℕ) → ℤ → (bits : ℕ) → Type 0
Held half (pos n) bits = (bits ≡ n) × (n < half)
Held half (negsuc n) bits = (bits + suc n ≡ 2 * half) × (n < half)

magnitude_low : (half bits : ℕ) → bits < half → magnitude half bits ≡ bits
magnitude_low half bits h = let low : nat_lt bits half ≡ true = grind (arith, nat_tests) in rw low refl

magnitude_high : (half bits : ℕ) → half ≤ bits → magnitude half bits ≡ 2 * half - 1 - bits
magnitude_high half bits h = let high : nat_lt bits half ≡ false = grind (arith, nat_tests) in rw high refl

magnitude_pos : (half n bits : ℕ) → Held half (pos n) bits → magnitude half bits ≡ n
magnitude_pos half n bits h = magnitude_low half bits (omega (arith, h.0, h.1)) ∙ h.0

magnitude_neg : (half n bits : ℕ) → Held half (negsuc n) bits → magnitude half bits ≡ n
magnitude_neg half n bits h = magnitude_high half bits (omega (arith, h.0, h.1)) ∙ omega (arith, h.0, h.1)

few_bytes : (bytes n : ℕ) → 0 < bytes → n < 2 ^ (7 * bytes - 1) → least_signed n ≤ bytes
few_bytes bytes n some h =
    let one : suc (bytes - 1) ≡ bytes = omega arith in
    let same : 2 ^ (7 * (bytes - 1) + 6) ≡ 2 ^ (7 * bytes - 1) = ap (λ k. 2 ^ k) (omega arith) in
    subst (λ (k : ℕ). least_signed n ≤ k) one (few_signed (bytes - 1) n (omega (arith, same)))

some_bytes : (N : ℕ) (v : ℤ) (s : List ℕ) → SpellsSigned N s v → 0 < length s
some_bytes N v [] h = absurd h
some_bytes N v (b ∷ s) h = omega arith

at_least_signed : (N half bits : ℕ) (v : ℤ) (s : List ℕ) → SpellsSigned N s v → Held half v bits → least_signed (magnitude half bits) ≤ length s
at_least_signed N half bits (pos n) s h k =
    let few : least_signed n ≤ length s = few_bytes (length s) n (some_bytes N (pos n) s h) (near_pos (length s) n (near N (pos n) s h)) in
    subst (λ (m : ℕ). least_signed m ≤ length s) (sym (magnitude_pos half n bits k)) few
at_least_signed N half bits (negsuc n) s h k =
    let few : least_signed n ≤ length s = few_bytes (length s) n (some_bytes N (negsuc n) s h) (near_neg (length s) n (near N (negsuc n) s h)) in
    subst (λ (m : ℕ). least_signed m ≤ length s) (sym (magnitude_neg half n bits k)) few

held32 : (v : ℤ) → Fits 32 v → Held (2 ^ 31) v (cast_unsigned w32 v)
held32 (pos n) h = (refl, omega (arith, ints, h.high))
held32 (negsuc n) h = let low : n < 2 ^ 31 = omega (arith, ints, h.low) in (omega arith, low)

held64 : (v : ℤ) → Fits 64 v → Held (2 ^ 63) v (cast_unsigned w64 v)
held64 (pos n) h = (refl, omega (arith, ints, h.high))
held64 (negsuc n) h = let low : n < 2 ^ 63 = omega (arith, ints, h.low) in (omega arith, low)

pub at_least_s32 : (bits : ℕ) (v : ℤ) (s : List ℕ) → SpellsSigned 32 s v → bits ≡ cast_unsigned w32 v → least_s32 bits ≤ length s
at_least_s32 bits v s h e =
    at_least_signed 32 (2 ^ 31) bits v s h (subst (λ (k : ℕ). Held (2 ^ 31) v k) (sym e) (held32 v (fits 32 v s (omega arith) h)))

pub at_least_s64 : (bits : ℕ) (v : ℤ) (s : List ℕ) → SpellsSigned 64 s v → bits ≡ cast_unsigned w64 v → least_s64 bits ≤ length s
at_least_s64 bits v s h e =
    at_least_signed 64 (2 ^ 63) bits v s h (subst (λ (k : ℕ). Held (2 ^ 63) v k) (sym e) (held64 v (fits 64 v s (omega arith) h)))

spell_pos : (k N n : ℕ) → n < 2 ^ (7 * k + 6) → n < 2 ^ (N - 1) → 7 * k < N → Spelling (SpellsSigned N) (pos n) (suc k)
spell_pos zero N n low fits room =
    record { bytes = n ∷ []; octets = octets_cons n [] (omega arith) (octets_by [] refl); spells = inl (low, fits, refl); long = refl }
spell_pos (suc k) N n low fits room =
    let split : 2 ^ ((7 * k + 6) + 7) ≡ 2 ^ (7 * k + 6) * 2 ^ 7 = pow-add 2 (7 * k + 6) 7 in
    let same : 2 ^ ((7 * k + 6) + 7) ≡ 2 ^ (7 * suc k + 6) = ap (λ j. 2 ^ j) (omega arith) in
    let wide : 2 ^ ((N - 7 - 1) + 7) ≡ 2 ^ (N - 7 - 1) * 2 ^ 7 = pow-add 2 (N - 7 - 1) 7 in
    let whole : 2 ^ ((N - 7 - 1) + 7) ≡ 2 ^ (N - 1) = ap (λ j. 2 ^ j) (omega arith) in
    let rest : Spelling (SpellsSigned (N - 7)) (pos (n / 2 ^ 7)) (suc k) =
    spell_pos k (N - 7) (n / 2 ^ 7) (omega (arith, split, same)) (omega (arith, wide, whole)) (omega arith) in
    let byte : ℕ = 2 ^ 7 + n % 2 ^ 7 in
    let value : pos n ≡ pos (2 ^ 7) *ℤ pos (n / 2 ^ 7) +ℤ pos (byte - 2 ^ 7) = omega (arith, ints) in
    record {
      bytes = byte ∷ rest.bytes;
      octets = octets_cons byte rest.bytes (omega arith) rest.octets;
      spells = longer_signed N (N - 7) byte (pos (n / 2 ^ 7)) (pos n) rest.bytes (omega arith) (omega arith) (omega arith) (omega arith) value rest.spells;
      long = omega (arith, rest.long);
    }

spell_neg : (k N n : ℕ) → n < 2 ^ (7 * k + 6) → n < 2 ^ (N - 1) → 7 * k < N → Spelling (SpellsSigned N) (negsuc n) (suc k)
spell_neg zero N n low fits room =
    let value : negsuc n ≡ pos (2 ^ 7 - 1 - n) -ℤ pos (2 ^ 7) = omega (arith, ints) in
    record {
      bytes = (2 ^ 7 - 1 - n) ∷ [];
      octets = octets_cons (2 ^ 7 - 1 - n) [] (omega arith) (octets_by [] refl);
      spells = inr (omega arith, omega arith, omega arith, value);
      long = refl;
    }
spell_neg (suc k) N n low fits room =
    let split : 2 ^ ((7 * k + 6) + 7) ≡ 2 ^ (7 * k + 6) * 2 ^ 7 = pow-add 2 (7 * k + 6) 7 in
    let same : 2 ^ ((7 * k + 6) + 7) ≡ 2 ^ (7 * suc k + 6) = ap (λ j. 2 ^ j) (omega arith) in
    let wide : 2 ^ ((N - 7 - 1) + 7) ≡ 2 ^ (N - 7 - 1) * 2 ^ 7 = pow-add 2 (N - 7 - 1) 7 in
    let whole : 2 ^ ((N - 7 - 1) + 7) ≡ 2 ^ (N - 1) = ap (λ j. 2 ^ j) (omega arith) in
    let rest : Spelling (SpellsSigned (N - 7)) (negsuc (n / 2 ^ 7)) (suc k) =
    spell_neg k (N - 7) (n / 2 ^ 7) (omega (arith, split, same)) (omega (arith, wide, whole)) (omega arith) in
    let byte : ℕ = 2 ^ 8 - 1 - n % 2 ^ 7 in
    let value : negsuc n ≡ pos (2 ^ 7) *ℤ negsuc (n / 2 ^ 7) +ℤ pos (byte - 2 ^ 7) = omega (arith, ints) in
    record {
      bytes = byte ∷ rest.bytes;
      octets = octets_cons byte rest.bytes (omega arith) rest.octets;
      spells = longer_signed N (N - 7) byte (negsuc (n / 2 ^ 7)) (negsuc n) rest.bytes (omega arith) (omega arith) (omega arith) (omega arith) value rest.spells;
      long = omega (arith, rest.long);
    }

-- what is spelled by as many bytes as a number may have is spelled by as few as it can
by_least : (S : ℕ → Type 0) (n : ℕ) → ((k : ℕ) → n < 2 ^ (7 * k + 6) → k ≤ 9 → (n < 2 ^ 31 → k ≤ 4) → S (suc k)) → n < 2 ^ 63 → S (least_signed n)
unfolding least_signed
by_least S n spell fits =
    let by : (k : ℕ) → n < 2 ^ (7 * k + 6) → k ≤ 9 → (n < 2 ^ 31 → k ≤ 4) → suc k ≡ least_signed n → S (least_signed n) =
    λ k low room less e. subst S e (spell k low room less) in
    elim (choice n (2 ^ 6) 1 (cond (nat_lt n (2 ^ 13)) 2 (cond (nat_lt n (2 ^ 20)) 3 (cond (nat_lt n (2 ^ 27)) 4 (cond (nat_lt n (2 ^ 34)) 5 (cond (nat_lt n (2 ^ 41)) 6 (cond (nat_lt n (2 ^ 48)) 7 (cond (nat_lt n (2 ^ 55)) 8 (cond (nat_lt n (2 ^ 62)) 9 10)))))))) (least_signed n) refl) [
      | inl p ↦ by 0 p.0 (omega arith) (λ low. omega arith) p.1
      | inr p ↦ elim (choice n (2 ^ 13) 2 (cond (nat_lt n (2 ^ 20)) 3 (cond (nat_lt n (2 ^ 27)) 4 (cond (nat_lt n (2 ^ 34)) 5 (cond (nat_lt n (2 ^ 41)) 6 (cond (nat_lt n (2 ^ 48)) 7 (cond (nat_lt n (2 ^ 55)) 8 (cond (nat_lt n (2 ^ 62)) 9 10))))))) (least_signed n) p.1) [
        | inl q ↦ by 1 q.0 (omega arith) (λ low. omega arith) q.1
        | inr q ↦ elim (choice n (2 ^ 20) 3 (cond (nat_lt n (2 ^ 27)) 4 (cond (nat_lt n (2 ^ 34)) 5 (cond (nat_lt n (2 ^ 41)) 6 (cond (nat_lt n (2 ^ 48)) 7 (cond (nat_lt n (2 ^ 55)) 8 (cond (nat_lt n (2 ^ 62)) 9 10)))))) (least_signed n) q.1) [
          | inl r ↦ by 2 r.0 (omega arith) (λ low. omega arith) r.1
          | inr r ↦ elim (choice n (2 ^ 27) 4 (cond (nat_lt n (2 ^ 34)) 5 (cond (nat_lt n (2 ^ 41)) 6 (cond (nat_lt n (2 ^ 48)) 7 (cond (nat_lt n (2 ^ 55)) 8 (cond (nat_lt n (2 ^ 62)) 9 10))))) (least_signed n) r.1) [
            | inl s ↦ by 3 s.0 (omega arith) (λ low. omega arith) s.1
            | inr s ↦ elim (choice n (2 ^ 34) 5 (cond (nat_lt n (2 ^ 41)) 6 (cond (nat_lt n (2 ^ 48)) 7 (cond (nat_lt n (2 ^ 55)) 8 (cond (nat_lt n (2 ^ 62)) 9 10)))) (least_signed n) s.1) [
              | inl t ↦ by 4 t.0 (omega arith) (λ low. omega arith) t.1
              | inr t ↦ elim (choice n (2 ^ 41) 6 (cond (nat_lt n (2 ^ 48)) 7 (cond (nat_lt n (2 ^ 55)) 8 (cond (nat_lt n (2 ^ 62)) 9 10))) (least_signed n) t.1) [
                | inl u ↦ by 5 u.0 (omega arith) (λ low. omega arith) u.1
                | inr u ↦ elim (choice n (2 ^ 48) 7 (cond (nat_lt n (2 ^ 55)) 8 (cond (nat_lt n (2 ^ 62)) 9 10)) (least_signed n) u.1) [
                  | inl v ↦ by 6 v.0 (omega arith) (λ low. omega arith) v.1
                  | inr v ↦ elim (choice n (2 ^ 55) 8 (cond (nat_lt n (2 ^ 62)) 9 10) (least_signed n) v.1) [
                    | inl w ↦ by 7 w.0 (omega arith) (λ low. omega arith) w.1
                    | inr w ↦ elim (choice n (2 ^ 62) 9 10 (least_signed n) w.1) [
                      | inl x ↦ by 8 x.0 (omega arith) (λ low. omega arith) x.1
                      | inr x ↦ by 9 (omega arith) (omega arith) (λ low. omega arith) x.1
                    ]
                  ]
                ]
              ]
            ]
          ]
        ]
      ]
    ]

pub shortest_s32 : (bits : ℕ) → bits < 2 ^ 32 → (v : ℤ) × (bits ≡ cast_unsigned w32 v) × Spelling (SpellsSigned 32) v (least_s32 bits)
shortest_s32 bits fits =
    elim (by_order bits (2 ^ 31)) [
      | inl low ↦ let is : magnitude (2 ^ 31) bits ≡ bits = magnitude_low (2 ^ 31) bits low in (
        pos bits,
        refl,
        subst (λ (n : ℕ). Spelling (SpellsSigned 32) (pos bits) (least_signed n)) (sym is)
            (by_least (λ n. Spelling (SpellsSigned 32) (pos bits) n) bits (λ k few room less. spell_pos k 32 bits few low (omega (arith, less low))) (omega arith)),
      )
      | inr high ↦
          let n : ℕ = 2 ^ 32 - 1 - bits in
          let small : n < 2 ^ 31 = omega arith in
          let is : magnitude (2 ^ 31) bits ≡ n = magnitude_high (2 ^ 31) bits high in (
            negsuc n,
            omega arith,
            subst (λ (m : ℕ). Spelling (SpellsSigned 32) (negsuc n) (least_signed m)) (sym is)
                (by_least (λ m. Spelling (SpellsSigned 32) (negsuc n) m) n (λ k few room less. spell_neg k 32 n few small (omega (arith, less small))) (omega arith)),
          )
    ]

pub shortest_s64 : (bits : ℕ) → bits < 2 ^ 64 → (v : ℤ) × (bits ≡ cast_unsigned w64 v) × Spelling (SpellsSigned 64) v (least_s64 bits)
shortest_s64 bits fits =
    elim (by_order bits (2 ^ 63)) [
      | inl low ↦ let is : magnitude (2 ^ 63) bits ≡ bits = magnitude_low (2 ^ 63) bits low in (
        pos bits,
        refl,
        subst (λ (n : ℕ). Spelling (SpellsSigned 64) (pos bits) (least_signed n)) (sym is)
            (by_least (λ n. Spelling (SpellsSigned 64) (pos bits) n) bits (λ k few room less. spell_pos k 64 bits few low (omega arith)) low),
      )
      | inr high ↦
          let n : ℕ = 2 ^ 64 - 1 - bits in
          let small : n < 2 ^ 63 = omega arith in
          let is : magnitude (2 ^ 63) bits ≡ n = magnitude_high (2 ^ 63) bits high in (
            negsuc n,
            omega arith,
            subst (λ (m : ℕ). Spelling (SpellsSigned 64) (negsuc n) (least_signed m)) (sym is)
                (by_least (λ m. Spelling (SpellsSigned 64) (negsuc n) m) n (λ k few room less. spell_neg k 64 n few small (omega arith)) small),
          )
    ]
