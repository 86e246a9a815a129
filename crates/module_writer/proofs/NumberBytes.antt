-- Numbers that are written byte by byte.
use Rattle.std.proofs.Common.{◌≡◌, ℕ, ◌+◌, ◌-◌, ◌*◌, ◌/◌, ◌%◌, ◌^◌, ◌<◌, ◌≤◌, ◌⊎◌, inl, inr, List, [], ◌∷◌, ◌++◌, length, length-append, append_assoc, append-nil, Bool, true, false, nat_lt, arith, refl, ap, subst, sym, ◌∙◌}
use Rattle.std.specs.Int.{cast_unsigned, w32, w64}
use Rattle.std.specs.Prelude.{ℤ, pos, negsuc, ◌+ℤ◌, ◌*ℤ◌, ◌-ℤ◌}
use Rattle.std.proofs.Math.Pow.{pow_mono}
use Rattle.std.proofs.lemmas.Nat.{pow-add}
use Rattle.std.proofs.lemmas.Int.{ints}
use Rattle.std.proofs.lemmas.Bool.Decides.{nat_tests}
use Rattle.leb_read.specs.Numbers.{SpellsUnsigned, SpellsSigned}
use Rattle.leb_read.proofs.Unsigned.{longer as longer_unsigned}
use Rattle.leb_read.proofs.Signed.{longer as longer_signed}
use Rattle.wasm_form.specs.Values.{SpellsU32}
use Rattle.wasm_form.specs.Least.{least_unsigned, least_signed, least_s32, least_s64, magnitude}
use Rattle.module_writer.specs.Writing.{Appends, signed_of, next_byte, last_byte}

-- the bits of N that these bytes leave
abbrev pub left : (N : ℕ) (front : List ℕ) → ℕ
left N front = N - 7 * length front

by_order : (n limit : ℕ) → (n < limit) ⊎ (limit ≤ n)
by_order n limit = cases (nat_lt n limit) refl
  where
    cases : (b : Bool) → nat_lt n limit ≡ b → (n < limit) ⊎ (limit ≤ n)
    cases true e = let low : n < limit = grind (arith, nat_tests) in inl low
    cases false e = let high : limit ≤ n = grind (arith, nat_tests) in inr high

-- a power of two that is above a smaller one has a larger exponent
above : (m n r : ℕ) → 2 ^ m ≤ r → r < 2 ^ n → m < n
above m n r low high =
    elim (by_order m n) [
      | inl less ↦ less
      | inr more ↦ let mono : 2 ^ n ≤ 2 ^ m = pow_mono {i = n} {j = m} more in absurd (omega arith)
    ]

-- one byte more leaves seven bits less
left_more : (N b : ℕ) (front : List ℕ) → left N (front ++ b ∷ []) ≡ left N front - 7
left_more N b front = omega (arith, length-append front (b ∷ []))

seventh : (n M : ℕ) → n < 2 ^ M → 7 ≤ M → n / 2 ^ 7 < 2 ^ (M - 7)
seventh n M low room =
    let split : 2 ^ ((M - 7) + 7) ≡ 2 ^ (M - 7) * 2 ^ 7 = pow-add 2 (M - 7) 7 in
    let same : 2 ^ ((M - 7) + 7) ≡ 2 ^ M = ap (λ (k : ℕ). 2 ^ k) (omega arith) in
    omega (arith, low, split, same)

-- these bytes are the first of those that spell n; of n there is left to write the rest
pub record Begun (n rest : ℕ) (front : List ℕ) : Type 0 where
  pub fits : rest < 2 ^ left 32 front
  pub then : (t : List ℕ) → SpellsUnsigned (left 32 front) t rest → SpellsUnsigned 32 (front ++ t) n
  pub long : least_unsigned n ≡ length front + least_unsigned rest

-- the same after the old bytes
pub record Writes (n rest : ℕ) (old new : List ℕ) : Type 0 where
  pub front : List ℕ
  pub begun : Begun n rest front
  pub added : new ≡ old ++ front

pub begin_unsigned : (n : ℕ) (old : List ℕ) → n < 2 ^ 32 → Writes n n old old
begin_unsigned n old fits =
    record { front = []; begun = record { fits = fits; then = λ t h. h; long = omega arith }; added = sym (append-nil old) }

least_more : (n : ℕ) → 2 ^ 7 ≤ n → n < 2 ^ 32 → least_unsigned n ≡ 1 + least_unsigned (n / 2 ^ 7)
unfolding least_unsigned
least_more n some low = grind (arith, nat_tests)

least_one : (n : ℕ) → n < 2 ^ 7 → least_unsigned n ≡ 1
unfolding least_unsigned
least_one n low = grind (arith, nat_tests)

step : (n rest : ℕ) (front : List ℕ) → Begun n rest front → 2 ^ 7 ≤ rest → Begun n (rest / 2 ^ 7) (front ++ (rest % 2 ^ 7 + 2 ^ 7) ∷ [])
step n rest front h some =
    let b : ℕ = rest % 2 ^ 7 + 2 ^ 7 in
    let M : ℕ = left 32 front in
    let room : 7 < M = above 7 M rest some h.fits in
    let less : left 32 (front ++ b ∷ []) ≡ M - 7 = left_more 32 b front in
    let wide : 2 ^ M ≤ 2 ^ 32 = pow_mono {i = M} {j = 32} (omega arith) in
    let value : 2 ^ 7 * (rest / 2 ^ 7) + rest % 2 ^ 7 ≡ rest = omega arith in
    record {
      fits = subst (λ (k : ℕ). rest / 2 ^ 7 < 2 ^ k) (sym less) (seventh rest M h.fits (omega arith));
      then = λ t s.
          let high : SpellsUnsigned (M - 7) t (rest / 2 ^ 7) = subst (λ (k : ℕ). SpellsUnsigned k t (rest / 2 ^ 7)) less s in
          let whole : SpellsUnsigned M (b ∷ t) rest =
          subst (λ (v : ℕ). SpellsUnsigned M (b ∷ t) v) value
          (longer_unsigned M (M - 7) b (rest % 2 ^ 7) (rest / 2 ^ 7) t (omega arith) (omega arith) (omega arith) (omega arith) (omega arith) high) in
          subst (λ (l : List ℕ). SpellsUnsigned 32 l n) (sym (append_assoc front (b ∷ []) t)) (h.then (b ∷ t) whole);
      long = omega (arith, h.long, least_more rest some (omega (arith, h.fits, wide)), length-append front (b ∷ []));
    }

pub more_unsigned : (n rest : ℕ) (old mid new : List ℕ) → Writes n rest old mid → 2 ^ 7 ≤ rest → new ≡ mid ++ (rest % 2 ^ 7 + 2 ^ 7) ∷ [] → Writes n (rest / 2 ^ 7) old new
more_unsigned n rest old mid new h some e =
    let b : ℕ = rest % 2 ^ 7 + 2 ^ 7 in
    record {
      front = h.front ++ b ∷ [];
      begun = step n rest h.front h.begun some;
      added = e ∙ ap (λ (l : List ℕ). l ++ b ∷ []) h.added ∙ append_assoc old h.front (b ∷ []);
    }

pub end_unsigned : (n rest : ℕ) (old mid new : List ℕ) → Writes n rest old mid → rest < 2 ^ 7 → new ≡ mid ++ rest ∷ [] → Appends SpellsU32 least_unsigned n old new
end_unsigned n rest old mid new h low e =
    record {
      bytes = h.front ++ rest ∷ [];
      spells = h.begun.then (rest ∷ []) (low, h.begun.fits, refl);
      long = omega (arith, h.begun.long, least_one rest low, length-append h.front (rest ∷ []));
      added = e ∙ ap (λ (l : List ℕ). l ++ rest ∷ []) h.added ∙ append_assoc old h.front (rest ∷ []);
    }

-- the same for signed numbers of N bits
pub record BegunSigned (negative : Bool) (N n rest : ℕ) (front : List ℕ) : Type 0 where
  pub room : 0 < left N front
  pub fits : rest < 2 ^ (left N front - 1)
  pub then : (t : List ℕ) → SpellsSigned (left N front) t (signed_of negative rest) → SpellsSigned N (front ++ t) (signed_of negative n)

pub record WritesSigned (negative : Bool) (n rest : ℕ) (old new : List ℕ) : Type 0 where
  pub front : List ℕ
  pub begun : (N : ℕ) → 0 < N → n < 2 ^ (N - 1) → BegunSigned negative N n rest front
  pub long : least_signed n ≡ length front + least_signed rest
  pub added : new ≡ old ++ front

begun_signed : (negative : Bool) (N n : ℕ) → 0 < N → n < 2 ^ (N - 1) → BegunSigned negative N n n []
begun_signed negative N n some fits =
    let same : left N [] ≡ N = omega arith in
    record {
      room = omega (arith, same, some);
      fits = subst (λ (k : ℕ). n < 2 ^ (k - 1)) (sym same) fits;
      then = λ t h. subst (λ (k : ℕ). SpellsSigned k t (signed_of negative n)) same h;
    }

pub begin_signed : (negative : Bool) (n : ℕ) (old : List ℕ) → WritesSigned negative n n old old
begin_signed negative n old =
    record { front = []; begun = λ N some fits. begun_signed negative N n some fits; long = omega arith; added = sym (append-nil old) }

signed_more : (n : ℕ) → 2 ^ 6 ≤ n → n < 2 ^ 64 → least_signed n ≡ 1 + least_signed (n / 2 ^ 7)
unfolding least_signed
signed_more n some low = grind (arith, nat_tests)

signed_one : (n : ℕ) → n < 2 ^ 6 → least_signed n ≡ 1
unfolding least_signed
signed_one n low = grind (arith, nat_tests)

-- a byte before the spelling of what is above it
longer : (negative : Bool) (M n : ℕ) (t : List ℕ) → 7 < M → SpellsSigned (M - 7) t (signed_of negative (n / 2 ^ 7)) → SpellsSigned M (next_byte negative n ∷ t) (signed_of negative n)
longer false M n t room h =
    let byte : ℕ = 2 ^ 7 + n % 2 ^ 7 in
    let value : pos n ≡ pos (2 ^ 7) *ℤ pos (n / 2 ^ 7) +ℤ pos (byte - 2 ^ 7) = omega (arith, ints) in
    longer_signed M (M - 7) byte (pos (n / 2 ^ 7)) (pos n) t (omega arith) (omega arith) (omega arith) (omega arith) value h
longer true M n t room h =
    let byte : ℕ = 2 ^ 8 - 1 - n % 2 ^ 7 in
    let value : negsuc n ≡ pos (2 ^ 7) *ℤ negsuc (n / 2 ^ 7) +ℤ pos (byte - 2 ^ 7) = omega (arith, ints) in
    longer_signed M (M - 7) byte (negsuc (n / 2 ^ 7)) (negsuc n) t (omega arith) (omega arith) (omega arith) (omega arith) value h

last : (negative : Bool) (M n : ℕ) → n < 2 ^ 6 → n < 2 ^ (M - 1) → SpellsSigned M (last_byte negative n ∷ []) (signed_of negative n)
last false M n low fits = inl (low, fits, refl)
last true M n low fits =
    let value : negsuc n ≡ pos (2 ^ 7 - 1 - n) -ℤ pos (2 ^ 7) = omega (arith, ints) in
    inr (omega arith, omega arith, omega arith, value)

step_signed : (negative : Bool) (N n rest : ℕ) (front : List ℕ) → BegunSigned negative N n rest front → 2 ^ 6 ≤ rest → BegunSigned negative N n (rest / 2 ^ 7) (front ++ next_byte negative rest ∷ [])
step_signed negative N n rest front h some =
    let b : ℕ = next_byte negative rest in
    let M : ℕ = left N front in
    let room : 6 < M - 1 = above 6 (M - 1) rest some h.fits in
    let less : left N (front ++ b ∷ []) ≡ M - 7 = left_more N b front in
    let order : M - 1 - 7 ≡ M - 7 - 1 = omega arith in
    record {
      room = omega (arith, less, room);
      fits = subst (λ (k : ℕ). rest / 2 ^ 7 < 2 ^ (k - 1)) (sym less) (subst (λ (k : ℕ). rest / 2 ^ 7 < 2 ^ k) order (seventh rest (M - 1) h.fits (omega arith)));
      then = λ t s.
          let high : SpellsSigned (M - 7) t (signed_of negative (rest / 2 ^ 7)) = subst (λ (k : ℕ). SpellsSigned k t (signed_of negative (rest / 2 ^ 7))) less s in
          subst (λ (l : List ℕ). SpellsSigned N l (signed_of negative n)) (sym (append_assoc front (b ∷ []) t))
          (h.then (b ∷ t) (longer negative M rest t (omega arith) high));
    }

pub more_signed : (negative : Bool) (n rest b : ℕ) (old mid new : List ℕ) → WritesSigned negative n rest old mid → 2 ^ 6 ≤ rest → rest < 2 ^ 64 → b ≡ next_byte negative rest → new ≡ mid ++ b ∷ [] → WritesSigned negative n (rest / 2 ^ 7) old new
more_signed negative n rest b old mid new h some wide is e =
    let c : ℕ = next_byte negative rest in
    record {
      front = h.front ++ c ∷ [];
      begun = λ N bits fits. step_signed negative N n rest h.front (h.begun N bits fits) some;
      long = omega (arith, h.long, signed_more rest some wide, length-append h.front (c ∷ []));
      added = e ∙ ap (λ (k : ℕ). mid ++ k ∷ []) is ∙ ap (λ (l : List ℕ). l ++ c ∷ []) h.added ∙ append_assoc old h.front (c ∷ []);
    }

pub end_signed : (negative : Bool) (n rest b : ℕ) (old mid new : List ℕ) → WritesSigned negative n rest old mid → rest < 2 ^ 6 → b ≡ last_byte negative rest → new ≡ mid ++ b ∷ []
    → (N : ℕ) → 0 < N → n < 2 ^ (N - 1) → Appends (λ s _. SpellsSigned N s (signed_of negative n)) least_signed n old new
end_signed negative n rest b old mid new h low is e N some fits =
    let c : ℕ = last_byte negative rest in
    let g : BegunSigned negative N n rest h.front = h.begun N some fits in
    record {
      bytes = h.front ++ c ∷ [];
      spells = g.then (c ∷ []) (last negative (left N h.front) rest low g.fits);
      long = omega (arith, h.long, signed_one rest low, length-append h.front (c ∷ []));
      added = e ∙ ap (λ (k : ℕ). mid ++ k ∷ []) is ∙ ap (λ (l : List ℕ). l ++ c ∷ []) h.added ∙ append_assoc old h.front (c ∷ []);
    }

-- signed numbers by their bits
abbrev pub S32 : List ℕ → ℕ → Type 0
S32 s b = (n : ℤ) × SpellsSigned 32 s n × (b ≡ cast_unsigned w32 n)

abbrev pub S64 : List ℕ → ℕ → Type 0
S64 s b = (n : ℤ) × SpellsSigned 64 s n × (b ≡ cast_unsigned w64 n)

magnitude_low : (half bits : ℕ) → bits < half → magnitude half bits ≡ bits
magnitude_low half bits h = let low : nat_lt bits half ≡ true = grind (arith, nat_tests) in rw low refl

magnitude_high : (half bits : ℕ) → half ≤ bits → magnitude half bits ≡ 2 * half - 1 - bits
magnitude_high half bits h = let high : nat_lt bits half ≡ false = grind (arith, nat_tests) in rw high refl

pub low_s32 : (bits : ℕ) (old new : List ℕ) → bits < 2 ^ 31 → Appends (λ s _. SpellsSigned 32 s (pos bits)) least_signed bits old new → Appends S32 least_s32 bits old new
low_s32 bits old new low h =
    record { bytes = h.bytes; spells = (pos bits, h.spells, refl); long = h.long ∙ ap least_signed (sym (magnitude_low (2 ^ 31) bits low)); added = h.added }

pub high_s32 : (bits n : ℕ) (old new : List ℕ) → 2 ^ 31 ≤ bits → bits < 2 ^ 32 → n ≡ 2 ^ 32 - 1 - bits → Appends (λ s _. SpellsSigned 32 s (negsuc n)) least_signed n old new → Appends S32 least_s32 bits old new
high_s32 bits n old new high wide is h =
    record { bytes = h.bytes; spells = (negsuc n, h.spells, omega arith); long = h.long ∙ ap least_signed (is ∙ sym (magnitude_high (2 ^ 31) bits high)); added = h.added }

pub low_s64 : (bits : ℕ) (old new : List ℕ) → bits < 2 ^ 63 → Appends (λ s _. SpellsSigned 64 s (pos bits)) least_signed bits old new → Appends S64 least_s64 bits old new
low_s64 bits old new low h =
    record { bytes = h.bytes; spells = (pos bits, h.spells, refl); long = h.long ∙ ap least_signed (sym (magnitude_low (2 ^ 63) bits low)); added = h.added }

pub high_s64 : (bits n : ℕ) (old new : List ℕ) → 2 ^ 63 ≤ bits → bits < 2 ^ 64 → n ≡ 2 ^ 64 - 1 - bits → Appends (λ s _. SpellsSigned 64 s (negsuc n)) least_signed n old new → Appends S64 least_s64 bits old new
high_s64 bits n old new high wide is h =
    record { bytes = h.bytes; spells = (negsuc n, h.spells, omega arith); long = h.long ∙ ap least_signed (is ∙ sym (magnitude_high (2 ^ 63) bits high)); added = h.added }
