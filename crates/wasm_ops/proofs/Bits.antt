-- Numbers by their bits: counts over the places, and sums of bits, are what the machine's operations give.
use Rattle.std.proofs.Common.{◌≡◌, ℕ, zero, suc, ◌+◌, ◌-◌, ◌*◌, ◌/◌, ◌%◌, ◌^◌, ◌<◌, ◌==◌, nat_lt, Bool, false, cond, sum_by, min, max, bit_and, bit_or, bit_xor, zero-add, refl, sym, ◌∙◌, ap, subst, arith}
use Rattle.std.specs.List.{range_with_len}
use Rattle.std.specs.Int.Count.{count_leading_zeros, count_trailing_zeros, under, ones, ones_step, leading_of_zero}
use Rattle.std.proofs.lemmas.List.Sums.{sum_by-cons}
use Rattle.std.proofs.lemmas.Bool.Decides.{nat_tests}
use Rattle.std.proofs.lemmas.Nat.{mod_below, mod-pow-add, or_shifted, or_comm, and_le_l, or_lt, xor_lt, shr_below, shl-shr}
use Rattle.std.proofs.lemmas.Nat.Bits.{bit_at_lowest, bit_at-suc, bit_at_and, bit_at_or, bit_at_xor}
use Rattle.std.proofs.Math.Nat.{pow-suc, mul_assoc, mul-one, mul-mod_left, mod_self, div-one, div-eq_of_lt, mod-eq_of_lt, sub-zero, add-zero, add_comm}
use Rattle.std.specs.Int.Bits.{or_self}
use Rattle.std.proofs.Math.Numerals.{add-one}
use Rattle.wasm_ops.specs.Integers.{positions, bit, bitwise, clz, ctz, popcnt, and, or, xor}

-- a sum over places one higher
sum_shift : (f : ℕ → ℕ) (a n : ℕ) → sum_by f (range_with_len (a + 1) n) ≡ sum_by (λ i. f (i + 1)) (range_with_len a n)
sum_shift f a zero = refl
sum_shift f a (suc n) =
    sum_by-cons f (a + 1) (range_with_len (a + 1 + 1) n)
    ∙ (ap (λ (s : ℕ). f (a + 1) + s) (sum_shift f (a + 1) n) ∙ sym (sum_by-cons (λ (i : ℕ). f (i + 1)) a (range_with_len (a + 1) n)))

-- the lowest place and the others
sum_step : (f : ℕ → ℕ) (k : ℕ) → sum_by f (positions (suc k)) ≡ f 0 + sum_by (λ i. f (i + 1)) (positions k)
sum_step f k = sum_by-cons f 0 (range_with_len 1 k) ∙ ap (λ (s : ℕ). f 0 + s) (sum_shift f 0 k)

-- two sums with the same terms
sum_same : (f g : ℕ → ℕ) → ((i : ℕ) → f i ≡ g i) → (a n : ℕ) → sum_by f (range_with_len a n) ≡ sum_by g (range_with_len a n)
sum_same f g same a zero = refl
sum_same f g same a (suc n) =
    let head : f a ≡ g a = same a in
    let rest : sum_by f (range_with_len (a + 1) n) ≡ sum_by g (range_with_len (a + 1) n) = sum_same f g same (a + 1) n in
    let left : sum_by f (range_with_len a (suc n)) ≡ f a + sum_by f (range_with_len (a + 1) n) = sum_by-cons f a (range_with_len (a + 1) n) in
    let right : sum_by g (range_with_len a (suc n)) ≡ g a + sum_by g (range_with_len (a + 1) n) = sum_by-cons g a (range_with_len (a + 1) n) in
    omega arith

-- a sum of doubled terms
sum_double : (f : ℕ → ℕ) (a n : ℕ) → sum_by (λ i. f i * 2) (range_with_len a n) ≡ sum_by f (range_with_len a n) * 2
sum_double f a zero = refl
sum_double f a (suc n) =
    let rest : sum_by (λ i. f i * 2) (range_with_len (a + 1) n) ≡ sum_by f (range_with_len (a + 1) n) * 2 = sum_double f (a + 1) n in
    let left : sum_by (λ i. f i * 2) (range_with_len a (suc n)) ≡ f a * 2 + sum_by (λ i. f i * 2) (range_with_len (a + 1) n) = sum_by-cons (λ (i : ℕ). f i * 2) a (range_with_len (a + 1) n) in
    let right : sum_by f (range_with_len a (suc n)) ≡ f a + sum_by f (range_with_len (a + 1) n) = sum_by-cons f a (range_with_len (a + 1) n) in
    omega arith

-- a sum of zeros
sum_none : (f : ℕ → ℕ) → ((i : ℕ) → f i ≡ 0) → (a n : ℕ) → sum_by f (range_with_len a n) ≡ 0
sum_none f none a zero = refl
sum_none f none a (suc n) =
    let head : f a ≡ 0 = none a in
    let rest : sum_by f (range_with_len (a + 1) n) ≡ 0 = sum_none f none (a + 1) n in
    let left : sum_by f (range_with_len a (suc n)) ≡ f a + sum_by f (range_with_len (a + 1) n) = sum_by-cons f a (range_with_len (a + 1) n) in
    omega arith

-- half a number is below a power where the number is below the next
half_test : (n i : ℕ) → nat_lt n (2 ^ (i + 1)) ≡ nat_lt (n / 2) (2 ^ i)
half_test n i =
    let power : 2 ^ (i + 1) ≡ 2 ^ i * 2 = rw add-one (pow-suc 2 i) in
    rw power (grind (arith, nat_tests))

half_below : (n k : ℕ) → n < 2 ^ suc k → n / 2 < 2 ^ k
half_below n k below =
    let power : 2 ^ suc k ≡ 2 ^ k * 2 = pow-suc 2 k in
    omega arith

leading_step : (k n : ℕ) → count_leading_zeros (suc k) n ≡ cond (nat_lt n 1) 1 0 + count_leading_zeros k (n / 2)
unfolding count_leading_zeros
leading_step k zero =
    let all : count_leading_zeros k zero ≡ k = leading_of_zero k in
    omega arith
leading_step k (suc n) =
    let not_below : nat_lt (suc n) 1 ≡ false = grind (arith, nat_tests) in
    rw not_below (sym (zero-add (count_leading_zeros k (suc n / 2))))

-- the count of the places from which no bit up is 1
pub clz_is : (k n : ℕ) → n < 2 ^ k → clz k n ≡ count_leading_zeros k n
unfolding clz count_leading_zeros
clz_is zero n below = refl
clz_is (suc k) n below =
    let half : n / 2 < 2 ^ k = half_below n k below in
    let step : clz (suc k) n ≡ cond (nat_lt n 1) 1 0 + sum_by (λ i. cond (nat_lt n (2 ^ (i + 1))) 1 0) (positions k) = sum_step (λ (i : ℕ). cond (nat_lt n (2 ^ i)) 1 0) k in
    let rest : sum_by (λ i. cond (nat_lt n (2 ^ (i + 1))) 1 0) (positions k) ≡ clz k (n / 2) =
    sum_same (λ (i : ℕ). cond (nat_lt n (2 ^ (i + 1))) 1 0) (λ (i : ℕ). cond (nat_lt (n / 2) (2 ^ i)) 1 0) (λ i. ap (λ (t : Bool). cond t 1 0) (half_test n i)) 0 k in
    step ∙ (ap (λ (s : ℕ). cond (nat_lt n 1) 1 0 + s) (rest ∙ clz_is k (n / 2) half) ∙ sym (leading_step k n))

-- one more digit is tested for zero
even_test : (n i : ℕ) → n % 2 ≡ 0 → (n % 2 ^ (i + 1 + 1) == 0) ≡ (n / 2 % 2 ^ (i + 1) == 0)
even_test n i even =
    let split : n % 2 ^ (i + 1 + 1) ≡ (n / 2 ^ 1 % 2 ^ (i + 1)) * 2 ^ 1 + n % 2 ^ 1 = mod-pow-add n (i + 1) 1 in
    rw split (grind (arith, nat_tests))

odd_test : (n i : ℕ) → n % 2 ≡ 1 → (n % 2 ^ (i + 1) == 0) ≡ false
odd_test n i odd =
    let split : n % 2 ^ (i + 1) ≡ (n / 2 ^ 1 % 2 ^ i) * 2 ^ 1 + n % 2 ^ 1 = mod-pow-add n i 1 in
    rw split (grind (arith, nat_tests))

-- the count of the places up to which no bit is 1
pub ctz_is : (k n : ℕ) → ctz k n ≡ count_trailing_zeros k n
unfolding ctz count_trailing_zeros
ctz_is zero n = refl
ctz_is (suc k) n = go (n % 2) refl (mod_below n 2 (omega arith)) (ctz_is k (n / 2))
  where
    go : (r : ℕ) → n % 2 ≡ r → r < 2 → ctz k (n / 2) ≡ count_trailing_zeros k (n / 2) → ctz (suc k) n ≡ under (n % 2) (count_trailing_zeros k (n / 2))
    go zero even below half =
        let first : ◌≡◌ {A = ℕ} (cond (n % 2 ^ 1 == 0) 1 0) 1 = rw even refl in
        let step : ctz (suc k) n ≡ cond (n % 2 ^ 1 == 0) 1 0 + sum_by (λ i. cond (n % 2 ^ (i + 1 + 1) == 0) 1 0) (positions k) = sum_step (λ (i : ℕ). cond (n % 2 ^ (i + 1) == 0) 1 0) k in
        let rest : sum_by (λ i. cond (n % 2 ^ (i + 1 + 1) == 0) 1 0) (positions k) ≡ ctz k (n / 2) =
        sum_same (λ (i : ℕ). cond (n % 2 ^ (i + 1 + 1) == 0) 1 0) (λ (i : ℕ). cond (n / 2 % 2 ^ (i + 1) == 0) 1 0) (λ i. ap (λ (t : Bool). cond t 1 0) (even_test n i even)) 0 k in
        rw even (omega arith)
    go (suc r) odd below half =
        let one : n % 2 ≡ 1 = omega arith in
        rw one (sum_none (λ (i : ℕ). cond (n % 2 ^ (i + 1) == 0) 1 0) (λ i. ap (λ (t : Bool). cond t 1 0) (odd_test n i one)) 0 (suc k))

-- a test of a bit is the bit
bit_test : (n i : ℕ) → cond (bit n i == 1) 1 0 ≡ bit n i
bit_test n i =
    let below : bit n i < 2 = mod_below (n / 2 ^ i) 2 (omega arith) in
    grind (arith, nat_tests)

-- the bits of half a number stand one place lower
bit_half : (n i : ℕ) → bit n (i + 1) ≡ bit (n / 2) i
bit_half n i = rw add-one (bit_at-suc n i)

-- the count of the places at which the bit is 1
pub popcnt_is : (k n : ℕ) → n < 2 ^ k → popcnt k n ≡ ones n
unfolding popcnt ones
popcnt_is zero n below =
    let none : n ≡ 0 = omega arith in
    rw none refl
popcnt_is (suc k) n below =
    let half : n / 2 < 2 ^ k = half_below n k below in
    let ih : popcnt k (n / 2) ≡ ones (n / 2) = popcnt_is k (n / 2) half in
    let step : popcnt (suc k) n ≡ cond (bit n 0 == 1) 1 0 + sum_by (λ i. cond (bit n (i + 1) == 1) 1 0) (positions k) = sum_step (λ (i : ℕ). cond (bit n i == 1) 1 0) k in
    let rest : sum_by (λ i. cond (bit n (i + 1) == 1) 1 0) (positions k) ≡ popcnt k (n / 2) =
    sum_same (λ (i : ℕ). cond (bit n (i + 1) == 1) 1 0) (λ (i : ℕ). cond (bit (n / 2) i == 1) 1 0) (λ i. ap (λ (b : ℕ). cond (b == 1) 1 0) (bit_half n i)) 0 k in
    let first : cond (bit n 0 == 1) 1 0 ≡ n % 2 = bit_test n 0 ∙ bit_at_lowest n in
    let all : ones n ≡ n % 2 + ones (n / 2) = ones_step n in
    step ∙ (ap (λ (s : ℕ). s + sum_by (λ i. cond (bit n (i + 1) == 1) 1 0) (positions k)) first ∙ (ap (λ (s : ℕ). n % 2 + s) (rest ∙ ih) ∙ sym all))

-- a number is the sum of its bits
expansion : (k n : ℕ) → n < 2 ^ k → sum_by (λ i. bit n i * 2 ^ i) (positions k) ≡ n
expansion zero n below = omega arith
expansion (suc k) n below =
    let half : n / 2 < 2 ^ k = half_below n k below in
    let ih : sum_by (λ i. bit (n / 2) i * 2 ^ i) (positions k) ≡ n / 2 = expansion k (n / 2) half in
    let step : sum_by (λ i. bit n i * 2 ^ i) (positions (suc k)) ≡ bit n 0 * 2 ^ 0 + sum_by (λ i. bit n (i + 1) * 2 ^ (i + 1)) (positions k) = sum_step (λ (i : ℕ). bit n i * 2 ^ i) k in
    let rest : sum_by (λ i. bit n (i + 1) * 2 ^ (i + 1)) (positions k) ≡ sum_by (λ i. bit (n / 2) i * 2 ^ i * 2) (positions k) =
    sum_same (λ (i : ℕ). bit n (i + 1) * 2 ^ (i + 1)) (λ (i : ℕ). bit (n / 2) i * 2 ^ i * 2) (λ i. term i) 0 k in
    let doubled : sum_by (λ i. bit (n / 2) i * 2 ^ i * 2) (positions k) ≡ sum_by (λ i. bit (n / 2) i * 2 ^ i) (positions k) * 2 = sum_double (λ (i : ℕ). bit (n / 2) i * 2 ^ i) 0 k in
    let first : bit n 0 ≡ n % 2 = bit_at_lowest n in
    let tail : sum_by (λ i. bit n (i + 1) * 2 ^ (i + 1)) (positions k) ≡ n / 2 * 2 = rest ∙ (doubled ∙ ap (λ (s : ℕ). s * 2) ih) in
    step ∙ (ap (λ (s : ℕ). bit n 0 * 2 ^ 0 + s) tail ∙ (ap (λ (b : ℕ). b * 1 + n / 2 * 2) first ∙ omega arith))
  where
    term : (i : ℕ) → bit n (i + 1) * 2 ^ (i + 1) ≡ bit (n / 2) i * 2 ^ i * 2
    term i =
        let power : 2 ^ (i + 1) ≡ 2 ^ i * 2 = rw add-one (pow-suc 2 i) in
        rw (bit_half n i, power) (sym (mul_assoc (bit (n / 2) i) (2 ^ i) 2))

-- a number whose bits are made of those of two others is their bitwise sum
made_of_bits : (f : ℕ → ℕ → ℕ) (k a b n : ℕ) → n < 2 ^ k → ((i : ℕ) → bit n i ≡ f (bit a i) (bit b i)) → bitwise f k a b ≡ n
unfolding bitwise
made_of_bits f k a b n below bits =
    sum_same (λ (i : ℕ). f (bit a i) (bit b i) * 2 ^ i) (λ (i : ℕ). bit n i * 2 ^ i) (λ i. ap (λ (x : ℕ). x * 2 ^ i) (sym (bits i))) 0 k
    ∙ expansion k n below

pub and_is : (k a b : ℕ) → a < 2 ^ k → b < 2 ^ k → and k a b ≡ bit_and a b
and_is k a b p q =
    let below : bit_and a b < 2 ^ k = omega (arith, and_le_l a b) in
    made_of_bits (λ x y. min x y) k a b (bit_and a b) below (λ i. bit_at_and a b i)

pub or_is : (k a b : ℕ) → a < 2 ^ k → b < 2 ^ k → or k a b ≡ bit_or a b
or_is k a b p q = made_of_bits (λ x y. max x y) k a b (bit_or a b) (or_lt k a b p q) (λ i. bit_at_or a b i)

pub xor_is : (k a b : ℕ) → a < 2 ^ k → b < 2 ^ k → xor k a b ≡ bit_xor a b
xor_is k a b p q = made_of_bits (λ x y. (x + y) % 2) k a b (bit_xor a b) (xor_lt k a b p q) (λ i. bit_at_xor a b i)

-- a number moved up k places of j + k, beside what falls out at the top
turned : (W j k a : ℕ) → j + k ≡ W → a < 2 ^ W → bit_or ((a * 2 ^ k) % 2 ^ W) (a / 2 ^ j) ≡ (a * 2 ^ k) % 2 ^ W + a / 2 ^ j
turned W j k a whole below =
    let power : 2 ^ W ≡ 2 ^ (j + k) = ap (λ (e : ℕ). 2 ^ e) (sym whole) in
    let split : (a * 2 ^ k) % 2 ^ (j + k) ≡ (a * 2 ^ k / 2 ^ k % 2 ^ j) * 2 ^ k + (a * 2 ^ k) % 2 ^ k = mod-pow-add (a * 2 ^ k) j k in
    let shifted : a * 2 ^ k / 2 ^ k ≡ a = shl-shr a k in
    let rest : (a * 2 ^ k) % 2 ^ k ≡ 0 = mul-mod_left a (2 ^ k) in
    let high : (a * 2 ^ k) % 2 ^ W ≡ (a % 2 ^ j) * 2 ^ k = ap (λ (m : ℕ). (a * 2 ^ k) % m) power ∙ (split ∙ rw (shifted, rest, add-zero) refl) in
    let low : a / 2 ^ j < 2 ^ k = shr_below a k j (subst (λ (e : ℕ). a < 2 ^ e) (sym whole ∙ add_comm j k) below) in
    rw high (or_shifted (a % 2 ^ j) k (a / 2 ^ j) low)

-- the machine's rotation to the left, by a count below the width
pub rotl_is : (W a k : ℕ) → k < W → a < 2 ^ W → bit_or ((a * 2 ^ k) % 2 ^ W) (a / 2 ^ ((W - k) % W)) ≡ (a * 2 ^ k) % 2 ^ W + a / 2 ^ (W - k)
rotl_is W a zero within below =
    let count : (W - 0) % W ≡ 0 = rw sub-zero (mod_self W) in
    let whole : (a * 1) % 2 ^ W ≡ a = rw mul-one (mod-eq_of_lt below) in
    let none : a / 2 ^ (W - 0) ≡ 0 = rw sub-zero (div-eq_of_lt below) in
    rw (count, whole, none, div-one, or_self) (sym (add-zero a))
rotl_is W a (suc k) within below =
    let count : (W - suc k) % W ≡ W - suc k = mod-eq_of_lt (omega arith) in
    rw count (turned W (W - suc k) (suc k) a (omega arith) below)

-- and to the right
pub rotr_is : (W a k : ℕ) → k < W → a < 2 ^ W → bit_or (a / 2 ^ k) ((a * 2 ^ ((W - k) % W)) % 2 ^ W) ≡ a / 2 ^ k + (a * 2 ^ (W - k)) % 2 ^ W
rotr_is W a zero within below =
    let count : (W - 0) % W ≡ 0 = rw sub-zero (mod_self W) in
    let whole : (a * 1) % 2 ^ W ≡ a = rw mul-one (mod-eq_of_lt below) in
    let none : (a * 2 ^ (W - 0)) % 2 ^ W ≡ 0 = rw sub-zero (mul-mod_left a (2 ^ W)) in
    rw (count, whole, none, div-one, or_self) (sym (add-zero a))
rotr_is W a (suc k) within below =
    let count : (W - suc k) % W ≡ W - suc k = mod-eq_of_lt (omega arith) in
    rw (count, or_comm) (turned W (suc k) (W - suc k) a (omega arith) below ∙ add_comm ((a * 2 ^ (W - suc k)) % 2 ^ W) (a / 2 ^ suc k))
