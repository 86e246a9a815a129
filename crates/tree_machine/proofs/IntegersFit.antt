-- The integer operations give values of their width.
use Rattle.std.proofs.Common.{◌≡◌, ◌≤◌, ◌<◌, ℕ, zero, suc, ◌+◌, ◌-◌, ◌*◌, ◌/◌, ◌%◌, ◌^◌, ◌==◌, ◌&&◌, Bool, true, false, if◌then◌else◌, length, fold, sum_by, count_by, min, max, Result, Ok, Err, ℤ, pos, negsuc, arith, refl, sym, ◌∙◌, ap, subst, add-zero}
use Rattle.std.proofs.lemmas.Bool.Decides.{nat_tests}
use Rattle.std.proofs.Math.Nat.{div-le_self, mul-le-mul_right, mul-div_cancel, mul-mod_left, div-lt_iff_lt-mul}
use Rattle.std.proofs.lemmas.Nat.{pow-add, mod-pow-add}
use Rattle.std.proofs.lemmas.List.Sums.{count_by-le-length}
use Rattle.std.proofs.lemmas.List.FromFn.{length-range_with_len}
use Rattle.std.specs.List.{range_with_len}
use Rattle.std.proofs.Math.Pow.{pow_pos}
use Rattle.wasm_ops.specs.declared.trap.Trap.{Trap}
use Rattle.wasm_ops.specs.declared.trap.Trap.TheVariants.{DivideByZero, Overflow}
use Rattle.wasm_ops.specs.Integers.{positions, bit, one_if, signed, unsigned, quotient, remainder, div_u, rem_u, div_s, rem_s, bitwise, and, or, xor, rotl, rotr, clz, ctz, popcnt}

power : (w : ℕ) → 0 < 2 ^ w
power w = pow_pos w

pub rest_fits : (w n : ℕ) → n % 2 ^ w < 2 ^ w
rest_fits w n = let p : 0 < 2 ^ w = power w in omega arith

pub unsigned_fits : (w : ℕ) (z : ℤ) → unsigned w z < 2 ^ w
unsigned_fits w (pos n) = rest_fits w n
unsigned_fits w (negsuc n) = let p : 0 < 2 ^ w = power w in omega arith

pub quotient_fits : (w a b : ℕ) → a < 2 ^ w → a / b < 2 ^ w
quotient_fits w a b h = let less : a / b ≤ a = div-le_self a b in omega arith

-- a result is a value of that width, or it traps
abbrev pub ResultFits : ℕ → Result ℕ Trap → Type 0
ResultFits w (Ok n) = n < 2 ^ w
ResultFits w (Err trap) = Unit {0}

either_fits : (w : ℕ) (b : Bool) (x y : Result ℕ Trap) → ResultFits w x → (b ≡ false → ResultFits w y) → ResultFits w (if b then x else y)
either_fits w true x y one two = one
either_fits w false x y one two = two refl

pub div_u_fits : (w a b : ℕ) → a < 2 ^ w → ResultFits w (div_u a b)
div_u_fits w a b h = either_fits w (b == 0) (Err DivideByZero) (Ok (a / b)) tt (λ e. quotient_fits w a b h)

rem_below : (w a b : ℕ) → a < 2 ^ w → (b == 0) ≡ false → a % b < 2 ^ w
rem_below w a b h e = let some : 0 < b = grind (arith, nat_tests) in omega arith

pub rem_u_fits : (w a b : ℕ) → a < 2 ^ w → ResultFits w (rem_u a b)
rem_u_fits w a b h = either_fits w (b == 0) (Err DivideByZero) (Ok (a % b)) tt (λ e. rem_below w a b h e)

pub div_s_fits : (w a b : ℕ) → ResultFits w (div_s w a b)
div_s_fits w a b =
    either_fits w (b == 0) (Err DivideByZero) (if a == 2 ^ (w - 1) && b == 2 ^ w - 1 then Err Overflow else Ok (unsigned w (quotient (signed w a) (signed w b)))) tt
    (λ e. either_fits w (a == 2 ^ (w - 1) && b == 2 ^ w - 1) (Err Overflow) (Ok (unsigned w (quotient (signed w a) (signed w b)))) tt
    (λ f. unsigned_fits w (quotient (signed w a) (signed w b))))

pub rem_s_fits : (w a b : ℕ) → ResultFits w (rem_s w a b)
rem_s_fits w a b =
    either_fits w (b == 0) (Err DivideByZero) (Ok (unsigned w (remainder (signed w a) (signed w b)))) tt
    (λ e. unsigned_fits w (remainder (signed w a) (signed w b)))

-- numbers at places below their powers add up below the next power
summed : (g : ℕ → ℕ) → ((i : ℕ) → g i ≤ 2 ^ i) → (n from start : ℕ) →
    fold (λ (a : ℕ) (x : ℕ). a + g x) start (range_with_len from n) + 2 ^ from ≤ start + 2 ^ (from + n)
summed g h zero from start = let e : from + 0 ≡ from = omega arith in rw e (omega arith)
summed g h (suc n) from start =
    let here : g from ≤ 2 ^ from = h from in
    let next : fold (λ (a : ℕ) (x : ℕ). a + g x) (start + g from) (range_with_len (from + 1) n) + 2 ^ (from + 1) ≤ (start + g from) + 2 ^ ((from + 1) + n) =
    summed g h n (from + 1) (start + g from) in
    let twice : 2 ^ (from + 1) ≡ 2 ^ from * 2 ^ 1 = pow-add 2 from 1 in
    let all : from + suc n ≡ (from + 1) + n = omega arith in
    rw all (omega arith)

one_bit : (c p : ℕ) → c ≤ 1 → c * p ≤ p
one_bit zero p h = omega arith
one_bit (suc zero) p h = omega arith
one_bit (suc (suc c)) p h = absurd (omega arith)

bitwise_fits : (f : ℕ → ℕ → ℕ) → ((x y : ℕ) → x ≤ 1 → y ≤ 1 → f x y ≤ 1) → (w a b : ℕ) → bitwise f w a b < 2 ^ w
unfolding bitwise
bitwise_fits f h w a b =
    let low : (n i : ℕ) → bit n i ≤ 1 = λ n i. omega arith in
    let all = summed (λ i. f (bit a i) (bit b i) * 2 ^ i)
    (λ i. one_bit (f (bit a i) (bit b i)) (2 ^ i) (h (bit a i) (bit b i) (low a i) (low b i))) w 0 0 in
    let e : 0 + w ≡ w = omega arith in
    let sum : sum_by (λ i. f (bit a i) (bit b i) * 2 ^ i) (positions w) + 2 ^ 0 ≤ 0 + 2 ^ w =
    subst (λ (n : ℕ). sum_by (λ i. f (bit a i) (bit b i) * 2 ^ i) (positions w) + 2 ^ 0 ≤ 0 + 2 ^ n) e all in
    omega arith

pub and_fits : (w a b : ℕ) → and w a b < 2 ^ w
and_fits w a b = bitwise_fits (λ x y. min x y) (λ x y h k. omega arith) w a b

pub or_fits : (w a b : ℕ) → or w a b < 2 ^ w
or_fits w a b = bitwise_fits (λ x y. max x y) (λ x y h k. omega arith) w a b

pub xor_fits : (w a b : ℕ) → xor w a b < 2 ^ w
xor_fits w a b = bitwise_fits (λ x y. (x + y) % 2) (λ x y h k. omega arith) w a b

digits : (x y m n : ℕ) → x < m → y < n → x * n + y < m * n
digits x y m n h k =
    let more : (x + 1) * n ≤ m * n = mul-le-mul_right n (omega arith) in
    omega arith

-- what is moved up, and what comes in below
moved : (a j k : ℕ) → a < 2 ^ (j + k) → (a * 2 ^ k) % 2 ^ (j + k) + a / 2 ^ j < 2 ^ (j + k)
moved a j k h =
    let whole : 2 ^ (j + k) ≡ 2 ^ j * 2 ^ k = pow-add 2 j k in
    let back : a * 2 ^ k / 2 ^ k ≡ a = mul-div_cancel a (power k) in
    let clean : a * 2 ^ k % 2 ^ k ≡ 0 = mul-mod_left a (2 ^ k) in
    let up : (a * 2 ^ k) % 2 ^ (j + k) ≡ (a % 2 ^ j) * 2 ^ k =
    mod-pow-add (a * 2 ^ k) j k ∙ ap (λ (x : ℕ). x % 2 ^ j * 2 ^ k + a * 2 ^ k % 2 ^ k) back
    ∙ ap (λ (x : ℕ). a % 2 ^ j * 2 ^ k + x) clean ∙ add-zero (a % 2 ^ j * 2 ^ k) in
    let below : a < 2 ^ k * 2 ^ j = omega arith in
    let down : a / 2 ^ j < 2 ^ k = (div-lt_iff_lt-mul {k = 2 ^ j} {x = a} {y = 2 ^ k} (power j)).1 below in
    rw (up, whole) (digits (a % 2 ^ j) (a / 2 ^ j) (2 ^ j) (2 ^ k) (rest_fits j a) down)

pub rotl_fits : (w a b : ℕ) → 0 < w → a < 2 ^ w → rotl w a b < 2 ^ w
rotl_fits w a b some h =
    let k : b % w < w = omega arith in
    let whole : (w - b % w) + b % w ≡ w = omega arith in
    subst (λ (n : ℕ). (a * 2 ^ (b % w)) % 2 ^ n + a / 2 ^ (w - b % w) < 2 ^ n) whole
    (moved a (w - b % w) (b % w) (subst (λ (n : ℕ). a < 2 ^ n) (sym whole) h))

pub rotr_fits : (w a b : ℕ) → 0 < w → a < 2 ^ w → rotr w a b < 2 ^ w
rotr_fits w a b some h =
    let k : b % w < w = omega arith in
    let whole : b % w + (w - b % w) ≡ w = omega arith in
    let turned : (a * 2 ^ (w - b % w)) % 2 ^ w + a / 2 ^ (b % w) < 2 ^ w =
    subst (λ (n : ℕ). (a * 2 ^ (w - b % w)) % 2 ^ n + a / 2 ^ (b % w) < 2 ^ n) whole
    (moved a (b % w) (w - b % w) (subst (λ (n : ℕ). a < 2 ^ n) (sym whole) h)) in
    omega arith

count_fits : (w : ℕ) (p : ℕ → Bool) → count_by p (positions w) ≤ w
count_fits w p = let most : count_by p (positions w) ≤ length (positions w) = count_by-le-length p (positions w) in
    let length_is : length (positions w) ≡ w = length-range_with_len 0 w in omega arith

pub clz_fits : (w n : ℕ) → clz w n ≤ w
unfolding clz
clz_fits w n = count_fits w _

pub ctz_fits : (w n : ℕ) → ctz w n ≤ w
unfolding ctz
ctz_fits w n = count_fits w _

pub popcnt_fits : (w n : ℕ) → popcnt w n ≤ w
unfolding popcnt
popcnt_fits w n = count_fits w _

pub one_if_fits : (b : Bool) → one_if b ≤ 1
one_if_fits true = omega arith
one_if_fits false = omega arith
