-- The integer operations (Core 1.0, 4.3.2), over plain numbers from 0 up to 2 ^ W, where W is 32 or 64.
use Rattle.std.specs.Prelude.{◌≡◌, ℕ, suc, ◌+◌, ◌-◌, ◌*◌, ◌/◌, ◌%◌, ◌^◌, ◌⊎◌, Bool, ◌&&◌, ◌==◌, not, nat_lt, nat_le, if◌then◌else◌, List, min, max, count_by, sum_by, ℤ, pos, negsuc, ◌-ℤ◌, neg_ℤ, int_lt, int_le, Result, Ok, Err}
use Rattle.std.specs.List.{range_with_len}
use Rattle.wasm_ops.specs.declared.trap.Trap.{Trap}
use Rattle.wasm_ops.specs.declared.trap.Trap.TheVariants.{DivideByZero, Overflow}

-- the widths of the integer types
abbrev pub IsIntWidth : ℕ → Type 0
IsIntWidth W = (W ≡ 32) ⊎ (W ≡ 64)

-- the places of the bits, from the lowest, 0, up
abbrev pub positions : ℕ → List ℕ
positions W = range_with_len 0 W

-- the bit of n at place i
abbrev pub bit : ℕ → ℕ → ℕ
bit n i = n / 2 ^ i % 2

-- 1 where a test holds, or 0
abbrev pub one_if : Bool → ℕ
one_if test = if test then 1 else 0

-- the signed reading of n: n itself below 2 ^ (W - 1), and from there n - 2 ^ W
abbrev pub signed : ℕ → ℕ → ℤ
signed W n = if nat_lt n (2 ^ (W - 1)) then pos n else pos n -ℤ pos (2 ^ W)

-- the number from 0 up to 2 ^ W that leaves what z leaves on division by 2 ^ W; `negsuc n` is -(n + 1)
abbrev pub unsigned : ℕ → ℤ → ℕ
unsigned W (pos n) = n % 2 ^ W
unsigned W (negsuc n) = 2 ^ W - 1 - n % 2 ^ W

-- the quotient of two integers, rounded toward zero
abbrev pub quotient : ℤ → ℤ → ℤ
quotient (pos a) (pos b) = pos (a / b)
quotient (pos a) (negsuc b) = neg_ℤ (pos (a / suc b))
quotient (negsuc a) (pos b) = neg_ℤ (pos (suc a / b))
quotient (negsuc a) (negsuc b) = pos (suc a / suc b)

-- the remainder of that division, which has the sign of the dividend
abbrev pub remainder : ℤ → ℤ → ℤ
remainder (pos a) (pos b) = pos (a % b)
remainder (pos a) (negsuc b) = pos (a % suc b)
remainder (negsuc a) (pos b) = neg_ℤ (pos (suc a % b))
remainder (negsuc a) (negsuc b) = neg_ℤ (pos (suc a % suc b))

-- the quotient of an integer and a power of two, rounded down
abbrev pub floor_quotient : ℤ → ℕ → ℤ
floor_quotient (pos a) power = pos (a / power)
floor_quotient (negsuc a) power = negsuc (a / power)

-- 4.3.2, iadd, isub, imul
abbrev pub add : ℕ → ℕ → ℕ → ℕ
add W a b = (a + b) % 2 ^ W

abbrev pub sub : ℕ → ℕ → ℕ → ℕ
sub W a b = (a + 2 ^ W - b) % 2 ^ W

abbrev pub mul : ℕ → ℕ → ℕ → ℕ
mul W a b = (a * b) % 2 ^ W

-- idiv_u, irem_u: no quotient by zero
abbrev pub div_u : ℕ → ℕ → Result ℕ Trap
div_u a b = if b == 0 then Err DivideByZero else Ok (a / b)

abbrev pub rem_u : ℕ → ℕ → Result ℕ Trap
rem_u a b = if b == 0 then Err DivideByZero else Ok (a % b)

-- idiv_s: nor one that does not fit, as that of the least number, 2 ^ (W - 1) unsigned, by -1, 2 ^ W - 1 unsigned
abbrev pub div_s : ℕ → ℕ → ℕ → Result ℕ Trap
div_s W a b =
    if b == 0 then Err DivideByZero
    else if a == 2 ^ (W - 1) && b == 2 ^ W - 1 then Err Overflow
    else Ok (unsigned W (quotient (signed W a) (signed W b)))

-- irem_s
abbrev pub rem_s : ℕ → ℕ → ℕ → Result ℕ Trap
rem_s W a b =
    if b == 0 then Err DivideByZero
    else Ok (unsigned W (remainder (signed W a) (signed W b)))

-- iand, ior, ixor: the number whose bit at each place is made of the operands' bits there
unfoldable pub bitwise : (ℕ → ℕ → ℕ) → ℕ → ℕ → ℕ → ℕ
bitwise f W a b = sum_by (λ i. f (bit a i) (bit b i) * 2 ^ i) (positions W)

abbrev pub and : ℕ → ℕ → ℕ → ℕ
and W a b = bitwise (λ x y. min x y) W a b

abbrev pub or : ℕ → ℕ → ℕ → ℕ
or W a b = bitwise (λ x y. max x y) W a b

abbrev pub xor : ℕ → ℕ → ℕ → ℕ
xor W a b = bitwise (λ x y. (x + y) % 2) W a b

-- ishl, ishr_u, ishr_s: by a count of places modulo W
abbrev pub shl : ℕ → ℕ → ℕ → ℕ
shl W a b = (a * 2 ^ (b % W)) % 2 ^ W

abbrev pub shr_u : ℕ → ℕ → ℕ → ℕ
shr_u W a b = a / 2 ^ (b % W)

abbrev pub shr_s : ℕ → ℕ → ℕ → ℕ
shr_s W a b = unsigned W (floor_quotient (signed W a) (2 ^ (b % W)))

-- irotl, irotr: what leaves at one end comes in at the other
abbrev pub rotl : ℕ → ℕ → ℕ → ℕ
rotl W a b = (a * 2 ^ (b % W)) % 2 ^ W + a / 2 ^ (W - b % W)

abbrev pub rotr : ℕ → ℕ → ℕ → ℕ
rotr W a b = a / 2 ^ (b % W) + (a * 2 ^ (W - b % W)) % 2 ^ W

-- iclz: how many places have no 1 at them or above
unfoldable pub clz : ℕ → ℕ → ℕ
clz W n = count_by (λ i. nat_lt n (2 ^ i)) (positions W)

-- ictz: how many places have no 1 at them or below
unfoldable pub ctz : ℕ → ℕ → ℕ
ctz W n = count_by (λ i. n % 2 ^ (i + 1) == 0) (positions W)

-- ipopcnt: how many places have a 1
unfoldable pub popcnt : ℕ → ℕ → ℕ
popcnt W n = count_by (λ i. bit n i == 1) (positions W)

-- ieqz, ieq, ine
abbrev pub eqz : ℕ → Bool
eqz n = n == 0

abbrev pub eq : ℕ → ℕ → Bool
eq a b = a == b

abbrev pub ne : ℕ → ℕ → Bool
ne a b = not (a == b)

-- ilt_u, igt_u, ile_u, ige_u
abbrev pub lt_u : ℕ → ℕ → Bool
lt_u a b = nat_lt a b

abbrev pub gt_u : ℕ → ℕ → Bool
gt_u a b = nat_lt b a

abbrev pub le_u : ℕ → ℕ → Bool
le_u a b = nat_le a b

abbrev pub ge_u : ℕ → ℕ → Bool
ge_u a b = nat_le b a

-- ilt_s, igt_s, ile_s, ige_s: by the order of the integers
abbrev pub lt_s : ℕ → ℕ → ℕ → Bool
lt_s W a b = int_lt (signed W a) (signed W b)

abbrev pub gt_s : ℕ → ℕ → ℕ → Bool
gt_s W a b = int_lt (signed W b) (signed W a)

abbrev pub le_s : ℕ → ℕ → ℕ → Bool
le_s W a b = int_le (signed W a) (signed W b)

abbrev pub ge_s : ℕ → ℕ → ℕ → Bool
ge_s W a b = int_le (signed W b) (signed W a)

-- wrap_64,32, extend_u_32,64 and extend_s_32,64
abbrev pub wrap : ℕ → ℕ
wrap n = n % 2 ^ 32

abbrev pub extend_s : ℕ → ℕ
extend_s n = unsigned 64 (signed 32 n)
