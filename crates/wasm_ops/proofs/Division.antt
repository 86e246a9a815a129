-- The signed quotient is the machine's where that is defined.
use Rattle.std.proofs.Common.{◌≡◌, ◌≢◌, ℕ, ◌-◌, ◌^◌, ◌==◌, false, ◌&&◌, Ok, ℤ, pos, negsuc, refl, sym, ap, arith}
use Rattle.std.specs.Prelude.{int_div}
use Rattle.std.proofs.lemmas.Bool.Decides.{nat_tests}
use Rattle.wasm_ops.specs.Integers as int

-- the quotient toward zero is std's
quotient-is : (x y : ℤ) → int.quotient x y ≡ int_div x y
quotient-is (pos a) (pos b) = refl
quotient-is (pos a) (negsuc b) = refl
quotient-is (negsuc a) (pos b) = refl
quotient-is (negsuc a) (negsuc b) = refl

pub div_s-ok : (W a b : ℕ) (x y z : ℤ) (n : ℕ) → b ≢ 0 → (a == 2 ^ (W - 1) && b == 2 ^ W - 1) ≡ false
    → x ≡ int.signed W a → y ≡ int.signed W b → z ≡ int_div x y → n ≡ int.unsigned W z → int.div_s W a b ≡ Ok n
div_s-ok W a b x y z n nonzero fits dividend divisor value bits =
    let tested : (b == 0) ≡ false = grind (arith, nat_tests) in
    let quotient : int.unsigned W (int.quotient (int.signed W a) (int.signed W b)) ≡ n =
    rw (← dividend, ← divisor, quotient-is, ← value) (sym bits) in
    rw (tested, fits) (ap Ok quotient)
