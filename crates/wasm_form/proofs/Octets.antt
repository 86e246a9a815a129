-- Lists of bytes, each below 2 ^ 8.
use Rattle.std.proofs.Common.{◌≡◌, ℕ, ◌^◌, ◌<◌, List, [], ◌∷◌, All, Bool, true, false, ◌&&◌, nat_lt, arith, refl}
use Rattle.std.proofs.lemmas.Bool.Decides.{nat_tests}
use Rattle.std.proofs.lemmas.List.Elements.{All-nil, All-cons}

abbrev pub are_octets : List ℕ → Bool
are_octets [] = true
are_octets (b ∷ bytes) = nat_lt b 256 && are_octets bytes

both : (a b : Bool) → (a && b) ≡ true → (a ≡ true) × (b ≡ true)
both true true e = (refl, refl)
both true false e = absurd (cc)
both false b e = absurd (cc)

low : (b : ℕ) → nat_lt b 256 ≡ true → b < 2 ^ 8
low b h = grind (arith, nat_tests)

-- what the test shows of bytes that are written out
pub octets_by : (bytes : List ℕ) → are_octets bytes ≡ true → All (λ b. b < 2 ^ 8) bytes
octets_by [] e = All-nil (λ b. b < 2 ^ 8)
octets_by (b ∷ bytes) e =
    let h : (nat_lt b 256 ≡ true) × (are_octets bytes ≡ true) = both (nat_lt b 256) (are_octets bytes) e in
    All-cons (λ b. b < 2 ^ 8) b bytes (low b h.0) (octets_by bytes h.1)

pub octets_cons : (b : ℕ) (bytes : List ℕ) → b < 2 ^ 8 → All (λ b. b < 2 ^ 8) bytes → All (λ b. b < 2 ^ 8) (b ∷ bytes)
octets_cons b bytes h k = All-cons (λ b. b < 2 ^ 8) b bytes h k
