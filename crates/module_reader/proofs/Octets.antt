-- The bytes that the machine has, as a list of numbers.
use Rattle.std.proofs.Common.{ℕ, suc, List, All, get_or, Fits, w8, ◌^◌, ◌<◌, [], ◌∷◌, arith}
use Rattle.std.proofs.lemmas.List.Elements.{All-nil, All-cons}

-- each of the bytes is below 2 ^ 8
pub octets : (bytes : List ℕ) → ((i : ℕ) → Fits w8 (get_or bytes i 0)) → All (λ b. b < 2 ^ 8) bytes
octets [] h = All-nil (λ b. b < 2 ^ 8)
octets (b ∷ bytes) h = let fits : Fits w8 b = h 0 in All-cons (λ b. b < 2 ^ 8) b bytes (omega (arith, fits)) (octets bytes (λ i. h (suc i)))
