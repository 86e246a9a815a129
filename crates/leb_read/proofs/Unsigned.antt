-- Unsigned spellings.
use Rattle.std.proofs.Common.{◌≡◌, ℕ, ◌+◌, ◌-◌, ◌*◌, ◌^◌, ◌<◌, ◌≤◌, List, [], ◌∷◌, arith, ap, subst, sym, refl, ◌∙◌}
use Rattle.std.proofs.lemmas.Nat.{pow-add}
use Rattle.leb_read.specs.Numbers.{SpellsUnsigned, MayEndU32}
use Rattle.leb_read.specs.Reading.{IsRead, MayEndUnsigned}
use Rattle.leb_read.proofs.Shapes.{Shape, Spelled}

-- a byte that ends a number of N bits
pub last_byte : (N b v : ℕ) (bytes rest : List ℕ) → bytes ≡ b ∷ rest → v ≡ b → b < 2 ^ 7 → b < 2 ^ N → IsRead (λ s. SpellsUnsigned N s v) bytes rest
last_byte N b v bytes rest here same low fits = (b ∷ [], (low, fits, same), here)

-- a byte that continues, before a spelling of the bits above it
pub longer : (N M b low v : ℕ) (s : List ℕ) → N ≡ M + 7 → 0 < M → 2 ^ 7 ≤ b → b < 2 ^ 8 → low ≡ b - 2 ^ 7 → SpellsUnsigned M s v → SpellsUnsigned N (b ∷ s) (2 ^ 7 * v + low)
longer N M b low v [] bits some more byte same high = absurd high
longer N M b low v (c ∷ s) bits some more byte same high =
    (more, byte, omega arith, v, subst (λ k. SpellsUnsigned k (c ∷ s) v) (omega arith) high, omega arith)

pub read_longer : (N M b low v : ℕ) (bytes inner rest : List ℕ) → bytes ≡ b ∷ inner → N ≡ M + 7 → 0 < M → 2 ^ 7 ≤ b → b < 2 ^ 8 → low ≡ b - 2 ^ 7 → IsRead (λ s. SpellsUnsigned M s v) inner rest → IsRead (λ s. SpellsUnsigned N s (2 ^ 7 * v + low)) bytes rest
read_longer N M b low v bytes inner rest here bits some more byte same h =
    (b ∷ h.0, longer N M b low v h.0 bits some more byte same h.1, here ∙ ap (λ l. b ∷ l) h.2)

-- a number of N bits is below 2 ^ N
pub fits : (N v : ℕ) (s : List ℕ) → SpellsUnsigned N s v → v < 2 ^ N
fits N v [] h = absurd h
fits N v (b ∷ []) h = omega (arith, h.1, h.2)
fits N v (b ∷ c ∷ s) h =
    let high : h.3 < 2 ^ (N - 7) = fits (N - 7) h.3 (c ∷ s) h.4 in
    let split : 2 ^ ((N - 7) + 7) ≡ 2 ^ (N - 7) * 2 ^ 7 = pow-add 2 (N - 7) 7 in
    let same : 2 ^ ((N - 7) + 7) ≡ 2 ^ N = ap (λ k. 2 ^ k) (omega (arith, h.2)) in
    omega (arith, high, split, same, h.0, h.1, h.5)

-- the shape of a spelling
pub shape : (N more bits v : ℕ) (s : List ℕ) → N ≡ 7 * more + bits → bits ≤ 7 → SpellsUnsigned N s v → Shape more (MayEndUnsigned bits) s
shape N more bits v [] sum small h = absurd h
shape N more bits v (b ∷ []) sum small h =
    (h.0, λ none. let same : 2 ^ N ≡ 2 ^ bits = ap (λ k. 2 ^ k) (omega arith) in omega (arith, h.1))
shape N more bits v (b ∷ c ∷ s) sum small h =
    let some : 0 < more = omega (arith, h.2) in
    (h.0, some, shape (N - 7) (more - 1) bits h.3 (c ∷ s) (omega arith) small h.4)

-- a spelling has one value
pub one_value : (N v w : ℕ) (s : List ℕ) → SpellsUnsigned N s v → SpellsUnsigned N s w → v ≡ w
one_value N v w [] h k = absurd h
one_value N v w (b ∷ []) h k = h.2 ∙ sym k.2
one_value N v w (b ∷ c ∷ s) h k =
    let high : h.3 ≡ k.3 = one_value (N - 7) h.3 k.3 (c ∷ s) h.4 k.4 in
    omega (arith, h.5, k.5)

-- the spellings of a u32
pub u32_spelled : Spelled (SpellsUnsigned 32) 4 MayEndU32
u32_spelled = record { shaped = λ s v h. shape 32 4 4 v s refl (omega arith) h; one = λ s v w. one_value 32 v w s }

-- how a spelling of any width ends
pub ended : (N more v : ℕ) (s : List ℕ) → N ≤ more → SpellsUnsigned N s v → Shape more (λ _. Unit {0}) s
ended N more v [] room h = absurd h
ended N more v (b ∷ []) room h = (h.0, λ _. tt)
ended N more v (b ∷ c ∷ s) room h =
    (h.0, omega (arith, h.2), ended (N - 7) (more - 1) h.3 (c ∷ s) (omega (arith, h.2)) h.4)
