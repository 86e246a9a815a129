-- What seventeen bytes spell, and what a text of parameters begins with.
use Rattle.std.proofs.Common.{◌≡◌, ℕ, suc, ◌<◌, ◌≤◌, List, [], ◌∷◌, ◌++◌, length, get_or, drop, replicate, All, true}
use Rattle.std.proofs.Common.{false, ltb, refl, ap, sym, ◌∙◌, subst, arith}
use Rattle.std.proofs.lemmas.Bool.Decides.{nat_tests}
use Rattle.std.specs.Int.{w32, w64, to_le_bytes, from_le_bytes}
use Rattle.std.proofs.lemmas.Nat.{le_bytes_4, le_bytes_8}
use Rattle.std.proofs.lemmas.List.{get_or_append_left, get_or_past}
use Rattle.std.proofs.lemmas.List.Elements.{All-head, All-tail}

zeros : (n : ℕ) (xs : List ℕ) → length xs ≡ n → All (λ x. x ≡ 0) xs → xs ≡ replicate n 0
zeros n [] long all = subst (λ m. ◌≡◌ {A = List ℕ} [] (replicate m 0)) long refl
zeros n (x ∷ xs) long all =
    let rest = zeros (length xs) xs refl (All-tail (λ y. y ≡ 0) x xs all) in
    let head : x ≡ 0 = All-head (λ y. y ≡ 0) x xs all in
    subst (λ m. ◌≡◌ {A = List ℕ} (x ∷ xs) (replicate m 0)) long (ap (λ y. y ∷ xs) head ∙ ap (λ ys. 0 ∷ ys) rest)

front_fits : (xs ys : List ℕ) → ((i : ℕ) → get_or (xs ++ ys) i 0 < 256) → (i : ℕ) → get_or xs i 0 < 256
front_fits xs ys fits i =
    elim (ltb i (length xs)) as (λ b. ltb i (length xs) ≡ b → get_or xs i 0 < 256) [
      | true ↦ λ t.
          let lt : i < length xs = grind (arith, nat_tests) in
          let same = get_or_append_left xs ys 0 i lt in
          let h = fits i in
          omega (arith, same, h)
      | false ↦ λ t.
          let le : length xs ≤ i = grind (arith, nat_tests) in
          let past = get_or_past xs i 0 le in
          omega (arith, past)
    ] refl

-- an i32 whose last twelve bytes are zero
pub spells_i32 : (s : List ℕ) (n : ℕ) → length s ≡ 17 → get_or s 0 0 ≡ 127 → All (λ x. x ≡ 0) (drop 5 s)
    → ((i : ℕ) → get_or s i 0 < 256)
    → n ≡ from_le_bytes w32 (get_or s 1 0 ∷ get_or s 2 0 ∷ get_or s 3 0 ∷ get_or s 4 0 ∷ [])
    → s ≡ 127 ∷ (to_le_bytes w32 n ++ replicate 12 0)
spells_i32 [] n long first zero fits is = absurd (omega arith)
spells_i32 (k ∷ []) n long first zero fits is = absurd (omega arith)
spells_i32 (k ∷ a ∷ []) n long first zero fits is = absurd (omega arith)
spells_i32 (k ∷ a ∷ b ∷ []) n long first zero fits is = absurd (omega arith)
spells_i32 (k ∷ a ∷ b ∷ c ∷ []) n long first zero fits is = absurd (omega arith)
spells_i32 (k ∷ a ∷ b ∷ c ∷ d ∷ rest) n long first zero fits is =
    let value = le_bytes_4 (a ∷ b ∷ c ∷ d ∷ []) n refl (front_fits (a ∷ b ∷ c ∷ d ∷ []) rest (λ i. fits (suc i))) is in
    ap (λ x. x ∷ a ∷ b ∷ c ∷ d ∷ rest) first
    ∙ ap (λ xs. 127 ∷ a ∷ b ∷ c ∷ d ∷ xs) (zeros 12 rest (omega arith) zero)
    ∙ ap (λ xs. 127 ∷ (xs ++ replicate 12 0)) (sym value)

-- an i64 whose last eight bytes are zero
pub spells_i64 : (s : List ℕ) (n : ℕ) → length s ≡ 17 → get_or s 0 0 ≡ 126 → All (λ x. x ≡ 0) (drop 9 s)
    → ((i : ℕ) → get_or s i 0 < 256)
    → n ≡ from_le_bytes w64 (get_or s 1 0 ∷ get_or s 2 0 ∷ get_or s 3 0 ∷ get_or s 4 0 ∷ get_or s 5 0 ∷ get_or s 6 0
    ∷ get_or s 7 0 ∷ get_or s 8 0 ∷ [])
    → s ≡ 126 ∷ (to_le_bytes w64 n ++ replicate 8 0)
spells_i64 [] n long first zero fits is = absurd (omega arith)
spells_i64 (k ∷ []) n long first zero fits is = absurd (omega arith)
spells_i64 (k ∷ a ∷ []) n long first zero fits is = absurd (omega arith)
spells_i64 (k ∷ a ∷ b ∷ []) n long first zero fits is = absurd (omega arith)
spells_i64 (k ∷ a ∷ b ∷ c ∷ []) n long first zero fits is = absurd (omega arith)
spells_i64 (k ∷ a ∷ b ∷ c ∷ d ∷ []) n long first zero fits is = absurd (omega arith)
spells_i64 (k ∷ a ∷ b ∷ c ∷ d ∷ e ∷ []) n long first zero fits is = absurd (omega arith)
spells_i64 (k ∷ a ∷ b ∷ c ∷ d ∷ e ∷ f ∷ []) n long first zero fits is = absurd (omega arith)
spells_i64 (k ∷ a ∷ b ∷ c ∷ d ∷ e ∷ f ∷ g ∷ []) n long first zero fits is = absurd (omega arith)
spells_i64 (k ∷ a ∷ b ∷ c ∷ d ∷ e ∷ f ∷ g ∷ h ∷ rest) n long first zero fits is =
    let value = le_bytes_8 (a ∷ b ∷ c ∷ d ∷ e ∷ f ∷ g ∷ h ∷ []) n refl
    (front_fits (a ∷ b ∷ c ∷ d ∷ e ∷ f ∷ g ∷ h ∷ []) rest (λ i. fits (suc i))) is in
    ap (λ x. x ∷ a ∷ b ∷ c ∷ d ∷ e ∷ f ∷ g ∷ h ∷ rest) first
    ∙ ap (λ xs. 126 ∷ a ∷ b ∷ c ∷ d ∷ e ∷ f ∷ g ∷ h ∷ xs) (zeros 8 rest (omega arith) zero)
    ∙ ap (λ xs. 126 ∷ (xs ++ replicate 8 0)) (sym value)
