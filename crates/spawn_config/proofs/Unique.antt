-- The same bytes spell one list of parameters at most.
use Rattle.std.proofs.Common.{◌≡◌, ℕ, List, [], ◌∷◌, ◌++◌, length, get_or, take, drop, All}
use Rattle.std.proofs.Common.{refl, ap, sym, ◌∙◌, length-append, arith}
use Rattle.std.proofs.lemmas.List.{take_at, drop_at}
use Rattle.std.proofs.lemmas.List.Elements.{All-head, All-tail}
use Rattle.std.proofs.lemmas.Nat.{from_le_bytes-to_le_bytes_4, from_le_bytes-to_le_bytes_8}
use Rattle.std.specs.Int.{w32, w64, from_le_bytes}
use Rattle.wasm_ops.specs.declared.num.Num.{Num}
use Rattle.wasm_ops.specs.declared.num.Num.TheVariants.{I32, I64}
use Rattle.host_port.specs.TypedValue.{TypedValue}
use Rattle.spawn_config.specs.Spelling.{IsValueOf, type_byte, value_bytes, param_bytes, spelling, Spells}
use Rattle.spawn_config.proofs.Reading.{length-param_bytes}

-- two values with the same bytes are the same, and so are their types
one_value : (num other : Num) (value value' : ℕ) → IsValueOf num value → IsValueOf other value'
    → type_byte num ∷ value_bytes num value ≡ type_byte other ∷ value_bytes other value'
    → (num ≡ other) × (value ≡ value')
one_value I32 I32 value value' fits fits' same = (
  refl,
  sym (from_le_bytes-to_le_bytes_4 value fits)
      ∙ ap (λ (s : List ℕ). from_le_bytes w32 (take 4 (drop 1 s))) same
      ∙ from_le_bytes-to_le_bytes_4 value' fits',
)
one_value I32 I64 value value' fits fits' same =
    let types : ◌≡◌ {A = ℕ} 127 126 = ap (λ (s : List ℕ). get_or s 0 0) same in
    absurd (omega arith)
one_value I64 I32 value value' fits fits' same =
    let types : ◌≡◌ {A = ℕ} 126 127 = ap (λ (s : List ℕ). get_or s 0 0) same in
    absurd (omega arith)
one_value I64 I64 value value' fits fits' same = (
  refl,
  sym (from_le_bytes-to_le_bytes_8 value fits)
      ∙ ap (λ (s : List ℕ). from_le_bytes w64 (take 8 (drop 1 s))) same
      ∙ from_le_bytes-to_le_bytes_8 value' fits',
)

-- two texts that are the same begin with the same parameter, and the rest is the same too
one_head : (p q : TypedValue) (xs ys : List ℕ) → IsValueOf p.num p.value → IsValueOf q.num q.value
    → param_bytes p ++ xs ≡ param_bytes q ++ ys → (p ≡ q) × (xs ≡ ys)
one_head p q xs ys fits fits' same =
    let heads : param_bytes p ≡ param_bytes q =
    sym (take_at (param_bytes p) xs 17 (length-param_bytes p))
    ∙ ap (take 17) same
    ∙ take_at (param_bytes q) ys 17 (length-param_bytes q) in
    let rests : xs ≡ ys =
    sym (drop_at (param_bytes p) xs 17 (length-param_bytes p))
    ∙ ap (drop 17) same
    ∙ drop_at (param_bytes q) ys 17 (length-param_bytes q) in
    let parts = one_value p.num q.num p.value q.value fits fits' heads in
    let num : p.num ≡ q.num = parts.0 in
    let value : p.value ≡ q.value = parts.1 in
    let whole : p ≡ q =
    ap (λ (n : Num). record { num = n; value = p.value }) num
    ∙ ap (λ (v : ℕ). record { num = q.num; value = v }) value in
    (whole, rests)

-- a text of at least one parameter is not empty
none_left : (p : TypedValue) (xs : List ℕ) → ◌≡◌ {A = List ℕ} [] (param_bytes p ++ xs) → ⊥
none_left p xs empty =
    let long = ap length empty in
    let some = length-param_bytes p in
    omega (arith, long, some, length-append (param_bytes p) xs)

-- two lists of values with the same text are the same
same_texts : (params others : List TypedValue) → All (λ p. IsValueOf p.num p.value) params
    → All (λ p. IsValueOf p.num p.value) others → spelling params ≡ spelling others → params ≡ others
same_texts [] [] fit fit' same = refl
same_texts [] (q ∷ qs) fit fit' same = absurd (none_left q (spelling qs) same)
same_texts (p ∷ ps) [] fit fit' same = absurd (none_left p (spelling ps) (sym same))
same_texts (p ∷ ps) (q ∷ qs) fit fit' same =
    let head = one_head p q (spelling ps) (spelling qs)
    (All-head (λ r. IsValueOf r.num r.value) p ps fit) (All-head (λ r. IsValueOf r.num r.value) q qs fit') same in
    let rest = same_texts ps qs (All-tail (λ r. IsValueOf r.num r.value) p ps fit)
    (All-tail (λ r. IsValueOf r.num r.value) q qs fit') head.1 in
    ap (λ (r : TypedValue). r ∷ ps) head.0 ∙ ap (λ (rs : List TypedValue). q ∷ rs) rest

pub one_list : (bytes : List ℕ) (params others : List TypedValue) → Spells bytes params → Spells bytes others
    → params ≡ others
one_list bytes params others spells spells' =
    same_texts params others spells.values spells'.values (sym spells.spelled ∙ spells'.spelled)
