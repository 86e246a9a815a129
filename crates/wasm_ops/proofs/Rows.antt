-- A row is right by a test that computes, and stands at its place.
use Rattle.std.proofs.Common.{◌≡◌, ℕ, zero, suc, ◌+◌, ◌-◌, ◌<◌, ◌≤◌, ◌==◌, Bool, true, false, ◌&&◌, List, [], ◌∷◌, Option, Some, None, length, map, All, slice_index, slice_index_or, refl, sym, ◌∙◌, ap, subst, arith}
use Rattle.std.specs.Str.{bytes_eq}
use Rattle.std.specs.List.{range_with_len}
use Rattle.std.specs.List.Sorted.{IsStrictlyIncreasing}
use Rattle.std.proofs.lemmas.Slice.Eq.{bytes_eq-Decides}
use Rattle.std.proofs.lemmas.Bool.Decides.{Decides-eqb, Decides-below_and}
use Rattle.std.proofs.lemmas.List.FromFn.{length-range_with_len, get_or-range_with_len}
use Rattle.std.proofs.lemmas.List.{get_or-map, length-map}
use Rattle.std.proofs.lemmas.List.Kept.{IsStrictlyIncreasing-filter}
use Rattle.wasm_ops.specs.declared.instruction.Kind.{Kind}
use Rattle.wasm_ops.specs.declared.instruction.Kind.TheVariants.{Control, Plain, Load, Store, Float}
use Rattle.wasm_ops.specs.declared.num.Num.{Num}
use Rattle.wasm_ops.specs.declared.num.Num.TheVariants.{I32, I64}
use Rattle.wasm_ops.specs.declared.instruction.Row.{Row}
use Rattle.wasm_ops.specs.Names.{name_of}
use Rattle.wasm_ops.specs.Table.{is_instruction, instruction_codes, kind_of, first_of, second_of, result_of, width_of, IsRowOf, IsTable}

-- two kinds are the same
abbrev is_same_kind : Kind → Kind → Bool
is_same_kind Control Control = true
is_same_kind Plain Plain = true
is_same_kind Load Load = true
is_same_kind Store Store = true
is_same_kind Float Float = true
is_same_kind _ _ = false

kind_from_test : (a b : Kind) → is_same_kind a b ≡ true → a ≡ b
kind_from_test Control Control e = refl
kind_from_test Plain Plain e = refl
kind_from_test Load Load e = refl
kind_from_test Store Store e = refl
kind_from_test Float Float e = refl
kind_from_test _ _ e = cc

-- two types, or none, are the same
abbrev is_same_num : Option Num → Option Num → Bool
is_same_num None None = true
is_same_num (Some I32) (Some I32) = true
is_same_num (Some I64) (Some I64) = true
is_same_num _ _ = false

num_from_test : (a b : Option Num) → is_same_num a b ≡ true → a ≡ b
num_from_test None None e = refl
num_from_test (Some I32) (Some I32) e = refl
num_from_test (Some I64) (Some I64) e = refl
num_from_test _ _ e = cc

-- the test of `IsRowOf`
abbrev is_row_of : ℕ → Row → Bool
is_row_of c row =
    (row.code == c) && (bytes_eq row.name.now (name_of c) && (is_same_kind row.kind (kind_of c) && (is_same_num row.first (first_of c)
    && (is_same_num row.second (second_of c) && (is_same_num row.result (result_of c) && (row.width == width_of c))))))

both : (a b : Bool) → (a && b) ≡ true → (a ≡ true) × (b ≡ true)
both true b e = (refl, e)
both false b e = cc

row_from_test : (c : ℕ) (row : Row) → is_row_of c row ≡ true → IsRowOf c row
row_from_test c row e =
    let code = both _ _ e in
    let name = both _ _ code.1 in
    let kind = both _ _ name.1 in
    let first = both _ _ kind.1 in
    let second = both _ _ first.1 in
    let result = both _ _ second.1 in
    record {
      code = (Decides-eqb row.code c).0 code.0;
      name = (bytes_eq-Decides row.name.now (name_of c)).0 name.0;
      kind = kind_from_test _ _ kind.0;
      first = num_from_test _ _ first.0;
      second = num_from_test _ _ second.0;
      result = num_from_test _ _ result.0;
      width = (Decides-eqb row.width (width_of c)).0 result.1;
    }

-- each row is that of its own code, by a test
abbrev pub are_rows : List Row → Bool
are_rows [] = true
are_rows (row ∷ rows) = is_row_of row.code row && are_rows rows

pub rows_from_test : (rows : List Row) → are_rows rows ≡ true → All (λ r. IsRowOf r.code r) rows
rows_from_test [] e k past below = absurd (omega arith)
rows_from_test (row ∷ rows) e zero past below = row_from_test row.code row (both _ _ e).0
rows_from_test (row ∷ rows) e (suc k) past below = rows_from_test rows (both _ _ e).1 k past (omega arith)

-- the codes rise
pub instruction_codes-rise : IsStrictlyIncreasing instruction_codes
instruction_codes-rise =
    IsStrictlyIncreasing-filter is_instruction (range_with_len 0 256) (λ k below.
    let length_is : length (range_with_len 0 256) ≡ 256 = length-range_with_len 0 256 in
    let here : slice_index (range_with_len 0 256) k ≡ 0 + k = get_or-range_with_len 0 256 k 0 (omega arith) in
    let next : slice_index (range_with_len 0 256) (k + 1) ≡ 0 + (k + 1) = get_or-range_with_len 0 256 (k + 1) 0 (omega arith) in
    omega arith)

-- a table, by tests that compute
pub table_from_tests : (rows : List Row) → map (λ r. r.code) rows ≡ instruction_codes → are_rows rows ≡ true → IsTable rows
table_from_tests rows codes right = record {
  codes = codes;
  distinct = let P : List ℕ → Type 0 = λ xs. IsStrictlyIncreasing xs in subst P (sym codes) instruction_codes-rise;
  each = rows_from_test rows right;
}

-- the codes from `low` to `low + n - 1` stand in the list from the place `low - shift` on
abbrev pub is_run : List ℕ → ℕ → ℕ → ℕ → Bool
is_run codes shift low zero = true
is_run codes shift low (suc n) = (slice_index codes (low + n - shift) == low + n) && is_run codes shift low n

in_run : (codes : List ℕ) (shift low n : ℕ) → is_run codes shift low n ≡ true
    → (k : ℕ) → k < n → slice_index codes (low + k - shift) ≡ low + k
in_run codes shift low n =
    (Decides-below_and (λ k. slice_index codes (low + k - shift) == low + k) (λ k. slice_index codes (low + k - shift) ≡ low + k)
    (λ m. is_run codes shift low m) (λ k. Decides-eqb _ _) refl (λ _. refl) n).0

-- the row at the place of a code in such a run is the code's
pub row_in_run : (rows : List Row) (past : Row) (codes : List ℕ) → map (λ r. r.code) rows ≡ codes → All (λ r. IsRowOf r.code r) rows
    → (shift low n : ℕ) → is_run codes shift low n ≡ true
    → (code place : ℕ) → low ≤ code → code < low + n → place ≡ code - shift → place < length rows → IsRowOf code (slice_index_or rows place past)
row_in_run rows past codes listed each shift low n right code place above below is there =
    let k : ℕ = code - low in
    let at : low + k ≡ code = omega arith in
    let within : k < n = omega arith in
    let found : slice_index codes (low + k - shift) ≡ low + k = in_run codes shift low n right k within in
    let spot : low + k - shift ≡ place = omega arith in
    let placed : slice_index codes place ≡ code = subst (λ (p : ℕ). slice_index codes p ≡ code) spot (found ∙ at) in
    let of_row : slice_index (map (λ r. r.code) rows) place ≡ (slice_index_or rows place past).code = get_or-map (λ (r : Row). r.code) rows place past 0 there in
    let same : (slice_index_or rows place past).code ≡ code = sym of_row ∙ (ap (λ (xs : List ℕ). slice_index xs place) listed ∙ placed) in
    subst (λ (c : ℕ). IsRowOf c (slice_index_or rows place past)) same (each place past there)

-- the row at the place that `row` looks at, by the place of the code in its run
pub row_at : (rows : List Row) (past : Row) → IsTable rows → (shift low n : ℕ) → is_run instruction_codes shift low n ≡ true
    → (code place : ℕ) → low ≤ code → code < low + n → place ≡ code - shift → place < 172 → IsRowOf code (slice_index_or rows place past)
row_at rows past table shift low n right code place above below is within =
    let count : length rows ≡ 172 = sym (length-map rows (λ (r : Row). r.code)) ∙ ap (λ (xs : List ℕ). length xs) table.codes in
    row_in_run rows past instruction_codes table.codes table.each shift low n right code place above below is
    (subst (λ (n : ℕ). place < n) (sym count) within)
