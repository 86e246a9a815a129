-- A text of parameters that was read up to a place.
use Rattle.std.proofs.Common.{◌≡◌, ◌≢◌, ℕ, ◌<◌, ◌≤◌, List, [], ◌∷◌, ◌++◌, length, take, drop, All}
use Rattle.std.proofs.Common.{refl, ap, sym, ◌∙◌, subst, append_assoc, length-append, arith}
use Rattle.std.proofs.lemmas.List.{take_at, drop_at, take-append-drop, append-nil, flat_map_more}
use Rattle.std.proofs.lemmas.List.Elements.{All-nil, All-push}
use Rattle.wasm_ops.specs.declared.num.Num.{Num}
use Rattle.wasm_ops.specs.declared.num.Num.TheVariants.{I32, I64}
use Rattle.host_port.specs.TypedValue.{TypedValue}
use Rattle.spawn_config.specs.Spelling.{IsValueOf, type_byte, value_bytes, param_bytes, spelling, Spells, AreParams}

-- every parameter has seventeen bytes
length-bytes : (num : Num) (value : ℕ) → length (type_byte num ∷ value_bytes num value) ≡ 17
length-bytes I32 value = refl
length-bytes I64 value = refl

pub length-param_bytes : (p : TypedValue) → length (param_bytes p) ≡ 17
length-param_bytes p = length-bytes p.num p.value

-- the parameters that were read are a front of the text, and whatever spells the text spells what is left too
pub record Reads (bytes : List ℕ) (params : List TypedValue) (left : List ℕ) : Type 0 where
  pub front : bytes ≡ spelling params ++ left
  pub values : All (λ param. IsValueOf param.num param.value) params
  pub rest : (all : List TypedValue) → bytes ≡ spelling all → (others : List TypedValue) × (left ≡ spelling others)

pub reads_start : (bytes : List ℕ) (params : List TypedValue) → params ≡ [] → Reads bytes params bytes
reads_start bytes params none = subst (λ (ps : List TypedValue). Reads bytes ps bytes) (sym none) (record {
  front = refl;
  values = All-nil (λ param. IsValueOf param.num param.value);
  rest = λ all is. (all, is);
})

-- what is left where it is some parameters and begins with this one
rest_of : (left : List ℕ) (others : List TypedValue) → left ≡ spelling others → 0 < length left
    → (q : TypedValue) × (qs : List TypedValue) × (left ≡ param_bytes q ++ spelling qs)
rest_of left [] is some = let n = ap length is in absurd (omega (arith, n, some))
rest_of left (q ∷ qs) is some = (q, qs, is)

pub reads_more : (bytes : List ℕ) (params : List TypedValue) (left : List ℕ) (p : TypedValue)
    → Reads bytes params left → 17 ≤ length left → take 17 left ≡ param_bytes p → IsValueOf p.num p.value
    → Reads bytes (params ++ p ∷ []) (drop 17 left)
reads_more bytes params left p reads long piece value = record {
  front =
      reads.front
      ∙ ap (λ xs. spelling params ++ xs) (sym (take-append-drop 17 left) ∙ ap (λ xs. xs ++ drop 17 left) piece)
      ∙ sym (append_assoc (spelling params) (param_bytes p) (drop 17 left))
      ∙ ap (λ xs. xs ++ drop 17 left) (flat_map_more param_bytes [] params p);
  values = All-push (λ param. IsValueOf param.num param.value) params p reads.values value;
  rest = λ all is.
      let o = reads.rest all is in
      let r = rest_of left o.0 o.1 (omega arith) in
      (r.1, ap (drop 17) r.2 ∙ drop_at (param_bytes r.0) (spelling r.1) 17 (length-param_bytes r.0));
}

-- nothing spells the text where what is left is too short, or does not begin with a parameter
pub bad_short : (bytes : List ℕ) (params : List TypedValue) (left : List ℕ) → Reads bytes params left
    → 0 < length left → length left < 17 → (all : List TypedValue) → bytes ≢ spelling all
bad_short bytes params left reads some short all is =
    let o = reads.rest all is in
    let r = rest_of left o.0 o.1 some in
    let n = ap length r.2 ∙ length-append (param_bytes r.0) (spelling r.1) in
    let m = length-param_bytes r.0 in
    absurd (omega (arith, n, m, short))

pub bad_piece : (bytes : List ℕ) (params : List TypedValue) (left : List ℕ) → Reads bytes params left
    → 0 < length left → ((p : TypedValue) → take 17 left ≢ param_bytes p)
    → (all : List TypedValue) → bytes ≢ spelling all
bad_piece bytes params left reads some none all is =
    let o = reads.rest all is in
    let r = rest_of left o.0 o.1 some in
    none r.0 (ap (take 17) r.2 ∙ take_at (param_bytes r.0) (spelling r.1) 17 (length-param_bytes r.0))

-- where some parameters spell the text, what is left has room for the next, and begins with it
pub long_enough : (bytes : List ℕ) (params : List TypedValue) (left : List ℕ) → Reads bytes params left
    → AreParams bytes → 0 < length left → 17 ≤ length left
long_enough bytes params left reads are some =
    let o = reads.rest are.0 are.1.spelled in
    let r = rest_of left o.0 o.1 some in
    let n = ap length r.2 ∙ length-append (param_bytes r.0) (spelling r.1) in
    let m = length-param_bytes r.0 in
    omega (arith, n, m)

pub reads_all : (bytes : List ℕ) (params : List TypedValue) (left : List ℕ) → Reads bytes params left → left ≡ []
    → Spells bytes params
reads_all bytes params left reads none = record {
  spelled = reads.front ∙ ap (λ xs. spelling params ++ xs) none ∙ append-nil (spelling params);
  values = reads.values;
}
