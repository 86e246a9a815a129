-- Numbers, vectors and types are spelled by as many bytes as their least length says.
use Rattle.std.proofs.Common.{◌≡◌, ℕ, ◌+◌, ◌^◌, ◌<◌, ◌≤◌, List, [], ◌∷◌, ◌++◌, length, length-append, sum_by, All, Bool, true, false, Option, Some, None, arith, refl, subst, sym, ◌∙◌}
use Rattle.std.proofs.lemmas.List.Sums.{sum_by-cons}
use Rattle.std.proofs.lemmas.List.Elements.{All-nil, All-head, All-tail, All-append}
use Rattle.std.proofs.lemmas.Bool.Decides.{nat_tests}
use Rattle.wasm_form.specs.Values.{SpellsU32, SpellsItems, SpellsVector, SpellsBytes, SpellsName, SpellsSized}
use Rattle.wasm_form.specs.Types.{SpellsValType, SpellsBlockType, SpellsFuncType, SpellsMinMax, SpellsLimits, SpellsTableType, SpellsMutability, SpellsGlobalType}
use Rattle.wasm_form.specs.Least.{least_unsigned, least_vector, least_bytes, least_sized, least_val_type, least_func_type, least_max, least_limits, least_table_type}
use Rattle.wasm_form.specs.Ranges.{IsU32, IsOctet, HasMaxRange, HasBoundsRange, IsText}
use Rattle.wasm_form.specs.declared.value_type.ValType.{ValType}
use Rattle.wasm_form.specs.declared.value_type.ValType.TheVariants.{I32, I64, F32, F64}
use Rattle.wasm_form.specs.declared.types.FuncType.{FuncType}
use Rattle.wasm_form.specs.declared.types.Bounds.{Bounds}
use Rattle.wasm_form.specs.declared.types.GlobalType.{GlobalType}
use Rattle.wasm_form.proofs.Octets.{octets_by, octets_cons}
use Rattle.wasm_form.proofs.LeastNumbers.{Spelling, shortest_unsigned}

-- the same bytes, said otherwise
pub as_long : {A : Type 0} (S : List ℕ → A → Type 0) (x : A) (m n : ℕ) → m ≡ n → Spelling S x m → Spelling S x n
as_long S x m n e h = record { bytes = h.bytes; octets = h.octets; spells = h.spells; long = h.long ∙ e }

-- a spelling after another is one of the whole
pub join : {A B C : Type 0} (S : List ℕ → A → Type 0) (T : List ℕ → B → Type 0) (U : List ℕ → C → Type 0) (x : A) (y : B) (z : C) (m n : ℕ)
    → ((s t : List ℕ) → S s x → T t y → U (s ++ t) z) → Spelling S x m → Spelling T y n → Spelling U z (m + n)
join S T U x y z m n both a b =
    record {
      bytes = a.bytes ++ b.bytes;
      octets = All-append IsOctet a.bytes b.bytes a.octets b.octets;
      spells = both a.bytes b.bytes a.spells b.spells;
      long = omega (arith, length-append a.bytes b.bytes, a.long, b.long);
    }

-- a byte before it
pub lead : {A C : Type 0} (b : ℕ) (S : List ℕ → A → Type 0) (U : List ℕ → C → Type 0) (x : A) (z : C) (n : ℕ) → b < 2 ^ 8
    → ((s : List ℕ) → S s x → U (b ∷ s) z) → Spelling S x n → Spelling U z (1 + n)
lead b S U x z n low both a =
    record { bytes = b ∷ a.bytes; octets = octets_cons b a.bytes low a.octets; spells = both a.bytes a.spells; long = omega (arith, a.long) }

-- one byte
pub single : {A : Type 0} (b : ℕ) (S : List ℕ → A → Type 0) (x : A) → b < 2 ^ 8 → S (b ∷ []) x → Spelling S x 1
single b S x low h = record { bytes = b ∷ []; octets = octets_cons b [] low (octets_by [] refl); spells = h; long = refl }

-- items, each spelled by as few bytes as it can
pub shortest_items : {A : Type 0} (S : List ℕ → A → Type 0) (f : A → ℕ) (C : A → Type 0) → ((x : A) → C x → f x < 2 ^ 32 → Spelling S x (f x))
    → (xs : List A) → All C xs → sum_by f xs < 2 ^ 32 → Spelling (SpellsItems S) xs (sum_by f xs)
shortest_items S f C spell [] all few = record { bytes = []; octets = All-nil IsOctet; spells = refl; long = refl }
shortest_items S f C spell (x ∷ xs) all few =
    let sum : sum_by f (x ∷ xs) ≡ f x + sum_by f xs = sum_by-cons f x xs in
    as_long (SpellsItems S) (x ∷ xs) (f x + sum_by f xs) (sum_by f (x ∷ xs)) (sym sum)
    (join S (SpellsItems S) (SpellsItems S) x xs (x ∷ xs) (f x) (sum_by f xs) (λ s t h k. (s, t, h, k, refl))
    (spell x (All-head C x xs all) (omega (arith, sum))) (shortest_items S f C spell xs (All-tail C x xs all) (omega (arith, sum))))

pub count_items : {A : Type 0} (f : A → ℕ) → ((x : A) → 1 ≤ f x) → (xs : List A) → length xs ≤ sum_by f xs
count_items f some [] = omega arith
count_items f some (x ∷ xs) = omega (arith, sum_by-cons f x xs, some x, count_items f some xs)

pub shortest_vector : {A : Type 0} (S : List ℕ → A → Type 0) (f : A → ℕ) (C : A → Type 0) → ((x : A) → C x → f x < 2 ^ 32 → Spelling S x (f x)) → ((x : A) → 1 ≤ f x)
    → (xs : List A) → All C xs → least_vector f xs < 2 ^ 32 → Spelling (SpellsVector S) xs (least_vector f xs)
shortest_vector S f C spell some xs all few =
    let count : length xs ≤ sum_by f xs = count_items f some xs in
    join SpellsU32 (SpellsItems S) (SpellsVector S) (length xs) xs xs (least_unsigned (length xs)) (sum_by f xs) (λ s t h k. (s, t, h, k, refl))
    (shortest_unsigned (length xs) (omega arith)) (shortest_items S f C spell xs all (omega arith))

pub shortest_bytes : (content : List ℕ) → All IsOctet content → least_bytes content < 2 ^ 32 → Spelling SpellsBytes content (least_bytes content)
shortest_bytes content all few =
    let u : Spelling SpellsU32 (length content) (least_unsigned (length content)) = shortest_unsigned (length content) (omega arith) in
    record {
      bytes = u.bytes ++ content;
      octets = All-append IsOctet u.bytes content u.octets all;
      spells = (u.bytes, u.spells, refl);
      long = omega (arith, length-append u.bytes content, u.long);
    }

pub shortest_name : (text : List ℕ) → IsText text → least_bytes text < 2 ^ 32 → Spelling SpellsName text (least_bytes text)
shortest_name text h few =
    let b : Spelling SpellsBytes text (least_bytes text) = shortest_bytes text h.0 few in
    record { bytes = b.bytes; octets = b.octets; spells = (b.spells, h.1); long = b.long }

pub shortest_sized : {A : Type 0} (S : List ℕ → A → Type 0) (x : A) (n : ℕ) → n < 2 ^ 32 → Spelling S x n → Spelling (SpellsSized S) x (least_sized n)
shortest_sized S x n few h =
    let u : Spelling SpellsU32 n (least_unsigned n) = shortest_unsigned n few in
    record {
      bytes = u.bytes ++ h.bytes;
      octets = All-append IsOctet u.bytes h.bytes u.octets h.octets;
      spells = (u.bytes, h.bytes, subst (λ (k : ℕ). SpellsU32 u.bytes k) (sym h.long) u.spells, h.spells, refl);
      long = omega (arith, length-append u.bytes h.bytes, u.long, h.long);
    }

-- types
pub shortest_val_type : (ty : ValType) → Spelling SpellsValType ty 1
shortest_val_type I32 = single 0x7F SpellsValType I32 (omega arith) refl
shortest_val_type I64 = single 0x7E SpellsValType I64 (omega arith) refl
shortest_val_type F32 = single 0x7D SpellsValType F32 (omega arith) refl
shortest_val_type F64 = single 0x7C SpellsValType F64 (omega arith) refl

pub shortest_block_type : (result : Option ValType) → Spelling SpellsBlockType result 1
shortest_block_type None = single 0x40 SpellsBlockType None (omega arith) refl
shortest_block_type (Some ty) =
    let v : Spelling SpellsValType ty 1 = shortest_val_type ty in
    record { bytes = v.bytes; octets = v.octets; spells = v.spells; long = v.long }

pub any_types : (types : List ValType) → All (λ ty. Unit {0}) types
any_types types = λ k d h. tt

pub shortest_types : (types : List ValType) → least_vector least_val_type types < 2 ^ 32 → Spelling (SpellsVector SpellsValType) types (least_vector least_val_type types)
shortest_types types few =
    shortest_vector SpellsValType least_val_type (λ ty. Unit {0}) (λ ty _ _. shortest_val_type ty) (λ ty. omega arith) types (any_types types) few

pub shortest_func_type : (ty : FuncType) → least_func_type ty < 2 ^ 32 → Spelling SpellsFuncType ty (least_func_type ty)
shortest_func_type ty few =
    let a : Spelling (SpellsVector SpellsValType) ty.params (least_vector least_val_type ty.params) = shortest_types ty.params (omega arith) in
    let b : Spelling (SpellsVector SpellsValType) ty.results (least_vector least_val_type ty.results) = shortest_types ty.results (omega arith) in
    let S : List ℕ → FuncType → Type 0 = λ s t. SpellsFuncType (0x60 ∷ s) t in
    lead 0x60 S SpellsFuncType ty ty (least_vector least_val_type ty.params + least_vector least_val_type ty.results) (omega arith) (λ s h. h)
    (join (SpellsVector SpellsValType) (SpellsVector SpellsValType) S ty.params ty.results ty (least_vector least_val_type ty.params) (least_vector least_val_type ty.results) (λ s t h k. (s, t, h, k, refl)) a b)

pub shortest_min_max : (min : ℕ) (max : Option ℕ) → IsU32 min → HasMaxRange max → Spelling (λ s (x : ℕ). SpellsMinMax s min max) 0 (1 + (least_unsigned min + least_max max))
shortest_min_max min None low high =
    as_long (λ s (x : ℕ). SpellsMinMax s min None) 0 (1 + least_unsigned min) (1 + (least_unsigned min + 0)) (omega arith)
    (lead 0x00 SpellsU32 (λ s (x : ℕ). SpellsMinMax s min None) min 0 (least_unsigned min) (omega arith) (λ s h. (s, h, refl)) (shortest_unsigned min low))
shortest_min_max min (Some max) low high =
    let S : List ℕ → ℕ → Type 0 = λ s x. SpellsMinMax (0x01 ∷ s) min (Some max) in
    lead 0x01 S (λ s (x : ℕ). SpellsMinMax s min (Some max)) 0 0 (least_unsigned min + least_unsigned max) (omega arith) (λ s h. h)
    (join SpellsU32 SpellsU32 S min max 0 (least_unsigned min) (least_unsigned max) (λ s t h k. (s, t, h, k, refl)) (shortest_unsigned min low) (shortest_unsigned max high))

pub shortest_limits : (bounds : Bounds) → HasBoundsRange bounds → Spelling SpellsLimits bounds (least_limits bounds)
shortest_limits bounds h =
    let l : Spelling (λ s (x : ℕ). SpellsMinMax s bounds.min bounds.max) 0 (least_limits bounds) = shortest_min_max bounds.min bounds.max h.0 h.1 in
    record { bytes = l.bytes; octets = l.octets; spells = l.spells; long = l.long }

pub shortest_table_type : (bounds : Bounds) → HasBoundsRange bounds → Spelling SpellsTableType bounds (least_table_type bounds)
shortest_table_type bounds h =
    lead 0x70 SpellsLimits SpellsTableType bounds bounds (least_limits bounds) (omega arith) (λ s k. (s, k, refl)) (shortest_limits bounds h)

pub shortest_mutability : (b : Bool) → Spelling SpellsMutability b 1
shortest_mutability false = single 0x00 SpellsMutability false (omega arith) refl
shortest_mutability true = single 0x01 SpellsMutability true (omega arith) refl

pub shortest_global_type : (ty : GlobalType) → Spelling SpellsGlobalType ty 2
shortest_global_type ty =
    join SpellsValType SpellsMutability SpellsGlobalType ty.ty ty.mutable ty 1 1 (λ s t h k. (s, t, h, k, refl)) (shortest_val_type ty.ty) (shortest_mutability ty.mutable)

pub some_number : (n : ℕ) → 1 ≤ least_unsigned n
unfolding least_unsigned
some_number n = grind (arith, nat_tests)

pub shortest_numbers : (ns : List ℕ) → All IsU32 ns → least_vector least_unsigned ns < 2 ^ 32 → Spelling (SpellsVector SpellsU32) ns (least_vector least_unsigned ns)
shortest_numbers ns all few = shortest_vector SpellsU32 least_unsigned IsU32 (λ n h _. shortest_unsigned n h) some_number ns all few
