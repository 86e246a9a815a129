-- Lists whose items differ in matching places alone.
use Rattle.std.proofs.Common.{◌≡◌, ℕ, zero, suc, ◌^◌, ◌<◌, ◌≤◌, List, [], ◌∷◌, length, map, get_or, set, sum_by, All, arith, ap, sym, ◌∙◌}
use Rattle.std.proofs.lemmas.List.{length-map}
use Rattle.std.proofs.lemmas.List.Sums.{sum_by-cons, get_or-le-sum_by}
use Rattle.wasm_form.specs.Least.{least_vector, least_instr, least_expr, least_global, least_element, least_body, least_segment}
use Rattle.wasm_form.specs.declared.instr.Instr.{Instr}
use Rattle.wasm_form.specs.declared.expr.Expr.{Expr}
use Rattle.wasm_form.specs.declared.body.Body.{Body}
use Rattle.wasm_form.specs.declared.parts.GlobalDef.{GlobalDef}
use Rattle.wasm_form.specs.declared.parts.Element.{Element}
use Rattle.wasm_form.specs.declared.parts.Segment.{Segment}

-- the items at a place are the same, too
pub same_at : {A B : Type 0} (b : A → B) (xs ys : List A) (i : ℕ) (d e : A) → map b xs ≡ map b ys → i < length ys → b (get_or xs i d) ≡ b (get_or ys i e)
same_at b xs [] i d e same low = absurd (omega arith)
same_at b [] (y ∷ ys) i d e same low = absurd (cc)
same_at b (x ∷ xs) (y ∷ ys) zero d e same low = cc
same_at b (x ∷ xs) (y ∷ ys) (suc i) d e same low = let rest : map b xs ≡ map b ys = cc in same_at b xs ys i d e rest (omega arith)

pub same_length : {A B : Type 0} (b : A → B) (xs ys : List A) → map b xs ≡ map b ys → length xs ≡ length ys
same_length b xs ys same = sym (length-map xs b) ∙ ap length same ∙ length-map ys b

-- one item is written that is the same
pub set_same : {A B : Type 0} (b : A → B) (xs : List A) (i : ℕ) (v d : A) → i < length xs → b v ≡ b (get_or xs i d) → map b (set xs i v) ≡ map b xs
set_same b [] i v d low same = absurd (omega arith)
set_same b (x ∷ xs) zero v d low same = let first : b v ≡ b x = same in cc
set_same b (x ∷ xs) (suc i) v d low same =
    let rest : map b (set xs i v) ≡ map b xs = set_same b xs i v d (omega arith) same in
    ap (λ l. b x ∷ l) rest

-- code is not longer than its bytes
code_items : (code : List Instr) → length code ≤ sum_by least_instr code
code_items [] = omega arith
code_items (i ∷ code) = omega (arith, sum_by-cons least_instr i code, code_items code)

pub short_expr : (e : Expr) → length e.code ≤ least_expr e
short_expr e = omega (arith, code_items e.code)

-- where the whole has a size, so does each item's code
short_items : {A : Type 0} (f : A → ℕ) (expr : A → Expr) → ((x : A) → length (expr x).code ≤ f x) → (xs : List A) → least_vector f xs < 2 ^ 32
    → All (λ x. length (expr x).code < 2 ^ 32) xs
short_items f expr law xs few = λ k d low. omega (arith, few, get_or-le-sum_by f xs k d low, law (get_or xs k d))

pub short_globals : (xs : List GlobalDef) → least_vector least_global xs < 2 ^ 32 → All (λ (g : GlobalDef). length g.init.code < 2 ^ 32) xs
short_globals xs few = short_items least_global (λ g. g.init) (λ g. omega (arith, short_expr g.init)) xs few

pub short_elements : (xs : List Element) → least_vector least_element xs < 2 ^ 32 → All (λ (e : Element). length e.offset.code < 2 ^ 32) xs
short_elements xs few = short_items least_element (λ e. e.offset) (λ e. omega (arith, short_expr e.offset)) xs few

pub short_segments : (xs : List Segment) → least_vector least_segment xs < 2 ^ 32 → All (λ (s : Segment). length s.offset.code < 2 ^ 32) xs
short_segments xs few = short_items least_segment (λ s. s.offset) (λ s. omega (arith, short_expr s.offset)) xs few

pub short_bodies : (xs : List Body) → least_vector least_body xs < 2 ^ 32 → All (λ (b : Body). length b.expr.code < 2 ^ 32) xs
short_bodies xs few = short_items least_body (λ b. b.expr) (λ b. omega (arith, short_expr b.expr)) xs few
