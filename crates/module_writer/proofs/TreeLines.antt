-- Trees and their flat lists: the same bytes spell both.
use Rattle.std.proofs.Common.{◌≡◌, ℕ, ◌+◌, List, [], ◌∷◌, ◌++◌, length, append-nil, sum_by, true, Option, Some, None, arith, refl, ap, subst, sym, ◌∙◌}
use Rattle.std.proofs.lemmas.List.Sums.{sum_by-cons, sum_by-append}
use Rattle.std.specs.Int.{from_le_bytes, w32, w64}
use Rattle.leb_read.specs.Numbers.{SpellsSigned}
use Rattle.wasm_form.specs.Values.{SpellsU32, SpellsItems, SpellsVector}
use Rattle.wasm_form.specs.Types.{SpellsBlockType}
use Rattle.wasm_form.specs.Instructions.{immediates_of, fits, SpellsImmediates, SpellsPlain}
use Rattle.wasm_form.specs.Trees.{Code, Empty, Then, TableOf, BlockOf, LoopOf, IfOf, IfElseOf, SpellsTable, SpellsCode, SpellsExpr, IsFlat, flat, labels_of, end_instr, else_instr, table_instr}
use Rattle.wasm_form.specs.Least.{least_unsigned, least_instr, least_expr}
use Rattle.wasm_form.specs.declared.value_type.ValType.{ValType}
use Rattle.wasm_form.specs.declared.instr.Instr.{Instr}
use Rattle.wasm_form.specs.declared.instr.Imm.{Imm}
use Rattle.wasm_form.specs.declared.instr.Imm.TheVariants as imm
use Rattle.wasm_form.specs.declared.immediates.Immediates.{Immediates}
use Rattle.wasm_form.specs.declared.immediates.Immediates.TheVariants as kind
use Rattle.wasm_form.specs.declared.expr.Expr.{Expr}
use Rattle.wasm_form.proofs.LeastParts.{least_code, closed}
use Rattle.module_writer.specs.Writing.{HasSpelling, Appends}
use Rattle.module_writer.specs.Lines.{labels_at, SpellsTableOf, SpellsNumbers, SpellsLine, zero_of, least_labels, least_line}
use Rattle.module_writer.proofs.Items.{items_append, items_split}
use Rattle.module_writer.proofs.Pools.{Pooled, first_labels, other_labels, labels_are, labels_fit}

-- instructions that open and close no block
numbers_of : (k : Immediates) (pool s : List ℕ) (i : Imm) → SpellsImmediates k s i → (n : List ℕ) × SpellsNumbers pool n i × (s ≡ n ++ zero_of (Some k))
numbers_of kind.Bare pool s i h = ([], subst (λ (j : Imm). SpellsNumbers pool [] j) (sym h.1) refl, h.0)
numbers_of kind.Index pool s i h = (s, subst (λ (j : Imm). SpellsNumbers pool s j) (sym h.2) h.1, sym (append-nil s))
numbers_of kind.TypeAndZero pool s i h = (h.0, subst (λ (j : Imm). SpellsNumbers pool h.0 j) (sym h.4) h.2, h.3)
numbers_of kind.Zero pool s i h = ([], subst (λ (j : Imm). SpellsNumbers pool [] j) (sym h.1) refl, h.0)
numbers_of kind.Memory pool s i h = (s, subst (λ (j : Imm). SpellsNumbers pool s j) (sym h.7) (h.0, h.1, h.4, h.5, h.6), sym (append-nil s))
numbers_of kind.S32 pool s i h = (s, subst (λ (j : Imm). SpellsNumbers pool s j) (sym h.2) (h.0, h.1, refl), sym (append-nil s))
numbers_of kind.S64 pool s i h = (s, subst (λ (j : Imm). SpellsNumbers pool s j) (sym h.2) (h.0, h.1, refl), sym (append-nil s))
numbers_of kind.F32 pool s i h = (s, subst (λ (j : Imm). SpellsNumbers pool s j) (sym h.1) (h.0, refl), sym (append-nil s))
numbers_of kind.F64 pool s i h = (s, subst (λ (j : Imm). SpellsNumbers pool s j) (sym h.1) (h.0, refl), sym (append-nil s))

immediates_with : (k : Immediates) (pool n : List ℕ) (i : Imm) → fits k i ≡ true → SpellsNumbers pool n i → SpellsImmediates k (n ++ zero_of (Some k)) i
immediates_with kind.Bare pool n imm.None e h = (append-nil n ∙ h, refl)
immediates_with kind.Index pool n (imm.Index x) e h = (x, subst (λ (l : List ℕ). SpellsU32 l x) (sym (append-nil n)) h, refl)
immediates_with kind.TypeAndZero pool n (imm.Index x) e h = (n, x, h, refl, refl)
immediates_with kind.Zero pool n imm.None e h = (ap (λ (l : List ℕ). l ++ 0x00 ∷ []) h, refl)
immediates_with kind.Memory pool n (imm.Mem a o) e h = (h.0, h.1, a, o, h.2, h.3, append-nil n ∙ h.4, refl)
immediates_with kind.S32 pool n (imm.I32 bits) e h =
    (h.0, subst (λ (l : List ℕ). SpellsSigned 32 l h.0) (sym (append-nil n)) h.1, ap (λ (b : ℕ). imm.I32 b) h.2)
immediates_with kind.S64 pool n (imm.I64 bits) e h =
    (h.0, subst (λ (l : List ℕ). SpellsSigned 64 l h.0) (sym (append-nil n)) h.1, ap (λ (b : ℕ). imm.I64 b) h.2)
immediates_with kind.F32 pool n (imm.F32 bits) e h =
    subst (λ (l : List ℕ). (length l ≡ 4) × (imm.F32 bits ≡ imm.F32 (from_le_bytes w32 l))) (sym (append-nil n)) (h.0, ap (λ (b : ℕ). imm.F32 b) h.1)
immediates_with kind.F64 pool n (imm.F64 bits) e h =
    subst (λ (l : List ℕ). (length l ≡ 8) × (imm.F64 bits ≡ imm.F64 (from_le_bytes w64 l))) (sym (append-nil n)) (h.0, ap (λ (b : ℕ). imm.F64 b) h.1)
immediates_with k pool n i e h = absurd (cc)

fitting : (k : Immediates) (s : List ℕ) (i : Imm) → SpellsImmediates k s i → fits k i ≡ true
fitting kind.Bare s i h = ap (fits kind.Bare) h.1
fitting kind.Index s i h = ap (fits kind.Index) h.2
fitting kind.TypeAndZero s i h = ap (fits kind.TypeAndZero) h.4
fitting kind.Zero s i h = ap (fits kind.Zero) h.1
fitting kind.Memory s i h = ap (fits kind.Memory) h.7
fitting kind.S32 s i h = ap (fits kind.S32) h.2
fitting kind.S64 s i h = ap (fits kind.S64) h.2
fitting kind.F32 s i h = ap (fits kind.F32) h.1
fitting kind.F64 s i h = ap (fits kind.F64) h.1

no_labels : (k : Immediates) (pool s : List ℕ) (i : Imm) → SpellsImmediates k s i → least_labels pool i ≡ 0
no_labels kind.Bare pool s i h = ap (least_labels pool) h.1
no_labels kind.Index pool s i h = ap (least_labels pool) h.2
no_labels kind.TypeAndZero pool s i h = ap (least_labels pool) h.4
no_labels kind.Zero pool s i h = ap (least_labels pool) h.1
no_labels kind.Memory pool s i h = ap (least_labels pool) h.7
no_labels kind.S32 pool s i h = ap (least_labels pool) h.2
no_labels kind.S64 pool s i h = ap (least_labels pool) h.2
no_labels kind.F32 pool s i h = ap (least_labels pool) h.1
no_labels kind.F64 pool s i h = ap (least_labels pool) h.1

plain_line : (pool s : List ℕ) (i : Instr) → SpellsPlain s i → SpellsLine pool s i
plain_line pool s i h =
    let n = numbers_of h.0 pool h.1 i.imm h.3 in
    let zero : zero_of (Some h.0) ≡ zero_of (immediates_of i.code) = ap zero_of (sym h.2) in
    (n.0, n.1, h.4 ∙ ap (λ (l : List ℕ). i.code ∷ l) (n.2 ∙ ap (λ (l : List ℕ). n.0 ++ l) zero))

line_plain : (pool s t : List ℕ) (i : Instr) → SpellsPlain s i → SpellsLine pool t i → SpellsPlain t i
line_plain pool s t i h l = (
  h.0,
  l.0 ++ zero_of (Some h.0),
  h.2,
  immediates_with h.0 pool l.0 i.imm (fitting h.0 h.1 i.imm h.3) l.1,
  l.2 ∙ ap (λ (o : Option Immediates). i.code ∷ (l.0 ++ zero_of o)) h.2,
)

-- those that have forms of their own
else_line : (pool : List ℕ) → SpellsLine pool (0x05 ∷ []) else_instr
unfolding immediates_of
else_line pool = ([], refl, refl)

line_else : (pool s : List ℕ) → SpellsLine pool s else_instr → s ≡ 0x05 ∷ []
unfolding immediates_of
line_else pool s l = l.2 ∙ ap (λ (n : List ℕ). 0x05 ∷ (n ++ [])) l.1

end_line : (pool : List ℕ) → SpellsLine pool (0x0B ∷ []) end_instr
unfolding immediates_of
end_line pool = ([], refl, refl)

line_end : (pool s : List ℕ) → SpellsLine pool s end_instr → s ≡ 0x0B ∷ []
unfolding immediates_of
line_end pool s l = l.2 ∙ ap (λ (n : List ℕ). 0x0B ∷ (n ++ [])) l.1

-- an instruction that opens a block
abbrev opener : ℕ → Option ValType → Instr
opener code r = record { code = code; imm = imm.Block r }

opener_line : (pool ty : List ℕ) (code : ℕ) (r : Option ValType) → immediates_of code ≡ None → SpellsBlockType ty r → SpellsLine pool (code ∷ ty) (opener code r)
opener_line pool ty code r e h =
    (ty, h, ap (λ (l : List ℕ). code ∷ l) (sym (append-nil ty)) ∙ ap (λ (o : Option Immediates). code ∷ (ty ++ zero_of o)) (sym e))

line_opener : (pool s : List ℕ) (code : ℕ) (r : Option ValType) → immediates_of code ≡ None → SpellsLine pool s (opener code r) → (ty : List ℕ) × SpellsBlockType ty r × (s ≡ code ∷ ty)
line_opener pool s code r e l =
    (l.0, l.1, l.2 ∙ ap (λ (o : Option Immediates). code ∷ (l.0 ++ zero_of o)) e ∙ ap (λ (n : List ℕ). code ∷ n) (append-nil l.0))

block_kind : immediates_of 0x02 ≡ None
unfolding immediates_of
block_kind = refl

loop_kind : immediates_of 0x03 ≡ None
unfolding immediates_of
loop_kind = refl

if_kind : immediates_of 0x04 ≡ None
unfolding immediates_of
if_kind = refl

table_line : (pool s : List ℕ) (f : ℕ) (labels : List ℕ) (last : ℕ) → Pooled pool f labels → SpellsTable s labels last → SpellsLine pool s (table_instr f (length labels) last)
unfolding immediates_of
table_line pool s f labels last p h =
    let n : List ℕ = h.0 ++ h.1 in
    let are : SpellsTableOf pool f (length labels) n last =
    record {
      vector = h.0;
      number = h.1;
      table = subst (λ (l : List ℕ). SpellsVector SpellsU32 h.0 l) (sym (labels_are pool f labels p)) h.2;
      default = h.3;
      there = labels_fit pool f labels p;
      whole = refl;
    } in
    (n, are, h.4 ∙ ap (λ (l : List ℕ). 0x0E ∷ l) (sym (append-nil n)))

line_table : (pool s : List ℕ) (f : ℕ) (labels : List ℕ) (last : ℕ) → Pooled pool f labels → SpellsLine pool s (table_instr f (length labels) last) → SpellsTable s labels last
unfolding immediates_of
line_table pool s f labels last p l = (
  l.1.vector,
  l.1.number,
  subst (λ (x : List ℕ). SpellsVector SpellsU32 l.1.vector x) (labels_are pool f labels p) l.1.table,
  l.1.default,
  l.2 ∙ ap (λ (x : List ℕ). 0x0E ∷ x) (append-nil l.0) ∙ ap (λ (x : List ℕ). 0x0E ∷ x) l.1.whole,
)

-- a block, loop or if without else
block_lines : (pool : List ℕ) (code : ℕ) (r : Option ValType) (s ty inner more : List ℕ) (a b : List Instr) → immediates_of code ≡ None → SpellsBlockType ty r
    → SpellsItems (SpellsLine pool) inner a → SpellsItems (SpellsLine pool) more b → s ≡ code ∷ (ty ++ (inner ++ 0x0B ∷ more))
    → SpellsItems (SpellsLine pool) s (opener code r ∷ (a ++ end_instr ∷ b))
block_lines pool code r s ty inner more a b none h x y e = (
  code ∷ ty,
  inner ++ 0x0B ∷ more,
  opener_line pool ty code r none h,
  items_append (SpellsLine pool) a (end_instr ∷ b) inner (0x0B ∷ more) x (0x0B ∷ [], more, end_line pool, y, refl),
  e,
)

-- the bytes of one, taken apart
record Block (pool : List ℕ) (code : ℕ) (r : Option ValType) (a b : List Instr) (s : List ℕ) : Type 0 where
  ty : List ℕ
  inner : List ℕ
  more : List ℕ
  result : SpellsBlockType ty r
  inside : SpellsItems (SpellsLine pool) inner a
  rest : SpellsItems (SpellsLine pool) more b
  whole : s ≡ code ∷ (ty ++ (inner ++ 0x0B ∷ more))

lines_block : (pool : List ℕ) (code : ℕ) (r : Option ValType) (s : List ℕ) (a b : List Instr) → immediates_of code ≡ None
    → SpellsItems (SpellsLine pool) s (opener code r ∷ (a ++ end_instr ∷ b)) → Block pool code r a b s
lines_block pool code r s a b none h =
    let o = line_opener pool h.0 code r none h.2 in
    let p = items_split (SpellsLine pool) a (end_instr ∷ b) h.1 h.3 in
    let after : p.1 ≡ 0x0B ∷ p.3.1 = p.3.4 ∙ ap (λ (l : List ℕ). l ++ p.3.1) (line_end pool p.3.0 p.3.2) in
    record {
      ty = o.0;
      inner = p.0;
      more = p.3.1;
      result = o.1;
      inside = p.2;
      rest = p.3.3;
      whole = h.4 ∙ ap (λ (l : List ℕ). l ++ h.1) o.2 ∙ ap (λ (l : List ℕ). code ∷ (o.0 ++ l)) (p.4 ∙ ap (λ (l : List ℕ). p.0 ++ l) after);
    }

pub to_lines : (c : Code) (pool : List ℕ) (f : ℕ) (s : List ℕ) → Pooled pool f (labels_of c) → SpellsCode s c → SpellsItems (SpellsLine pool) s (flat f c)
to_lines Empty pool f s p h = h
to_lines (Then i rest) pool f s p h = (h.0, h.1, plain_line pool h.0 i h.2, to_lines rest pool f h.1 p h.3, h.4)
to_lines (TableOf labels last rest) pool f s p h = (
  h.0,
  h.1,
  table_line pool h.0 f labels last (first_labels pool f labels (labels_of rest) p) h.2,
  to_lines rest pool (f + length labels) h.1 (other_labels pool f labels (labels_of rest) p) h.3,
  h.4,
)
to_lines (BlockOf r a b) pool f s p h =
    block_lines pool 0x02 r s h.0 h.1 h.2 (flat f a) (flat (f + length (labels_of a)) b) block_kind h.3
    (to_lines a pool f h.1 (first_labels pool f (labels_of a) (labels_of b) p) h.4)
    (to_lines b pool (f + length (labels_of a)) h.2 (other_labels pool f (labels_of a) (labels_of b) p) h.5) h.6
to_lines (LoopOf r a b) pool f s p h =
    block_lines pool 0x03 r s h.0 h.1 h.2 (flat f a) (flat (f + length (labels_of a)) b) loop_kind h.3
    (to_lines a pool f h.1 (first_labels pool f (labels_of a) (labels_of b) p) h.4)
    (to_lines b pool (f + length (labels_of a)) h.2 (other_labels pool f (labels_of a) (labels_of b) p) h.5) h.6
to_lines (IfOf r a b) pool f s p h =
    block_lines pool 0x04 r s h.0 h.1 h.2 (flat f a) (flat (f + length (labels_of a)) b) if_kind h.3
    (to_lines a pool f h.1 (first_labels pool f (labels_of a) (labels_of b) p) h.4)
    (to_lines b pool (f + length (labels_of a)) h.2 (other_labels pool f (labels_of a) (labels_of b) p) h.5) h.6
to_lines (IfElseOf r a d b) pool f s p h =
    let g : ℕ = f + length (labels_of a) in
    let q : Pooled pool g (labels_of d ++ labels_of b) = other_labels pool f (labels_of a) (labels_of d ++ labels_of b) p in
    let x = to_lines a pool f h.1 (first_labels pool f (labels_of a) (labels_of d ++ labels_of b) p) h.5 in
    let y = to_lines d pool g h.2 (first_labels pool g (labels_of d) (labels_of b) q) h.6 in
    let z = to_lines b pool (g + length (labels_of d)) h.3 (other_labels pool g (labels_of d) (labels_of b) q) h.7 in
    let after : List Instr = flat g d ++ end_instr ∷ flat (g + length (labels_of d)) b in (
      0x04 ∷ h.0,
      h.1 ++ 0x05 ∷ (h.2 ++ 0x0B ∷ h.3),
      opener_line pool h.0 0x04 r if_kind h.4,
      items_append (SpellsLine pool) (flat f a) (else_instr ∷ after) h.1 (0x05 ∷ (h.2 ++ 0x0B ∷ h.3)) x
          (0x05 ∷ [], h.2 ++ 0x0B ∷ h.3, else_line pool, items_append (SpellsLine pool) (flat g d) (end_instr ∷ flat (g + length (labels_of d)) b) h.2 (0x0B ∷ h.3) y (0x0B ∷ [], h.3, end_line pool, z, refl), refl),
      h.8,
    )

-- what spells the flat list of a tree that is spelled spells the tree
pub of_lines : (c : Code) (pool : List ℕ) (f : ℕ) (s t : List ℕ) → Pooled pool f (labels_of c) → SpellsCode s c → SpellsItems (SpellsLine pool) t (flat f c) → SpellsCode t c
of_lines Empty pool f s t p h l = l
of_lines (Then i rest) pool f s t p h l = (l.0, l.1, line_plain pool h.0 l.0 i h.2 l.2, of_lines rest pool f h.1 l.1 p h.3 l.3, l.4)
of_lines (TableOf labels last rest) pool f s t p h l = (
  l.0,
  l.1,
  line_table pool l.0 f labels last (first_labels pool f labels (labels_of rest) p) l.2,
  of_lines rest pool (f + length labels) h.1 l.1 (other_labels pool f labels (labels_of rest) p) h.3 l.3,
  l.4,
)
of_lines (BlockOf r a b) pool f s t p h l =
    let k : Block pool 0x02 r (flat f a) (flat (f + length (labels_of a)) b) t = lines_block pool 0x02 r t (flat f a) (flat (f + length (labels_of a)) b) block_kind l in (
      k.ty,
      k.inner,
      k.more,
      k.result,
      of_lines a pool f h.1 k.inner (first_labels pool f (labels_of a) (labels_of b) p) h.4 k.inside,
      of_lines b pool (f + length (labels_of a)) h.2 k.more (other_labels pool f (labels_of a) (labels_of b) p) h.5 k.rest,
      k.whole,
    )
of_lines (LoopOf r a b) pool f s t p h l =
    let k : Block pool 0x03 r (flat f a) (flat (f + length (labels_of a)) b) t = lines_block pool 0x03 r t (flat f a) (flat (f + length (labels_of a)) b) loop_kind l in (
      k.ty,
      k.inner,
      k.more,
      k.result,
      of_lines a pool f h.1 k.inner (first_labels pool f (labels_of a) (labels_of b) p) h.4 k.inside,
      of_lines b pool (f + length (labels_of a)) h.2 k.more (other_labels pool f (labels_of a) (labels_of b) p) h.5 k.rest,
      k.whole,
    )
of_lines (IfOf r a b) pool f s t p h l =
    let k : Block pool 0x04 r (flat f a) (flat (f + length (labels_of a)) b) t = lines_block pool 0x04 r t (flat f a) (flat (f + length (labels_of a)) b) if_kind l in (
      k.ty,
      k.inner,
      k.more,
      k.result,
      of_lines a pool f h.1 k.inner (first_labels pool f (labels_of a) (labels_of b) p) h.4 k.inside,
      of_lines b pool (f + length (labels_of a)) h.2 k.more (other_labels pool f (labels_of a) (labels_of b) p) h.5 k.rest,
      k.whole,
    )
of_lines (IfElseOf r a d b) pool f s t p h l =
    let g : ℕ = f + length (labels_of a) in
    let q : Pooled pool g (labels_of d ++ labels_of b) = other_labels pool f (labels_of a) (labels_of d ++ labels_of b) p in
    let after : List Instr = flat g d ++ end_instr ∷ flat (g + length (labels_of d)) b in
    let o = line_opener pool l.0 0x04 r if_kind l.2 in
    let u = items_split (SpellsLine pool) (flat f a) (else_instr ∷ after) l.1 l.3 in
    let v = items_split (SpellsLine pool) (flat g d) (end_instr ∷ flat (g + length (labels_of d)) b) u.3.1 u.3.3 in
    let from_end : v.1 ≡ 0x0B ∷ v.3.1 = v.3.4 ∙ ap (λ (x : List ℕ). x ++ v.3.1) (line_end pool v.3.0 v.3.2) in
    let from_else : u.1 ≡ 0x05 ∷ (v.0 ++ 0x0B ∷ v.3.1) =
    u.3.4 ∙ ap (λ (x : List ℕ). x ++ u.3.1) (line_else pool u.3.0 u.3.2) ∙ ap (λ (x : List ℕ). 0x05 ∷ x) (v.4 ∙ ap (λ (x : List ℕ). v.0 ++ x) from_end) in (
      o.0,
      u.0,
      v.0,
      v.3.1,
      o.1,
      of_lines a pool f h.1 u.0 (first_labels pool f (labels_of a) (labels_of d ++ labels_of b) p) h.5 u.2,
      of_lines d pool g h.2 v.0 (first_labels pool g (labels_of d) (labels_of b) q) h.6 v.2,
      of_lines b pool (g + length (labels_of d)) h.3 v.3.1 (other_labels pool g (labels_of d) (labels_of b) q) h.7 v.3.3,
      l.4 ∙ ap (λ (x : List ℕ). x ++ l.1) o.2 ∙ ap (λ (x : List ℕ). 0x04 ∷ (o.0 ++ x)) (u.4 ∙ ap (λ (x : List ℕ). u.0 ++ x) from_else),
    )

-- a line that is plain pools no labels
plain_least : (pool s : List ℕ) (i : Instr) → SpellsPlain s i → least_line pool i ≡ least_instr i
plain_least pool s i h = omega (arith, no_labels h.0 pool h.1 i.imm h.3)

-- the least lengths of the lines of a block
block_sum : (pool : List ℕ) (i e : Instr) (a b : List Instr) → least_line pool i ≡ least_instr i → least_line pool e ≡ least_instr e
    → sum_by (least_line pool) (i ∷ (a ++ e ∷ b)) ≡ least_instr i + (sum_by (least_line pool) a + (least_instr e + sum_by (least_line pool) b))
block_sum pool i e a b first last =
    omega (arith, first, last, sum_by-cons (least_line pool) i (a ++ e ∷ b), sum_by-append (least_line pool) a (e ∷ b), sum_by-cons (least_line pool) e b)

plain_end : (pool : List ℕ) → least_line pool end_instr ≡ least_instr end_instr
plain_end pool = omega arith

plain_else : (pool : List ℕ) → least_line pool else_instr ≡ least_instr else_instr
plain_else pool = omega arith

plain_opener : (pool : List ℕ) (code : ℕ) (r : Option ValType) → least_line pool (opener code r) ≡ least_instr (opener code r)
plain_opener pool code r = omega arith

around : (pool : List ℕ) (f code : ℕ) (r : Option ValType) (a b : Code)
    → sum_by (least_line pool) (flat f a) ≡ least_code f a → sum_by (least_line pool) (flat (f + length (labels_of a)) b) ≡ least_code (f + length (labels_of a)) b
    → sum_by (least_line pool) (opener code r ∷ (flat f a ++ end_instr ∷ flat (f + length (labels_of a)) b))
    ≡ sum_by least_instr (opener code r ∷ (flat f a ++ end_instr ∷ flat (f + length (labels_of a)) b)) + sum_by least_unsigned (labels_of a ++ labels_of b)
around pool f code r a b x y =
    let g : ℕ = f + length (labels_of a) in
    omega (
      arith,
      x,
      y,
      block_sum pool (opener code r) end_instr (flat f a) (flat g b) (plain_opener pool code r) (plain_end pool),
      closed (opener code r) end_instr (flat f a) (flat g b),
      sum_by-append least_unsigned (labels_of a) (labels_of b),
    )

-- the lines of a tree take as many bytes as the tree, at least
pub lines_least : (c : Code) (pool : List ℕ) (f : ℕ) (s : List ℕ) → Pooled pool f (labels_of c) → SpellsCode s c → sum_by (least_line pool) (flat f c) ≡ least_code f c
lines_least Empty pool f s p h = refl
lines_least (Then i rest) pool f s p h =
    omega (
      arith,
      lines_least rest pool f h.1 p h.3,
      plain_least pool h.0 i h.2,
      sum_by-cons (least_line pool) i (flat f rest),
      sum_by-cons least_instr i (flat f rest),
    )
lines_least (TableOf labels last rest) pool f s p h =
    let i : Instr = table_instr f (length labels) last in
    let here : sum_by least_unsigned (labels_at pool f (length labels)) ≡ sum_by least_unsigned labels =
    ap (λ (l : List ℕ). sum_by least_unsigned l) (labels_are pool f labels (first_labels pool f labels (labels_of rest) p)) in
    let line : least_line pool i ≡ least_instr i + sum_by least_unsigned labels = ap (λ (n : ℕ). least_instr i + n) here in
    omega (
      arith,
      lines_least rest pool (f + length labels) h.1 (other_labels pool f labels (labels_of rest) p) h.3,
      line,
      sum_by-cons (least_line pool) i (flat (f + length labels) rest),
      sum_by-cons least_instr i (flat (f + length labels) rest),
      sum_by-append least_unsigned labels (labels_of rest),
    )
lines_least (BlockOf r a b) pool f s p h =
    around pool f 0x02 r a b (lines_least a pool f h.1 (first_labels pool f (labels_of a) (labels_of b) p) h.4)
    (lines_least b pool (f + length (labels_of a)) h.2 (other_labels pool f (labels_of a) (labels_of b) p) h.5)
lines_least (LoopOf r a b) pool f s p h =
    around pool f 0x03 r a b (lines_least a pool f h.1 (first_labels pool f (labels_of a) (labels_of b) p) h.4)
    (lines_least b pool (f + length (labels_of a)) h.2 (other_labels pool f (labels_of a) (labels_of b) p) h.5)
lines_least (IfOf r a b) pool f s p h =
    around pool f 0x04 r a b (lines_least a pool f h.1 (first_labels pool f (labels_of a) (labels_of b) p) h.4)
    (lines_least b pool (f + length (labels_of a)) h.2 (other_labels pool f (labels_of a) (labels_of b) p) h.5)
lines_least (IfElseOf r a d b) pool f s p h =
    let g : ℕ = f + length (labels_of a) in
    let k : ℕ = g + length (labels_of d) in
    let q : Pooled pool g (labels_of d ++ labels_of b) = other_labels pool f (labels_of a) (labels_of d ++ labels_of b) p in
    let after : List Instr = flat g d ++ end_instr ∷ flat k b in
    let x : sum_by (least_line pool) (flat f a) ≡ least_code f a = lines_least a pool f h.1 (first_labels pool f (labels_of a) (labels_of d ++ labels_of b) p) h.5 in
    let y : sum_by (least_line pool) (flat g d) ≡ least_code g d = lines_least d pool g h.2 (first_labels pool g (labels_of d) (labels_of b) q) h.6 in
    let z : sum_by (least_line pool) (flat k b) ≡ least_code k b = lines_least b pool k h.3 (other_labels pool g (labels_of d) (labels_of b) q) h.7 in
    omega (
      arith,
      x,
      y,
      z,
      block_sum pool (opener 0x04 r) else_instr (flat f a) after (plain_opener pool 0x04 r) (plain_else pool),
      closed (opener 0x04 r) else_instr (flat f a) after,
      sum_by-append (least_line pool) (flat g d) (end_instr ∷ flat k b),
      sum_by-cons (least_line pool) end_instr (flat k b),
      plain_end pool,
      sum_by-append least_instr (flat g d) (end_instr ∷ flat k b),
      sum_by-cons least_instr end_instr (flat k b),
      sum_by-append least_unsigned (labels_of a) (labels_of d ++ labels_of b),
      sum_by-append least_unsigned (labels_of d) (labels_of b),
    )

-- an expression: its tree, and its end
whole_pool : (labels : List ℕ) → Pooled labels 0 labels
whole_pool labels = record { before = []; after = []; here = refl; whole = sym (append-nil labels) }

pub expr_lines : (e : Expr) → HasSpelling SpellsExpr e → HasSpelling (SpellsItems (SpellsLine e.labels)) e.code
expr_lines e h =
    let c : Code = h.spells.0 in
    let flat_is : IsFlat e c = h.spells.4 in
    let pool : Pooled e.labels 0 (labels_of c) = subst (λ (l : List ℕ). Pooled e.labels 0 l) flat_is.labels (whole_pool e.labels) in
    let lines : SpellsItems (SpellsLine e.labels) (h.spells.1 ++ 0x0B ∷ []) (flat 0 c ++ end_instr ∷ []) =
    items_append (SpellsLine e.labels) (flat 0 c) (end_instr ∷ []) h.spells.1 (0x0B ∷ []) (to_lines c e.labels 0 h.spells.1 pool h.spells.2)
    (0x0B ∷ [], [], end_line e.labels, refl, refl) in
    record {
      bytes = h.spells.1 ++ 0x0B ∷ [];
      spells = subst (λ (l : List Instr). SpellsItems (SpellsLine e.labels) (h.spells.1 ++ 0x0B ∷ []) l) (sym flat_is.code) lines;
    }

pub lines_expr : (e : Expr) (old new : List ℕ) → HasSpelling SpellsExpr e → Appends (SpellsItems (SpellsLine e.labels)) (sum_by (least_line e.labels)) e.code old new → Appends SpellsExpr least_expr e old new
lines_expr e old new h a =
    let c : Code = h.spells.0 in
    let flat_is : IsFlat e c = h.spells.4 in
    let pool : Pooled e.labels 0 (labels_of c) = subst (λ (l : List ℕ). Pooled e.labels 0 l) flat_is.labels (whole_pool e.labels) in
    let lines : SpellsItems (SpellsLine e.labels) a.bytes (flat 0 c ++ end_instr ∷ []) = subst (λ (l : List Instr). SpellsItems (SpellsLine e.labels) a.bytes l) flat_is.code a.spells in
    let u = items_split (SpellsLine e.labels) (flat 0 c) (end_instr ∷ []) a.bytes lines in
    let last : u.1 ≡ 0x0B ∷ [] = u.3.4 ∙ ap (λ (l : List ℕ). l ++ u.3.1) (line_end e.labels u.3.0 u.3.2) ∙ ap (λ (l : List ℕ). 0x0B ∷ l) u.3.3 in
    let code : SpellsCode u.0 c = of_lines c e.labels 0 h.spells.1 u.0 pool h.spells.2 u.2 in
    let sum : sum_by (least_line e.labels) e.code ≡ sum_by (least_line e.labels) (flat 0 c ++ end_instr ∷ []) = ap (λ (l : List Instr). sum_by (least_line e.labels) l) flat_is.code in
    let plain : sum_by least_instr e.code ≡ sum_by least_instr (flat 0 c ++ end_instr ∷ []) = ap (λ (l : List Instr). sum_by least_instr l) flat_is.code in
    let names : sum_by least_unsigned e.labels ≡ sum_by least_unsigned (labels_of c) = ap (λ (l : List ℕ). sum_by least_unsigned l) flat_is.labels in
    record {
      bytes = a.bytes;
      spells = (c, u.0, code, u.4 ∙ ap (λ (l : List ℕ). u.0 ++ l) last, flat_is);
      long = omega (
        arith,
        a.long,
        sum,
        plain,
        names,
        lines_least c e.labels 0 h.spells.1 pool h.spells.2,
        sum_by-append (least_line e.labels) (flat 0 c) (end_instr ∷ []),
        sum_by-append least_instr (flat 0 c) (end_instr ∷ []),
        sum_by-cons (least_line e.labels) end_instr [],
        sum_by-cons least_instr end_instr [],
        plain_end e.labels,
      );
      added = a.added;
    }
