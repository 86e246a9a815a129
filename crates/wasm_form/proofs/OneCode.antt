-- Each instruction, each list of instructions before its end, and each expression has spellings of its own.
use Rattle.std.proofs.Common.{◌≡◌, ℕ, ℤ, ◌⊎◌, inl, inr, List, [], ◌∷◌, ◌++◌, eqb, Option, Some, None, cond, arith, refl, ap, subst, sym, ◌∙◌}
use Rattle.std.specs.Int.{cast_unsigned, from_le_bytes, w32, w64}
use Rattle.leb_read.specs.Numbers.{SpellsSigned}
use Rattle.wasm_form.specs.Values.{SpellsU32, SpellsVector}
use Rattle.wasm_form.specs.Types.{SpellsBlockType}
use Rattle.wasm_form.specs.Instructions.{immediates_of, SpellsImmediates, SpellsPlain}
use Rattle.wasm_form.specs.Trees.{Code, Empty, Then, TableOf, BlockOf, LoopOf, IfOf, IfElseOf, SpellsTable, SpellsCode, SpellsExpr, flat, labels_of, matches_of, end_instr}
use Rattle.wasm_form.specs.declared.value_type.ValType.{ValType}
use Rattle.wasm_form.specs.declared.instr.Instr.{Instr}
use Rattle.wasm_form.specs.declared.instr.Imm.{Imm}
use Rattle.wasm_form.specs.declared.instr.Imm.TheVariants as imm
use Rattle.wasm_form.specs.declared.expr.Expr.{Expr}
use Rattle.wasm_form.specs.declared.expr.Match.{Match}
use Rattle.wasm_form.specs.declared.immediates.Immediates.{Immediates}
use Rattle.wasm_form.specs.declared.immediates.Immediates.TheVariants as kind
use Rattle.wasm_form.proofs.Fronts.{OneFront, Both, Led, one_both, one_led, one_by, one_vector, regroup, cancel, joined, heads, tails, same_front}
use Rattle.wasm_form.proofs.OneType.{one_block_type}

-- what an instruction's first byte says of the form of the instruction
abbrev form_of_code : ℕ → ℕ
form_of_code n = cond (eqb n 0x05) 0 (cond (eqb n 0x0B) 0 (cond (eqb n 0x0E) 2 (cond (eqb n 0x02) 3 (cond (eqb n 0x03) 4 5))))

abbrev form_at : Option Immediates → ℕ → ℕ
form_at None n = form_of_code n
form_at (Some k) n = 1

unfoldable form : ℕ → ℕ
form n = form_at (immediates_of n) n

plain_form : (n : ℕ) (k : Immediates) → immediates_of n ≡ Some k → form n ≡ 1
unfolding form
plain_form n k e = ap (λ o. form_at o n) e

-- the codes of the forms that are no plain instruction
closer_form : (p : ℕ) → (p ≡ 0x05) ⊎ (p ≡ 0x0B) → form p ≡ 0
unfolding form immediates_of
closer_form p h = elim h [ inl e ↦ ap form e | inr e ↦ ap form e ]

table_form : form 0x0E ≡ 2
unfolding form immediates_of
table_form = refl

block_form : form 0x02 ≡ 3
unfolding form immediates_of
block_form = refl

loop_form : form 0x03 ≡ 4
unfolding form immediates_of
loop_form = refl

if_form : form 0x04 ≡ 5
unfolding form immediates_of
if_form = refl

-- the form of the first instruction, or of what ends the list
abbrev rank : Code → ℕ
rank Empty = 0
rank (Then i rest) = 1
rank (TableOf labels last rest) = 2
rank (BlockOf r inside rest) = 3
rank (LoopOf r inside rest) = 4
rank (IfOf r inside rest) = 5
rank (IfElseOf r inside other rest) = 5

-- the first byte, and what it says
abbrev Begins : List ℕ → ℕ → Type 0
Begins bytes r = (n : ℕ) × (more : List ℕ) × (bytes ≡ n ∷ more) × (form n ≡ r)

begins : (c : Code) (s x : List ℕ) (p : ℕ) → (p ≡ 0x05) ⊎ (p ≡ 0x0B) → SpellsCode s c → Begins (s ++ p ∷ x) (rank c)
begins Empty s x p closes h = (p, x, ap (λ (l : List ℕ). l ++ p ∷ x) h, closer_form p closes)
begins (Then i rest) s x p closes h =
    let whole : s ≡ i.code ∷ (h.2.1 ++ h.1) = h.4 ∙ ap (λ (l : List ℕ). l ++ h.1) h.2.4 in
    (i.code, (h.2.1 ++ h.1) ++ p ∷ x, ap (λ (l : List ℕ). l ++ p ∷ x) whole, plain_form i.code h.2.0 h.2.2)
begins (TableOf labels last rest) s x p closes h =
    let whole : s ≡ 0x0E ∷ ((h.2.0 ++ h.2.1) ++ h.1) = h.4 ∙ ap (λ (l : List ℕ). l ++ h.1) h.2.4 in
    (0x0E, ((h.2.0 ++ h.2.1) ++ h.1) ++ p ∷ x, ap (λ (l : List ℕ). l ++ p ∷ x) whole, table_form)
begins (BlockOf r inside rest) s x p closes h =
    (0x02, (h.0 ++ (h.1 ++ 0x0B ∷ h.2)) ++ p ∷ x, ap (λ (l : List ℕ). l ++ p ∷ x) h.6, block_form)
begins (LoopOf r inside rest) s x p closes h =
    (0x03, (h.0 ++ (h.1 ++ 0x0B ∷ h.2)) ++ p ∷ x, ap (λ (l : List ℕ). l ++ p ∷ x) h.6, loop_form)
begins (IfOf r inside rest) s x p closes h =
    (0x04, (h.0 ++ (h.1 ++ 0x0B ∷ h.2)) ++ p ∷ x, ap (λ (l : List ℕ). l ++ p ∷ x) h.6, if_form)
begins (IfElseOf r inside other rest) s x p closes h =
    (0x04, (h.0 ++ (h.1 ++ 0x05 ∷ (h.2 ++ 0x0B ∷ h.3))) ++ p ∷ x, ap (λ (l : List ℕ). l ++ p ∷ x) h.8, if_form)

same_rank : (s t : List ℕ) (r q : ℕ) → Begins s r → Begins t q → s ≡ t → r ≡ q
same_rank s t r q h k e =
    let cells : h.0 ∷ h.1 ≡ k.0 ∷ k.1 = sym h.2 ∙ e ∙ k.2 in
    let first : h.0 ≡ k.0 = cc in
    sym h.3 ∙ ap form first ∙ k.3

-- the immediates of one code
one_immediates : OneFront SpellsU32 → ((N : ℕ) → OneFront (SpellsSigned N)) → (k : Immediates) → OneFront (SpellsImmediates k)
one_immediates numbers signed kind.Bare = record { one = λ s t x y v w h k e. (h.0 ∙ sym k.0, h.1 ∙ sym k.1) }
one_immediates numbers signed kind.Index =
    record {
      one = λ s t x y v w h k e.
          let r : (s ≡ t) × (h.0 ≡ k.0) = numbers.one s t x y h.0 k.0 h.1 k.1 e in
          (r.0, h.2 ∙ ap (λ (n : ℕ). imm.Index n) r.1 ∙ sym k.2);
    }
one_immediates numbers signed kind.TypeAndZero =
    record {
      one = λ s t x y v w h k e.
          let r : (h.0 ≡ k.0) × (h.1 ≡ k.1) = numbers.one h.0 k.0 (0x00 ∷ x) (0x00 ∷ y) h.1 k.1 h.2 k.2 (regroup s h.0 (0x00 ∷ []) t k.0 (0x00 ∷ []) x y h.3 k.3 e) in
          (joined s h.0 (0x00 ∷ []) t k.0 (0x00 ∷ []) h.3 k.3 r.0 refl, h.4 ∙ ap (λ (n : ℕ). imm.Index n) r.1 ∙ sym k.4);
    }
one_immediates numbers signed kind.Zero = record { one = λ s t x y v w h k e. (h.0 ∙ sym k.0, h.1 ∙ sym k.1) }
one_immediates numbers signed kind.Memory =
    record {
      one = λ s t x y v w h k e.
          let r : (s ≡ t) × ((h.2, h.3) ≡ (k.2, k.3)) =
          (one_both SpellsU32 SpellsU32 numbers numbers).one s t x y (h.2, h.3) (k.2, k.3) (h.0, h.1, h.4, h.5, h.6) (k.0, k.1, k.4, k.5, k.6) e
          in
          (r.0, h.7 ∙ ap (λ (p : ℕ × ℕ). imm.Mem p.0 p.1) r.1 ∙ sym k.7);
    }
one_immediates numbers signed kind.S32 =
    record {
      one = λ s t x y v w h k e.
          let r : (s ≡ t) × (h.0 ≡ k.0) = (signed 32).one s t x y h.0 k.0 h.1 k.1 e in
          (r.0, h.2 ∙ ap (λ (n : ℤ). imm.I32 (cast_unsigned w32 n)) r.1 ∙ sym k.2);
    }
one_immediates numbers signed kind.S64 =
    record {
      one = λ s t x y v w h k e.
          let r : (s ≡ t) × (h.0 ≡ k.0) = (signed 64).one s t x y h.0 k.0 h.1 k.1 e in
          (r.0, h.2 ∙ ap (λ (n : ℤ). imm.I64 (cast_unsigned w64 n)) r.1 ∙ sym k.2);
    }
one_immediates numbers signed kind.F32 =
    record {
      one = λ s t x y v w h k e.
          let same : s ≡ t = same_front s t x y (h.0 ∙ sym k.0) e in
          (same, h.1 ∙ ap (λ (l : List ℕ). imm.F32 (from_le_bytes w32 l)) same ∙ sym k.1);
    }
one_immediates numbers signed kind.F64 =
    record {
      one = λ s t x y v w h k e.
          let same : s ≡ t = same_front s t x y (h.0 ∙ sym k.0) e in
          (same, h.1 ∙ ap (λ (l : List ℕ). imm.F64 (from_le_bytes w64 l)) same ∙ sym k.1);
    }

same_kind : (m n : ℕ) (j k : Immediates) → immediates_of m ≡ Some j → immediates_of n ≡ Some k → m ≡ n → j ≡ k
same_kind m n j k h g e =
    let both : Some j ≡ Some k = sym h ∙ ap immediates_of e ∙ g in
    cc

module _ (numbers : OneFront SpellsU32) (signed : (N : ℕ) → OneFront (SpellsSigned N)) where
  pub one_plain : OneFront SpellsPlain
  one_plain =
      record {
        one = λ s t x y v w h k e.
            let code : v.code ≡ w.code = heads v.code w.code s t h.1 k.1 x y h.4 k.4 e in
            let sort : h.0 ≡ k.0 = same_kind v.code w.code h.0 k.0 h.2 k.2 code in
            let more : (h.1 ≡ k.1) × (v.imm ≡ w.imm) =
            (one_immediates numbers signed k.0).one h.1 k.1 x y v.imm w.imm (subst (λ (j : Immediates). SpellsImmediates j h.1 v.imm) sort h.3) k.3
            (tails v.code w.code s t h.1 k.1 x y h.4 k.4 e)
            in
            let mk : Instr → Instr = λ u. u in (
              h.4 ∙ ap (λ (b : ℕ). b ∷ h.1) code ∙ ap (λ (l : List ℕ). w.code ∷ l) more.0 ∙ sym k.4,
              ap (λ (b : ℕ). mk (record { code = b; imm = v.imm })) code ∙ ap (λ (b : Imm). mk (record { code = w.code; imm = b })) more.1,
            );
      }

  abbrev TableLike : List ℕ → List ℕ × ℕ → Type 0
  TableLike s p = SpellsTable s p.0 p.1

  one_table : OneFront TableLike
  one_table =
      let labels : OneFront (SpellsVector SpellsU32) = one_vector SpellsU32 numbers numbers in
      one_by TableLike (Led 0x0E (Both (SpellsVector SpellsU32) SpellsU32)) (λ v. v) (λ v. v) (λ v. refl)
      (λ s v h. (h.0 ++ h.1, (h.0, h.1, h.2, h.3, refl), h.4))
      (one_led 0x0E (Both (SpellsVector SpellsU32) SpellsU32) (one_both (SpellsVector SpellsU32) SpellsU32 labels numbers))

  -- one list, whatever byte closes it
  abbrev Same : Code → Code → List ℕ → List ℕ → Type 0
  Same c d s t = (x y : List ℕ) (p q : ℕ) → (p ≡ 0x05) ⊎ (p ≡ 0x0B) → (q ≡ 0x05) ⊎ (q ≡ 0x0B) → s ++ p ∷ x ≡ t ++ q ∷ y → (s ≡ t) × (c ≡ d)

  -- what follows a block's type
  opened : (b : ℕ) (s ty u t tz v x y : List ℕ) (r r' : Option ValType) → SpellsBlockType ty r → SpellsBlockType tz r'
      → s ≡ b ∷ (ty ++ u) → t ≡ b ∷ (tz ++ v) → s ++ x ≡ t ++ y → (ty ≡ tz) × (r ≡ r') × (u ++ x ≡ v ++ y)
  opened b s ty u t tz v x y r r' h k hs ks e =
      let rest : (ty ++ u) ++ x ≡ (tz ++ v) ++ y = tails b b s t (ty ++ u) (tz ++ v) x y hs ks e in
      let whole : ty ++ (u ++ x) ≡ tz ++ (v ++ y) = regroup (ty ++ u) ty u (tz ++ v) tz v x y refl refl rest in
      let o : (ty ≡ tz) × (r ≡ r') = one_block_type.one ty tz (u ++ x) (v ++ y) r r' h k whole in
      (o.0, o.1, cancel ty tz (u ++ x) (v ++ y) o.0 whole)

  -- an inner list and what follows what closes it
  closed : (c d : Code) (i j u v x y : List ℕ) (p q : ℕ) → (p ≡ 0x05) ⊎ (p ≡ 0x0B) → (q ≡ 0x05) ⊎ (q ≡ 0x0B) → Same c d i j
      → (i ++ p ∷ u) ++ x ≡ (j ++ q ∷ v) ++ y → (i ≡ j) × (c ≡ d) × (p ≡ q) × (u ++ x ≡ v ++ y)
  closed c d i j u v x y p q pc qc same e =
      let whole : i ++ p ∷ (u ++ x) ≡ j ++ q ∷ (v ++ y) = regroup (i ++ p ∷ u) i (p ∷ u) (j ++ q ∷ v) j (q ∷ v) x y refl refl e in
      let inner : (i ≡ j) × (c ≡ d) = same (u ++ x) (v ++ y) p q pc qc whole in
      let cells : p ∷ (u ++ x) ≡ q ∷ (v ++ y) = cancel i j (p ∷ (u ++ x)) (q ∷ (v ++ y)) inner.0 whole in
      let byte : p ≡ q = cc in
      let rest : u ++ x ≡ v ++ y = cc in
      (inner.0, inner.1, byte, rest)

  -- a block, a loop or an if without else
  block : (b : ℕ) (s t ty i u tz j v : List ℕ) (r r' : Option ValType) (c d ct dt : Code) → SpellsBlockType ty r → SpellsBlockType tz r'
      → s ≡ b ∷ (ty ++ (i ++ 0x0B ∷ u)) → t ≡ b ∷ (tz ++ (j ++ 0x0B ∷ v)) → Same c d i j → Same ct dt u v
      → (x y : List ℕ) (p q : ℕ) → (p ≡ 0x05) ⊎ (p ≡ 0x0B) → (q ≡ 0x05) ⊎ (q ≡ 0x0B) → s ++ p ∷ x ≡ t ++ q ∷ y
      → (s ≡ t) × (r ≡ r') × (c ≡ d) × (ct ≡ dt)
  block b s t ty i u tz j v r r' c d ct dt h k hs ks inner rest x y p q pc qc e =
      let o : (ty ≡ tz) × (r ≡ r') × ((i ++ 0x0B ∷ u) ++ p ∷ x ≡ (j ++ 0x0B ∷ v) ++ q ∷ y) =
      opened b s ty (i ++ 0x0B ∷ u) t tz (j ++ 0x0B ∷ v) (p ∷ x) (q ∷ y) r r' h k hs ks e
      in
      let n : (i ≡ j) × (c ≡ d) × (0x0B ≡ 0x0B) × (u ++ p ∷ x ≡ v ++ q ∷ y) = closed c d i j u v (p ∷ x) (q ∷ y) 0x0B 0x0B (inr refl) (inr refl) inner o.2 in
      let m : (u ≡ v) × (ct ≡ dt) = rest x y p q pc qc n.3 in
      let ty_is : ty ≡ tz = o.0 in
      let i_is : i ≡ j = n.0 in
      let u_is : u ≡ v = m.0 in
      (cc, o.1, n.1, m.1)

  one_code : (c d : Code) (s t : List ℕ) → SpellsCode s c → SpellsCode t d → Same c d s t
  one_code Empty Empty s t h k x y p q pc qc e = (h ∙ sym k, refl)
  one_code (Then i c) (Then j d) s t h k x y p q pc qc e =
      let whole : h.0 ++ (h.1 ++ p ∷ x) ≡ k.0 ++ (k.1 ++ q ∷ y) = regroup s h.0 h.1 t k.0 k.1 (p ∷ x) (q ∷ y) h.4 k.4 e in
      let first : (h.0 ≡ k.0) × (i ≡ j) = one_plain.one h.0 k.0 (h.1 ++ p ∷ x) (k.1 ++ q ∷ y) i j h.2 k.2 whole in
      let more : (h.1 ≡ k.1) × (c ≡ d) = one_code c d h.1 k.1 h.3 k.3 x y p q pc qc (cancel h.0 k.0 (h.1 ++ p ∷ x) (k.1 ++ q ∷ y) first.0 whole) in
      (joined s h.0 h.1 t k.0 k.1 h.4 k.4 first.0 more.0, ap (λ (l : Instr). Then l c) first.1 ∙ ap (λ (l : Code). Then j l) more.1)
  one_code (TableOf ls m c) (TableOf ms n d) s t h k x y p q pc qc e =
      let whole : h.0 ++ (h.1 ++ p ∷ x) ≡ k.0 ++ (k.1 ++ q ∷ y) = regroup s h.0 h.1 t k.0 k.1 (p ∷ x) (q ∷ y) h.4 k.4 e in
      let first : (h.0 ≡ k.0) × ((ls, m) ≡ (ms, n)) = one_table.one h.0 k.0 (h.1 ++ p ∷ x) (k.1 ++ q ∷ y) (ls, m) (ms, n) h.2 k.2 whole in
      let more : (h.1 ≡ k.1) × (c ≡ d) = one_code c d h.1 k.1 h.3 k.3 x y p q pc qc (cancel h.0 k.0 (h.1 ++ p ∷ x) (k.1 ++ q ∷ y) first.0 whole) in
      (joined s h.0 h.1 t k.0 k.1 h.4 k.4 first.0 more.0, ap (λ (l : List ℕ × ℕ). TableOf l.0 l.1 c) first.1 ∙ ap (λ (l : Code). TableOf ms n l) more.1)
  one_code (BlockOf r c ct) (BlockOf r' d dt) s t h k x y p q pc qc e =
      let b = block 0x02 s t h.0 h.1 h.2 k.0 k.1 k.2 r r' c d ct dt h.3 k.3 h.6 k.6 (one_code c d h.1 k.1 h.4 k.4) (one_code ct dt h.2 k.2 h.5 k.5) x y p q pc qc e in
      (b.0, ap (λ (l : Option ValType). BlockOf l c ct) b.1 ∙ ap (λ (l : Code). BlockOf r' l ct) b.2 ∙ ap (λ (l : Code). BlockOf r' d l) b.3)
  one_code (LoopOf r c ct) (LoopOf r' d dt) s t h k x y p q pc qc e =
      let b = block 0x03 s t h.0 h.1 h.2 k.0 k.1 k.2 r r' c d ct dt h.3 k.3 h.6 k.6 (one_code c d h.1 k.1 h.4 k.4) (one_code ct dt h.2 k.2 h.5 k.5) x y p q pc qc e in
      (b.0, ap (λ (l : Option ValType). LoopOf l c ct) b.1 ∙ ap (λ (l : Code). LoopOf r' l ct) b.2 ∙ ap (λ (l : Code). LoopOf r' d l) b.3)
  one_code (IfOf r c ct) (IfOf r' d dt) s t h k x y p q pc qc e =
      let b = block 0x04 s t h.0 h.1 h.2 k.0 k.1 k.2 r r' c d ct dt h.3 k.3 h.6 k.6 (one_code c d h.1 k.1 h.4 k.4) (one_code ct dt h.2 k.2 h.5 k.5) x y p q pc qc e in
      (b.0, ap (λ (l : Option ValType). IfOf l c ct) b.1 ∙ ap (λ (l : Code). IfOf r' l ct) b.2 ∙ ap (λ (l : Code). IfOf r' d l) b.3)
  one_code (IfOf r c ct) (IfElseOf r' d o dt) s t h k x y p q pc qc e =
      let a = opened 0x04 s h.0 (h.1 ++ 0x0B ∷ h.2) t k.0 (k.1 ++ 0x05 ∷ (k.2 ++ 0x0B ∷ k.3)) (p ∷ x) (q ∷ y) r r' h.3 k.4 h.6 k.8 e in
      let b = closed c d h.1 k.1 h.2 (k.2 ++ 0x0B ∷ k.3) (p ∷ x) (q ∷ y) 0x0B 0x05 (inr refl) (inl refl) (one_code c d h.1 k.1 h.4 k.5) a.2 in
      absurd (omega (arith, b.2))
  one_code (IfElseOf r c o ct) (IfOf r' d dt) s t h k x y p q pc qc e =
      let a = opened 0x04 s h.0 (h.1 ++ 0x05 ∷ (h.2 ++ 0x0B ∷ h.3)) t k.0 (k.1 ++ 0x0B ∷ k.2) (p ∷ x) (q ∷ y) r r' h.4 k.3 h.8 k.6 e in
      let b = closed c d h.1 k.1 (h.2 ++ 0x0B ∷ h.3) k.2 (p ∷ x) (q ∷ y) 0x05 0x0B (inl refl) (inr refl) (one_code c d h.1 k.1 h.5 k.4) a.2 in
      absurd (omega (arith, b.2))
  one_code (IfElseOf r c o ct) (IfElseOf r' d o' dt) s t h k x y p q pc qc e =
      let a = opened 0x04 s h.0 (h.1 ++ 0x05 ∷ (h.2 ++ 0x0B ∷ h.3)) t k.0 (k.1 ++ 0x05 ∷ (k.2 ++ 0x0B ∷ k.3)) (p ∷ x) (q ∷ y) r r' h.4 k.4 h.8 k.8 e in
      let b = closed c d h.1 k.1 (h.2 ++ 0x0B ∷ h.3) (k.2 ++ 0x0B ∷ k.3) (p ∷ x) (q ∷ y) 0x05 0x05 (inl refl) (inl refl) (one_code c d h.1 k.1 h.5 k.5) a.2 in
      let f = closed o o' h.2 k.2 h.3 k.3 (p ∷ x) (q ∷ y) 0x0B 0x0B (inr refl) (inr refl) (one_code o o' h.2 k.2 h.6 k.6) b.3 in
      let g : (h.3 ≡ k.3) × (ct ≡ dt) = one_code ct dt h.3 k.3 h.7 k.7 x y p q pc qc f.3 in
      let tail : h.2 ++ 0x0B ∷ h.3 ≡ k.2 ++ 0x0B ∷ k.3 = joined (h.2 ++ 0x0B ∷ h.3) h.2 (0x0B ∷ h.3) (k.2 ++ 0x0B ∷ k.3) k.2 (0x0B ∷ k.3) refl refl f.0 (ap (λ (l : List ℕ). 0x0B ∷ l) g.0) in
      let inner : h.1 ++ 0x05 ∷ (h.2 ++ 0x0B ∷ h.3) ≡ k.1 ++ 0x05 ∷ (k.2 ++ 0x0B ∷ k.3) =
      joined (h.1 ++ 0x05 ∷ (h.2 ++ 0x0B ∷ h.3)) h.1 (0x05 ∷ (h.2 ++ 0x0B ∷ h.3)) (k.1 ++ 0x05 ∷ (k.2 ++ 0x0B ∷ k.3)) k.1 (0x05 ∷ (k.2 ++ 0x0B ∷ k.3)) refl refl b.0 (ap (λ (l : List ℕ). 0x05 ∷ l) tail)
      in
      let body : h.0 ++ (h.1 ++ 0x05 ∷ (h.2 ++ 0x0B ∷ h.3)) ≡ k.0 ++ (k.1 ++ 0x05 ∷ (k.2 ++ 0x0B ∷ k.3)) =
      joined (h.0 ++ (h.1 ++ 0x05 ∷ (h.2 ++ 0x0B ∷ h.3))) h.0 (h.1 ++ 0x05 ∷ (h.2 ++ 0x0B ∷ h.3)) (k.0 ++ (k.1 ++ 0x05 ∷ (k.2 ++ 0x0B ∷ k.3))) k.0 (k.1 ++ 0x05 ∷ (k.2 ++ 0x0B ∷ k.3)) refl refl a.0 inner
      in (
        h.8 ∙ ap (λ (l : List ℕ). 0x04 ∷ l) body ∙ sym k.8,
        ap (λ (l : Option ValType). IfElseOf l c o ct) a.1 ∙ ap (λ (l : Code). IfElseOf r' l o ct) b.1 ∙ ap (λ (l : Code). IfElseOf r' d l ct) f.1 ∙ ap (λ (l : Code). IfElseOf r' d o' l) g.1,
      )
  one_code c d s t h k x y p q pc qc e =
      absurd (omega (arith, same_rank (s ++ p ∷ x) (t ++ q ∷ y) (rank c) (rank d) (begins c s x p pc h) (begins d t y q qc k) e))

  pub one_expr : OneFront SpellsExpr
  one_expr =
      record {
        one = λ s t x y v w h k e.
            let whole : h.1 ++ 0x0B ∷ x ≡ k.1 ++ 0x0B ∷ y = regroup s h.1 (0x0B ∷ []) t k.1 (0x0B ∷ []) x y h.3 k.3 e in
            let same : (h.1 ≡ k.1) × (h.0 ≡ k.0) = one_code h.0 k.0 h.1 k.1 h.2 k.2 x y 0x0B 0x0B (inr refl) (inr refl) whole in
            let mk : Expr → Expr = λ u. u in
            let code : v.code ≡ w.code = h.4.code ∙ ap (λ (c : Code). flat 0 c ++ end_instr ∷ []) same.1 ∙ sym k.4.code in
            let labels : v.labels ≡ w.labels = h.4.labels ∙ ap labels_of same.1 ∙ sym k.4.labels in
            let matches : v.matches ≡ w.matches = h.4.matches ∙ ap (matches_of 0) same.1 ∙ sym k.4.matches in (
              joined s h.1 (0x0B ∷ []) t k.1 (0x0B ∷ []) h.3 k.3 same.0 refl,
              ap (λ (l : List Instr). mk (record { code = l; labels = v.labels; matches = v.matches })) code
                  ∙ ap (λ (l : List ℕ). mk (record { code = w.code; labels = l; matches = v.matches })) labels
                  ∙ ap (λ (l : List Match). mk (record { code = w.code; labels = w.labels; matches = l })) matches,
            );
      }
