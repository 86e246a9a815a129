-- What the first byte of an instruction says of it.
use Rattle.std.proofs.Common.{◌≡◌, ℕ, ◌+◌, ◌≤◌, inl, inr, List, [], ◌∷◌, ◌++◌, length, length-append, Option, Some, None, arith, refl, ap, subst, sym, ◌∙◌}
use Rattle.wasm_form.specs.Values.{SpellsU32, SpellsItems, SpellsVector}
use Rattle.wasm_form.specs.Types.{SpellsBlockType}
use Rattle.wasm_form.specs.Instructions.{immediates_of, SpellsImmediates}
use Rattle.wasm_form.specs.declared.value_type.ValType.{ValType}
use Rattle.wasm_form.specs.declared.instr.Instr.{Instr}
use Rattle.wasm_form.specs.declared.instr.Imm.{Imm}
use Rattle.wasm_form.specs.declared.immediates.Immediates.{Immediates}
use Rattle.body_reader.specs.Items.{Item, PlainItem, TableItem, OpenItem, ElseItem, EndItem, IsOpener, SpellsItem}
use Rattle.body_reader.proofs.Pieces.{Parts, Seen}

abbrev mark_at : Option Immediates → ℕ → ℕ
mark_at None n = n + 2
mark_at (Some k) n = 1

unfoldable pub mark : ℕ → ℕ
mark n = mark_at (immediates_of n) n

pub plain_mark : (n : ℕ) (k : Immediates) → immediates_of n ≡ Some k → mark n ≡ 1
unfolding mark
plain_mark n k e = ap (λ o. mark_at o n) e

pub special_mark : (n : ℕ) → immediates_of n ≡ None → mark n ≡ n + 2
unfolding mark
special_mark n e = ap (λ o. mark_at o n) e

pub table_mark : mark 0x0E ≡ 16
unfolding mark immediates_of
table_mark = refl

pub else_mark : mark 0x05 ≡ 7
unfolding mark immediates_of
else_mark = refl

pub end_mark : mark 0x0B ≡ 13
unfolding mark immediates_of
end_mark = refl

two_mark : mark 0x02 ≡ 4
unfolding mark immediates_of
two_mark = refl

three_mark : mark 0x03 ≡ 5
unfolding mark immediates_of
three_mark = refl

four_mark : mark 0x04 ≡ 6
unfolding mark immediates_of
four_mark = refl

pub opener_mark : (n : ℕ) → IsOpener n → mark n ≡ n + 2
opener_mark n h =
    elim h [
      | inl e ↦ ap mark e ∙ two_mark ∙ ap (λ (m : ℕ). m + 2) (sym e)
      | inr h ↦ elim h [
        | inl e ↦ ap mark e ∙ three_mark ∙ ap (λ (m : ℕ). m + 2) (sym e)
        | inr e ↦ ap mark e ∙ four_mark ∙ ap (λ (m : ℕ). m + 2) (sym e)
      ]
    ]

abbrev pub item_mark : Item → ℕ
item_mark (PlainItem i) = 1
item_mark (TableItem labels last) = 16
item_mark (OpenItem code result) = code + 2
item_mark ElseItem = 7
item_mark EndItem = 13

head_is : (m n : ℕ) (s t : List ℕ) → m ∷ s ≡ n ∷ t → m ≡ n
head_is m n s t e = cc

tail_is : (m n : ℕ) (s t : List ℕ) → m ∷ s ≡ n ∷ t → s ≡ t
tail_is m n s t e = cc

pub mark_of_item : (n : ℕ) (s : List ℕ) (item : Item) → SpellsItem (n ∷ s) item → mark n ≡ item_mark item
mark_of_item n s (PlainItem i) h = ap mark (head_is n i.code s h.1 h.4) ∙ plain_mark i.code h.0 h.2
mark_of_item n s (TableItem labels last) h = ap mark (head_is n 0x0E s (h.0 ++ h.1) h.4) ∙ table_mark
mark_of_item n s (OpenItem code r) h =
    let same : n ≡ code = head_is n code s h.0 h.3 in
    ap mark same ∙ opener_mark code h.1
mark_of_item n s ElseItem h = ap mark (head_is n 0x05 s [] h) ∙ else_mark
mark_of_item n s EndItem h = ap mark (head_is n 0x0B s [] h) ∙ end_mark

-- the first byte
pub first_byte : (u : List ℕ) (item : Item) → SpellsItem u item → (n : ℕ) × (s : List ℕ) × (u ≡ n ∷ s)
first_byte u (PlainItem i) h = (i.code, h.1, h.4)
first_byte u (TableItem labels last) h = (0x0E, h.0 ++ h.1, h.4)
first_byte u (OpenItem code r) h = (code, h.0, h.3)
first_byte u ElseItem h = (0x05, [], h)
first_byte u EndItem h = (0x0B, [], h)

pub code_first : (code : ℕ) → Parts (λ s b. s ≡ b ∷ []) (λ s. SpellsItem (code ∷ s)) SpellsItem (λ _ item. item) code
code_first code =
    record {
      put = λ s t item h k. subst (λ (l : List ℕ). SpellsItem l item) (ap (λ (l : List ℕ). l ++ t) (sym h)) k;
      split = λ u w h.
          let b = first_byte u w h in (
            b.0 ∷ [],
            b.1,
            b.0,
            w,
            refl,
            b.2,
            λ e. subst (λ (l : List ℕ). SpellsItem l w) (b.2 ∙ ap (λ (n : ℕ). n ∷ b.1) e) h,
            refl,
          );
    }

-- an instruction that opens and closes no block
pub plain : (code : ℕ) (k : Immediates) → immediates_of code ≡ Some k → Seen (SpellsImmediates k) (λ s. SpellsItem (code ∷ s)) (λ i. PlainItem (record { code = code; imm = i }))
plain code k is = record { put = λ s i h. (k, s, is, h, refl); back = back }
  where
    back : (u : List ℕ) (w : Item) → SpellsItem (code ∷ u) w → (i : Imm) × SpellsImmediates k u i × (w ≡ PlainItem (record { code = code; imm = i }))
    back u (PlainItem i) h =
        let same : code ≡ i.code = head_is code i.code u h.1 h.4 in
        let kinds : Some k ≡ Some h.0 = sym is ∙ ap immediates_of same ∙ h.2 in
        let sort : h.0 ≡ k = cc in
        let rest : h.1 ≡ u = sym (tail_is code i.code u h.1 h.4) in
        let mk : Instr → Instr = λ x. x in (
          i.imm,
          subst (λ (l : List ℕ). SpellsImmediates k l i.imm) rest (subst (λ (j : Immediates). SpellsImmediates j h.1 i.imm) sort h.3),
          ap (λ (n : ℕ). PlainItem (mk (record { code = n; imm = i.imm }))) (sym same),
        )
    back u (TableItem labels last) h = absurd (omega (arith, plain_mark code k is, mark_of_item code u (TableItem labels last) h))
    back u (OpenItem c r) h = absurd (omega (arith, plain_mark code k is, mark_of_item code u (OpenItem c r) h))
    back u ElseItem h = absurd (omega (arith, plain_mark code k is, mark_of_item code u ElseItem h))
    back u EndItem h = absurd (omega (arith, plain_mark code k is, mark_of_item code u EndItem h))

-- a block, loop or if
pub below : (code : ℕ) → IsOpener code → (2 ≤ code) × (code ≤ 4)
below code h = elim h [ inl e ↦ (omega (arith, e), omega (arith, e)) | inr h ↦ elim h [ inl e ↦ (omega (arith, e), omega (arith, e)) | inr e ↦ (omega (arith, e), omega (arith, e)) ] ]

pub opener : (code : ℕ) → IsOpener code → Seen SpellsBlockType (λ s. SpellsItem (code ∷ s)) (λ r. OpenItem code r)
opener code is = record { put = λ s r h. (s, is, h, refl); back = back }
  where
    back : (u : List ℕ) (w : Item) → SpellsItem (code ∷ u) w → (r : Option ValType) × SpellsBlockType u r × (w ≡ OpenItem code r)
    back u (OpenItem c r) h =
        (r, subst (λ (l : List ℕ). SpellsBlockType l r) (sym (tail_is code c u h.0 h.3)) h.2, ap (λ (n : ℕ). OpenItem n r) (sym (head_is code c u h.0 h.3)))
    back u (PlainItem i) h = absurd (omega (arith, opener_mark code is, mark_of_item code u (PlainItem i) h))
    back u (TableItem labels last) h = absurd (omega (arith, opener_mark code is, (below code is).1, mark_of_item code u (TableItem labels last) h))
    back u ElseItem h = absurd (omega (arith, opener_mark code is, (below code is).1, mark_of_item code u ElseItem h))
    back u EndItem h = absurd (omega (arith, opener_mark code is, (below code is).1, mark_of_item code u EndItem h))

-- else and end
pub only_else : (u : List ℕ) (w : Item) → SpellsItem (0x05 ∷ u) w → (u ≡ []) × (w ≡ ElseItem)
only_else u ElseItem h = (tail_is 0x05 0x05 u [] h, refl)
only_else u (OpenItem c r) h = absurd (omega (arith, else_mark, mark_of_item 0x05 u (OpenItem c r) h, (below c h.1).1))
only_else u w h = absurd (omega (arith, else_mark, mark_of_item 0x05 u w h))

pub only_end : (u : List ℕ) (w : Item) → SpellsItem (0x0B ∷ u) w → (u ≡ []) × (w ≡ EndItem)
only_end u EndItem h = (tail_is 0x0B 0x0B u [] h, refl)
only_end u (OpenItem c r) h = absurd (omega (arith, end_mark, mark_of_item 0x0B u (OpenItem c r) h, (below c h.1).1))
only_end u w h = absurd (omega (arith, end_mark, mark_of_item 0x0B u w h))

-- br_table
pub table : (labels : List ℕ) → Parts (SpellsVector SpellsU32) SpellsU32 (λ s. SpellsItem (0x0E ∷ s)) (λ ls last. TableItem ls last) labels
table labels = record { put = λ s t last h k. (s, t, h, k, refl); split = split }
  where
    split : (u : List ℕ) (w : Item) → SpellsItem (0x0E ∷ u) w → (s : List ℕ) × (t : List ℕ) × (x : List ℕ) × (y : ℕ) × SpellsVector SpellsU32 s x × (u ≡ s ++ t) × (x ≡ labels → SpellsU32 t y) × (w ≡ TableItem x y)
    split u (TableItem ls last) h = (h.0, h.1, ls, last, h.2, tail_is 0x0E 0x0E u (h.0 ++ h.1) h.4, λ _. h.3, refl)
    split u (OpenItem c r) h = absurd (omega (arith, table_mark, mark_of_item 0x0E u (OpenItem c r) h, (below c h.1).1))
    split u (PlainItem i) h = absurd (omega (arith, table_mark, mark_of_item 0x0E u (PlainItem i) h))
    split u ElseItem h = absurd (omega (arith, table_mark, mark_of_item 0x0E u ElseItem h))
    split u EndItem h = absurd (omega (arith, table_mark, mark_of_item 0x0E u EndItem h))

-- no other code has a form of its own
pub no_item : (code : ℕ) → immediates_of code ≡ None → (IsOpener code → ⊥) → (code ≡ 0x0E → ⊥) → (code ≡ 0x05 → ⊥) → (code ≡ 0x0B → ⊥) → (u : List ℕ) (w : Item) → SpellsItem (code ∷ u) w → ⊥
no_item code is a b c d u (PlainItem i) h = omega (arith, special_mark code is, mark_of_item code u (PlainItem i) h)
no_item code is a b c d u (TableItem labels last) h = b (omega (arith, special_mark code is, mark_of_item code u (TableItem labels last) h))
no_item code is a b c d u (OpenItem e r) h = a (subst IsOpener (sym (head_is code e u h.0 h.3)) h.1)
no_item code is a b c d u ElseItem h = c (omega (arith, special_mark code is, mark_of_item code u ElseItem h))
no_item code is a b c d u EndItem h = d (omega (arith, special_mark code is, mark_of_item code u EndItem h))

-- a u32 has a byte at least, so there are no more than bytes
u32_bytes : (s : List ℕ) (n : ℕ) → SpellsU32 s n → 1 ≤ length s
u32_bytes [] n h = absurd h
u32_bytes (b ∷ s) n h = omega arith

items_bytes : (xs s : List ℕ) → SpellsItems SpellsU32 s xs → length xs ≤ length s
items_bytes [] s h = omega arith
items_bytes (x ∷ xs) s h =
    omega (arith, u32_bytes h.0 x h.2, items_bytes xs h.1 h.3, ap (λ (l : List ℕ). length l) h.4, length-append h.0 h.1)

pub vector_bytes : (xs s : List ℕ) → SpellsVector SpellsU32 s xs → length xs ≤ length s
vector_bytes xs s h = omega (arith, items_bytes xs h.1 h.3, ap (λ (l : List ℕ). length l) h.4, length-append h.0 h.1)
