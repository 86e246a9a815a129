-- Trees and their items: the same bytes spell both, and both are the same flat list.
use Rattle.std.proofs.Common.{◌≡◌, ℕ, ◌+◌, ◌-◌, ◌<◌, inl, inr, List, [], ◌∷◌, ◌++◌, length, length-append, append_assoc, append-nil, Bool, true, cond, Option, Some, None, arith, refl, ap, subst, sym, ◌∙◌}
use Rattle.std.proofs.lemmas.List.{append_cancel_left}
use Rattle.wasm_form.specs.Values.{SpellsItems}
use Rattle.wasm_form.specs.Instructions.{immediates_of, SpellsImmediates, SpellsPlain, fits}
use Rattle.wasm_form.specs.Trees.{Code, Empty, Then, TableOf, BlockOf, LoopOf, IfOf, IfElseOf, SpellsCode, flat, labels_of, end_instr, else_instr, table_instr}
use Rattle.wasm_form.specs.Matching.{sort_of, sort_at, IsPlain, HasPlain}
use Rattle.wasm_form.specs.declared.value_type.ValType.{ValType}
use Rattle.wasm_form.specs.declared.instr.Instr.{Instr}
use Rattle.wasm_form.specs.declared.instr.Imm.{Imm}
use Rattle.wasm_form.specs.declared.instr.Imm.TheVariants as imm
use Rattle.wasm_form.specs.declared.immediates.Immediates.{Immediates}
use Rattle.wasm_form.specs.declared.immediates.Immediates.TheVariants as kind
use Rattle.wasm_form.specs.declared.sort.Sort.{Sort}
use Rattle.wasm_form.specs.declared.sort.Sort.TheVariants as sort
use Rattle.wasm_form.proofs.Plain.{spelled_plain}
use Rattle.body_reader.specs.Items.{Item, PlainItem, TableItem, OpenItem, ElseItem, EndItem, IsOpener, SpellsItem, instr_of, labels_in, code_of, pooled, items_of, Closes, IsKnown}

-- lists of items, one after another
pub pooled-append : (xs ys : List Item) → pooled (xs ++ ys) ≡ pooled xs ++ pooled ys
pooled-append [] ys = refl
pooled-append (x ∷ xs) ys = ap (λ (l : List ℕ). labels_in x ++ l) (pooled-append xs ys) ∙ sym (append_assoc (labels_in x) (pooled xs) (pooled ys))

pub code_of-append : (f : ℕ) (xs ys : List Item) → code_of f (xs ++ ys) ≡ code_of f xs ++ code_of (f + length (pooled xs)) ys
code_of-append f [] ys = let zero : f ≡ f + 0 = omega arith in ap (λ (n : ℕ). code_of n ys) zero
code_of-append f (x ∷ xs) ys =
    let here : f + length (labels_in x) + length (pooled xs) ≡ f + length (labels_in x ++ pooled xs) = omega (arith, length-append (labels_in x) (pooled xs)) in
    ap (λ (l : List Instr). instr_of f x ∷ l) (code_of-append (f + length (labels_in x)) xs ys ∙ ap (λ (n : ℕ). code_of (f + length (labels_in x)) xs ++ code_of n ys) here)

pub spells-append : (xs ys : List Item) (s t : List ℕ) → SpellsItems SpellsItem s xs → SpellsItems SpellsItem t ys → SpellsItems SpellsItem (s ++ t) (xs ++ ys)
spells-append [] ys s t h k = subst (λ (l : List ℕ). SpellsItems SpellsItem l ys) (ap (λ (l : List ℕ). l ++ t) (sym h)) k
spells-append (x ∷ xs) ys s t h k =
    (h.0, h.1 ++ t, h.2, spells-append xs ys h.1 t h.3 k, ap (λ (l : List ℕ). l ++ t) h.4 ∙ append_assoc h.0 h.1 t)

pub spells-split : (xs ys : List Item) (s : List ℕ) → SpellsItems SpellsItem s (xs ++ ys) → (t : List ℕ) × (u : List ℕ) × SpellsItems SpellsItem t xs × SpellsItems SpellsItem u ys × (s ≡ t ++ u)
spells-split [] ys s h = ([], s, refl, h, refl)
spells-split (x ∷ xs) ys s h =
    let r = spells-split xs ys h.1 h.3 in
    (h.0 ++ r.0, r.1, (h.0, r.0, h.2, r.2, refl), r.3, h.4 ∙ ap (λ (l : List ℕ). h.0 ++ l) r.4 ∙ sym (append_assoc h.0 r.0 r.1))

-- the labels of a tree
pub labels_are : (c : Code) → pooled (items_of c) ≡ labels_of c
labels_are Empty = refl
labels_are (Then i rest) = labels_are rest
labels_are (TableOf labels last rest) = ap (λ (l : List ℕ). labels ++ l) (labels_are rest)
labels_are (BlockOf r a b) = pooled-append (items_of a) (EndItem ∷ items_of b) ∙ ap (λ (l : List ℕ). l ++ pooled (items_of b)) (labels_are a) ∙ ap (λ (l : List ℕ). labels_of a ++ l) (labels_are b)
labels_are (LoopOf r a b) = pooled-append (items_of a) (EndItem ∷ items_of b) ∙ ap (λ (l : List ℕ). l ++ pooled (items_of b)) (labels_are a) ∙ ap (λ (l : List ℕ). labels_of a ++ l) (labels_are b)
labels_are (IfOf r a b) = pooled-append (items_of a) (EndItem ∷ items_of b) ∙ ap (λ (l : List ℕ). l ++ pooled (items_of b)) (labels_are a) ∙ ap (λ (l : List ℕ). labels_of a ++ l) (labels_are b)
labels_are (IfElseOf r a d b) =
    pooled-append (items_of a) (ElseItem ∷ (items_of d ++ EndItem ∷ items_of b)) ∙ ap (λ (l : List ℕ). l ++ pooled (items_of d ++ EndItem ∷ items_of b)) (labels_are a)
    ∙ ap (λ (l : List ℕ). labels_of a ++ l) (pooled-append (items_of d) (EndItem ∷ items_of b) ∙ ap (λ (l : List ℕ). l ++ pooled (items_of b)) (labels_are d) ∙ ap (λ (l : List ℕ). labels_of d ++ l) (labels_are b))

-- a block, a loop or an if without else
flat_block : (f : ℕ) (i : Instr) (a b : Code) → code_of f (items_of a) ≡ flat f a → code_of (f + length (labels_of a)) (items_of b) ≡ flat (f + length (labels_of a)) b
    → i ∷ code_of (f + 0) (items_of a ++ EndItem ∷ items_of b) ≡ i ∷ (flat f a ++ end_instr ∷ flat (f + length (labels_of a)) b)
flat_block f i a b ha hb =
    let zero : f + 0 ≡ f = omega arith in
    let names : f + length (pooled (items_of a)) + 0 ≡ f + length (labels_of a) = omega (arith, ap (λ (l : List ℕ). length l) (labels_are a)) in
    ap (λ (l : List Instr). i ∷ l)
    (ap (λ (n : ℕ). code_of n (items_of a ++ EndItem ∷ items_of b)) zero ∙ code_of-append f (items_of a) (EndItem ∷ items_of b) ∙ ap (λ (l : List Instr). l ++ end_instr ∷ code_of (f + length (pooled (items_of a)) + 0) (items_of b)) ha
    ∙ ap (λ (n : ℕ). flat f a ++ end_instr ∷ code_of n (items_of b)) names ∙ ap (λ (l : List Instr). flat f a ++ end_instr ∷ l) hb)

pub flat_items : (f : ℕ) (c : Code) → code_of f (items_of c) ≡ flat f c
flat_items f Empty = refl
flat_items f (Then i rest) =
    let zero : f + 0 ≡ f = omega arith in
    ap (λ (n : ℕ). i ∷ code_of n (items_of rest)) zero ∙ ap (λ (l : List Instr). i ∷ l) (flat_items f rest)
flat_items f (TableOf labels last rest) = ap (λ (l : List Instr). table_instr f (length labels) last ∷ l) (flat_items (f + length labels) rest)
flat_items f (BlockOf r a b) = flat_block f (record { code = 0x02; imm = imm.Block r }) a b (flat_items f a) (flat_items (f + length (labels_of a)) b)
flat_items f (LoopOf r a b) = flat_block f (record { code = 0x03; imm = imm.Block r }) a b (flat_items f a) (flat_items (f + length (labels_of a)) b)
flat_items f (IfOf r a b) = flat_block f (record { code = 0x04; imm = imm.Block r }) a b (flat_items f a) (flat_items (f + length (labels_of a)) b)
flat_items f (IfElseOf r a d b) =
    let zero : f + 0 ≡ f = omega arith in
    let i : Instr = record { code = 0x04; imm = imm.Block r } in
    let fa : ℕ = f + length (labels_of a) in
    let names : f + length (pooled (items_of a)) + 0 ≡ fa = omega (arith, ap (λ (l : List ℕ). length l) (labels_are a)) in
    let more : fa + length (pooled (items_of d)) + 0 ≡ fa + length (labels_of d) = omega (arith, ap (λ (l : List ℕ). length l) (labels_are d)) in
    let inner : code_of fa (items_of d ++ EndItem ∷ items_of b) ≡ flat fa d ++ end_instr ∷ flat (fa + length (labels_of d)) b =
    code_of-append fa (items_of d) (EndItem ∷ items_of b) ∙ ap (λ (l : List Instr). l ++ end_instr ∷ code_of (fa + length (pooled (items_of d)) + 0) (items_of b)) (flat_items fa d)
    ∙ ap (λ (n : ℕ). flat fa d ++ end_instr ∷ code_of n (items_of b)) more ∙ ap (λ (l : List Instr). flat fa d ++ end_instr ∷ l) (flat_items (fa + length (labels_of d)) b)
    in
    ap (λ (l : List Instr). i ∷ l)
    (ap (λ (n : ℕ). code_of n (items_of a ++ ElseItem ∷ (items_of d ++ EndItem ∷ items_of b))) zero ∙ code_of-append f (items_of a) (ElseItem ∷ (items_of d ++ EndItem ∷ items_of b))
    ∙ ap (λ (l : List Instr). l ++ else_instr ∷ code_of (f + length (pooled (items_of a)) + 0) (items_of d ++ EndItem ∷ items_of b)) (flat_items f a)
    ∙ ap (λ (n : ℕ). flat f a ++ else_instr ∷ code_of n (items_of d ++ EndItem ∷ items_of b)) names ∙ ap (λ (l : List Instr). flat f a ++ else_instr ∷ l) inner)

pub whole_code : (c : Code) → code_of 0 (items_of c ++ EndItem ∷ []) ≡ flat 0 c ++ end_instr ∷ []
whole_code c = code_of-append 0 (items_of c) (EndItem ∷ []) ∙ ap (λ (l : List Instr). l ++ end_instr ∷ []) (flat_items 0 c)

pub whole_labels : (c : Code) → pooled (items_of c ++ EndItem ∷ []) ≡ labels_of c
whole_labels c = pooled-append (items_of c) (EndItem ∷ []) ∙ append-nil (pooled (items_of c)) ∙ labels_are c

-- the bytes of a tree are those of its items
opened : (code : ℕ) (r : Option ValType) (is : IsOpener code) (a rest : List Item) (ty inner more s : List ℕ) → Rattle.wasm_form.specs.Types.SpellsBlockType ty r
    → SpellsItems SpellsItem (inner ++ more) (a ++ rest) → s ≡ code ∷ (ty ++ (inner ++ more)) → SpellsItems SpellsItem s (OpenItem code r ∷ (a ++ rest))
opened code r is a rest ty inner more s h k e = (code ∷ ty, inner ++ more, (ty, is, h, refl), k, e)

pub spelled_items : (c : Code) (s : List ℕ) → SpellsCode s c → SpellsItems SpellsItem s (items_of c)
spelled_items Empty s h = h
spelled_items (Then i rest) s h = (h.0, h.1, h.2, spelled_items rest h.1 h.3, h.4)
spelled_items (TableOf labels last rest) s h = (h.0, h.1, h.2, spelled_items rest h.1 h.3, h.4)
spelled_items (BlockOf r a b) s h =
    opened 0x02 r (inl refl) (items_of a) (EndItem ∷ items_of b) h.0 h.1 (0x0B ∷ h.2) s h.3
    (spells-append (items_of a) (EndItem ∷ items_of b) h.1 (0x0B ∷ h.2) (spelled_items a h.1 h.4) (0x0B ∷ [], h.2, refl, spelled_items b h.2 h.5, refl)) h.6
spelled_items (LoopOf r a b) s h =
    opened 0x03 r (inr (inl refl)) (items_of a) (EndItem ∷ items_of b) h.0 h.1 (0x0B ∷ h.2) s h.3
    (spells-append (items_of a) (EndItem ∷ items_of b) h.1 (0x0B ∷ h.2) (spelled_items a h.1 h.4) (0x0B ∷ [], h.2, refl, spelled_items b h.2 h.5, refl)) h.6
spelled_items (IfOf r a b) s h =
    opened 0x04 r (inr (inr refl)) (items_of a) (EndItem ∷ items_of b) h.0 h.1 (0x0B ∷ h.2) s h.3
    (spells-append (items_of a) (EndItem ∷ items_of b) h.1 (0x0B ∷ h.2) (spelled_items a h.1 h.4) (0x0B ∷ [], h.2, refl, spelled_items b h.2 h.5, refl)) h.6
spelled_items (IfElseOf r a d b) s h =
    let inner : SpellsItems SpellsItem (h.2 ++ 0x0B ∷ h.3) (items_of d ++ EndItem ∷ items_of b) =
    spells-append (items_of d) (EndItem ∷ items_of b) h.2 (0x0B ∷ h.3) (spelled_items d h.2 h.6) (0x0B ∷ [], h.3, refl, spelled_items b h.3 h.7, refl)
    in
    opened 0x04 r (inr (inr refl)) (items_of a) (ElseItem ∷ (items_of d ++ EndItem ∷ items_of b)) h.0 h.1 (0x05 ∷ (h.2 ++ 0x0B ∷ h.3)) s h.4
    (spells-append (items_of a) (ElseItem ∷ (items_of d ++ EndItem ∷ items_of b)) h.1 (0x05 ∷ (h.2 ++ 0x0B ∷ h.3)) (spelled_items a h.1 h.5) (0x05 ∷ [], h.2 ++ 0x0B ∷ h.3, refl, inner, refl)) h.8

-- what an opening item and a list and what ends it are spelled by
abbrev Split : ℕ → Option ValType → List Item → Item → List Item → List ℕ → Type 0
Split code r a closer b s =
    (ty : List ℕ) × (inner : List ℕ) × (end : List ℕ) × (more : List ℕ) × Rattle.wasm_form.specs.Types.SpellsBlockType ty r × SpellsItems SpellsItem inner a × SpellsItem end closer
    × SpellsItems SpellsItem more b × (s ≡ code ∷ (ty ++ (inner ++ (end ++ more))))

split_open : (code : ℕ) (r : Option ValType) (a : List Item) (closer : Item) (b : List Item) (s : List ℕ) → SpellsItems SpellsItem s (OpenItem code r ∷ (a ++ closer ∷ b)) → Split code r a closer b s
split_open code r a closer b s h =
    let p = spells-split a (closer ∷ b) h.1 h.3 in
    let tail : h.1 ≡ p.0 ++ (p.3.0 ++ p.3.1) = p.4 ∙ ap (λ (l : List ℕ). p.0 ++ l) p.3.4 in
    (h.2.0, p.0, p.3.0, p.3.1, h.2.2, p.2, p.3.2, p.3.3, h.4 ∙ ap (λ (l : List ℕ). l ++ h.1) h.2.3 ∙ ap (λ (l : List ℕ). code ∷ (h.2.0 ++ l)) tail)

ended : (code : ℕ) (ty inner end more s : List ℕ) (n : ℕ) → end ≡ n ∷ [] → s ≡ code ∷ (ty ++ (inner ++ (end ++ more))) → s ≡ code ∷ (ty ++ (inner ++ n ∷ more))
ended code ty inner end more s n e h = h ∙ ap (λ (l : List ℕ). code ∷ (ty ++ (inner ++ (l ++ more)))) e

pub spelled_code : (c : Code) (s : List ℕ) → SpellsItems SpellsItem s (items_of c) → SpellsCode s c
spelled_code Empty s h = h
spelled_code (Then i rest) s h = (h.0, h.1, h.2, spelled_code rest h.1 h.3, h.4)
spelled_code (TableOf labels last rest) s h = (h.0, h.1, h.2, spelled_code rest h.1 h.3, h.4)
spelled_code (BlockOf r a b) s h =
    let p = split_open 0x02 r (items_of a) EndItem (items_of b) s h in
    (p.0, p.1, p.3, p.4, spelled_code a p.1 p.5, spelled_code b p.3 p.7, ended 0x02 p.0 p.1 p.2 p.3 s 0x0B p.6 p.8)
spelled_code (LoopOf r a b) s h =
    let p = split_open 0x03 r (items_of a) EndItem (items_of b) s h in
    (p.0, p.1, p.3, p.4, spelled_code a p.1 p.5, spelled_code b p.3 p.7, ended 0x03 p.0 p.1 p.2 p.3 s 0x0B p.6 p.8)
spelled_code (IfOf r a b) s h =
    let p = split_open 0x04 r (items_of a) EndItem (items_of b) s h in
    (p.0, p.1, p.3, p.4, spelled_code a p.1 p.5, spelled_code b p.3 p.7, ended 0x04 p.0 p.1 p.2 p.3 s 0x0B p.6 p.8)
spelled_code (IfElseOf r a d b) s h =
    let p = split_open 0x04 r (items_of a) ElseItem (items_of d ++ EndItem ∷ items_of b) s h in
    let q = spells-split (items_of d) (EndItem ∷ items_of b) p.3 p.7 in
    let tail : p.3 ≡ q.0 ++ 0x0B ∷ q.3.1 = q.4 ∙ ap (λ (l : List ℕ). q.0 ++ l) (q.3.4 ∙ ap (λ (l : List ℕ). l ++ q.3.1) q.3.2) in (
      p.0,
      p.1,
      q.0,
      q.3.1,
      p.4,
      spelled_code a p.1 p.5,
      spelled_code d q.0 q.2,
      spelled_code b q.3.1 q.3.3,
      ended 0x04 p.0 p.1 p.2 p.3 s 0x05 p.6 p.8 ∙ ap (λ (l : List ℕ). 0x04 ∷ (p.0 ++ (p.1 ++ 0x05 ∷ l))) tail,
    )

-- a tree's items keep as many lists open as there are before it
down : (d : ℕ) (m : List Item) → Closes d m → Closes (d + 1 - 1) m
down d m h = let same : d ≡ d + 1 - 1 = omega arith in subst (λ (n : ℕ). Closes n m) same h

pub closes_code : (c : Code) (d : ℕ) (m : List Item) → 0 < d → Closes d m → Closes d (items_of c ++ m)
closes_code Empty d m some h = h
closes_code (Then i rest) d m some h = (some, closes_code rest d m some h)
closes_code (TableOf labels last rest) d m some h = (some, closes_code rest d m some h)
closes_code (BlockOf r a b) d m some h = (
  some,
  subst (Closes (d + 1)) (sym (append_assoc (items_of a) (EndItem ∷ items_of b) m))
      (closes_code a (d + 1) (EndItem ∷ (items_of b ++ m)) (omega arith) (omega arith, down d (items_of b ++ m) (closes_code b d m some h))),
)
closes_code (LoopOf r a b) d m some h = (
  some,
  subst (Closes (d + 1)) (sym (append_assoc (items_of a) (EndItem ∷ items_of b) m))
      (closes_code a (d + 1) (EndItem ∷ (items_of b ++ m)) (omega arith) (omega arith, down d (items_of b ++ m) (closes_code b d m some h))),
)
closes_code (IfOf r a b) d m some h = (
  some,
  subst (Closes (d + 1)) (sym (append_assoc (items_of a) (EndItem ∷ items_of b) m))
      (closes_code a (d + 1) (EndItem ∷ (items_of b ++ m)) (omega arith) (omega arith, down d (items_of b ++ m) (closes_code b d m some h))),
)
closes_code (IfElseOf r a e b) d m some h =
    let inner : Closes (d + 1) ((items_of e ++ EndItem ∷ items_of b) ++ m) =
    subst (Closes (d + 1)) (sym (append_assoc (items_of e) (EndItem ∷ items_of b) m))
    (closes_code e (d + 1) (EndItem ∷ (items_of b ++ m)) (omega arith) (omega arith, down d (items_of b ++ m) (closes_code b d m some h)))
    in (
      some,
      subst (Closes (d + 1)) (sym (append_assoc (items_of a) (ElseItem ∷ (items_of e ++ EndItem ∷ items_of b)) m))
          (closes_code a (d + 1) (ElseItem ∷ ((items_of e ++ EndItem ∷ items_of b) ++ m)) (omega arith) (omega arith, inner)),
    )

pub closes_whole : (c : Code) → Closes 1 (items_of c ++ EndItem ∷ [])
closes_whole c = closes_code c 1 (EndItem ∷ []) (omega arith) (omega arith, refl)

-- an instruction tells its item
abbrev rank_of : Sort → ℕ
rank_of sort.Plain = 1
rank_of (sort.Table first count) = 2
rank_of sort.Block = 3
rank_of sort.If = 3
rank_of sort.Else = 4
rank_of sort.End = 5

abbrev rank_at : Option Sort → ℕ
rank_at None = 0
rank_at (Some s) = rank_of s

abbrev item_rank : Item → ℕ
item_rank (PlainItem i) = 1
item_rank (TableItem labels last) = 2
item_rank (OpenItem code result) = 3
item_rank ElseItem = 4
item_rank EndItem = 5

abbrev opening : Option ValType → ℕ → Instr
opening r code = record { code = code; imm = imm.Block r }

two_rank : (r : Option ValType) → rank_at (sort_of (opening r 0x02)) ≡ 3
unfolding sort_of immediates_of
two_rank r = refl

three_rank : (r : Option ValType) → rank_at (sort_of (opening r 0x03)) ≡ 3
unfolding sort_of immediates_of
three_rank r = refl

four_rank : (r : Option ValType) → rank_at (sort_of (opening r 0x04)) ≡ 3
unfolding sort_of immediates_of
four_rank r = refl

table_rank : (first count last : ℕ) → rank_at (sort_of (table_instr first count last)) ≡ 2
unfolding sort_of immediates_of
table_rank first count last = refl

else_rank : rank_at (sort_of else_instr) ≡ 4
unfolding sort_of immediates_of
else_rank = refl

end_rank : rank_at (sort_of end_instr) ≡ 5
unfolding sort_of immediates_of
end_rank = refl

known_rank : (f : ℕ) (x : Item) → IsKnown x → rank_at (sort_of (instr_of f x)) ≡ item_rank x
known_rank f (PlainItem i) h = ap rank_at h
known_rank f (TableItem labels last) h = table_rank f (length labels) last
known_rank f (OpenItem code r) h =
    elim h [
      | inl e ↦ ap (λ (n : ℕ). rank_at (sort_of (opening r n))) e ∙ two_rank r
      | inr k ↦ elim k [
        | inl e ↦ ap (λ (n : ℕ). rank_at (sort_of (opening r n))) e ∙ three_rank r
        | inr e ↦ ap (λ (n : ℕ). rank_at (sort_of (opening r n))) e ∙ four_rank r
      ]
    ]
known_rank f ElseItem h = else_rank
known_rank f EndItem h = end_rank

same_front : (s t x y : List ℕ) → length s ≡ length t → s ++ x ≡ t ++ y → s ≡ t
same_front [] [] x y n e = refl
same_front [] (b ∷ t) x y n e = absurd (omega arith)
same_front (a ∷ s) [] x y n e = absurd (omega arith)
same_front (a ∷ s) (b ∷ t) x y n e =
    let rest : s ≡ t = same_front s t x y (omega arith) (cc) in
    cc

same_item : (f : ℕ) (x y : Item) (p q : List ℕ) → IsKnown x → IsKnown y → instr_of f x ≡ instr_of f y → labels_in x ++ p ≡ labels_in y ++ q → (x ≡ y) × (p ≡ q)
same_item f (PlainItem i) (PlainItem j) p q h k e l = (ap PlainItem e, l)
same_item f (TableItem ls m) (TableItem ms n) p q h k e l =
    let tables : imm.Table f (length ls) m ≡ imm.Table f (length ms) n = ap (λ (i : Instr). i.imm) e in
    let count : length ls ≡ length ms = cc in
    let last : m ≡ n = cc in
    let labels : ls ≡ ms = same_front ls ms p q count l in
    (ap (λ (x : List ℕ). TableItem x m) labels ∙ ap (λ (x : ℕ). TableItem ms x) last, append_cancel_left ms p q (ap (λ (x : List ℕ). x ++ p) (sym labels) ∙ l))
same_item f (OpenItem c r) (OpenItem d t) p q h k e l =
    let code : c ≡ d = ap (λ (i : Instr). i.code) e in
    let types : imm.Block r ≡ imm.Block t = ap (λ (i : Instr). i.imm) e in
    let result : r ≡ t = cc in
    (ap (λ (n : ℕ). OpenItem n r) code ∙ ap (λ (x : Option ValType). OpenItem d x) result, l)
same_item f ElseItem ElseItem p q h k e l = (refl, l)
same_item f EndItem EndItem p q h k e l = (refl, l)
same_item f x y p q h k e l =
    absurd (omega (arith, sym (known_rank f x h) ∙ ap (λ (i : Instr). rank_at (sort_of i)) e ∙ known_rank f y k))

abbrev pub AreKnown : List Item → Type 0
AreKnown [] = Unit {0}
AreKnown (x ∷ xs) = IsKnown x × AreKnown xs

known-append : (xs ys : List Item) → AreKnown xs → AreKnown ys → AreKnown (xs ++ ys)
known-append [] ys h k = k
known-append (x ∷ xs) ys h k = (h.0, known-append xs ys h.1 k)

known_item : (s : List ℕ) (x : Item) → SpellsItem s x → IsKnown x
known_item s (PlainItem i) h = spelled_plain s i h
known_item s (TableItem labels last) h = tt
known_item s (OpenItem code r) h = h.1
known_item s ElseItem h = tt
known_item s EndItem h = tt

pub known_spelled : (xs : List Item) (s : List ℕ) → SpellsItems SpellsItem s xs → AreKnown xs
known_spelled [] s h = tt
known_spelled (x ∷ xs) s h = (known_item h.0 x h.2, known_spelled xs h.1 h.3)

known_tree : (c : Code) → HasPlain c → AreKnown (items_of c)
known_tree Empty h = tt
known_tree (Then i rest) h = (h.0, known_tree rest h.1)
known_tree (TableOf labels last rest) h = (tt, known_tree rest h)
known_tree (BlockOf r a b) h = (inl refl, known-append (items_of a) (EndItem ∷ items_of b) (known_tree a h.0) (tt, known_tree b h.1))
known_tree (LoopOf r a b) h = (inr (inl refl), known-append (items_of a) (EndItem ∷ items_of b) (known_tree a h.0) (tt, known_tree b h.1))
known_tree (IfOf r a b) h = (inr (inr refl), known-append (items_of a) (EndItem ∷ items_of b) (known_tree a h.0) (tt, known_tree b h.1))
known_tree (IfElseOf r a d b) h = (
  inr (inr refl),
  known-append (items_of a) (ElseItem ∷ (items_of d ++ EndItem ∷ items_of b)) (known_tree a h.0)
      (tt, known-append (items_of d) (EndItem ∷ items_of b) (known_tree d h.1) (tt, known_tree b h.2)),
)

pub known_whole : (c : Code) → HasPlain c → AreKnown (items_of c ++ EndItem ∷ [])
known_whole c h = known-append (items_of c) (EndItem ∷ []) (known_tree c h) (tt, tt)

-- one flat list with its labels is that of one list of items
pub same_items : (f : ℕ) (a b : List Item) → AreKnown a → AreKnown b → code_of f a ≡ code_of f b → pooled a ≡ pooled b → a ≡ b
same_items f [] [] h k e l = refl
same_items f [] (y ∷ b) h k e l = cc
same_items f (x ∷ a) [] h k e l = cc
same_items f (x ∷ a) (y ∷ b) h k e l =
    let first : instr_of f x ≡ instr_of f y = head_of (instr_of f x) (instr_of f y) (code_of (f + length (labels_in x)) a) (code_of (f + length (labels_in y)) b) e in
    let rest : code_of (f + length (labels_in x)) a ≡ code_of (f + length (labels_in y)) b = tail_of (instr_of f x) (instr_of f y) (code_of (f + length (labels_in x)) a) (code_of (f + length (labels_in y)) b) e in
    let same : (x ≡ y) × (pooled a ≡ pooled b) = same_item f x y (pooled a) (pooled b) h.0 k.0 first l in
    let more : a ≡ b =
    same_items (f + length (labels_in x)) a b h.1 k.1 (rest ∙ ap (λ (z : Item). code_of (f + length (labels_in z)) b) (sym same.0)) same.1
    in
    ap (λ (z : Item). z ∷ a) same.0 ∙ ap (λ (z : List Item). y ∷ z) more
  where
    head_of : (i j : Instr) (s t : List Instr) → i ∷ s ≡ j ∷ t → i ≡ j
    head_of i j s t e = cc

    tail_of : (i j : Instr) (s t : List Instr) → i ∷ s ≡ j ∷ t → s ≡ t
    tail_of i j s t e = cc
