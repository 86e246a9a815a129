-- An expression read instruction by instruction.
use Rattle.std.proofs.Common.{◌≡◌, ℕ, ◌+◌, ◌-◌, ◌<◌, ◌≤◌, List, [], ◌∷◌, ◌++◌, length, length-append, append_assoc, append-nil, arith, refl, ap, subst, sym, ◌∙◌}
use Rattle.leb_read.specs.Place.{Place}
use Rattle.wasm_form.specs.Values.{SpellsItems}
use Rattle.wasm_form.specs.Trees.{Code, SpellsCode, SpellsExpr, IsFlat, flat, labels_of, end_instr}
use Rattle.wasm_form.specs.Matching.{HasPlain}
use Rattle.wasm_form.specs.declared.instr.Instr.{Instr}
use Rattle.wasm_form.specs.declared.expr.Expr.{Expr}
use Rattle.wasm_form.specs.declared.expr.Match.{Match}
use Rattle.body_reader.specs.Reading.{NoFront, ReadsOnly}
use Rattle.body_reader.specs.Items.{Item, PlainItem, TableItem, OpenItem, ElseItem, EndItem, IsOpener, SpellsItem, instr_of, labels_in, code_of, pooled, items_of, depth_after, Closes, Collects}
use Rattle.body_reader.proofs.Pieces.{passed_both, follows, spells_more}
use Rattle.body_reader.proofs.Marks.{plain_mark, opener_mark, end_mark, vector_bytes, below, mark}
use Rattle.wasm_form.proofs.Plain.{has_plain}
use Rattle.body_reader.proofs.Lists.{pooled-append, code_of-append, spells-append, spells-split, spelled_items, spelled_code, closes_whole, whole_code, whole_labels, known_spelled, known_whole, same_items}

-- an instruction has a byte and one for each of its labels at least
item_bytes : (s : List ℕ) (item : Item) → SpellsItem s item → 1 + length (labels_in item) ≤ length s
item_bytes s (PlainItem i) h = omega (arith, ap (λ (l : List ℕ). length l) h.4)
item_bytes s (TableItem labels last) h = omega (arith, ap (λ (l : List ℕ). length l) h.4, length-append h.0 h.1, vector_bytes labels h.0 h.2)
item_bytes s (OpenItem code r) h = omega (arith, ap (λ (l : List ℕ). length l) h.3)
item_bytes s ElseItem h = omega (arith, ap (λ (l : List ℕ). length l) h)
item_bytes s EndItem h = omega (arith, ap (λ (l : List ℕ). length l) h)

pub item_passes : (old new : Place) (item : Item) → ReadsOnly SpellsItem old new item → length new.left < length old.left
item_passes old new item h =
    omega (arith, item_bytes h.spelling item h.spells, ap (λ (l : List ℕ). length l) h.passes.left, length-append h.spelling new.left)

-- how many lists are open after an instruction
pub depth_is : (s : List ℕ) (item : Item) (f d r : ℕ) (i : Instr) → SpellsItem s item → i ≡ instr_of f item
    → (IsOpener i.code → r ≡ d + 1) → (i.code ≡ 0x0B → r ≡ d - 1) → ((IsOpener i.code → ⊥) → (i.code ≡ 0x0B → ⊥) → r ≡ d) → r ≡ depth_after item d
depth_is s (PlainItem j) f d r i h e opens ends stays =
    let code : i.code ≡ j.code = ap (λ (k : Instr). k.code) e in
    let plain : mark j.code ≡ 1 = plain_mark j.code h.0 h.2 in
    stays (λ o. omega (arith, plain, opener_mark j.code (subst IsOpener code o))) (λ o. omega (arith, plain, end_mark, ap mark (sym code ∙ o)))
depth_is s (TableItem labels last) f d r i h e opens ends stays =
    let code : i.code ≡ 0x0E = ap (λ (k : Instr). k.code) e in
    stays (λ o. omega (arith, code, (below i.code o).1)) (λ o. omega (arith, code, o))
depth_is s (OpenItem code result) f d r i h e opens ends stays = opens (subst IsOpener (sym (ap (λ (k : Instr). k.code) e)) h.1)
depth_is s ElseItem f d r i h e opens ends stays =
    let code : i.code ≡ 0x05 = ap (λ (k : Instr). k.code) e in
    stays (λ o. omega (arith, code, (below i.code o).1)) (λ o. omega (arith, code, o))
depth_is s EndItem f d r i h e opens ends stays = ends (ap (λ (k : Instr). k.code) e)

deeper : (item : Item) (d : ℕ) → depth_after item d ≤ d + 1
deeper (PlainItem i) d = omega arith
deeper (TableItem labels last) d = omega arith
deeper (OpenItem code result) d = omega arith
deeper ElseItem d = omega arith
deeper EndItem d = omega arith

pub begin : (p : Place) → Collects p p [] [] 1
begin p =
    record {
      items = [];
      passed = [];
      spells = refl;
      passes = record { left = refl; at = omega arith };
      code_is = refl;
      labels_are = refl;
      no_more = omega arith;
      shallow = omega arith;
      only = λ c s rest h e. (
        items_of c ++ EndItem ∷ [],
        s ++ 0x0B ∷ [],
        spells-append (items_of c) (EndItem ∷ []) s (0x0B ∷ []) (spelled_items c s h) (0x0B ∷ [], [], refl, refl, refl),
        refl,
        refl,
        closes_whole c,
      );
    }

module _ (old mid : Place) (code : List Instr) (labels : List ℕ) (depth : ℕ) where
  -- what is spelled there goes on with an instruction, where a list is open
  abbrev Goes : Collects old mid code labels depth → Code → List ℕ → List ℕ → Type 0
  Goes h c s rest =
      (j : Item) × (m : List Item) × (first : List ℕ) × (more : List ℕ) × SpellsItem first j × SpellsItems SpellsItem more m × (mid.left ≡ first ++ (more ++ rest))
      × (items_of c ++ EndItem ∷ [] ≡ h.items ++ j ∷ m) × (s ++ 0x0B ∷ [] ≡ h.passed ++ (first ++ more)) × Closes (depth_after j depth) m

  goes_on : (h : Collects old mid code labels depth) → 0 < depth → (c : Code) (s rest : List ℕ) → SpellsCode s c → old.left ≡ (s ++ 0x0B ∷ []) ++ rest → Goes h c s rest
  goes_on h some c s rest spelled here =
      let p = h.only c s rest spelled here in
      next p.0 p.1 p.2 p.3 p.4 p.5 (follows old mid h.passed p.1 rest h.passes (here ∙ ap (λ (l : List ℕ). l ++ rest) p.4))
    where
      next : (m : List Item) (u : List ℕ) → SpellsItems SpellsItem u m → items_of c ++ EndItem ∷ [] ≡ h.items ++ m → s ++ 0x0B ∷ [] ≡ h.passed ++ u → Closes depth m → mid.left ≡ u ++ rest → Goes h c s rest
      next [] u spells list text closes left = absurd (omega (arith, closes))
      next (j ∷ m) u spells list text closes left = (
        j,
        m,
        spells.0,
        spells.1,
        spells.2,
        spells.3,
        left ∙ ap (λ (l : List ℕ). l ++ rest) spells.4 ∙ append_assoc spells.0 spells.1 rest,
        list,
        text ∙ ap (λ (l : List ℕ). h.passed ++ l) spells.4,
        closes.1,
      )

  pub more : (new : Place) (labels' : List ℕ) (depth' : ℕ) (i : Instr) (item : Item) → Collects old mid code labels depth → 0 < depth → ReadsOnly SpellsItem mid new item
      → i ≡ instr_of (length labels) item → labels' ≡ labels ++ labels_in item → depth' ≡ depth_after item depth → Collects old new (code ++ i ∷ []) labels' depth'
  more new labels' depth' i item h some k is grown d =
      record {
        items = h.items ++ item ∷ [];
        passed = h.passed ++ k.spelling;
        spells = spells_more SpellsItem h.items h.passed k.spelling item h.spells k.spells;
        passes = passed_both old mid new h.passed k.spelling h.passes k.passes;
        code_is = ap (λ (l : List Instr). l ++ i ∷ []) h.code_is ∙ ap (λ (x : Instr). code_of 0 h.items ++ x ∷ []) (is ∙ ap (λ (l : List ℕ). instr_of (length l) item) h.labels_are ∙ zero) ∙ sym (code_of-append 0 h.items (item ∷ []));
        labels_are = grown ∙ ap (λ (l : List ℕ). l ++ labels_in item) h.labels_are ∙ ap (λ (l : List ℕ). pooled h.items ++ l) (sym (append-nil (labels_in item))) ∙ sym (pooled-append h.items (item ∷ []));
        no_more = omega (arith, h.no_more, item_bytes k.spelling item k.spells, length-append h.items (item ∷ []), ap (λ (l : List ℕ). length l) grown, length-append labels (labels_in item), length-append h.passed k.spelling);
        shallow = omega (arith, h.shallow, d, deeper item depth, length-append h.items (item ∷ []));
        only = λ c s rest spelled here.
            let g = goes_on h some c s rest spelled here in
            let same : (g.2 ≡ k.spelling) × (g.0 ≡ item) = k.only g.0 g.2 (g.3 ++ rest) g.4 g.6 in (
              g.1,
              g.3,
              g.5,
              g.7 ∙ ap (λ (j : Item). h.items ++ j ∷ g.1) same.1 ∙ sym (append_assoc h.items (item ∷ []) g.1),
              g.8 ∙ ap (λ (l : List ℕ). h.passed ++ (l ++ g.3)) same.0 ∙ sym (append_assoc h.passed k.spelling g.3),
              subst (λ (n : ℕ). Closes n g.1) (sym d) (subst (λ (j : Item). Closes (depth_after j depth) g.1) same.1 g.9),
            );
      }
    where
      zero : instr_of (length (pooled h.items)) item ≡ instr_of (0 + length (pooled h.items)) item
      zero = let n : length (pooled h.items) ≡ 0 + length (pooled h.items) = omega arith in ap (λ (x : ℕ). instr_of x item) n

  -- where no instruction is spelled and a list is open, no expression is
  pub fails : Collects old mid code labels depth → 0 < depth → NoFront SpellsItem mid.left → NoFront SpellsExpr old.left
  fails h some none e s rest spelled here =
      let g = goes_on h some spelled.0 spelled.1 rest spelled.2 (here ∙ ap (λ (l : List ℕ). l ++ rest) spelled.3) in
      none g.0 g.2 (g.3 ++ rest) g.4 g.6

  pub fits : Collects old mid code labels depth → length labels + length mid.left ≤ length old.left
  fits h = omega (arith, h.no_more, ap (λ (l : List ℕ). length l) h.passes.left, length-append h.passed mid.left)

  pub not_deep : Collects old mid code labels depth → depth ≤ length old.left + 1
  not_deep h = omega (arith, h.no_more, h.shallow, ap (λ (l : List ℕ). length l) h.passes.left, length-append h.passed mid.left)

  pub not_long : Collects old mid code labels depth → length code ≤ length old.left
  not_long h = omega (arith, h.no_more, ap (λ (l : List Instr). length l) h.code_is, same_length 0 h.items, ap (λ (l : List ℕ). length l) h.passes.left, length-append h.passed mid.left)
    where
      same_length : (f : ℕ) (xs : List Item) → length (code_of f xs) ≡ length xs
      same_length f [] = refl
      same_length f (x ∷ xs) = let rest : length (code_of (f + length (labels_in x)) xs) ≡ length xs = same_length (f + length (labels_in x)) xs in omega arith

-- a whole list is the expression of its tree
pub whole : (old new : Place) (code : List Instr) (labels : List ℕ) (matches : List Match) (c : Code)
    → ((a b x y : List ℕ) (v w : Expr) → SpellsExpr a v → SpellsExpr b w → a ++ x ≡ b ++ y → (a ≡ b) × (v ≡ w))
    → Collects old new code labels 0 → HasPlain c → IsFlat (record { code = code; labels = labels; matches = matches }) c
    → ReadsOnly SpellsExpr old new (record { code = code; labels = labels; matches = matches })
whole old new code labels matches c law h p f =
    let items : h.items ≡ items_of c ++ EndItem ∷ [] =
    same_items 0 h.items (items_of c ++ EndItem ∷ []) (known_spelled h.items h.passed h.spells) (known_whole c p)
    (sym h.code_is ∙ f.code ∙ sym (whole_code c)) (sym h.labels_are ∙ f.labels ∙ sym (whole_labels c))
    in
    let parts = spells-split (items_of c) (EndItem ∷ []) h.passed (subst (λ (l : List Item). SpellsItems SpellsItem h.passed l) items h.spells) in
    let last : parts.1 ≡ 0x0B ∷ [] = parts.3.4 ∙ ap (λ (l : List ℕ). l ++ parts.3.1) parts.3.2 ∙ ap (λ (l : List ℕ). 0x0B ∷ l) parts.3.3 in
    let spelled : SpellsExpr h.passed (record { code = code; labels = labels; matches = matches }) =
    (c, parts.0, spelled_code c parts.0 parts.2, parts.4 ∙ ap (λ (l : List ℕ). parts.0 ++ l) last, f)
    in
    record {
      spelling = h.passed;
      spells = spelled;
      passes = h.passes;
      only = λ w s rest k here.
          let same : (h.passed ≡ s) × (record { code = code; labels = labels; matches = matches } ≡ w) =
          law h.passed s new.left rest (record { code = code; labels = labels; matches = matches }) w spelled k (sym h.passes.left ∙ here)
          in
          (sym same.0, sym same.1);
    }

pub flat_same : (a b : List Instr) (ls ms : List ℕ) (matches : List Match) (c : Code) → a ≡ b → ls ≡ ms
    → IsFlat (record { code = a; labels = ls; matches = matches }) c → IsFlat (record { code = b; labels = ms; matches = matches }) c
flat_same a b ls ms matches c e l f = record { code = sym e ∙ f.code; labels = sym l ∙ f.labels; matches = f.matches }

-- what is no tree's is no expression
pub no_tree : (old new : Place) (code : List Instr) (labels : List ℕ) → Collects old new code labels 0
    → ((c : Code) → HasPlain c → code ≡ flat 0 c ++ end_instr ∷ [] → labels ≡ labels_of c → ⊥) → NoFront SpellsExpr old.left
no_tree old new code labels h none e s rest spelled here =
    let p = h.only spelled.0 spelled.1 rest spelled.2 (here ∙ ap (λ (l : List ℕ). l ++ rest) spelled.3) in
    by_rest p.0 p.3 p.5
  where
    by_rest : (m : List Item) → items_of spelled.0 ++ EndItem ∷ [] ≡ h.items ++ m → Closes 0 m → ⊥
    by_rest [] list closes =
        let items : items_of spelled.0 ++ EndItem ∷ [] ≡ h.items = list ∙ append-nil h.items in
        none spelled.0 (has_plain spelled.0 spelled.1 spelled.2)
        (h.code_is ∙ ap (code_of 0) (sym items) ∙ whole_code spelled.0) (h.labels_are ∙ ap pooled (sym items) ∙ whole_labels spelled.0)
    by_rest (j ∷ m) list closes = omega (arith, closes.0)
