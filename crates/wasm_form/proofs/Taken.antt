-- What the walk takes whole is a tree and its end.
use Rattle.std.proofs.Common.{◌≡◌, ℕ, ◌+◌, ◌≤◌, ◌⊎◌, inl, inr, List, [], ◌∷◌, ◌++◌, length, length-append, length-take, length-drop, append_assoc, append-nil, take, drop, Bool, true, false, ◌&&◌, cond, eqb, is_none, Option, Some, None, arith, refl, ap, subst, sym, ◌∙◌}
use Rattle.std.proofs.lemmas.List.{take-append-drop, drop-drop}
use Rattle.std.proofs.lemmas.Bool.{eqb-true}
use Rattle.std.proofs.Math.Seq.{drop-length}
use Rattle.wasm_form.specs.Instructions.{immediates_of, fits}
use Rattle.wasm_form.specs.Trees.{Code, Empty, Then, TableOf, BlockOf, LoopOf, IfOf, IfElseOf, IsFlat, flat, size, labels_of, matches_of, end_instr, else_instr, block_instr, loop_instr, if_instr, table_instr}
use Rattle.wasm_form.specs.Matching.{special_sort, sort_at, sort_of, HasPlain, Walked, walked, put, put_sort, put_block, put_if, put_else, then_put, walk, is_whole, is_one_list}
use Rattle.wasm_form.specs.declared.value_type.ValType.{ValType}
use Rattle.wasm_form.specs.declared.instr.Instr.{Instr}
use Rattle.wasm_form.specs.declared.instr.Imm.{Imm}
use Rattle.wasm_form.specs.declared.instr.Imm.TheVariants as imm
use Rattle.wasm_form.specs.declared.immediates.Immediates.{Immediates}
use Rattle.wasm_form.specs.declared.expr.Match.{Match}
use Rattle.wasm_form.specs.declared.sort.Sort.{Sort}
use Rattle.wasm_form.specs.declared.sort.Sort.TheVariants as sort
use Rattle.wasm_form.specs.declared.matching.Open.{Open}
use Rattle.wasm_form.proofs.Walks.{open_at, walk_none, whole_walk}

-- which instruction has a sort
abbrev Sorted : Sort → Instr → Type 0
Sorted sort.Plain i = Unit {0}
Sorted (sort.Table first count) i = (last : ℕ) × (i ≡ table_instr first count last)
Sorted sort.Block i = (r : Option ValType) × ((i ≡ block_instr r) ⊎ (i ≡ loop_instr r))
Sorted sort.If i = (r : Option ValType) × (i ≡ if_instr r)
Sorted sort.Else i = i ≡ else_instr
Sorted sort.End i = i ≡ end_instr

chosen : {A : Type 0} (b : Bool) (x y z : A) → cond b x y ≡ z → ((b ≡ true) × (x ≡ z)) ⊎ ((b ≡ false) × (y ≡ z))
chosen true x y z e = inl (refl, e)
chosen false x y z e = inr (refl, e)

some_is : {A : Type 0} (a b : A) → Some a ≡ Some b → a ≡ b
some_is a b e = cc

abbrev instr : ℕ → Imm → Instr
instr code i = record { code = code; imm = i }

-- the code that a test found
found_sort : (n code : ℕ) (i : Imm) (s t : Sort) → Sorted s (instr n i) → eqb code n ≡ true → Some s ≡ Some t → Sorted t (instr code i)
found_sort n code i s t h e k =
    subst (λ (u : Sort). Sorted u (instr code i)) (some_is s t k) (subst (λ (m : ℕ). Sorted s (instr m i)) (sym (eqb-true code n e)) h)

sorted_special : (code : ℕ) (i : Imm) (s : Sort) → special_sort code i ≡ Some s → Sorted s (instr code i)
sorted_special code imm.None s e =
    elim (chosen (eqb code 0x05) (Some sort.Else) (cond (eqb code 0x0B) (Some sort.End) None) (Some s) e) [
      | inl h ↦ found_sort 0x05 code imm.None sort.Else s refl h.0 h.1
      | inr h ↦ elim (chosen (eqb code 0x0B) (Some sort.End) None (Some s) h.1) [
        | inl k ↦ found_sort 0x0B code imm.None sort.End s refl k.0 k.1
        | inr k ↦ let none : None ≡ Some s = k.1 in absurd (cc)
      ]
    ]
sorted_special code (imm.Block r) s e =
    elim (chosen (eqb code 0x02) (Some sort.Block) (cond (eqb code 0x03) (Some sort.Block) (cond (eqb code 0x04) (Some sort.If) None)) (Some s) e) [
      | inl h ↦ found_sort 0x02 code (imm.Block r) sort.Block s (r, inl refl) h.0 h.1
      | inr h ↦ elim (chosen (eqb code 0x03) (Some sort.Block) (cond (eqb code 0x04) (Some sort.If) None) (Some s) h.1) [
        | inl k ↦ found_sort 0x03 code (imm.Block r) sort.Block s (r, inr refl) k.0 k.1
        | inr k ↦ elim (chosen (eqb code 0x04) (Some sort.If) None (Some s) k.1) [
          | inl m ↦ found_sort 0x04 code (imm.Block r) sort.If s (r, refl) m.0 m.1
          | inr m ↦ let none : None ≡ Some s = m.1 in absurd (cc)
        ]
      ]
    ]
sorted_special code (imm.Table first count last) s e =
    elim (chosen (eqb code 0x0E) (Some (sort.Table first count)) None (Some s) e) [
      | inl h ↦ found_sort 0x0E code (imm.Table first count last) (sort.Table first count) s (last, refl) h.0 h.1
      | inr h ↦ let none : None ≡ Some s = h.1 in absurd (cc)
    ]
sorted_special code i s e = cc

sorted_at : (k : Option Immediates) (code : ℕ) (i : Imm) (s : Sort) → sort_at k code i ≡ Some s → Sorted s (instr code i)
sorted_at None code i s e = sorted_special code i s e
sorted_at (Some k) code i s e =
    elim (chosen (fits k i) (Some sort.Plain) None (Some s) e) [
      | inl h ↦ subst (λ (u : Sort). Sorted u (instr code i)) (some_is sort.Plain s h.1) tt
      | inr h ↦ let none : None ≡ Some s = h.1 in absurd (cc)
    ]

sorted : (i : Instr) (s : Sort) → sort_of i ≡ Some s → Sorted s i
unfolding sort_of
sorted i s e = sorted_at (immediates_of i.code) i.code i.imm s e

-- The lists that have begun before these instructions, the innermost first: the first one goes on with a tree up to its
-- end, or up to an else, another tree and the end; R says the same of the lists around it.
abbrev First : (R : ℕ → List Instr → List ℕ → Type 0) → Option ℕ → ℕ → List Instr → List ℕ → Type 0
First R None f l ls =
    (c : Code) × (m : List Instr) × (ks : List ℕ) × HasPlain c × (l ≡ flat f c ++ end_instr ∷ m) × (ls ≡ labels_of c ++ ks) × R (f + length (labels_of c)) m ks
First R (Some p) f l ls =
    (c : Code) × (d : Code) × (m : List Instr) × (ks : List ℕ) × HasPlain c × HasPlain d
    × (l ≡ flat f c ++ else_instr ∷ (flat (f + length (labels_of c)) d ++ end_instr ∷ m)) × (ls ≡ labels_of c ++ (labels_of d ++ ks))
    × R (f + length (labels_of c) + length (labels_of d)) m ks

abbrev Built : List Open → ℕ → List Instr → List ℕ → Type 0
Built [] f l ls = (l ≡ []) × (ls ≡ [])
Built (o ∷ os) f l ls = First (Built os) o.other f l ls

-- something before the first list
grow : (R : ℕ → List Instr → List ℕ → Type 0) (p : Option ℕ) (f g : ℕ) (front : List Instr) (lab : List ℕ) (make : Code → Code)
    → ((c : Code) → flat f (make c) ≡ front ++ flat g c) → ((c : Code) → labels_of (make c) ≡ lab ++ labels_of c)
    → ((c : Code) → HasPlain c → HasPlain (make c)) → g ≡ f + length lab → (l : List Instr) (ls : List ℕ)
    → First R p g l ls → First R p f (front ++ l) (lab ++ ls)
grow R None f g front lab make text names plain e l ls h =
    let here : g + length (labels_of h.0) ≡ f + length (labels_of (make h.0)) = omega (arith, ap (λ (x : List ℕ). length x) (names h.0), length-append lab (labels_of h.0)) in (
      make h.0,
      h.1,
      h.2,
      plain h.0 h.3,
      ap (λ (x : List Instr). front ++ x) h.4 ∙ sym (append_assoc front (flat g h.0) (end_instr ∷ h.1)) ∙ ap (λ (x : List Instr). x ++ end_instr ∷ h.1) (sym (text h.0)),
      ap (λ (x : List ℕ). lab ++ x) h.5 ∙ sym (append_assoc lab (labels_of h.0) h.2) ∙ ap (λ (x : List ℕ). x ++ h.2) (sym (names h.0)),
      subst (λ (x : ℕ). R x h.1 h.2) here h.6,
    )
grow R (Some p) f g front lab make text names plain e l ls h =
    let here : g + length (labels_of h.0) ≡ f + length (labels_of (make h.0)) = omega (arith, ap (λ (x : List ℕ). length x) (names h.0), length-append lab (labels_of h.0)) in
    let rest : List Instr = else_instr ∷ (flat (g + length (labels_of h.0)) h.1 ++ end_instr ∷ h.2) in (
      make h.0,
      h.1,
      h.2,
      h.3,
      plain h.0 h.4,
      h.5,
      ap (λ (x : List Instr). front ++ x) h.6 ∙ sym (append_assoc front (flat g h.0) rest) ∙ ap (λ (x : List Instr). x ++ rest) (sym (text h.0))
          ∙ ap (λ (x : ℕ). flat f (make h.0) ++ else_instr ∷ (flat x h.1 ++ end_instr ∷ h.2)) here,
      ap (λ (x : List ℕ). lab ++ x) h.7 ∙ sym (append_assoc lab (labels_of h.0) (labels_of h.1 ++ h.3)) ∙ ap (λ (x : List ℕ). x ++ (labels_of h.1 ++ h.3)) (sym (names h.0)),
      subst (λ (x : ℕ). R (x + length (labels_of h.1)) h.2 h.3) here h.8,
    )

-- a block, a loop or an if around the first list
wrap : (R : ℕ → List Instr → List ℕ → Type 0) (p : Option ℕ) (f : ℕ) (i : Instr) (make : Code → Code → Code)
    → ((c d : Code) → flat f (make c d) ≡ i ∷ (flat f c ++ end_instr ∷ flat (f + length (labels_of c)) d)) → ((c d : Code) → labels_of (make c d) ≡ labels_of c ++ labels_of d)
    → ((c d : Code) → HasPlain c → HasPlain d → HasPlain (make c d)) → (l : List Instr) (ls : List ℕ)
    → First (First R p) None f l ls → First R p f (i ∷ l) ls
wrap R p f i make text names plain l ls h =
    let front : List Instr = i ∷ (flat f h.0 ++ end_instr ∷ []) in
    let r : First R p f (front ++ h.1) (labels_of h.0 ++ h.2) =
    grow R p f (f + length (labels_of h.0)) front (labels_of h.0) (make h.0)
    (λ d. text h.0 d ∙ ap (λ (x : List Instr). i ∷ x) (sym (append_assoc (flat f h.0) (end_instr ∷ []) (flat (f + length (labels_of h.0)) d))))
    (names h.0) (λ d q. plain h.0 d h.3 q) refl h.1 h.2 h.6
    in
    let whole : front ++ h.1 ≡ i ∷ l = ap (λ (x : List Instr). i ∷ x) (append_assoc (flat f h.0) (end_instr ∷ []) h.1 ∙ sym h.4) in
    subst (λ (x : List Instr). First R p f x ls) whole (subst (λ (x : List ℕ). First R p f (front ++ h.1) x) (sym h.5) r)

-- an if with an else
wrap_else : (R : ℕ → List Instr → List ℕ → Type 0) (p : Option ℕ) (q : ℕ) (f : ℕ) (r : Option ValType) (l : List Instr) (ls : List ℕ)
    → First (First R p) (Some q) f l ls → First R p f (if_instr r ∷ l) ls
wrap_else R p q f r l ls h =
    let fa : ℕ = f + length (labels_of h.0) in
    let fd : ℕ = f + length (labels_of h.0) + length (labels_of h.1) in
    let inner : List Instr = flat fa h.1 ++ end_instr ∷ [] in
    let front : List Instr = if_instr r ∷ (flat f h.0 ++ else_instr ∷ inner) in
    let lab : List ℕ = labels_of h.0 ++ labels_of h.1 in
    let split : (x : List Instr) → if_instr r ∷ (flat f h.0 ++ else_instr ∷ (flat fa h.1 ++ end_instr ∷ x)) ≡ front ++ x =
    λ x. ap (λ (y : List Instr). if_instr r ∷ y)
    (ap (λ (y : List Instr). flat f h.0 ++ else_instr ∷ y) (sym (append_assoc (flat fa h.1) (end_instr ∷ []) x)) ∙ sym (append_assoc (flat f h.0) (else_instr ∷ inner) x))
    in
    let built : First R p f (front ++ h.2) (lab ++ h.3) =
    grow R p f fd front lab (λ b. IfElseOf r h.0 h.1 b) (λ d. split (flat fd d)) (λ d. sym (append_assoc (labels_of h.0) (labels_of h.1) (labels_of d)))
    (λ d x. (h.4, h.5, x)) (omega (arith, length-append (labels_of h.0) (labels_of h.1))) h.2 h.3 h.8
    in
    let whole : front ++ h.2 ≡ if_instr r ∷ l = sym (split h.2) ∙ ap (λ (y : List Instr). if_instr r ∷ y) (sym h.6) in
    let names : lab ++ h.3 ≡ ls = append_assoc (labels_of h.0) (labels_of h.1) h.3 ∙ sym h.7 in
    subst (λ (x : List Instr). First R p f x ls) whole (subst (λ (x : List ℕ). First R p f (front ++ h.2) x) names built)

-- an else before the first list
split_else : (R : ℕ → List Instr → List ℕ → Type 0) (at f : ℕ) (l : List Instr) (ls : List ℕ) → First R None f l ls → First R (Some at) f (else_instr ∷ l) ls
split_else R at f l ls h =
    let none : f ≡ f + 0 = omega arith in (
      Empty,
      h.0,
      h.1,
      h.2,
      tt,
      h.3,
      ap (λ (x : List Instr). else_instr ∷ x) h.4 ∙ ap (λ (x : ℕ). else_instr ∷ (flat x h.0 ++ end_instr ∷ h.1)) none,
      h.5,
      subst (λ (x : ℕ). R (x + length (labels_of h.0)) h.1 h.2) none h.6,
    )

-- what the walk keeps
abbrev Keeps : List ℕ → List Instr → Walked → Type 0
Keeps L l w = (w.before ≤ length L) × Built w.opens w.before l (drop w.before L)

pooled : (L : List ℕ) (first count before : ℕ) → first + count ≡ before → before ≤ length L → (ks : List ℕ) × (length ks ≡ count) × (drop first L ≡ ks ++ drop before L)
pooled L first count before e h =
    let rest : drop count (drop first L) ≡ drop before L = drop-drop count first L ∙ ap (λ (n : ℕ). drop n L) e in (
      take count (drop first L),
      simp (length-take, length-drop) (omega arith),
      sym (take-append-drop count (drop first L)) ∙ ap (λ (l : List ℕ). take count (drop first L) ++ l) rest,
    )

by_else : (L : List ℕ) (at before e : ℕ) (other : Option ℕ) (os : List Open) (found : List Match) (i : Instr) (l : List Instr) (w : Walked)
    → i ≡ else_instr → before ≤ length L → First (Built os) other before l (drop before L) → put_else at before (open_at e other ∷ os) found ≡ Some w → Keeps L (i ∷ l) w
by_else L at before e None os found i l w h le b p =
    let is : walked before (open_at e (Some at) ∷ os) found ≡ w = some_is (walked before (open_at e (Some at) ∷ os) found) w p in
    let here : First (Built os) (Some at) before (i ∷ l) (drop before L) =
    subst (λ (x : Instr). First (Built os) (Some at) before (x ∷ l) (drop before L)) (sym h) (split_else (Built os) at before l (drop before L) b)
    in
    subst (Keeps L (i ∷ l)) is (le, here)
by_else L at before e (Some q) os found i l w h le b p = let none : None ≡ Some w = p in absurd (cc)

by_block : (L : List ℕ) (at before e : ℕ) (other : Option ℕ) (os : List Open) (found : List Match) (i : Instr) (l : List Instr) (w : Walked)
    → Sorted sort.Block i → before ≤ length L → First (Built os) other before l (drop before L) → put_block at before (open_at e other ∷ os) found ≡ Some w → Keeps L (i ∷ l) w
by_block L at before e (Some q) os found i l w h le b p = let none : None ≡ Some w = p in absurd (cc)
by_block L at before e None [] found i l w h le b p = let none : None ≡ Some w = p in absurd (cc)
by_block L at before e None (q ∷ qs) found i l w h le b p =
    let next : Walked = walked before (q ∷ qs) (record { at = at; other = None; end = e } ∷ found) in
    let is : next ≡ w = some_is next w p in
    let around : (x : Instr) → i ≡ x → First (Built qs) q.other before (x ∷ l) (drop before L) → Keeps L (i ∷ l) w =
    λ x same here. subst (Keeps L (i ∷ l)) is (le, subst (λ (y : Instr). First (Built qs) q.other before (y ∷ l) (drop before L)) (sym same) here)
    in
    elim h.1 [
      | inl same ↦ around (block_instr h.0) same (wrap (Built qs) q.other before (block_instr h.0) (λ c d. BlockOf h.0 c d) (λ c d. refl) (λ c d. refl) (λ c d x y. (x, y)) l (drop before L) b)
      | inr same ↦ around (loop_instr h.0) same (wrap (Built qs) q.other before (loop_instr h.0) (λ c d. LoopOf h.0 c d) (λ c d. refl) (λ c d. refl) (λ c d x y. (x, y)) l (drop before L) b)
    ]

by_if : (L : List ℕ) (at before e : ℕ) (other : Option ℕ) (os : List Open) (found : List Match) (i : Instr) (l : List Instr) (w : Walked)
    → Sorted sort.If i → before ≤ length L → First (Built os) other before l (drop before L) → put_if at before (open_at e other ∷ os) found ≡ Some w → Keeps L (i ∷ l) w
by_if L at before e other [] found i l w h le b p = let none : None ≡ Some w = p in absurd (cc)
by_if L at before e None (q ∷ qs) found i l w h le b p =
    let next : Walked = walked before (q ∷ qs) (record { at = at; other = None; end = e } ∷ found) in
    let is : next ≡ w = some_is next w p in
    let here : First (Built qs) q.other before (if_instr h.0 ∷ l) (drop before L) =
    wrap (Built qs) q.other before (if_instr h.0) (λ c d. IfOf h.0 c d) (λ c d. refl) (λ c d. refl) (λ c d x y. (x, y)) l (drop before L) b
    in
    subst (Keeps L (i ∷ l)) is (le, subst (λ (y : Instr). First (Built qs) q.other before (y ∷ l) (drop before L)) (sym h.1) here)
by_if L at before e (Some o) (q ∷ qs) found i l w h le b p =
    let next : Walked = walked before (q ∷ qs) (record { at = at; other = Some o; end = e } ∷ found) in
    let is : next ≡ w = some_is next w p in
    let here : First (Built qs) q.other before (if_instr h.0 ∷ l) (drop before L) = wrap_else (Built qs) q.other o before h.0 l (drop before L) b in
    subst (Keeps L (i ∷ l)) is (le, subst (λ (y : Instr). First (Built qs) q.other before (y ∷ l) (drop before L)) (sym h.1) here)

by_put : (L : List ℕ) (s : Sort) (at before : ℕ) (opens : List Open) (found : List Match) (i : Instr) (l : List Instr) (w : Walked)
    → sort_of i ≡ Some s → Sorted s i → before ≤ length L → Built opens before l (drop before L) → put at s (walked before opens found) ≡ Some w → Keeps L (i ∷ l) w
by_put L sort.End at before opens found i l w e h le b p =
    let is : walked before (open_at at None ∷ opens) found ≡ w = cc in
    let zero : before ≡ before + 0 = omega arith in
    let here : Built (open_at at None ∷ opens) before (i ∷ l) (drop before L) =
    (Empty, l, drop before L, tt, ap (λ (x : Instr). x ∷ l) h, refl, subst (λ (x : ℕ). Built opens x l (drop before L)) zero b)
    in
    subst (Keeps L (i ∷ l)) is (le, here)
by_put L sort.Plain at before [] found i l w e h le b p = let none : None ≡ Some w = p in absurd (cc)
by_put L (sort.Table first count) at before [] found i l w e h le b p = let none : None ≡ Some w = p in absurd (cc)
by_put L sort.Block at before [] found i l w e h le b p = let none : None ≡ Some w = p in absurd (cc)
by_put L sort.If at before [] found i l w e h le b p = let none : None ≡ Some w = p in absurd (cc)
by_put L sort.Else at before [] found i l w e h le b p = let none : None ≡ Some w = p in absurd (cc)
by_put L sort.Plain at before (o ∷ os) found i l w e h le b p =
    let is : walked before (o ∷ os) found ≡ w = cc in
    subst (Keeps L (i ∷ l)) is (le, grow (Built os) o.other before before (i ∷ []) [] (Then i) (λ c. refl) (λ c. refl) (λ c q. (e, q)) (omega arith) l (drop before L) b)
by_put L (sort.Table first count) at before (o ∷ os) found i l w e h le b p =
    elim (chosen (eqb (first + count) before) (Some (walked first (o ∷ os) found)) None (Some w) p) [
      | inr n ↦ let none : None ≡ Some w = n.1 in absurd (cc)
      | inl y ↦
          let is : walked first (o ∷ os) found ≡ w = some_is (walked first (o ∷ os) found) w y.1 in
          let sum : first + count ≡ before = eqb-true (first + count) before y.0 in
          let ks = pooled L first count before sum le in
          let g : before ≡ first + length ks.0 = omega (arith, ks.1) in
          let table : table_instr first (length ks.0) h.0 ≡ i = ap (λ (n : ℕ). table_instr first n h.0) ks.1 ∙ sym h.1 in
          let built : First (Built os) o.other first (table_instr first (length ks.0) h.0 ∷ l) (ks.0 ++ drop before L) =
          grow (Built os) o.other first before (table_instr first (length ks.0) h.0 ∷ []) ks.0 (TableOf ks.0 h.0)
          (λ c. ap (λ (n : ℕ). table_instr first (length ks.0) h.0 ∷ flat n c) (sym g)) (λ c. refl) (λ c q. q) g l (drop before L) b
          in
          let named : First (Built os) o.other first (i ∷ l) (drop first L) =
          subst (λ (x : Instr). First (Built os) o.other first (x ∷ l) (drop first L)) table
          (subst (λ (x : List ℕ). First (Built os) o.other first (table_instr first (length ks.0) h.0 ∷ l) x) (sym ks.2) built)
          in
          subst (Keeps L (i ∷ l)) is (omega arith, named)
    ]
by_put L sort.Block at before (o ∷ os) found i l w e h le b p = by_block L at before o.end o.other os found i l w h le b p
by_put L sort.If at before (o ∷ os) found i l w e h le b p = by_if L at before o.end o.other os found i l w h le b p
by_put L sort.Else at before (o ∷ os) found i l w e h le b p = by_else L at before o.end o.other os found i l w h le b p

by_sort : (L : List ℕ) (at : ℕ) (v : Walked) (i : Instr) (l : List Instr) (w : Walked) (s : Option Sort) → sort_of i ≡ s → Keeps L l v → put_sort at s v ≡ Some w → Keeps L (i ∷ l) w
by_sort L at v i l w None e k p = let none : None ≡ Some w = p in absurd (cc)
by_sort L at v i l w (Some s) e k p = by_put L s at v.before v.opens v.found i l w e (sorted i s e) k.0 k.1 p

by_step : (L : List ℕ) (at : ℕ) (i : Instr) (l : List Instr) (w : Walked) (o : Option Walked) → ((v : Walked) → o ≡ Some v → Keeps L l v) → then_put at i o ≡ Some w → Keeps L (i ∷ l) w
by_step L at i l w None ih p = let none : None ≡ Some w = p in absurd (cc)
by_step L at i l w (Some v) ih p = by_sort L at v i l w (sort_of i) refl (ih v refl) p

pub keeps : (L : List ℕ) (l : List Instr) (at : ℕ) (w : Walked) → walk (length L) at l ≡ Some w → Keeps L l w
keeps L [] at w h =
    let is : walked (length L) [] [] ≡ w = some_is (walked (length L) [] []) w h in
    subst (Keeps L []) is (omega arith, (refl, drop-length L))
keeps L (i ∷ l) at w h = by_step L at i l w (walk (length L) (at + 1) l) (λ v e. keeps L l (at + 1) v e) h

both_true : (a b : Bool) → (a && b) ≡ true → (a ≡ true) × (b ≡ true)
both_true true b e = (refl, e)
both_true false b e = let none : false ≡ true = e in absurd (cc)

-- a walk that is whole is that of a tree
pub taken : (L : List ℕ) (l : List Instr) (w : Walked) → walk (length L) 0 l ≡ Some w → is_whole w ≡ true
    → (c : Code) × HasPlain c × (l ≡ flat 0 c ++ end_instr ∷ []) × (L ≡ labels_of c)
taken L l w h whole =
    let y : (eqb w.before 0 ≡ true) × (is_one_list w.opens ≡ true) = both_true (eqb w.before 0) (is_one_list w.opens) whole in
    one w.before w.opens (eqb-true w.before 0 y.0) y.1 (keeps L l 0 w h).1
  where
    built : (before e : ℕ) (other : Option ℕ) → before ≡ 0 → is_none other ≡ true → First (Built []) other before l (drop before L) → (c : Code) × HasPlain c × (l ≡ flat 0 c ++ end_instr ∷ []) × (L ≡ labels_of c)
    built before e None zero y b = (
      b.0,
      b.3,
      b.4 ∙ ap (λ (x : List Instr). flat before b.0 ++ end_instr ∷ x) b.6.0 ∙ ap (λ (n : ℕ). flat n b.0 ++ end_instr ∷ []) zero,
      sym (ap (λ (n : ℕ). drop n L) zero) ∙ b.5 ∙ ap (λ (x : List ℕ). labels_of b.0 ++ x) b.6.1 ∙ append-nil (labels_of b.0),
    )
    built before e (Some q) zero y b = let none : false ≡ true = y in absurd (cc)

    one : (before : ℕ) (opens : List Open) → before ≡ 0 → is_one_list opens ≡ true → Built opens before l (drop before L) → (c : Code) × HasPlain c × (l ≡ flat 0 c ++ end_instr ∷ []) × (L ≡ labels_of c)
    one before [] zero y b = let none : false ≡ true = y in absurd (cc)
    one before (o ∷ []) zero y b = built before o.end o.other zero y b
    one before (o ∷ q ∷ qs) zero y b = let none : false ≡ true = y in absurd (cc)

-- the walk of a whole tree
walk_of : (L : List ℕ) (l : List Instr) (c : Code) → HasPlain c → l ≡ flat 0 c ++ end_instr ∷ [] → L ≡ labels_of c → walk (length L) 0 l ≡ Some (walked 0 (open_at (size c) None ∷ []) (matches_of 0 c))
walk_of L l c p text labels =
    ap (λ (x : List Instr). walk (length L) 0 x) text ∙ ap (λ (x : List ℕ). walk (length x) 0 (flat 0 c ++ end_instr ∷ [])) labels ∙ whole_walk c p

at_start : (L : List ℕ) (l left rest : List Instr) (w : Walked) → l ≡ left ++ rest → left ≡ [] → walk (length L) (length left) rest ≡ Some w → walk (length L) 0 l ≡ Some w
at_start L l left rest w split none h =
    let all : rest ≡ l = ap (λ (x : List Instr). x ++ rest) (sym none) ∙ sym split in
    subst (λ (x : List Instr). walk (length L) 0 x ≡ Some w) all (subst (λ (x : List Instr). walk (length L) (length x) rest ≡ Some w) none h)

-- what is found at the end is the tree's
pub matched : (L : List ℕ) (l left rest : List Instr) (before : ℕ) (opens : List Open) (found matches : List Match) → l ≡ left ++ rest → left ≡ []
    → walk (length L) (length left) rest ≡ Some (walked before opens found) → is_whole (walked before opens found) ≡ true → matches ≡ found
    → (c : Code) × HasPlain c × IsFlat (record { code = l; labels = L; matches = matches }) c
matched L l left rest before opens found matches split none h whole e =
    let here : walk (length L) 0 l ≡ Some (walked before opens found) = at_start L l left rest (walked before opens found) split none h in
    let t = taken L l (walked before opens found) here whole in
    let same : walked before opens found ≡ walked 0 (open_at (size t.0) None ∷ []) (matches_of 0 t.0) =
    some_is (walked before opens found) (walked 0 (open_at (size t.0) None ∷ []) (matches_of 0 t.0)) (sym here ∙ walk_of L l t.0 t.1 t.2 t.3)
    in
    (t.0, t.1, record { code = t.2; labels = t.3; matches = e ∙ ap (λ (w : Walked). w.found) same })

-- no tree has a step that can't be made
pub no_step : (L : List ℕ) (l left front rest : List Instr) (i : Instr) (w : Walked) → l ≡ left ++ rest → left ≡ front ++ i ∷ []
    → walk (length L) (length left) rest ≡ Some w → put_sort (length front) (sort_of i) w ≡ None
    → (c : Code) → HasPlain c → l ≡ flat 0 c ++ end_instr ∷ [] → L ≡ labels_of c → ⊥
no_step L l left front rest i w split last h wrong c p text labels =
    let count : length left ≡ length front + 1 = omega (arith, ap (λ (x : List Instr). length x) last, length-append front (i ∷ [])) in
    let before : walk (length L) (length front + 1) rest ≡ Some w = subst (λ (n : ℕ). walk (length L) n rest ≡ Some w) count h in
    let none : walk (length L) (length front) (i ∷ rest) ≡ None = ap (λ (o : Option Walked). then_put (length front) i o) before ∙ wrong in
    let all : walk (length L) 0 (front ++ i ∷ rest) ≡ None = walk_none (length L) front (i ∷ rest) 0 (length front) (omega arith) none in
    let whole : l ≡ front ++ i ∷ rest = split ∙ ap (λ (x : List Instr). x ++ rest) last ∙ append_assoc front (i ∷ []) rest in
    let clash : None ≡ Some (walked 0 (open_at (size c) None ∷ []) (matches_of 0 c)) =
    sym all ∙ ap (λ (x : List Instr). walk (length L) 0 x) (sym whole) ∙ walk_of L l c p text labels
    in
    cc

-- no tree's walk is less than whole
pub no_whole : (L : List ℕ) (l left rest : List Instr) (w : Walked) → l ≡ left ++ rest → left ≡ [] → walk (length L) (length left) rest ≡ Some w → is_whole w ≡ false
    → (c : Code) → HasPlain c → l ≡ flat 0 c ++ end_instr ∷ [] → L ≡ labels_of c → ⊥
no_whole L l left rest w split none h less c p text labels =
    let same : w ≡ walked 0 (open_at (size c) None ∷ []) (matches_of 0 c) =
    some_is w (walked 0 (open_at (size c) None ∷ []) (matches_of 0 c)) (sym (at_start L l left rest w split none h) ∙ walk_of L l c p text labels)
    in
    let clash : true ≡ false = ap is_whole (sym same) ∙ less in
    cc
