-- The flat text of a tree, by places.
use Rattle.std.specs.Prelude.{⊤}
use Rattle.std.proofs.Common.{◌≡◌, ℕ, zero, suc, ◌+◌, ◌-◌, List, [], ◌∷◌, ◌++◌, length, take, drop, slice_get, Some, arith, refl, sym, ◌∙◌, ap, subst, length-append, append_assoc}
use Rattle.wasm_form.specs.declared.expr.Expr.{Expr}
use Rattle.wasm_form.specs.declared.instr.Instr.{Instr}
use Rattle.wasm_form.specs.Trees.{Code, Empty, Then, TableOf, BlockOf, LoopOf, IfOf, IfElseOf, else_instr, end_instr, table_instr, flat, labels_of, size, IsFlat}
use Rattle.flat_machine.specs.Text.{IsAt, IsTableAt, StandsAt, BodyStands}

-- a flat list has as many instructions as the tree's size says
pub length-flat : (first : ℕ) (tree : Code) → length (flat first tree) ≡ size tree
length-flat first Empty = refl
length-flat first (Then i rest) = let h = length-flat first rest in omega arith
length-flat first (TableOf labels last rest) = let h = length-flat (first + length labels) rest in omega arith
length-flat first (BlockOf result inside rest) =
    let h = length-flat first inside in
    let k = length-flat (first + length (labels_of inside)) rest in
    let all = length-append (flat first inside) (end_instr ∷ flat (first + length (labels_of inside)) rest) in
    omega arith
length-flat first (LoopOf result inside rest) =
    let h = length-flat first inside in
    let k = length-flat (first + length (labels_of inside)) rest in
    let all = length-append (flat first inside) (end_instr ∷ flat (first + length (labels_of inside)) rest) in
    omega arith
length-flat first (IfOf result inside rest) =
    let h = length-flat first inside in
    let k = length-flat (first + length (labels_of inside)) rest in
    let all = length-append (flat first inside) (end_instr ∷ flat (first + length (labels_of inside)) rest) in
    omega arith
length-flat first (IfElseOf result inside other rest) =
    let last = first + length (labels_of inside) + length (labels_of other) in
    let h = length-flat first inside in
    let j = length-flat (first + length (labels_of inside)) other in
    let k = length-flat last rest in
    let two = length-append (flat (first + length (labels_of inside)) other) (end_instr ∷ flat last rest) in
    let all = length-append (flat first inside) (else_instr ∷ (flat (first + length (labels_of inside)) other ++ end_instr ∷ flat last rest)) in
    omega arith

-- these items stand in the list from this place on
abbrev pub Runs : {A : Type 0} → List A → (place : ℕ) → List A → Type 0
Runs list place [] = ⊤
Runs list place (x ∷ xs) = (slice_get list place ≡ Some x) × Runs list (place + 1) xs

module _ {A : Type 0} (list : List A) where
  pub runs_front : (place : ℕ) (xs ys : List A) → Runs list place (xs ++ ys) → Runs list place xs
  runs_front place [] ys h = tt
  runs_front place (x ∷ xs) ys h = (h.0, runs_front (place + 1) xs ys h.1)

  pub runs_back : (place next : ℕ) (xs ys : List A) → next ≡ place + length xs → Runs list place (xs ++ ys) → Runs list next ys
  runs_back place next [] ys e h = let same : place ≡ next = omega arith in subst (λ (n : ℕ). Runs list n ys) same h
  runs_back place next (x ∷ xs) ys e h = runs_back (place + 1) next xs ys (omega arith) h.1

here : {A : Type 0} (before : List A) (x : A) (xs : List A) → slice_get (before ++ x ∷ xs) (length before) ≡ Some x
here [] x xs = refl
here (b ∷ before) x xs = here before x xs

-- a list stands in itself, behind what comes before it
pub runs_in : {A : Type 0} (before xs : List A) (place : ℕ) → place ≡ length before → Runs (before ++ xs) place xs
runs_in before [] place e = tt
runs_in {A} before (x ∷ xs) place e = (
  subst (λ (n : ℕ). slice_get (before ++ x ∷ xs) n ≡ Some x) (sym e) (here before x xs),
  let more : (before ++ x ∷ []) ++ xs ≡ before ++ x ∷ xs = append_assoc before (x ∷ []) xs in
      subst (λ (list : List A). Runs list (place + 1) xs) more
      (runs_in (before ++ x ∷ []) xs (place + 1) (let count = length-append before (x ∷ []) in omega arith)),
)

dropped : {A : Type 0} (list : List A) (place : ℕ) (x : A) → slice_get list place ≡ Some x → drop place list ≡ x ∷ drop (suc place) list
dropped [] place x e = absurd (cc)
dropped (y ∷ list) zero x e = let same : y ≡ x = cc in ap (λ z. z ∷ list) same
dropped (y ∷ list) (suc place) x e = dropped list place x e

-- items that stand at a place are those that are taken there
pub runs_taken : {A : Type 0} (list : List A) (place : ℕ) (xs : List A) → Runs list place xs → take (length xs) (drop place list) ≡ xs
runs_taken list place [] h = refl
runs_taken {A} list place (x ∷ xs) h =
    let next : suc place ≡ place + 1 = omega arith in
    let rest : take (length xs) (drop (place + 1) list) ≡ xs = runs_taken list (place + 1) xs h.1 in
    let moved : take (length xs) (drop (suc place) list) ≡ xs = ap (λ (n : ℕ). take (length xs) (drop n list)) next ∙ rest in
    ap (λ (l : List A). take (suc (length xs)) l) (dropped list place x h.0) ∙ ap (λ (l : List A). x ∷ l) moved

table_stands : (e : Expr) (pc first : ℕ) (labels : List ℕ) (last : ℕ) → IsAt e pc (table_instr first (length labels) last) →
    Runs e.labels first labels → IsTableAt e pc labels last
table_stands e pc first labels last at h =
    let count : first + length labels - first ≡ length labels = omega arith in
    (first, at, ap (λ (n : ℕ). take n (drop first e.labels)) count ∙ runs_taken e.labels first labels h)

module _ (e : Expr) where
  -- a list whose flat text and whose labels stand at these places
  pub stands_of : (pc first : ℕ) (tree : Code) → Runs e.code pc (flat first tree) → Runs e.labels first (labels_of tree) → StandsAt e pc tree
  stands_of pc first Empty h k = tt
  stands_of pc first (Then i rest) h k = (h.0, stands_of (pc + 1) first rest h.1 k)
  stands_of pc first (TableOf labels last rest) h k = (
    table_stands e pc first labels last h.0 (runs_front e.labels first labels (labels_of rest) k),
    stands_of (pc + 1) (first + length labels) rest h.1 (runs_back e.labels first (first + length labels) labels (labels_of rest) refl k),
  )
  stands_of pc first (BlockOf result inside rest) h k =
      let next = first + length (labels_of inside) in
      let text = end_instr ∷ flat next rest in
      let count : size inside ≡ length (flat first inside) = sym (length-flat first inside) in
      let back : Runs e.code (pc + 1 + size inside) text = runs_back e.code (pc + 1) (pc + 1 + size inside) (flat first inside) text (omega arith) h.1 in (
        h.0,
        stands_of (pc + 1) first inside (runs_front e.code (pc + 1) (flat first inside) text h.1)
            (runs_front e.labels first (labels_of inside) (labels_of rest) k),
        back.0,
        stands_of (pc + 1 + size inside + 1) next rest back.1 (runs_back e.labels first next (labels_of inside) (labels_of rest) refl k),
      )
  stands_of pc first (LoopOf result inside rest) h k =
      let next = first + length (labels_of inside) in
      let text = end_instr ∷ flat next rest in
      let count : size inside ≡ length (flat first inside) = sym (length-flat first inside) in
      let back : Runs e.code (pc + 1 + size inside) text = runs_back e.code (pc + 1) (pc + 1 + size inside) (flat first inside) text (omega arith) h.1 in (
        h.0,
        stands_of (pc + 1) first inside (runs_front e.code (pc + 1) (flat first inside) text h.1)
            (runs_front e.labels first (labels_of inside) (labels_of rest) k),
        back.0,
        stands_of (pc + 1 + size inside + 1) next rest back.1 (runs_back e.labels first next (labels_of inside) (labels_of rest) refl k),
      )
  stands_of pc first (IfOf result inside rest) h k =
      let next = first + length (labels_of inside) in
      let text = end_instr ∷ flat next rest in
      let count : size inside ≡ length (flat first inside) = sym (length-flat first inside) in
      let back : Runs e.code (pc + 1 + size inside) text = runs_back e.code (pc + 1) (pc + 1 + size inside) (flat first inside) text (omega arith) h.1 in (
        h.0,
        stands_of (pc + 1) first inside (runs_front e.code (pc + 1) (flat first inside) text h.1)
            (runs_front e.labels first (labels_of inside) (labels_of rest) k),
        back.0,
        stands_of (pc + 1 + size inside + 1) next rest back.1 (runs_back e.labels first next (labels_of inside) (labels_of rest) refl k),
      )
  stands_of pc first (IfElseOf result inside other rest) h k =
      let middle = first + length (labels_of inside) in
      let last = middle + length (labels_of other) in
      let text = end_instr ∷ flat last rest in
      let others = else_instr ∷ (flat middle other ++ text) in
      let count : size inside ≡ length (flat first inside) = sym (length-flat first inside) in
      let count_other : size other ≡ length (flat middle other) = sym (length-flat middle other) in
      let back : Runs e.code (pc + 1 + size inside) others = runs_back e.code (pc + 1) (pc + 1 + size inside) (flat first inside) others (omega arith) h.1 in
      let behind : Runs e.code (pc + 1 + size inside + 1 + size other) text =
      runs_back e.code (pc + 1 + size inside + 1) (pc + 1 + size inside + 1 + size other) (flat middle other) text (omega arith) back.1 in
      let labels : Runs e.labels middle (labels_of other ++ labels_of rest) =
      runs_back e.labels first middle (labels_of inside) (labels_of other ++ labels_of rest) refl k in (
        h.0,
        stands_of (pc + 1) first inside (runs_front e.code (pc + 1) (flat first inside) others h.1)
            (runs_front e.labels first (labels_of inside) (labels_of other ++ labels_of rest) k),
        back.0,
        stands_of (pc + 1 + size inside + 1) middle other (runs_front e.code (pc + 1 + size inside + 1) (flat middle other) text back.1)
            (runs_front e.labels middle (labels_of other) (labels_of rest) labels),
        behind.0,
        stands_of (pc + 1 + size inside + 1 + size other + 1) last rest behind.1 (runs_back e.labels middle last (labels_of other) (labels_of rest) refl labels),
      )

-- an expression's list stands in its code
pub body_stands : (e : Expr) (tree : Code) → IsFlat e tree → BodyStands e tree
body_stands e tree is =
    let all = flat 0 tree ++ end_instr ∷ [] in
    let code : Runs e.code 0 all = subst (λ (list : List Instr). Runs list 0 all) (sym is.code) (runs_in [] all 0 refl) in
    let labels : Runs e.labels 0 (labels_of tree) = subst (λ (list : List ℕ). Runs list 0 (labels_of tree)) (sym is.labels) (runs_in [] (labels_of tree) 0 refl) in
    let size_is = length-flat 0 tree in
    let back : Runs e.code (size tree) (end_instr ∷ []) = runs_back e.code 0 (size tree) (flat 0 tree) (end_instr ∷ []) (omega arith) code in
    record {
      stands = stands_of e 0 0 tree (runs_front e.code 0 (flat 0 tree) (end_instr ∷ []) code) labels;
      ends = back.0;
      count = let lengths = ap length is.code ∙ length-append (flat 0 tree) (end_instr ∷ []) in omega arith;
    }
