-- Which flat lists the walk takes: exactly those of trees, and it finds their matching places.
use Rattle.std.proofs.Common.{◌≡◌, ℕ, ◌+◌, List, [], ◌∷◌, ◌++◌, length, length-append, append_assoc, append-nil, Bool, cond, eq-eqb, Option, Some, None, arith, refl, ap, subst, sym, ◌∙◌}
use Rattle.wasm_form.specs.Instructions.{immediates_of}
use Rattle.wasm_form.specs.Trees.{Code, Empty, Then, TableOf, BlockOf, LoopOf, IfOf, IfElseOf, flat, size, labels_of, else_match_of, matches_of, end_instr, else_instr, block_instr, loop_instr, if_instr, table_instr}
use Rattle.wasm_form.specs.Matching.{sort_of, HasPlain, Walked, walked, put, put_sort, then_put, walk}
use Rattle.wasm_form.specs.declared.value_type.ValType.{ValType}
use Rattle.wasm_form.specs.declared.instr.Instr.{Instr}
use Rattle.wasm_form.specs.declared.expr.Match.{Match}
use Rattle.wasm_form.specs.declared.sort.Sort.{Sort}
use Rattle.wasm_form.specs.declared.sort.Sort.TheVariants as sort
use Rattle.wasm_form.specs.declared.matching.Open.{Open}

-- the sorts of the instructions that have forms of their own
sort_end : sort_of end_instr ≡ Some sort.End
unfolding sort_of immediates_of
sort_end = refl

sort_else : sort_of else_instr ≡ Some sort.Else
unfolding sort_of immediates_of
sort_else = refl

sort_block : (r : Option ValType) → sort_of (block_instr r) ≡ Some sort.Block
unfolding sort_of immediates_of
sort_block r = refl

sort_loop : (r : Option ValType) → sort_of (loop_instr r) ≡ Some sort.Block
unfolding sort_of immediates_of
sort_loop r = refl

sort_if : (r : Option ValType) → sort_of (if_instr r) ≡ Some sort.If
unfolding sort_of immediates_of
sort_if r = refl

sort_table : (first count last : ℕ) → sort_of (table_instr first count last) ≡ Some (sort.Table first count)
unfolding sort_of immediates_of
sort_table first count last = refl

abbrev pub open_at : ℕ → Option ℕ → Open
open_at end other = record { end = end; other = other }

-- one more instruction
stepped : (n at next : ℕ) (i : Instr) (l : List Instr) (w v : Walked) (s : Sort) → next ≡ at + 1 → walk n next l ≡ Some w → sort_of i ≡ Some s → put at s w ≡ Some v → walk n at (i ∷ l) ≡ Some v
stepped n at next i l w v s e h k p =
    let here : walk n (at + 1) l ≡ Some w = subst (λ (x : ℕ). walk n x l ≡ Some w) e h in
    ap (λ (o : Option Walked). then_put at i o) here ∙ ap (λ (o : Option Sort). put_sort at o w) k ∙ p

-- what comes before a step that can't be made can't either
pub walk_none : (n : ℕ) (front l : List Instr) (at stop : ℕ) → stop ≡ at + length front → walk n stop l ≡ None → walk n at (front ++ l) ≡ None
walk_none n [] l at stop e h =
    let same : stop ≡ at = omega arith in
    subst (λ (k : ℕ). walk n k l ≡ None) same h
walk_none n (i ∷ front) l at stop e h = ap (λ (o : Option Walked). then_put at i o) (walk_none n front l (at + 1) stop (omega arith) h)

regroup_found : (m : Match) (a b found : List Match) → m ∷ ((a ++ b) ++ found) ≡ m ∷ (a ++ (b ++ found))
regroup_found m a b found = ap (λ (l : List Match). m ∷ l) (append_assoc a b found)

-- a list, its end and what follows
regroup_end : (i e : Instr) (a b m : List Instr) → i ∷ (a ++ e ∷ b) ++ m ≡ i ∷ (a ++ (e ∷ (b ++ m)))
regroup_end i e a b m = ap (λ (l : List Instr). i ∷ l) (append_assoc a (e ∷ b) m)

-- A block, loop or if without else: from what is known after its inside, and after it.
around : (n at inner after : ℕ) (f g : ℕ) (i : Instr) (s : Sort) (a b m : List Instr) (o : Open) (os : List Open) (ma mb found : List Match)
    → after ≡ inner + 1
    → walk n after (b ++ m) ≡ Some (walked g (o ∷ os) (mb ++ found))
    → (walk n inner (end_instr ∷ (b ++ m)) ≡ Some (walked g (open_at inner None ∷ o ∷ os) (mb ++ found)) → walk n (at + 1) (a ++ end_instr ∷ (b ++ m)) ≡ Some (walked f (open_at inner None ∷ o ∷ os) (ma ++ (mb ++ found))))
    → sort_of i ≡ Some s
    → put at s (walked f (open_at inner None ∷ o ∷ os) (ma ++ (mb ++ found))) ≡ Some (walked f (o ∷ os) (record { at = at; other = None; end = inner } ∷ (ma ++ (mb ++ found))))
    → walk n at ((i ∷ (a ++ end_instr ∷ b)) ++ m) ≡ Some (walked f (o ∷ os) ((record { at = at; other = None; end = inner } ∷ (ma ++ mb)) ++ found))
around n at inner after f g i s a b m o os ma mb found e hb ha k p =
    let closed : walk n inner (end_instr ∷ (b ++ m)) ≡ Some (walked g (open_at inner None ∷ o ∷ os) (mb ++ found)) =
    stepped n inner after end_instr (b ++ m) (walked g (o ∷ os) (mb ++ found)) (walked g (open_at inner None ∷ o ∷ os) (mb ++ found)) sort.End e hb sort_end refl
    in
    let opened : walk n at (i ∷ (a ++ end_instr ∷ (b ++ m))) ≡ Some (walked f (o ∷ os) (record { at = at; other = None; end = inner } ∷ (ma ++ (mb ++ found)))) =
    stepped n at (at + 1) i (a ++ end_instr ∷ (b ++ m)) (walked f (open_at inner None ∷ o ∷ os) (ma ++ (mb ++ found))) (walked f (o ∷ os) (record { at = at; other = None; end = inner } ∷ (ma ++ (mb ++ found)))) s refl (ha closed) k p
    in
    ap (λ (l : List Instr). walk n at l) (regroup_end i end_instr a b m) ∙ opened
    ∙ ap (λ (l : List Match). Some (walked f (o ∷ os) l)) (sym (regroup_found (record { at = at; other = None; end = inner }) ma mb found))

pub complete : (c : Code) (n at stop f after : ℕ) (m : List Instr) (o : Open) (os : List Open) (found : List Match) → HasPlain c
    → stop ≡ at + size c → after ≡ f + length (labels_of c) → walk n stop m ≡ Some (walked after (o ∷ os) found)
    → walk n at (flat f c ++ m) ≡ Some (walked f (o ∷ os) (matches_of at c ++ found))
complete Empty n at stop f after m o os found p e g h =
    let a : stop ≡ at = omega arith in
    let b : after ≡ f = omega arith in
    subst (λ (k : ℕ). walk n k m ≡ Some (walked f (o ∷ os) found)) a (subst (λ (k : ℕ). walk n stop m ≡ Some (walked k (o ∷ os) found)) b h)
complete (Then i rest) n at stop f after m o os found p e g h =
    let r : walk n (at + 1) (flat f rest ++ m) ≡ Some (walked f (o ∷ os) (matches_of (at + 1) rest ++ found)) =
    complete rest n (at + 1) stop f after m o os found p.1 (omega arith) g h
    in
    stepped n at (at + 1) i (flat f rest ++ m) (walked f (o ∷ os) (matches_of (at + 1) rest ++ found)) (walked f (o ∷ os) (matches_of (at + 1) rest ++ found)) sort.Plain refl r p.0 refl
complete (TableOf labels last rest) n at stop f after m o os found p e g h =
    let r : walk n (at + 1) (flat (f + length labels) rest ++ m) ≡ Some (walked (f + length labels) (o ∷ os) (matches_of (at + 1) rest ++ found)) =
    complete rest n (at + 1) stop (f + length labels) after m o os found p (omega arith) (omega (arith, length-append labels (labels_of rest))) h
    in
    stepped n at (at + 1) (table_instr f (length labels) last) (flat (f + length labels) rest ++ m) (walked (f + length labels) (o ∷ os) (matches_of (at + 1) rest ++ found)) (walked f (o ∷ os) (matches_of (at + 1) rest ++ found)) (sort.Table f (length labels)) refl r (sort_table f (length labels) last)
    (ap (λ (b : Bool). cond b (Some (walked f (o ∷ os) (matches_of (at + 1) rest ++ found))) None) (eq-eqb (f + length labels) (f + length labels) refl))
complete (BlockOf r a b) n at stop f after m o os found p e g h =
    let hb = complete b n (at + 2 + size a) stop (f + length (labels_of a)) after m o os found p.1 (omega arith) (omega (arith, length-append (labels_of a) (labels_of b))) h in
    around n at (at + 1 + size a) (at + 2 + size a) f (f + length (labels_of a)) (block_instr r) sort.Block (flat f a) (flat (f + length (labels_of a)) b) m o os (matches_of (at + 1) a) (matches_of (at + 2 + size a) b) found
    (omega arith) hb
    (λ x. complete a n (at + 1) (at + 1 + size a) f (f + length (labels_of a)) (end_instr ∷ (flat (f + length (labels_of a)) b ++ m)) (open_at (at + 1 + size a) None) (o ∷ os) (matches_of (at + 2 + size a) b ++ found) p.0 refl refl x)
    (sort_block r) refl
complete (LoopOf r a b) n at stop f after m o os found p e g h =
    let hb = complete b n (at + 2 + size a) stop (f + length (labels_of a)) after m o os found p.1 (omega arith) (omega (arith, length-append (labels_of a) (labels_of b))) h in
    around n at (at + 1 + size a) (at + 2 + size a) f (f + length (labels_of a)) (loop_instr r) sort.Block (flat f a) (flat (f + length (labels_of a)) b) m o os (matches_of (at + 1) a) (matches_of (at + 2 + size a) b) found
    (omega arith) hb
    (λ x. complete a n (at + 1) (at + 1 + size a) f (f + length (labels_of a)) (end_instr ∷ (flat (f + length (labels_of a)) b ++ m)) (open_at (at + 1 + size a) None) (o ∷ os) (matches_of (at + 2 + size a) b ++ found) p.0 refl refl x)
    (sort_loop r) refl
complete (IfOf r a b) n at stop f after m o os found p e g h =
    let hb = complete b n (at + 2 + size a) stop (f + length (labels_of a)) after m o os found p.1 (omega arith) (omega (arith, length-append (labels_of a) (labels_of b))) h in
    around n at (at + 1 + size a) (at + 2 + size a) f (f + length (labels_of a)) (if_instr r) sort.If (flat f a) (flat (f + length (labels_of a)) b) m o os (matches_of (at + 1) a) (matches_of (at + 2 + size a) b) found
    (omega arith) hb
    (λ x. complete a n (at + 1) (at + 1 + size a) f (f + length (labels_of a)) (end_instr ∷ (flat (f + length (labels_of a)) b ++ m)) (open_at (at + 1 + size a) None) (o ∷ os) (matches_of (at + 2 + size a) b ++ found) p.0 refl refl x)
    (sort_if r) refl
complete (IfElseOf r a d b) n at stop f after m o os found p e g h =
    let fa : ℕ = f + length (labels_of a) in
    let fd : ℕ = f + length (labels_of a) + length (labels_of d) in
    let els : ℕ = at + 1 + size a in
    let end : ℕ = at + 2 + size a + size d in
    let tail : List Instr = flat fd b ++ m in
    let mb : List Match = matches_of (at + 3 + size a + size d) b ++ found in
    let md : List Match = matches_of (at + 2 + size a) d ++ mb in
    let ma : List Match = matches_of (at + 1) a ++ md in
    let hb : walk n (at + 3 + size a + size d) tail ≡ Some (walked fd (o ∷ os) mb) =
    complete b n (at + 3 + size a + size d) stop fd after m o os found p.2 (omega arith) (omega (arith, length-append (labels_of a) (labels_of d ++ labels_of b), length-append (labels_of d) (labels_of b))) h
    in
    let he : walk n end (end_instr ∷ tail) ≡ Some (walked fd (open_at end None ∷ o ∷ os) mb) =
    stepped n end (at + 3 + size a + size d) end_instr tail (walked fd (o ∷ os) mb) (walked fd (open_at end None ∷ o ∷ os) mb) sort.End (omega arith) hb sort_end refl
    in
    let hd : walk n (at + 2 + size a) (flat fa d ++ end_instr ∷ tail) ≡ Some (walked fa (open_at end None ∷ o ∷ os) md) =
    complete d n (at + 2 + size a) end fa fd (end_instr ∷ tail) (open_at end None) (o ∷ os) mb p.1 refl refl he
    in
    let hl : walk n els (else_instr ∷ (flat fa d ++ end_instr ∷ tail)) ≡ Some (walked fa (open_at end (Some els) ∷ o ∷ os) md) =
    stepped n els (at + 2 + size a) else_instr (flat fa d ++ end_instr ∷ tail) (walked fa (open_at end None ∷ o ∷ os) md) (walked fa (open_at end (Some els) ∷ o ∷ os) md) sort.Else (omega arith) hd sort_else refl
    in
    let ha : walk n (at + 1) (flat f a ++ else_instr ∷ (flat fa d ++ end_instr ∷ tail)) ≡ Some (walked f (open_at end (Some els) ∷ o ∷ os) ma) =
    complete a n (at + 1) els f fa (else_instr ∷ (flat fa d ++ end_instr ∷ tail)) (open_at end (Some els)) (o ∷ os) md p.0 refl refl hl
    in
    let hi : walk n at (if_instr r ∷ (flat f a ++ else_instr ∷ (flat fa d ++ end_instr ∷ tail))) ≡ Some (walked f (o ∷ os) (else_match_of at (size a) (size d) ∷ ma)) =
    stepped n at (at + 1) (if_instr r) (flat f a ++ else_instr ∷ (flat fa d ++ end_instr ∷ tail)) (walked f (open_at end (Some els) ∷ o ∷ os) ma) (walked f (o ∷ os) (else_match_of at (size a) (size d) ∷ ma)) sort.If refl ha (sort_if r) refl
    in
    let text : (if_instr r ∷ (flat f a ++ else_instr ∷ (flat fa d ++ end_instr ∷ flat fd b))) ++ m ≡ if_instr r ∷ (flat f a ++ else_instr ∷ (flat fa d ++ end_instr ∷ tail)) =
    regroup_end (if_instr r) else_instr (flat f a) (flat fa d ++ end_instr ∷ flat fd b) m
    ∙ ap (λ (l : List Instr). if_instr r ∷ (flat f a ++ else_instr ∷ l)) (append_assoc (flat fa d) (end_instr ∷ flat fd b) m)
    in
    let places : else_match_of at (size a) (size d) ∷ ((matches_of (at + 1) a ++ (matches_of (at + 2 + size a) d ++ matches_of (at + 3 + size a + size d) b)) ++ found) ≡ else_match_of at (size a) (size d) ∷ ma =
    ap (λ (l : List Match). else_match_of at (size a) (size d) ∷ l)
    (append_assoc (matches_of (at + 1) a) (matches_of (at + 2 + size a) d ++ matches_of (at + 3 + size a + size d) b) found
    ∙ ap (λ (l : List Match). matches_of (at + 1) a ++ l) (append_assoc (matches_of (at + 2 + size a) d) (matches_of (at + 3 + size a + size d) b) found))
    in
    ap (λ (l : List Instr). walk n at l) text ∙ hi ∙ ap (λ (l : List Match). Some (walked f (o ∷ os) l)) (sym places)

-- a tree and its end
pub whole_walk : (c : Code) → HasPlain c → walk (length (labels_of c)) 0 (flat 0 c ++ end_instr ∷ []) ≡ Some (walked 0 (open_at (size c) None ∷ []) (matches_of 0 c))
whole_walk c p =
    let n : ℕ = length (labels_of c) in
    let last : walk n (size c) (end_instr ∷ []) ≡ Some (walked n (open_at (size c) None ∷ []) []) =
    stepped n (size c) (size c + 1) end_instr [] (walked n [] []) (walked n (open_at (size c) None ∷ []) []) sort.End refl refl sort_end refl
    in
    complete c n 0 (size c) 0 n (end_instr ∷ []) (open_at (size c) None) [] [] p (omega arith) (omega arith) last
    ∙ ap (λ (l : List Match). Some (walked 0 (open_at (size c) None ∷ []) l)) (append-nil (matches_of 0 c))
