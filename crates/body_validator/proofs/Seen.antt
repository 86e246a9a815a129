-- What the next instruction says of the lists that are left.
use Rattle.std.proofs.Common.{◌≡◌, ℕ, ◌+◌, ◌≤◌, List, [], ◌∷◌, ◌++◌, length, take, drop, Option, Some, None, refl, sym, ap, subst, ◌∙◌, arith, append_assoc, length-append, add-zero}
use Rattle.std.proofs.Math.Seq.{take-append_seam, drop-append_seam}
use Rattle.wasm_form.specs.declared.value_type.ValType.{ValType}
use Rattle.wasm_form.specs.declared.instr.Instr.{Instr}
use Rattle.wasm_form.specs.declared.sort.Sort.TheVariants as sort
use Rattle.wasm_form.specs.Instructions.{immediates_of}
use Rattle.wasm_form.specs.Trees.{Code, Empty, Then, TableOf, BlockOf, LoopOf, IfOf, IfElseOf, flat, labels_of, end_instr, else_instr, block_instr, loop_instr, if_instr, table_instr}
use Rattle.wasm_form.specs.Matching.{sort_of, IsPlain, HasPlain}
use Rattle.body_validator.specs.Levels.{Level, level, closing_of, left_flat, other_labels, left_labels, OtherPlain, ArePlain, Stands}

-- the next instruction, the lists that it stands in, and what is left after it
pub data Seen (pool : List ℕ) (i : Instr) (left : List Instr) (levels : List Level) : Type 0 where
  SeesPlain : (rest : Code) (other : Option Code) (ls : List Level) → levels ≡ level (Then i rest) other ∷ ls → IsPlain i
      → Stands pool left (level rest other ∷ ls) → Seen pool i left levels
  SeesTable : (labels : List ℕ) (last : ℕ) (rest : Code) (other : Option Code) (ls : List Level) (first : ℕ) → levels ≡ level (TableOf labels last rest) other ∷ ls
      → i ≡ table_instr first (length labels) last → first + length labels ≤ length pool → take (length labels) (drop first pool) ≡ labels
      → Stands pool left (level rest other ∷ ls) → Seen pool i left levels
  SeesBlock : (r : Option ValType) (a b : Code) (other : Option Code) (ls : List Level) → levels ≡ level (BlockOf r a b) other ∷ ls → i ≡ block_instr r
      → Stands pool left (level a None ∷ level b other ∷ ls) → Seen pool i left levels
  SeesLoop : (r : Option ValType) (a b : Code) (other : Option Code) (ls : List Level) → levels ≡ level (LoopOf r a b) other ∷ ls → i ≡ loop_instr r
      → Stands pool left (level a None ∷ level b other ∷ ls) → Seen pool i left levels
  SeesIf : (r : Option ValType) (a b : Code) (other : Option Code) (ls : List Level) → levels ≡ level (IfOf r a b) other ∷ ls → i ≡ if_instr r
      → Stands pool left (level a None ∷ level b other ∷ ls) → Seen pool i left levels
  SeesIfElse : (r : Option ValType) (a d b : Code) (other : Option Code) (ls : List Level) → levels ≡ level (IfElseOf r a d b) other ∷ ls → i ≡ if_instr r
      → Stands pool left (level a (Some d) ∷ level b other ∷ ls) → Seen pool i left levels
  SeesElse : (d : Code) (ls : List Level) → levels ≡ level Empty (Some d) ∷ ls → i ≡ else_instr → Stands pool left (level d None ∷ ls) → Seen pool i left levels
  SeesEnd : (ls : List Level) → levels ≡ level Empty None ∷ ls → i ≡ end_instr → Stands pool left ls → Seen pool i left levels

heads : (i j : Instr) (xs ys : List Instr) → i ∷ xs ≡ j ∷ ys → i ≡ j
heads i j xs ys e = cc

tails : (i j : Instr) (xs ys : List Instr) → i ∷ xs ≡ j ∷ ys → xs ≡ ys
tails i j xs ys e = cc

closed_at : (m n : ℕ) (other : Option Code) (ls : List Level) → m ≡ n → closing_of m other (λ k. left_flat k ls) ≡ closing_of n other (λ k. left_flat k ls)
closed_at m n other ls e = ap (λ k. closing_of k other (λ j. left_flat j ls)) e

-- a list inside, what closes it, and what follows
reflat : (a c b d : List Instr) (e : Instr) → c ≡ d → (a ++ e ∷ b) ++ c ≡ a ++ (e ∷ (b ++ d))
reflat a c b d e f = append_assoc a (e ∷ b) c ∙ ap (λ x. a ++ (e ∷ (b ++ x))) f

relabel : (p la lb y : List ℕ) → p ++ ((la ++ lb) ++ y) ≡ p ++ (la ++ (lb ++ y))
relabel p la lb y = ap (λ x. p ++ x) (append_assoc la lb y)

-- a block, a loop, an if without else
around : (pool before : List ℕ) (left : List Instr) (i j : Instr) (a b : Code) (other : Option Code) (ls : List Level)
    → pool ≡ before ++ ((labels_of a ++ labels_of b) ++ (other_labels other ++ left_labels ls))
    → i ∷ left ≡ j ∷ ((flat (length before) a ++ end_instr ∷ flat (length before + length (labels_of a)) b) ++ closing_of (length before + length (labels_of a ++ labels_of b)) other (λ k. left_flat k ls))
    → HasPlain a → HasPlain b → OtherPlain other → ArePlain ls → Stands pool left (level a None ∷ level b other ∷ ls)
around pool before left i j a b other ls p e ha hb ho hl =
    let n : ℕ = length before in
    let la : List ℕ = labels_of a in
    let lb : List ℕ = labels_of b in
    record {
      before = before;
      labels = p ∙ relabel before la lb (other_labels other ++ left_labels ls);
      code = tails i j left ((flat n a ++ end_instr ∷ flat (n + length la) b) ++ closing_of (n + length (la ++ lb)) other (λ k. left_flat k ls)) e
          ∙ reflat (flat n a) (closing_of (n + length (la ++ lb)) other (λ k. left_flat k ls)) (flat (n + length la) b) (closing_of (n + length la + length lb) other (λ k. left_flat k ls)) end_instr
          (closed_at (n + length (la ++ lb)) (n + length la + length lb) other ls (omega (arith, length-append la lb)));
      plain = (ha, tt, (hb, ho, hl));
    }

at : (pool : List ℕ) (i : Instr) (left : List Instr) (rest : Code) (other : Option Code) (ls : List Level) → Stands pool (i ∷ left) (level rest other ∷ ls) → Seen pool i left (level rest other ∷ ls)
at pool i left Empty None ls s =
    let n : ℕ = length s.before in
    SeesEnd ls refl (heads i end_instr left (left_flat (n + 0) ls) s.code)
    (record {
      before = s.before;
      labels = s.labels;
      code = tails i end_instr left (left_flat (n + 0) ls) s.code ∙ ap (λ k. left_flat k ls) (add-zero n);
      plain = s.plain.2;
    })
at pool i left Empty (Some d) ls s =
    let n : ℕ = length s.before in
    let tail : ℕ → List Instr = λ k. flat k d ++ end_instr ∷ left_flat (k + length (labels_of d)) ls in
    SeesElse d ls refl (heads i else_instr left (tail (n + 0)) s.code)
    (record {
      before = s.before;
      labels = s.labels;
      code = tails i else_instr left (tail (n + 0)) s.code ∙ ap tail (add-zero n);
      plain = (s.plain.1, tt, s.plain.2);
    })
at pool i left (Then j rest) other ls s =
    let n : ℕ = length s.before in
    let e = heads i j left (flat n rest ++ closing_of (n + length (labels_of rest)) other (λ k. left_flat k ls)) s.code in
    SeesPlain rest other ls (ap (λ x. level (Then x rest) other ∷ ls) (sym e)) (subst (λ x. IsPlain x) (sym e) s.plain.0.0)
    (record {
      before = s.before;
      labels = s.labels;
      code = tails i j left (flat n rest ++ closing_of (n + length (labels_of rest)) other (λ k. left_flat k ls)) s.code;
      plain = (s.plain.0.1, s.plain.1, s.plain.2);
    })
at pool i left (TableOf labels last rest) other ls s =
    let n : ℕ = length s.before in
    let m : ℕ = length labels in
    let lr : List ℕ = labels_of rest in
    let more : List ℕ = lr ++ (other_labels other ++ left_labels ls) in
    let j : Instr = table_instr n m last in
    let after : List Instr = flat (n + m) rest ++ closing_of (n + length (labels ++ lr)) other (λ k. left_flat k ls) in
    let whole : pool ≡ s.before ++ (labels ++ more) = s.labels ∙ ap (λ x. s.before ++ x) (append_assoc labels lr (other_labels other ++ left_labels ls)) in
    let here : length (s.before ++ labels) ≡ n + m = length-append s.before labels in
    SeesTable labels last rest other ls n refl (heads i j left after s.code)
    (omega (arith, ap length whole, length-append s.before (labels ++ more), length-append labels more))
    (ap (λ x. take m (drop n x)) whole ∙ ap (λ x. take m x) (drop-append_seam s.before (labels ++ more)) ∙ take-append_seam labels more)
    (record {
      before = s.before ++ labels;
      labels = whole ∙ sym (append_assoc s.before labels more);
      code = tails i j left after s.code
          ∙ ap (λ x. flat (n + m) rest ++ x) (closed_at (n + length (labels ++ lr)) (n + m + length lr) other ls (omega (arith, length-append labels lr)))
          ∙ ap (λ k. flat k rest ++ closing_of (k + length lr) other (λ k. left_flat k ls)) (sym here);
      plain = (s.plain.0, s.plain.1, s.plain.2);
    })
at pool i left (BlockOf r a b) other ls s =
    SeesBlock r a b other ls refl (heads i (block_instr r) left _ s.code)
    (around pool s.before left i (block_instr r) a b other ls s.labels s.code s.plain.0.0 s.plain.0.1 s.plain.1 s.plain.2)
at pool i left (LoopOf r a b) other ls s =
    SeesLoop r a b other ls refl (heads i (loop_instr r) left _ s.code)
    (around pool s.before left i (loop_instr r) a b other ls s.labels s.code s.plain.0.0 s.plain.0.1 s.plain.1 s.plain.2)
at pool i left (IfOf r a b) other ls s =
    SeesIf r a b other ls refl (heads i (if_instr r) left _ s.code)
    (around pool s.before left i (if_instr r) a b other ls s.labels s.code s.plain.0.0 s.plain.0.1 s.plain.1 s.plain.2)
at pool i left (IfElseOf r a d b) other ls s =
    let n : ℕ = length s.before in
    let la : List ℕ = labels_of a in
    let ld : List ℕ = labels_of d in
    let lb : List ℕ = labels_of b in
    let others : List ℕ = other_labels other ++ left_labels ls in
    let c : List Instr = closing_of (n + length (la ++ (ld ++ lb))) other (λ k. left_flat k ls) in
    let c' : List Instr = closing_of (n + length la + length ld + length lb) other (λ k. left_flat k ls) in
    let fd : List Instr = flat (n + length la) d in
    let fb : List Instr = flat (n + length la + length ld) b in
    let same : c ≡ c' = closed_at (n + length (la ++ (ld ++ lb))) (n + length la + length ld + length lb) other ls (omega (arith, length-append la (ld ++ lb), length-append ld lb)) in
    SeesIfElse r a d b other ls refl (heads i (if_instr r) left _ s.code)
    (record {
      before = s.before;
      labels = s.labels ∙ ap (λ x. s.before ++ x) (append_assoc la (ld ++ lb) others ∙ ap (λ x. la ++ x) (append_assoc ld lb others));
      code = tails i (if_instr r) left ((flat n a ++ else_instr ∷ (fd ++ end_instr ∷ fb)) ++ c) s.code
          ∙ append_assoc (flat n a) (else_instr ∷ (fd ++ end_instr ∷ fb)) c
          ∙ ap (λ x. flat n a ++ (else_instr ∷ x)) (reflat fd c fb c' end_instr same);
      plain = (s.plain.0.0, s.plain.0.1, (s.plain.0.2, s.plain.1, s.plain.2));
    })

pub seen : (pool : List ℕ) (i : Instr) (left : List Instr) (levels : List Level) → Stands pool (i ∷ left) levels → Seen pool i left levels
seen pool i left [] s = let e : i ∷ left ≡ [] = s.code in absurd (cc e)
seen pool i left (l ∷ ls) s = at pool i left l.rest l.other ls s

-- nothing is left of the lists when no instruction is
pub nothing_left : (pool : List ℕ) (levels : List Level) → Stands pool [] levels → levels ≡ []
nothing_left pool [] s = refl
nothing_left pool (l ∷ ls) s = absurd (no_closing (flat (length s.before) l.rest) (length s.before + length (labels_of l.rest)) l.other s.code)
  where
    no_closing : (a : List Instr) (n : ℕ) (other : Option Code) → [] ≡ a ++ closing_of n other (λ k. left_flat k ls) → ⊥
    no_closing [] n None e = absurd (cc e)
    no_closing [] n (Some d) e = absurd (cc e)
    no_closing (x ∷ a) n other e = absurd (cc e)

-- the sorts
pub sort_end : sort_of end_instr ≡ Some sort.End
unfolding sort_of immediates_of
sort_end = refl

pub sort_else : sort_of else_instr ≡ Some sort.Else
unfolding sort_of immediates_of
sort_else = refl

pub sort_block : (r : Option ValType) → sort_of (block_instr r) ≡ Some sort.Block
unfolding sort_of immediates_of
sort_block r = refl

pub sort_loop : (r : Option ValType) → sort_of (loop_instr r) ≡ Some sort.Block
unfolding sort_of immediates_of
sort_loop r = refl

pub sort_if : (r : Option ValType) → sort_of (if_instr r) ≡ Some sort.If
unfolding sort_of immediates_of
sort_if r = refl

pub sort_table : (first count last : ℕ) → sort_of (table_instr first count last) ≡ Some (sort.Table first count)
unfolding sort_of immediates_of
sort_table first count last = refl
