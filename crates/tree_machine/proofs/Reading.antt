-- The tree that is read from a flat list is the tree that the list was made of.
use Rattle.std.proofs.Common.{◌≡◌, ◌≢◌, ℕ, ◌+◌, ◌-◌, ◌==◌, List, [], ◌∷◌, ◌++◌, length, slice_range, Option, Some, None, true, false, Bool, if◌then◌else◌, arith, refl, sym, ◌∙◌, ap, append_assoc, append-nil, length-append}
use Rattle.std.proofs.lemmas.Bool.{ne_eqb}
use Rattle.std.proofs.Math.Seq.{drop-append_seam, take-append_seam}
use Rattle.wasm_form.specs.declared.value_type.ValType.{ValType}
use Rattle.wasm_form.specs.declared.instr.Instr.{Instr}
use Rattle.wasm_form.specs.declared.instr.Imm.{Imm}
use Rattle.wasm_form.specs.declared.instr.Imm.TheVariants as imm
use Rattle.wasm_form.specs.declared.sort.Sort.{Sort}
use Rattle.wasm_form.specs.declared.sort.Sort.TheVariants as sort
use Rattle.wasm_form.specs.declared.expr.Expr.{Expr}
use Rattle.wasm_form.specs.Instructions.{immediates_of}
use Rattle.wasm_form.specs.Trees.{Code, Empty, Then, TableOf, BlockOf, LoopOf, IfOf, IfElseOf, end_instr, else_instr, block_instr, loop_instr, if_instr, table_instr, labels_of, flat, IsFlat}
use Rattle.wasm_form.specs.Matching.{special_sort, sort_at, sort_of, IsPlain, HasPlain}
use Rattle.tree_machine.specs.Trees.{Reading, reading, before_list, read, read_all, outermost, tree_of}

one_of_two : (a b : Bool) (x y : Sort) → x ≢ sort.Plain → y ≢ sort.Plain →
    (if a then Some x else if b then Some y else None) ≢ Some sort.Plain
one_of_two true b x y nx ny e = nx (cc)
one_of_two false true x y nx ny e = ny (cc)
one_of_two false false x y nx ny e = absurd (cc)

one_of_three : (a b c : Bool) (x y z : Sort) → x ≢ sort.Plain → y ≢ sort.Plain → z ≢ sort.Plain →
    (if a then Some x else if b then Some y else if c then Some z else None) ≢ Some sort.Plain
one_of_three true b c x y z nx ny nz e = nx (cc)
one_of_three false b c x y z nx ny nz e = one_of_two b c y z ny nz e

one_of_one : (a : Bool) (x : Sort) → x ≢ sort.Plain → (if a then Some x else None) ≢ Some sort.Plain
one_of_one true x nx e = nx (cc)
one_of_one false x nx e = absurd (cc)

-- a code with a form of its own is no plain instruction
special : (code : ℕ) (i : Imm) → special_sort code i ≢ Some sort.Plain
special code imm.None e = one_of_two (code == 0x05) (code == 0x0B) sort.Else sort.End (λ w. cc) (λ w. cc) e
special code (imm.Block result) e =
    one_of_three (code == 0x02) (code == 0x03) (code == 0x04) sort.Block sort.Block sort.If (λ w. cc) (λ w. cc) (λ w. cc) e
special code (imm.Table first count last) e = one_of_one (code == 0x0E) (sort.Table first count) (λ w. cc) e
special code (imm.Index n) e = absurd (cc)
special code (imm.Mem align offset) e = absurd (cc)
special code (imm.I32 n) e = absurd (cc)
special code (imm.I64 n) e = absurd (cc)
special code (imm.F32 n) e = absurd (cc)
special code (imm.F64 n) e = absurd (cc)

-- a plain instruction has none of these codes
not_special : (i : Instr) (k : ℕ) → immediates_of k ≡ None → IsPlain i → (i.code == k) ≡ false
unfolding sort_of
not_special i k special_code plain =
    ne_eqb i.code k (λ (same : i.code ≡ k).
    let none : immediates_of i.code ≡ None = ap immediates_of same ∙ special_code in
    special i.code i.imm (sym (ap (λ (o : Option _). sort_at o i.code i.imm) none) ∙ plain))

no_end : immediates_of 0x0B ≡ None
unfolding immediates_of
no_end = refl

no_else : immediates_of 0x05 ≡ None
unfolding immediates_of
no_else = refl

no_block : immediates_of 0x02 ≡ None
unfolding immediates_of
no_block = refl

no_loop : immediates_of 0x03 ≡ None
unfolding immediates_of
no_loop = refl

no_if : immediates_of 0x04 ≡ None
unfolding immediates_of
no_if = refl

no_table : immediates_of 0x0E ≡ None
unfolding immediates_of
no_table = refl

-- a plain instruction stands before what was read
read_plain : (labels : List ℕ) (i : Instr) (rs : List Reading) → IsPlain i → read labels i rs ≡ before_list (λ rest. Then i rest) rs
unfolding read
read_plain labels i rs plain =
    let e11 = not_special i 0x0B no_end plain in
    let e5 = not_special i 0x05 no_else plain in
    let e2 = not_special i 0x02 no_block plain in
    let e3 = not_special i 0x03 no_loop plain in
    let e4 = not_special i 0x04 no_if plain in
    let e14 = not_special i 0x0E no_table plain in
    rw (e11, e5, e2, e3, e4, e14) refl

-- the labels of a br_table, out of all
slice_between : (before labels after : List ℕ) →
    slice_range (before ++ (labels ++ after)) (length before) (length before + length labels) ≡ labels
slice_between before labels after =
    let count : length before + length labels - length before ≡ length labels = omega arith in
    rw (count, drop-append_seam before (labels ++ after)) (take-append_seam labels after)

read_end : (pool : List ℕ) (rs : List Reading) → read pool end_instr rs ≡ reading Empty None ∷ rs
unfolding read
read_end pool rs = refl

read_else : (pool : List ℕ) (code : Code) (other : Option Code) (rs : List Reading) →
    read pool else_instr (reading code other ∷ rs) ≡ reading Empty (Some code) ∷ rs
unfolding read
read_else pool code other rs = refl

read_block : (pool : List ℕ) (result : Option ValType) (inside rest : Code) (o other : Option Code) (rs : List Reading) →
    read pool (block_instr result) (reading inside o ∷ reading rest other ∷ rs) ≡ reading (BlockOf result inside rest) other ∷ rs
unfolding read
read_block pool result inside rest o other rs = refl

read_loop : (pool : List ℕ) (result : Option ValType) (inside rest : Code) (o other : Option Code) (rs : List Reading) →
    read pool (loop_instr result) (reading inside o ∷ reading rest other ∷ rs) ≡ reading (LoopOf result inside rest) other ∷ rs
unfolding read
read_loop pool result inside rest o other rs = refl

read_if : (pool : List ℕ) (result : Option ValType) (inside rest : Code) (other : Option Code) (rs : List Reading) →
    read pool (if_instr result) (reading inside None ∷ reading rest other ∷ rs) ≡ reading (IfOf result inside rest) other ∷ rs
unfolding read
read_if pool result inside rest other rs = refl

read_if_else : (pool : List ℕ) (result : Option ValType) (inside others rest : Code) (other : Option Code) (rs : List Reading) →
    read pool (if_instr result) (reading inside (Some others) ∷ reading rest other ∷ rs)
    ≡ reading (IfElseOf result inside others rest) other ∷ rs
unfolding read
read_if_else pool result inside others rest other rs = refl

read_table : (pool : List ℕ) (first count last : ℕ) (labels : List ℕ) (rest : Code) (other : Option Code) (rs : List Reading) →
    slice_range pool first (first + count) ≡ labels →
    read pool (table_instr first count last) (reading rest other ∷ rs) ≡ reading (TableOf labels last rest) other ∷ rs
unfolding read
read_table pool first count last labels rest other rs e = ap (λ (x : List ℕ). reading (TableOf x last rest) other ∷ rs) e

-- of two lists of labels that follow one another, where the first stands
first_are : (pool before labels others after : List ℕ) → pool ≡ before ++ ((labels ++ others) ++ after) →
    pool ≡ before ++ (labels ++ (others ++ after))
first_are pool before labels others after are = are ∙ ap (λ (x : List ℕ). before ++ x) (append_assoc labels others after)

-- and the second's
second_are : (pool before labels others after : List ℕ) → pool ≡ before ++ ((labels ++ others) ++ after) →
    pool ≡ (before ++ labels) ++ (others ++ after)
second_are pool before labels others after are =
    are ∙ ap (λ (x : List ℕ). before ++ x) (append_assoc labels others after) ∙ sym (append_assoc before labels (others ++ after))

second_place : (first : ℕ) (before labels : List ℕ) → first ≡ length before → first + length labels ≡ length (before ++ labels)
second_place first before labels place = omega (arith, length-append before labels)

-- the labels of a br_table, out of a pool
table_labels : (pool before labels after : List ℕ) (first : ℕ) → pool ≡ before ++ (labels ++ after) → first ≡ length before →
    slice_range pool first (first + length labels) ≡ labels
table_labels pool before labels after first are place = rw (are, place) (slice_between before labels after)

-- what is read of a list, its end, and what follows, where it is known of the list and of what follows
reads_closed : (pool : List ℕ) (list rest_list follows : List Instr) (inside rest : Code) (other : Option Code) (rs : List Reading) →
    ((x : List Instr) (o : Option Code) (ts : List Reading) → read_all pool x ≡ reading Empty o ∷ ts → read_all pool (list ++ x) ≡ reading inside o ∷ ts) →
    read_all pool (rest_list ++ follows) ≡ reading rest other ∷ rs →
    read_all pool ((list ++ end_instr ∷ rest_list) ++ follows) ≡ reading inside None ∷ reading rest other ∷ rs
reads_closed pool list rest_list follows inside rest other rs one two =
    ap (read_all pool) (append_assoc list (end_instr ∷ rest_list) follows)
    ∙ one (end_instr ∷ (rest_list ++ follows)) None (reading rest other ∷ rs) (ap (read pool end_instr) two ∙ read_end pool (reading rest other ∷ rs))

-- the same with an else between two lists
reads_else : (pool : List ℕ) (list more follows : List Instr) (inside others rest : Code) (o other : Option Code) (rs : List Reading) →
    ((x : List Instr) (o : Option Code) (ts : List Reading) → read_all pool x ≡ reading Empty o ∷ ts → read_all pool (list ++ x) ≡ reading inside o ∷ ts) →
    read_all pool (more ++ follows) ≡ reading others o ∷ reading rest other ∷ rs →
    read_all pool ((list ++ else_instr ∷ more) ++ follows) ≡ reading inside (Some others) ∷ reading rest other ∷ rs
reads_else pool list more follows inside others rest o other rs one two =
    ap (read_all pool) (append_assoc list (else_instr ∷ more) follows)
    ∙ one (else_instr ∷ (more ++ follows)) (Some others) (reading rest other ∷ rs)
    (ap (read pool else_instr) two ∙ read_else pool others o (reading rest other ∷ rs))

-- what is read of a tree's flat list before what was read already, where that begins a list
reads : (pool : List ℕ) (tree : Code) (first : ℕ) → HasPlain tree → (before after : List ℕ) →
    pool ≡ before ++ (labels_of tree ++ after) → first ≡ length before →
    (follows : List Instr) (other : Option Code) (rs : List Reading) → read_all pool follows ≡ reading Empty other ∷ rs →
    read_all pool (flat first tree ++ follows) ≡ reading tree other ∷ rs
reads pool Empty first plain before after are place follows other rs h = h
reads pool (Then i rest) first plain before after are place follows other rs h =
    ap (read pool i) (reads pool rest first plain.1 before after are place follows other rs h)
    ∙ read_plain pool i (reading rest other ∷ rs) plain.0
reads pool (TableOf labels last rest) first plain before after are place follows other rs h =
    ap (read pool (table_instr first (length labels) last))
    (reads pool rest (first + length labels) plain (before ++ labels) after
    (second_are pool before labels (labels_of rest) after are) (second_place first before labels place) follows other rs h)
    ∙ read_table pool first (length labels) last labels rest other rs
    (table_labels pool before labels (labels_of rest ++ after) first (first_are pool before labels (labels_of rest) after are) place)
reads pool (BlockOf result inside rest) first plain before after are place follows other rs h =
    ap (read pool (block_instr result))
    (reads_closed pool (flat first inside) (flat (first + length (labels_of inside)) rest) follows inside rest other rs
    (reads pool inside first plain.0 before (labels_of rest ++ after) (first_are pool before (labels_of inside) (labels_of rest) after are) place)
    (reads pool rest (first + length (labels_of inside)) plain.1 (before ++ labels_of inside) after
    (second_are pool before (labels_of inside) (labels_of rest) after are) (second_place first before (labels_of inside) place) follows other rs h))
    ∙ read_block pool result inside rest None other rs
reads pool (LoopOf result inside rest) first plain before after are place follows other rs h =
    ap (read pool (loop_instr result))
    (reads_closed pool (flat first inside) (flat (first + length (labels_of inside)) rest) follows inside rest other rs
    (reads pool inside first plain.0 before (labels_of rest ++ after) (first_are pool before (labels_of inside) (labels_of rest) after are) place)
    (reads pool rest (first + length (labels_of inside)) plain.1 (before ++ labels_of inside) after
    (second_are pool before (labels_of inside) (labels_of rest) after are) (second_place first before (labels_of inside) place) follows other rs h))
    ∙ read_loop pool result inside rest None other rs
reads pool (IfOf result inside rest) first plain before after are place follows other rs h =
    ap (read pool (if_instr result))
    (reads_closed pool (flat first inside) (flat (first + length (labels_of inside)) rest) follows inside rest other rs
    (reads pool inside first plain.0 before (labels_of rest ++ after) (first_are pool before (labels_of inside) (labels_of rest) after are) place)
    (reads pool rest (first + length (labels_of inside)) plain.1 (before ++ labels_of inside) after
    (second_are pool before (labels_of inside) (labels_of rest) after are) (second_place first before (labels_of inside) place) follows other rs h))
    ∙ read_if pool result inside rest other rs
reads pool (IfElseOf result inside others rest) first plain before after are place follows other rs h =
    let next = first + length (labels_of inside) in
    let last = first + length (labels_of inside) + length (labels_of others) in
    let are_next = second_are pool before (labels_of inside) (labels_of others ++ labels_of rest) after are in
    let place_next = second_place first before (labels_of inside) place in
    ap (read pool (if_instr result))
    (reads_else pool (flat first inside) (flat next others ++ end_instr ∷ flat last rest) follows inside others rest None other rs
    (reads pool inside first plain.0 before ((labels_of others ++ labels_of rest) ++ after)
    (first_are pool before (labels_of inside) (labels_of others ++ labels_of rest) after are) place)
    (reads_closed pool (flat next others) (flat last rest) follows others rest other rs
    (reads pool others next plain.1 (before ++ labels_of inside) (labels_of rest ++ after)
    (first_are pool (before ++ labels_of inside) (labels_of others) (labels_of rest) after are_next) place_next)
    (reads pool rest last plain.2 ((before ++ labels_of inside) ++ labels_of others) after
    (second_are pool (before ++ labels_of inside) (labels_of others) (labels_of rest) after are_next)
    (second_place next (before ++ labels_of inside) (labels_of others) place_next) follows other rs h)))
    ∙ read_if_else pool result inside others rest other rs

-- an expression that is a tree, flat, is read as that tree
pub tree_is_read : (e : Expr) (tree : Code) → HasPlain tree → IsFlat e tree → tree_of e ≡ tree
unfolding tree_of
tree_is_read e tree plain is =
    let pool : e.labels ≡ [] ++ (labels_of tree ++ []) = is.labels ∙ sym (append-nil (labels_of tree)) in
    let last : read_all e.labels (end_instr ∷ []) ≡ reading Empty None ∷ [] = read_end e.labels [] in
    ap (λ (x : List Instr). outermost (read_all e.labels x)) is.code
    ∙ ap outermost (reads e.labels tree 0 plain [] [] pool refl (end_instr ∷ []) None [] last)
