-- How long flat lists are.
use Rattle.std.proofs.Common.{◌≡◌, ℕ, ◌+◌, ◌≤◌, List, ◌∷◌, ◌++◌, length, Some, None, refl, ap, arith, length-append}
use Rattle.wasm_form.specs.declared.instr.Instr.{Instr}
use Rattle.wasm_form.specs.Trees.{Code, Empty, Then, TableOf, BlockOf, LoopOf, IfOf, IfElseOf, flat, labels_of, size, end_instr, else_instr}
use Rattle.body_validator.specs.Levels.{Level, level, left_flat, Stands}

pub flat_size : (first : ℕ) (c : Code) → length (flat first c) ≡ size c
flat_size first Empty = refl
flat_size first (Then i rest) = omega (arith, flat_size first rest)
flat_size first (TableOf labels last rest) = omega (arith, flat_size (first + length labels) rest)
flat_size first (BlockOf r a b) =
    omega (arith, length-append (flat first a) (end_instr ∷ flat (first + length (labels_of a)) b), flat_size first a, flat_size (first + length (labels_of a)) b)
flat_size first (LoopOf r a b) =
    omega (arith, length-append (flat first a) (end_instr ∷ flat (first + length (labels_of a)) b), flat_size first a, flat_size (first + length (labels_of a)) b)
flat_size first (IfOf r a b) =
    omega (arith, length-append (flat first a) (end_instr ∷ flat (first + length (labels_of a)) b), flat_size first a, flat_size (first + length (labels_of a)) b)
flat_size first (IfElseOf r a d b) =
    let n : ℕ = first + length (labels_of a) in
    let k : ℕ = first + length (labels_of a) + length (labels_of d) in
    omega (arith, length-append (flat first a) (else_instr ∷ (flat n d ++ end_instr ∷ flat k b)), length-append (flat n d) (end_instr ∷ flat k b), flat_size first a, flat_size n d, flat_size k b)

-- a list that has begun and its end are left whole
pub inside_left : (pool : List ℕ) (left : List Instr) (a : Code) (ls : List Level) → Stands pool left (level a None ∷ ls) → size a + 1 ≤ length left
inside_left pool left a ls s =
    let n : ℕ = length s.before in
    let k : ℕ = n + length (labels_of a) in
    omega (arith, ap length s.code, length-append (flat n a) (end_instr ∷ left_flat k ls), flat_size n a)

-- and the first list of an if with its else, the second list and its end
pub both_left : (pool : List ℕ) (left : List Instr) (a d : Code) (ls : List Level) → Stands pool left (level a (Some d) ∷ ls) → size a + size d + 2 ≤ length left
both_left pool left a d ls s =
    let n : ℕ = length s.before in
    let k : ℕ = n + length (labels_of a) in
    let after : List Instr = end_instr ∷ left_flat (k + length (labels_of d)) ls in
    omega (arith, ap length s.code, length-append (flat n a) (else_instr ∷ (flat k d ++ after)), length-append (flat k d) after, flat_size n a, flat_size k d)
