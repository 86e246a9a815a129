-- Which flat lists are trees: the blocks of a list matched from its last instruction to its first. Contracts of
-- callers speak of trees alone.
use Rattle.std.specs.Prelude.{◌≡◌, ℕ, ◌+◌, List, [], ◌∷◌, reverse, Option, Some, None, Bool, false, is_some, is_none, ◌==◌, ◌&&◌, if◌then◌else◌, ⊤, Result, MatchResult}
use Rattle.wasm_form.specs.Instructions.{immediates_of, fits}
use Rattle.wasm_form.specs.Trees.{Code, Empty, Then, TableOf, BlockOf, LoopOf, IfOf, IfElseOf, IsFlat}
use Rattle.wasm_form.specs.declared.instr.Instr.{Instr}
use Rattle.wasm_form.specs.declared.instr.Imm.{Imm}
use Rattle.wasm_form.specs.declared.instr.Imm.TheVariants as imm
use Rattle.wasm_form.specs.declared.immediates.Immediates.{Immediates}
use Rattle.wasm_form.specs.declared.expr.Expr.{Expr}
use Rattle.wasm_form.specs.declared.expr.Match.{Match}
use Rattle.wasm_form.specs.declared.fault.PartsFault.{PartsFault}
use Rattle.wasm_form.specs.declared.fault.PartsFault.TheVariants as faults
use Rattle.wasm_form.specs.declared.sort.Sort.{Sort}
use Rattle.wasm_form.specs.declared.sort.Sort.TheVariants as sort
use Rattle.wasm_form.specs.declared.matching.Open.{Open}
use Rattle.wasm_form.specs.declared.matching.Walk.{Walk}

-- the sort of a code that has a form of its own, with its immediates
abbrev pub special_sort : (code : ℕ) → Imm → Option Sort
special_sort code imm.None = if code == 0x05 then Some sort.Else else if code == 0x0B then Some sort.End else None
special_sort code (imm.Block result) =
    if code == 0x02 then Some sort.Block else if code == 0x03 then Some sort.Block else if code == 0x04 then Some sort.If else None
special_sort code (imm.Table first count last) = if code == 0x0E then Some (sort.Table first count) else None
special_sort code i = None

abbrev pub sort_at : Option Immediates → (code : ℕ) → Imm → Option Sort
sort_at (Some k) code i = if fits k i then Some sort.Plain else None
sort_at None code i = special_sort code i

-- the sort of an instruction; none where no instruction has its code with its immediates
unfoldable pub sort_of : Instr → Option Sort
sort_of i = sort_at (immediates_of i.code) i.code i.imm

-- an instruction that opens and closes no block and pools no labels
abbrev pub IsPlain : Instr → Type 0
IsPlain i = sort_of i ≡ Some sort.Plain

-- each instruction of the tree that stands by itself is such a one
abbrev pub HasPlain : Code → Type 0
HasPlain Empty = ⊤
HasPlain (Then i rest) = IsPlain i × HasPlain rest
HasPlain (TableOf labels last rest) = HasPlain rest
HasPlain (BlockOf result inside rest) = HasPlain inside × HasPlain rest
HasPlain (LoopOf result inside rest) = HasPlain inside × HasPlain rest
HasPlain (IfOf result inside rest) = HasPlain inside × HasPlain rest
HasPlain (IfElseOf result inside other rest) = HasPlain inside × HasPlain other × HasPlain rest

-- What is known of the instructions from a place on: how many labels stand before theirs; for each list that has begun
-- before that place, the innermost first, where it ends; and the matching places so far.
pub record Walked : Type 0 where
  pub before : ℕ
  pub opens : List Open
  pub found : List Match

abbrev pub walked : ℕ → List Open → List Match → Walked
walked before opens found = record { before = before; opens = opens; found = found }

abbrev pub put_table : (first count before : ℕ) → List Open → List Match → Option Walked
put_table first count before [] found = None
put_table first count before (o ∷ opens) found = if first + count == before then Some (walked first (o ∷ opens) found) else None

abbrev pub put_else : (at : ℕ) → ℕ → List Open → List Match → Option Walked
put_else at before [] found = None
put_else at before (o ∷ opens) found =
    if is_some o.other then None else Some (walked before (record { end = o.end; other = Some at } ∷ opens) found)

-- the block, loop or if at that place, whose list ends as o says; the list that it stands in must have begun, too
abbrev pub put_open : (at : ℕ) → ℕ → Open → List Open → List Match → Option Walked
put_open at before o [] found = None
put_open at before o (p ∷ opens) found = Some (walked before (p ∷ opens) (record { at = at; other = o.other; end = o.end } ∷ found))

abbrev pub put_if : (at : ℕ) → ℕ → List Open → List Match → Option Walked
put_if at before [] found = None
put_if at before (o ∷ opens) found = put_open at before o opens found

abbrev pub put_block : (at : ℕ) → ℕ → List Open → List Match → Option Walked
put_block at before [] found = None
put_block at before (o ∷ opens) found = if is_some o.other then None else put_open at before o opens found

abbrev pub put_plain : ℕ → List Open → List Match → Option Walked
put_plain before [] found = None
put_plain before (o ∷ opens) found = Some (walked before (o ∷ opens) found)

-- one more instruction, before what is known
abbrev pub put : (at : ℕ) → Sort → Walked → Option Walked
put at sort.Plain w = put_plain w.before w.opens w.found
put at (sort.Table first count) w = put_table first count w.before w.opens w.found
put at sort.Block w = put_block at w.before w.opens w.found
put at sort.If w = put_if at w.before w.opens w.found
put at sort.Else w = put_else at w.before w.opens w.found
put at sort.End w = Some (walked w.before (record { end = at; other = None } ∷ w.opens) w.found)

abbrev pub put_sort : (at : ℕ) → Option Sort → Walked → Option Walked
put_sort at None w = None
put_sort at (Some s) w = put at s w

abbrev pub then_put : (at : ℕ) → Instr → Option Walked → Option Walked
then_put at i None = None
then_put at i (Some w) = put_sort at (sort_of i) w

-- what is known of these instructions, the first of which stands at the place `at`, where so many labels are pooled in all
abbrev pub walk : (labels at : ℕ) → List Instr → Option Walked
walk labels at [] = Some (walked labels [] [])
walk labels at (i ∷ list) = then_put at i (walk labels (at + 1) list)

-- what the walk of the code stands for: it keeps both lists the last first
abbrev pub walked_of : Walk → Walked
walked_of w = walked w.before (reverse w.opens.items) (reverse w.found.items)

-- what a step gives: where it is made, what is known then; Unmatched only where there is no such step
abbrev pub Goes : {T : Type 0} → Option Walked → Walked → Result T PartsFault → Type 0
Goes next new result = MatchResult result (λ _. next ≡ Some new) (λ e. e ≡ faults.Unmatched → next ≡ None)

-- one list has begun, which has no else
abbrev pub is_one_list : List Open → Bool
is_one_list [] = false
is_one_list (o ∷ []) = is_none o.other
is_one_list (o ∷ p ∷ opens) = false

-- the instructions are one list and its end, and have all the labels
abbrev pub is_whole : Walked → Bool
is_whole w = (w.before == 0) && is_one_list w.opens

-- the expression is a tree, flat, with its matching places
abbrev pub IsTree : Expr → Type 0
IsTree e = (tree : Code) × HasPlain tree × IsFlat e tree
