-- What is left to check of the lists of instructions that have begun, and whether it is typed. The flat list is cut
-- where the checker stands; what is left of each list is a tree again.
use Rattle.std.specs.Prelude.{◌≡◌, ◌↔◌, ⊤, ℕ, ◌+◌, List, [], ◌∷◌, ◌++◌, length, Option, Some, None, option_to_list}
use Rattle.wasm_form.specs.declared.value_type.ValType.{ValType}
use Rattle.wasm_form.specs.declared.instr.Instr.{Instr}
use Rattle.wasm_form.specs.Trees.{Code, flat, labels_of, end_instr, else_instr}
use Rattle.wasm_form.specs.Matching.{HasPlain}
use Rattle.wasm_form.specs.Context.{Context}
use Rattle.wasm_form.specs.Typing.{Types}
use Rattle.body_validator.specs.declared.frame.Closing.{Closing}
use Rattle.body_validator.specs.declared.frame.Closing.TheVariants as closing
use Rattle.body_validator.specs.declared.frame.Frame.{Frame}
use Rattle.body_validator.specs.declared.function.Function.{Function}
use Rattle.body_validator.specs.declared.checker.Checker.{Checker}
use Rattle.body_validator.specs.Covering.{Known, Covers}
use Rattle.body_validator.specs.Frames.{labels_of as labels_in}
use Rattle.body_validator.specs.Functions.{IsContext}

-- a list that has begun: what is left of it, and the list after its else, where there is one to come
pub record Level : Type 0 where
  pub rest : Code
  pub other : Option Code

abbrev pub level : Code → Option Code → Level
level rest other = record { rest = rest; other = other }

-- what closes a list, and what comes after it; so many labels are pooled before
abbrev pub closing_of : (first : ℕ) → (other : Option Code) → (after : ℕ → List Instr) → List Instr
closing_of first None after = end_instr ∷ after first
closing_of first (Some other) after =
    else_instr ∷ (flat first other ++ end_instr ∷ after (first + length (labels_of other)))

-- the instructions that are left, the innermost list first
abbrev pub left_flat : (first : ℕ) → List Level → List Instr
left_flat first [] = []
left_flat first (l ∷ levels) =
    flat first l.rest ++ closing_of (first + length (labels_of l.rest)) l.other (λ n. left_flat n levels)

abbrev pub other_labels : Option Code → List ℕ
other_labels None = []
other_labels (Some other) = labels_of other

-- the labels of their br_table instructions
abbrev pub left_labels : List Level → List ℕ
left_labels [] = []
left_labels (l ∷ levels) = labels_of l.rest ++ (other_labels l.other ++ left_labels levels)

abbrev pub OtherPlain : Option Code → Type 0
OtherPlain None = ⊤
OtherPlain (Some other) = HasPlain other

abbrev pub ArePlain : List Level → Type 0
ArePlain [] = ⊤
ArePlain (l ∷ levels) = HasPlain l.rest × OtherPlain l.other × ArePlain levels

-- the instructions that are left are those of these lists, and the pool ends in their labels
pub record Stands (pool : List ℕ) (left : List Instr) (levels : List Level) : Type 0 where
  pub before : List ℕ
  pub labels : pool ≡ before ++ left_labels levels
  pub code : left ≡ left_flat (length before) levels
  pub plain : ArePlain levels

-- the context inside these lists
abbrev pub inside_of : Context → List Frame → Context
inside_of context frames = record context { labels = labels_in frames }

-- what closes a list is typed: the list after its else; an if without one gives nothing
abbrev pub ClosesTyped : Context → Frame → (other : Option Code) → Type 0
ClosesTyped context frame None = frame.closing ≡ closing.ElseOrEnd → frame.gives ≡ None
ClosesTyped context frame (Some other) = Types context other [] (option_to_list frame.gives)

-- what a list leaves above these operands
abbrev pub GivesOnto : Frame → (after : List ValType) → Type 0
GivesOnto frame after =
    (below : List ValType) × Covers frame.below below × (after ≡ option_to_list frame.gives ++ below)

-- the lists that are left are typed from some of the stacks that may be
abbrev pub Remains : Context → List Level → List Frame → (MayBegin : List ValType → Type 0) → Type 0
Remains context [] frames MayBegin = ⊤
Remains context (l ∷ levels) [] MayBegin = ⊥
Remains context (l ∷ levels) (frame ∷ frames) MayBegin =
    ((before : List ValType) × MayBegin before
    × Types (inside_of context (frame ∷ frames)) l.rest before (option_to_list frame.gives))
    × ClosesTyped (inside_of context (frame ∷ frames)) frame l.other
    × Remains context levels frames (GivesOnto frame)

-- what is left is typed from where the checker stands
abbrev pub IsLeftTyped : Context → List Level → Checker → Type 0
IsLeftTyped context levels checker = Remains context levels checker.frames (Covers checker.operands)

-- a list that begins over these operands
abbrev pub frame_of : Closing → (carries gives : Option ValType) → (below : Known) → Frame
frame_of closes carries gives below = record { closing = closes; carries = carries; gives = gives; below = below }

-- after this instruction as much is typed as before it
abbrev pub Advances : Function → (pool : List ℕ) → Instr → (old new : Checker) → Type 0
Advances function pool instr old new =
    (context : Context) (left : List Instr) (levels : List Level) → IsContext function context
    → Stands pool (instr ∷ left) levels
    → (next : List Level) × Stands pool left next × (IsLeftTyped context levels old ↔ IsLeftTyped context next new)

-- before this instruction nothing is typed
abbrev pub Refuses : Function → (pool : List ℕ) → Instr → (old : Checker) → Type 0
Refuses function pool instr old =
    (context : Context) (left : List Instr) (levels : List Level) → IsContext function context
    → Stands pool (instr ∷ left) levels → ¬ IsLeftTyped context levels old
