-- Which stacks of value types a checker's stack stands for. The top stands first.
use Rattle.std.specs.Prelude.{◌≡◌, ◌↔◌, ℕ, ⊤, List, [], ◌∷◌, ◌++◌, reverse, drop, Bool, true, false, Option, Some, None, MatchOption}
use Rattle.wasm_form.specs.declared.value_type.ValType.{ValType}
use Rattle.wasm_form.specs.declared.value_type.ValType.TheVariants.{I32}
use Rattle.wasm_form.specs.Context.{Context}
use Rattle.wasm_form.specs.Typing.{arrow, Applies, TableLeaves, EndsIn}

-- what is known of a stack: of each place its type, or nothing, and whether any others may lie below these
pub record Known : Type 0 where
  pub places : List (Option ValType)
  pub any : Bool

abbrev pub known : List (Option ValType) → Bool → Known
known places any = record { places = places; any = any }

-- a place of which this is known may be of this type
abbrev pub MayBe : Option ValType → ValType → Type 0
MayBe None t = ⊤
MayBe (Some s) t = s ≡ t

-- these places, and others below them only where `any` says so, may be this stack
abbrev pub CoversPlaces : List (Option ValType) → (any : Bool) → (stack : List ValType) → Type 0
CoversPlaces [] true stack = ⊤
CoversPlaces [] false stack = stack ≡ []
CoversPlaces (place ∷ places) any [] = ⊥
CoversPlaces (place ∷ places) any (t ∷ stack) = MayBe place t × CoversPlaces places any stack

-- what is known may be this stack
abbrev pub Covers : Known → (stack : List ValType) → Type 0
Covers k stack = CoversPlaces k.places k.any stack

-- the new stands for exactly the stacks to which R leads from those that the old stands for
abbrev pub IsImage : (R : List ValType → List ValType → Type 0) → (old new : Known) → Type 0
IsImage R old new =
    (after : List ValType) → Covers new after ↔ ((before : List ValType) × Covers old before × R before after)

-- R leads nowhere from the stacks that the old stands for
abbrev pub IsStuck : (R : List ValType → List ValType → Type 0) → (old : Known) → Type 0
IsStuck R old = (before after : List ValType) → Covers old before → ¬ R before after

-- an operand of this type is taken
abbrev pub Takes : ValType → (before after : List ValType) → Type 0
Takes t before after = before ≡ t ∷ after

-- an operand of some type is taken
abbrev pub TakesAny : (before after : List ValType) → Type 0
TakesAny before after = (t : ValType) × (before ≡ t ∷ after)

-- operands of these types are taken, the last of them the topmost
abbrev pub TakesAll : List ValType → (before after : List ValType) → Type 0
TakesAll ts before after = before ≡ reverse ts ++ after

-- a result of this type is given
abbrev pub Gives : ValType → (before after : List ValType) → Type 0
Gives t before after = after ≡ t ∷ before

-- results of these types are given, the last of them the topmost
abbrev pub GivesAll : List ValType → (before after : List ValType) → Type 0
GivesAll ts before after = after ≡ reverse ts ++ before

-- all that is below the topmost place
abbrev pub below_top : Known → Known
below_top k = known (drop 1 k.places) k.any

-- the stacks of the old are those of the new with one more operand on top, of which this is known
abbrev pub IsTop : Option ValType → (old new : Known) → Type 0
IsTop place old new = (t : ValType) (stack : List ValType) → Covers old (t ∷ stack) ↔ (MayBe place t × Covers new stack)

-- what is known of an operand of which both are known; none where they can't be true of one operand
abbrev pub IsEither : (first second : Option ValType) → Option (Option ValType) → Type 0
IsEither first second known =
    MatchOption known ((t : ValType) → MayBe first t → ¬ MayBe second t)
    (λ place. (t : ValType) → MayBe place t ↔ (MayBe first t × MayBe second t))

-- two operands of one type and an i32 above them make one of that type
abbrev pub Selects : (before after : List ValType) → Type 0
Selects before after = (t : ValType) × Applies (arrow (t ∷ t ∷ I32 ∷ []) (t ∷ [])) before after

-- a br_table with these labels leads on to any stack
abbrev pub TableLeads : Context → (labels : List ℕ) → (last : ℕ) → (before after : List ValType) → Type 0
TableLeads context labels last before after =
    (needs : List ValType) × TableLeaves context labels last needs × EndsIn needs before
