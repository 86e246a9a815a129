-- What is left to map of the lists that have begun, seen from a place of a body's flat list: their trees are cut where
-- the pass stands.
use Rattle.std.specs.Prelude.{◌≡◌, ⊤, ℕ, ◌+◌, List, [], ◌∷◌, ◌++◌, map, Option, Some, None}
use Rattle.wasm_form.specs.declared.expr.Match.{Match}
use Rattle.wasm_form.specs.declared.parts.Parts.{Parts}
use Rattle.wasm_form.specs.Trees.{Code, size, matches_of}
use Rattle.body_validator.specs.Levels.{Level}
use Rattle.code_map.specs.declared.target.Target.{Target}
use Rattle.code_map.specs.declared.body_map.BodyMap.{BodyMap}
use Rattle.code_map.specs.declared.opens.Open.{Open}
use Rattle.code_map.specs.Targets.{count_if, HasTarget}
use Rattle.code_map.specs.Mapped.{Mapped}

-- where a branch to its label leads
abbrev pub label_of : Open → Target
label_of o = o.label

-- the targets of the labels
abbrev pub labels_in : List Open → List Target
labels_in opens = map label_of opens

-- so many values stand after its end
abbrev pub after_end : Open → ℕ
after_end o = o.label.height + count_if o.gives

-- what closes a list at this place is mapped, and what comes after it: its end, or an else and the list after that
abbrev pub ClosesMapped : Parts → BodyMap → Open → List Target →
    (other : Option Code) → (After : ℕ → Type 0) → (place : ℕ) → Type 0
ClosesMapped m map o labels None After place = After (place + 1)
ClosesMapped m map o labels (Some other) After place =
    HasTarget map place o.label × Mapped m map labels (place + 1) o.label.height other
    × After (place + 1 + size other + 1)

-- what is left of the lists is mapped, from this place on, where so many values stand
abbrev pub LeftMapped : Parts → BodyMap → List Level → List Open → (place height : ℕ) → Type 0
LeftMapped m map [] opens place height = ⊤
LeftMapped m map (l ∷ levels) [] place height = ⊤
LeftMapped m map (l ∷ levels) (o ∷ opens) place height =
    Mapped m map (labels_in (o ∷ opens)) place height l.rest
    × ClosesMapped m map o (labels_in (o ∷ opens)) l.other (λ next. LeftMapped m map levels opens next (after_end o))
    (place + size l.rest)

-- the matching places in what closes a list at this place, and after it
abbrev pub closing_matches : (other : Option Code) → (after : ℕ → List Match) → (place : ℕ) → List Match
closing_matches None after place = after (place + 1)
closing_matches (Some other) after place = matches_of (place + 1) other ++ after (place + 1 + size other + 1)

-- the matching places of what is left of the lists, from this place on
abbrev pub left_matches : List Level → (place : ℕ) → List Match
left_matches [] place = []
left_matches (l ∷ levels) place =
    matches_of place l.rest ++ closing_matches l.other (λ next. left_matches levels next) (place + size l.rest)

-- one map goes on from the other: it has more at its ends
pub record Extends (before after : BodyMap) : Type 0 where
  pub slots : (more : List ℕ) × (after.slots ≡ before.slots ++ more)
  pub targets : (more : List Target) × (after.targets ≡ before.targets ++ more)
  pub tables : (more : List Target) × (after.tables ≡ before.tables ++ more)
