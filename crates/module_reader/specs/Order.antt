-- Sections one after another, and what they say.
use Rattle.std.specs.Prelude.{◌≡◌, ℕ, ◌<◌, ◌⊎◌, List}
use Rattle.wasm_form.specs.Values.{SpellsItems}
use Rattle.wasm_form.specs.Sections.{SpellsCustom}
use Rattle.wasm_form.specs.Modules.{Section, SpellsSection, IsInOrder}
use Rattle.wasm_form.specs.declared.parts.Parts.{Parts}
use Rattle.module_reader.specs.declared.kind.Kind.{Kind}
use Rattle.module_reader.specs.Kinds.{id_of, Says, Puts, Tell}

-- the section with this id and these contents
abbrev pub section : ℕ → List ℕ → Section
section id contents = record { id = id; contents = contents }

-- A section that may stand after sections whose last id, of those that are not custom, is `last`: a custom one, which
-- changes nothing; or one with a higher id, what it says being put into the parts. `next` is the last id then.
abbrev pub Follows : (last id : ℕ) → (contents : List ℕ) → (next : ℕ) → (old new : Parts) → Type 0
Follows last id contents next old new =
    ((id ≡ 0) × SpellsCustom contents × (next ≡ last) × (new ≡ old))
    ⊎ ((last < id) × (next ≡ id) × (k : Kind) × (id_of k ≡ id) × Puts k contents old new)

-- a section that may not stand there, whatever is put into the parts
abbrev pub MayNotFollow : (last id : ℕ) → (contents : List ℕ) → Type 0
MayNotFollow last id contents =
    (id ≡ 0 → SpellsCustom contents → ⊥) × (last < id → (k : Kind) → id_of k ≡ id → (p : Parts) → Says k contents p → ⊥)

-- the bytes are sections in their order, and these are the parts that the sections say
pub record SpellsSections (bytes : List ℕ) (m : Parts) : Type 0 where
  pub sections : List Section
  pub spelled : SpellsItems SpellsSection bytes sections
  pub in_order : IsInOrder 1 sections
  pub told : (k : Kind) → Tell k sections m
