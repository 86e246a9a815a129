-- Which bytes spell which module (Core 1.0, 5.5).
use Rattle.std.specs.Prelude.{◌≡◌, ℕ, ◌+◌, ◌^◌, ◌<◌, ◌≤◌, ◌==◌, ◌⊎◌, ⊤, List, [], ◌∷◌, ◌++◌, length, find, None, MatchOption, All}
use Rattle.wasm_form.specs.Values.{SpellsU32, SpellsItems}
use Rattle.wasm_form.specs.Sections.{SpellsCustom, SpellsTypes, SpellsImports, SpellsFunctions, SpellsTables, SpellsMemories, SpellsGlobals, SpellsExports, SpellsStart, SpellsElements, SpellsBodies, SpellsSegments}
use Rattle.wasm_form.specs.declared.parts.Parts.{Parts}

-- Core 1.0, 5.5.2, sections: the id of one, and its contents
pub record Section : Type 0 where
  pub id : ℕ
  pub contents : List ℕ

-- Core 1.0, 5.5.2, sections: the id, the size of the contents, and exactly so many bytes
abbrev pub SpellsSection : List ℕ → Section → Type 0
SpellsSection bytes s = (size : List ℕ) × SpellsU32 size (length s.contents) × (bytes ≡ s.id ∷ (size ++ s.contents))

-- each section is a custom one, or has an id above those of the sections before it, all at least `least`, and at most 11
abbrev pub IsInOrder : (least : ℕ) → List Section → Type 0
IsInOrder least [] = ⊤
IsInOrder least (s ∷ rest) =
    ((s.id ≡ 0) × SpellsCustom s.contents × IsInOrder least rest)
    ⊎ ((least ≤ s.id) × (s.id ≤ 11) × IsInOrder (s.id + 1) rest)

-- what S reads in the section with this id; where there is no such section, `absent`
abbrev pub HasPart : {A : Type 0} → (id : ℕ) → (S : List ℕ → A → Type 0) → (absent : A) → List Section → A → Type 0
HasPart id S absent sections x = MatchOption (find (λ s. s.id == id) sections) (x ≡ absent) (λ s. S s.contents x)

-- Core 1.0, 5.5.15, modules: the magic number and the version
abbrev pub preamble : List ℕ
preamble = 0x00 ∷ 0x61 ∷ 0x73 ∷ 0x6D ∷ 0x01 ∷ 0x00 ∷ 0x00 ∷ 0x00 ∷ []

-- Core 1.0, 5.5.15, modules: these bytes spell the module with these parts
pub record Spells (bytes : List ℕ) (m : Parts) : Type 0 where
  pub sections : List Section
  pub after : List ℕ
  pub whole : bytes ≡ preamble ++ after
  pub spelled : SpellsItems SpellsSection after sections
  pub in_order : IsInOrder 1 sections
  pub types : HasPart 1 SpellsTypes [] sections m.types
  pub imports : HasPart 2 SpellsImports [] sections m.imports
  pub functions : HasPart 3 SpellsFunctions [] sections m.functions
  pub tables : HasPart 4 SpellsTables [] sections m.tables
  pub memories : HasPart 5 SpellsMemories [] sections m.memories
  pub globals : HasPart 6 SpellsGlobals [] sections m.globals
  pub exports : HasPart 7 SpellsExports [] sections m.exports
  pub start : HasPart 8 SpellsStart None sections m.start
  pub elements : HasPart 9 SpellsElements [] sections m.elements
  pub bodies : HasPart 10 SpellsBodies [] sections m.bodies
  pub segments : HasPart 11 SpellsSegments [] sections m.segments
  pub counts : length m.functions ≡ length m.bodies

-- some bytes spell the module with these parts
pub record IsSpelled (m : Parts) : Type 0 where
  pub bytes : List ℕ
  pub octets : All (λ b. b < 2 ^ 8) bytes
  pub spelled : Spells bytes m
