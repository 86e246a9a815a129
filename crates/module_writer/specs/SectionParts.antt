-- The sections of a module, each left out where it would hold nothing.
use Rattle.std.specs.Prelude.{◌≡◌, ℕ, ◌+◌, List, [], ◌∷◌, ◌++◌, Option, Some, None}
use Rattle.wasm_form.specs.Values.{SpellsU32, SpellsVector, SpellsSized}
use Rattle.wasm_form.specs.Types.{SpellsFuncType, SpellsLimits, SpellsTableType}
use Rattle.wasm_form.specs.Sections.{SpellsImport, SpellsGlobal, SpellsExport}
use Rattle.wasm_form.specs.Sections.{SpellsElement, SpellsBody, SpellsSegment}
use Rattle.wasm_form.specs.Least.{least_unsigned, least_func_type, least_limits, least_table_type, least_import}
use Rattle.wasm_form.specs.Least.{least_global, least_export, least_element, least_body, least_segment}
use Rattle.wasm_form.specs.Least.{least_section, least_start}
use Rattle.wasm_form.specs.declared.parts.Parts.{Parts}

-- Core 1.0, 5.5.2, sections: nothing where there are no items; else the id, and the vector, with its size
-- before it
abbrev pub SpellsPart : {A : Type 0} → (id : ℕ) → (S : List ℕ → A → Type 0) → List ℕ → List A → Type 0
SpellsPart id S bytes [] = bytes ≡ []
SpellsPart id S bytes (x ∷ xs) =
    (rest : List ℕ) × SpellsSized (SpellsVector S) rest (x ∷ xs) × (bytes ≡ id ∷ rest)

-- Core 1.0, 5.5.11, start section: nothing where there is no start function
abbrev pub SpellsStartPart : List ℕ → Option ℕ → Type 0
SpellsStartPart bytes None = bytes ≡ []
SpellsStartPart bytes (Some function) =
    (rest : List ℕ) × SpellsSized SpellsU32 rest function × (bytes ≡ 0x08 ∷ rest)

-- the sections up to the exports, by rising id
pub record SpellsEarly (bytes : List ℕ) (m : Parts) : Type 0 where
  pub types : List ℕ
  pub imports : List ℕ
  pub functions : List ℕ
  pub tables : List ℕ
  pub memories : List ℕ
  pub globals : List ℕ
  pub types_are : SpellsPart 1 SpellsFuncType types m.types
  pub imports_are : SpellsPart 2 SpellsImport imports m.imports
  pub functions_are : SpellsPart 3 SpellsU32 functions m.functions
  pub tables_are : SpellsPart 4 SpellsTableType tables m.tables
  pub memories_are : SpellsPart 5 SpellsLimits memories m.memories
  pub globals_are : SpellsPart 6 SpellsGlobal globals m.globals
  pub whole : bytes ≡ types ++ (imports ++ (functions ++ (tables ++ (memories ++ globals))))

-- the others, by rising id
pub record SpellsLate (bytes : List ℕ) (m : Parts) : Type 0 where
  pub exports : List ℕ
  pub start : List ℕ
  pub elements : List ℕ
  pub bodies : List ℕ
  pub segments : List ℕ
  pub exports_are : SpellsPart 7 SpellsExport exports m.exports
  pub start_is : SpellsStartPart start m.start
  pub elements_are : SpellsPart 9 SpellsElement elements m.elements
  pub bodies_are : SpellsPart 10 SpellsBody bodies m.bodies
  pub segments_are : SpellsPart 11 SpellsSegment segments m.segments
  pub whole : bytes ≡ exports ++ (start ++ (elements ++ (bodies ++ segments)))

-- the least numbers of bytes of both
abbrev pub least_early : Parts → ℕ
least_early m =
    least_section least_func_type m.types + (least_section least_import m.imports
    + (least_section least_unsigned m.functions + (least_section least_table_type m.tables
    + (least_section least_limits m.memories + least_section least_global m.globals))))

abbrev pub least_late : Parts → ℕ
least_late m =
    least_section least_export m.exports + (least_start m.start + (least_section least_element m.elements
    + (least_section least_body m.bodies + least_section least_segment m.segments)))
