-- Parts that have their sizes, ranges, trees and locals are spelled.
use Rattle.std.proofs.Common.{◌≡◌, ℕ, ◌^◌, ◌<◌, ◌≤◌, inr, List, [], ◌∷◌, ◌++◌, length, All, Option, Some, None, arith, refl}
use Rattle.std.proofs.lemmas.Bool.Decides.{nat_tests}
use Rattle.std.proofs.lemmas.List.Elements.{All-nil, All-cons, All-head, All-tail, All-append}
use Rattle.wasm_form.specs.Values.{SpellsU32, SpellsItems, SpellsVector}
use Rattle.wasm_form.specs.Types.{SpellsFuncType, SpellsLimits, SpellsTableType}
use Rattle.wasm_form.specs.Sections.{SpellsImport, SpellsGlobal, SpellsExport, SpellsStart, SpellsElement, SpellsBody, SpellsSegment}
use Rattle.wasm_form.specs.Modules.{Section, SpellsSection, IsSpelled, preamble}
use Rattle.wasm_form.specs.Matching.{IsTree}
use Rattle.wasm_form.specs.Least.{least_unsigned, least_vector, least_func_type, least_limits, least_table_type, least_import, least_global, least_export, least_element, least_body, least_segment}
use Rattle.wasm_form.specs.Ranges.{IsOctet, HasBoundsRange, HasImportRange, HasGlobalRange, HasExportRange, HasElementRange, HasBodyRange, HasSegmentRange, HasStartRange, HasRanges}
use Rattle.wasm_form.specs.Spellable.{HasSizes, HasTrees, HasFewLocals}
use Rattle.wasm_form.specs.declared.parts.GlobalDef.{GlobalDef}
use Rattle.wasm_form.specs.declared.parts.Element.{Element}
use Rattle.wasm_form.specs.declared.parts.Segment.{Segment}
use Rattle.wasm_form.specs.declared.parts.Parts.{Parts}
use Rattle.wasm_form.proofs.Octets.{octets_by, octets_cons}
use Rattle.wasm_form.proofs.LeastNumbers.{Spelling, shortest_unsigned}
use Rattle.wasm_form.proofs.Shortest.{shortest_vector, shortest_numbers, shortest_func_type, shortest_limits, shortest_table_type}
use Rattle.wasm_form.proofs.ShortestSections.{shortest_import, shortest_global, shortest_export, shortest_element, shortest_body, shortest_segment, some_import, some_export, some_element, some_body, some_segment}

-- bytes for the contents of a section
record Content {A : Type 0} (S : List ℕ → A → Type 0) (x : A) : Type 0 where
  bytes : List ℕ
  octets : All IsOctet bytes
  spells : S bytes x
  few : length bytes < 2 ^ 32

content : {A : Type 0} (S : List ℕ → A → Type 0) (x : A) (n : ℕ) → n < 2 ^ 32 → Spelling S x n → Content S x
content S x n few h = record { bytes = h.bytes; octets = h.octets; spells = h.spells; few = omega (arith, h.long) }

-- a section that can be written
record Writable (s : Section) : Type 0 where
  octets : All IsOctet s.contents
  few : length s.contents < 2 ^ 32
  id : s.id < 2 ^ 8

written : (xs : List Section) → All Writable xs → (bytes : List ℕ) × All IsOctet bytes × SpellsItems SpellsSection bytes xs
written [] all = ([], All-nil IsOctet, refl)
written (s ∷ xs) all =
    let w : Writable s = All-head Writable s xs all in
    let u : Spelling SpellsU32 (length s.contents) (least_unsigned (length s.contents)) = shortest_unsigned (length s.contents) w.few in
    let rest = written xs (All-tail Writable s xs all) in
    let first : List ℕ = s.id ∷ (u.bytes ++ s.contents) in
    let octets : All IsOctet first = octets_cons s.id (u.bytes ++ s.contents) w.id (All-append IsOctet u.bytes s.contents u.octets w.octets) in
    (first ++ rest.0, All-append IsOctet first rest.0 octets rest.1, (first, rest.0, (u.bytes, u.spells, refl), rest.2, refl))

abbrev section : ℕ → List ℕ → Section
section id contents = record { id = id; contents = contents }

-- one more section, before others
with_section : {A : Type 0} (S : List ℕ → A → Type 0) (x : A) (id : ℕ) (xs : List Section) → id < 2 ^ 8 → (c : Content S x) → All Writable xs → All Writable (section id c.bytes ∷ xs)
with_section S x id xs low c all = All-cons Writable (section id c.bytes) xs (record { octets = c.octets; few = c.few; id = low }) all

-- the contents of all the sections but the start section's
record Contents (m : Parts) : Type 0 where
  types : Content (SpellsVector SpellsFuncType) m.types
  imports : Content (SpellsVector SpellsImport) m.imports
  functions : Content (SpellsVector SpellsU32) m.functions
  tables : Content (SpellsVector SpellsTableType) m.tables
  memories : Content (SpellsVector SpellsLimits) m.memories
  globals : Content (SpellsVector SpellsGlobal) m.globals
  exports : Content (SpellsVector SpellsExport) m.exports
  elements : Content (SpellsVector SpellsElement) m.elements
  bodies : Content (SpellsVector SpellsBody) m.bodies
  segments : Content (SpellsVector SpellsSegment) m.segments

-- the sections up to the exports, before others
early_sections : (m : Parts) (c : Contents m) (late : List Section) → All Writable late
    → All Writable (section 1 c.types.bytes ∷ section 2 c.imports.bytes ∷ section 3 c.functions.bytes ∷ section 4 c.tables.bytes ∷ section 5 c.memories.bytes ∷ section 6 c.globals.bytes ∷ section 7 c.exports.bytes ∷ late)
early_sections m c late all =
    with_section (SpellsVector SpellsFuncType) m.types 1 (section 2 c.imports.bytes ∷ section 3 c.functions.bytes ∷ section 4 c.tables.bytes ∷ section 5 c.memories.bytes ∷ section 6 c.globals.bytes ∷ section 7 c.exports.bytes ∷ late) (omega arith) c.types
    (with_section (SpellsVector SpellsImport) m.imports 2 (section 3 c.functions.bytes ∷ section 4 c.tables.bytes ∷ section 5 c.memories.bytes ∷ section 6 c.globals.bytes ∷ section 7 c.exports.bytes ∷ late) (omega arith) c.imports
    (with_section (SpellsVector SpellsU32) m.functions 3 (section 4 c.tables.bytes ∷ section 5 c.memories.bytes ∷ section 6 c.globals.bytes ∷ section 7 c.exports.bytes ∷ late) (omega arith) c.functions
    (with_section (SpellsVector SpellsTableType) m.tables 4 (section 5 c.memories.bytes ∷ section 6 c.globals.bytes ∷ section 7 c.exports.bytes ∷ late) (omega arith) c.tables
    (with_section (SpellsVector SpellsLimits) m.memories 5 (section 6 c.globals.bytes ∷ section 7 c.exports.bytes ∷ late) (omega arith) c.memories
    (with_section (SpellsVector SpellsGlobal) m.globals 6 (section 7 c.exports.bytes ∷ late) (omega arith) c.globals
    (with_section (SpellsVector SpellsExport) m.exports 7 late (omega arith) c.exports all))))))

-- a number has few bytes
short_number : (n : ℕ) → least_unsigned n ≤ 5
unfolding least_unsigned
short_number n = grind (arith, nat_tests)

spelled_with : (m : Parts) (start : Option ℕ) → m.start ≡ start → HasStartRange start → length m.functions ≡ length m.bodies → Contents m → IsSpelled m
spelled_with m None is range counts c =
    let late : List Section = section 9 c.elements.bytes ∷ section 10 c.bodies.bytes ∷ section 11 c.segments.bytes ∷ [] in
    let all_late : All Writable late =
    with_section (SpellsVector SpellsElement) m.elements 9 (section 10 c.bodies.bytes ∷ section 11 c.segments.bytes ∷ []) (omega arith) c.elements
    (with_section (SpellsVector SpellsBody) m.bodies 10 (section 11 c.segments.bytes ∷ []) (omega arith) c.bodies
    (with_section (SpellsVector SpellsSegment) m.segments 11 [] (omega arith) c.segments (All-nil Writable))) in
    let w = written (section 1 c.types.bytes ∷ section 2 c.imports.bytes ∷ section 3 c.functions.bytes ∷ section 4 c.tables.bytes ∷ section 5 c.memories.bytes ∷ section 6 c.globals.bytes ∷ section 7 c.exports.bytes ∷ late)
    (early_sections m c late all_late) in
    record {
      bytes = preamble ++ w.0;
      octets = All-append IsOctet preamble w.0 (octets_by preamble refl) w.1;
      spelled = record {
        sections = section 1 c.types.bytes ∷ section 2 c.imports.bytes ∷ section 3 c.functions.bytes ∷ section 4 c.tables.bytes ∷ section 5 c.memories.bytes ∷ section 6 c.globals.bytes ∷ section 7 c.exports.bytes ∷ late;
        after = w.0;
        whole = refl;
        spelled = w.2;
        in_order = inr (
          omega arith,
          omega arith,
          inr (
            omega arith,
            omega arith,
            inr (
              omega arith,
              omega arith,
              inr (
                omega arith,
                omega arith,
                inr (
                  omega arith,
                  omega arith,
                  inr (omega arith, omega arith, inr (omega arith, omega arith, inr (omega arith, omega arith, inr (omega arith, omega arith, inr (omega arith, omega arith, tt))))),
                ),
              ),
            ),
          ),
        );
        types = c.types.spells;
        imports = c.imports.spells;
        functions = c.functions.spells;
        tables = c.tables.spells;
        memories = c.memories.spells;
        globals = c.globals.spells;
        exports = c.exports.spells;
        start = is;
        elements = c.elements.spells;
        bodies = c.bodies.spells;
        segments = c.segments.spells;
        counts = counts;
      };
    }
spelled_with m (Some function) is range counts c =
    let u : Spelling SpellsU32 function (least_unsigned function) = shortest_unsigned function range in
    let few : length u.bytes < 2 ^ 32 = omega (arith, u.long, short_number function) in
    let s : Content SpellsStart m.start = record { bytes = u.bytes; octets = u.octets; spells = (function, u.spells, is); few = few } in
    let late : List Section = section 8 u.bytes ∷ section 9 c.elements.bytes ∷ section 10 c.bodies.bytes ∷ section 11 c.segments.bytes ∷ [] in
    let all_late : All Writable late =
    with_section SpellsStart m.start 8 (section 9 c.elements.bytes ∷ section 10 c.bodies.bytes ∷ section 11 c.segments.bytes ∷ []) (omega arith) s
    (with_section (SpellsVector SpellsElement) m.elements 9 (section 10 c.bodies.bytes ∷ section 11 c.segments.bytes ∷ []) (omega arith) c.elements
    (with_section (SpellsVector SpellsBody) m.bodies 10 (section 11 c.segments.bytes ∷ []) (omega arith) c.bodies
    (with_section (SpellsVector SpellsSegment) m.segments 11 [] (omega arith) c.segments (All-nil Writable)))) in
    let w = written (section 1 c.types.bytes ∷ section 2 c.imports.bytes ∷ section 3 c.functions.bytes ∷ section 4 c.tables.bytes ∷ section 5 c.memories.bytes ∷ section 6 c.globals.bytes ∷ section 7 c.exports.bytes ∷ late)
    (early_sections m c late all_late) in
    record {
      bytes = preamble ++ w.0;
      octets = All-append IsOctet preamble w.0 (octets_by preamble refl) w.1;
      spelled = record {
        sections = section 1 c.types.bytes ∷ section 2 c.imports.bytes ∷ section 3 c.functions.bytes ∷ section 4 c.tables.bytes ∷ section 5 c.memories.bytes ∷ section 6 c.globals.bytes ∷ section 7 c.exports.bytes ∷ late;
        after = w.0;
        whole = refl;
        spelled = w.2;
        in_order = inr (
          omega arith,
          omega arith,
          inr (
            omega arith,
            omega arith,
            inr (
              omega arith,
              omega arith,
              inr (
                omega arith,
                omega arith,
                inr (
                  omega arith,
                  omega arith,
                  inr (
                    omega arith,
                    omega arith,
                    inr (omega arith, omega arith, inr (omega arith, omega arith, inr (omega arith, omega arith, inr (omega arith, omega arith, inr (omega arith, omega arith, tt))))),
                  ),
                ),
              ),
            ),
          ),
        );
        types = c.types.spells;
        imports = c.imports.spells;
        functions = c.functions.spells;
        tables = c.tables.spells;
        memories = c.memories.spells;
        globals = c.globals.spells;
        exports = c.exports.spells;
        start = (function, u.spells, is);
        elements = c.elements.spells;
        bodies = c.bodies.spells;
        segments = c.segments.spells;
        counts = counts;
      };
    }

all_both : {A : Type 0} (P Q : A → Type 0) (xs : List A) → All P xs → All Q xs → All (λ x. P x × Q x) xs
all_both P Q xs p q = λ k d h. (p k d h, q k d h)

pub spelled : (m : Parts) → length m.functions ≡ length m.bodies → HasSizes m → HasRanges m → HasTrees m → All HasFewLocals m.bodies → IsSpelled m
spelled m counts size range tree few =
    spelled_with m m.start refl range.start counts (record {
      types = content (SpellsVector SpellsFuncType) m.types (least_vector least_func_type m.types) size.types
          (shortest_vector SpellsFuncType least_func_type (λ ty. Unit {0}) (λ ty _ low. shortest_func_type ty low) (λ ty. omega arith) m.types (λ k d h. tt) size.types);
      imports = content (SpellsVector SpellsImport) m.imports (least_vector least_import m.imports) size.imports
          (shortest_vector SpellsImport least_import HasImportRange shortest_import some_import m.imports range.imports size.imports);
      functions = content (SpellsVector SpellsU32) m.functions (least_vector least_unsigned m.functions) size.functions
          (shortest_numbers m.functions range.functions size.functions);
      tables = content (SpellsVector SpellsTableType) m.tables (least_vector least_table_type m.tables) size.tables
          (shortest_vector SpellsTableType least_table_type HasBoundsRange (λ b h _. shortest_table_type b h) (λ b. omega arith) m.tables range.tables size.tables);
      memories = content (SpellsVector SpellsLimits) m.memories (least_vector least_limits m.memories) size.memories
          (shortest_vector SpellsLimits least_limits HasBoundsRange (λ b h _. shortest_limits b h) (λ b. omega arith) m.memories range.memories size.memories);
      globals = content (SpellsVector SpellsGlobal) m.globals (least_vector least_global m.globals) size.globals
          (shortest_vector SpellsGlobal least_global (λ g. HasGlobalRange g × IsTree g.init) shortest_global (λ g. omega arith) m.globals
          (all_both HasGlobalRange (λ (g : GlobalDef). IsTree g.init) m.globals range.globals tree.globals) size.globals);
      exports = content (SpellsVector SpellsExport) m.exports (least_vector least_export m.exports) size.exports
          (shortest_vector SpellsExport least_export HasExportRange shortest_export some_export m.exports range.exports size.exports);
      elements = content (SpellsVector SpellsElement) m.elements (least_vector least_element m.elements) size.elements
          (shortest_vector SpellsElement least_element (λ e. HasElementRange e × IsTree e.offset) shortest_element some_element m.elements
          (all_both HasElementRange (λ (e : Element). IsTree e.offset) m.elements range.elements tree.elements) size.elements);
      bodies = content (SpellsVector SpellsBody) m.bodies (least_vector least_body m.bodies) size.bodies
          (shortest_vector SpellsBody least_body (λ b. HasBodyRange b × IsTree b.expr × HasFewLocals b) shortest_body some_body m.bodies
          (λ k d h. (range.bodies k d h, tree.bodies k d h, few k d h)) size.bodies);
      segments = content (SpellsVector SpellsSegment) m.segments (least_vector least_segment m.segments) size.segments
          (shortest_vector SpellsSegment least_segment (λ d. HasSegmentRange d × IsTree d.offset) shortest_segment some_segment m.segments
          (all_both HasSegmentRange (λ (d : Segment). IsTree d.offset) m.segments range.segments tree.segments) size.segments);
    })
