-- The sections of a module that were written one after another, and the module.
use Rattle.std.proofs.Common.{◌≡◌, ℕ, ◌≤◌, List, [], ◌++◌, length, length-append, append_assoc, arith, refl, ap, ◌∙◌}
use Rattle.wasm_form.specs.Values.{SpellsU32}
use Rattle.wasm_form.specs.Types.{SpellsFuncType, SpellsLimits, SpellsTableType}
use Rattle.wasm_form.specs.Sections.{SpellsImport, SpellsGlobal, SpellsExport, SpellsElement, SpellsBody, SpellsSegment}
use Rattle.wasm_form.specs.Modules.{Spells, IsSpelled, preamble}
use Rattle.wasm_form.specs.Least.{least_unsigned, least_func_type, least_limits, least_table_type, least_import, least_global, least_export, least_element, least_body, least_segment, least_section, least_start, least_module}
use Rattle.wasm_form.specs.declared.parts.Parts.{Parts}
use Rattle.module_writer.specs.Shortest.{IsShortest}
use Rattle.module_writer.specs.Writing.{Appends}
use Rattle.module_writer.specs.SectionParts.{SpellsPart, SpellsStartPart, SpellsEarly, SpellsLate, least_early, least_late}
use Rattle.module_writer.proofs.Sectioned.{spelled}

-- bytes after bytes
after : (old mid new s t : List ℕ) → mid ≡ old ++ s → new ≡ mid ++ t → new ≡ old ++ (s ++ t)
after old mid new s t h k = k ∙ ap (λ (l : List ℕ). l ++ t) h ∙ append_assoc old s t

pub early_written : (m : Parts) (o1 o2 o3 o4 o5 o6 o7 : List ℕ)
    → Appends (SpellsPart 1 SpellsFuncType) (least_section least_func_type) m.types o1 o2 → Appends (SpellsPart 2 SpellsImport) (least_section least_import) m.imports o2 o3
    → Appends (SpellsPart 3 SpellsU32) (least_section least_unsigned) m.functions o3 o4 → Appends (SpellsPart 4 SpellsTableType) (least_section least_table_type) m.tables o4 o5
    → Appends (SpellsPart 5 SpellsLimits) (least_section least_limits) m.memories o5 o6 → Appends (SpellsPart 6 SpellsGlobal) (least_section least_global) m.globals o6 o7
    → Appends SpellsEarly least_early m o1 o7
early_written m o1 o2 o3 o4 o5 o6 o7 a b c d e f =
    let ef : List ℕ = e.bytes ++ f.bytes in
    let df : List ℕ = d.bytes ++ ef in
    let cf : List ℕ = c.bytes ++ df in
    let bf : List ℕ = b.bytes ++ cf in
    let five : o7 ≡ o5 ++ ef = after o5 o6 o7 e.bytes f.bytes e.added f.added in
    let four : o7 ≡ o4 ++ df = after o4 o5 o7 d.bytes ef d.added five in
    let three : o7 ≡ o3 ++ cf = after o3 o4 o7 c.bytes df c.added four in
    let two : o7 ≡ o2 ++ bf = after o2 o3 o7 b.bytes cf b.added three in
    record {
      bytes = a.bytes ++ (b.bytes ++ (c.bytes ++ (d.bytes ++ (e.bytes ++ f.bytes))));
      spells = record {
        types = a.bytes;
        imports = b.bytes;
        functions = c.bytes;
        tables = d.bytes;
        memories = e.bytes;
        globals = f.bytes;
        types_are = a.spells;
        imports_are = b.spells;
        functions_are = c.spells;
        tables_are = d.spells;
        memories_are = e.spells;
        globals_are = f.spells;
        whole = refl;
      };
      long = omega (
        arith,
        a.long,
        b.long,
        c.long,
        d.long,
        e.long,
        f.long,
        length-append a.bytes bf,
        length-append b.bytes cf,
        length-append c.bytes df,
        length-append d.bytes ef,
        length-append e.bytes f.bytes,
      );
      added = after o1 o2 o7 a.bytes bf a.added two;
    }

pub late_written : (m : Parts) (o1 o2 o3 o4 o5 o6 : List ℕ)
    → Appends (SpellsPart 7 SpellsExport) (least_section least_export) m.exports o1 o2 → Appends SpellsStartPart least_start m.start o2 o3
    → Appends (SpellsPart 9 SpellsElement) (least_section least_element) m.elements o3 o4 → Appends (SpellsPart 10 SpellsBody) (least_section least_body) m.bodies o4 o5
    → Appends (SpellsPart 11 SpellsSegment) (least_section least_segment) m.segments o5 o6 → Appends SpellsLate least_late m o1 o6
late_written m o1 o2 o3 o4 o5 o6 a b c d e =
    let de : List ℕ = d.bytes ++ e.bytes in
    let ce : List ℕ = c.bytes ++ de in
    let be : List ℕ = b.bytes ++ ce in
    let four : o6 ≡ o4 ++ de = after o4 o5 o6 d.bytes e.bytes d.added e.added in
    let three : o6 ≡ o3 ++ ce = after o3 o4 o6 c.bytes de c.added four in
    let two : o6 ≡ o2 ++ be = after o2 o3 o6 b.bytes ce b.added three in
    record {
      bytes = a.bytes ++ (b.bytes ++ (c.bytes ++ (d.bytes ++ e.bytes)));
      spells = record {
        exports = a.bytes;
        start = b.bytes;
        elements = c.bytes;
        bodies = d.bytes;
        segments = e.bytes;
        exports_are = a.spells;
        start_is = b.spells;
        elements_are = c.spells;
        bodies_are = d.spells;
        segments_are = e.spells;
        whole = refl;
      };
      long = omega (arith, a.long, b.long, c.long, d.long, e.long, length-append a.bytes be, length-append b.bytes ce, length-append c.bytes de, length-append d.bytes e.bytes);
      added = after o1 o2 o6 a.bytes be a.added two;
    }

-- the module
pub module_written : (m : Parts) (old one two new : List ℕ) → IsSpelled m → old ≡ [] → one ≡ old ++ preamble → Appends SpellsEarly least_early m one two → Appends SpellsLate least_late m two new
    → ((s : List ℕ) → Spells s m → least_module m ≤ length s) → (IsShortest new m) × (length new ≡ least_module m)
module_written m old one two new known empty begun a b law =
    let whole : new ≡ preamble ++ (a.bytes ++ b.bytes) =
    b.added ∙ ap (λ (l : List ℕ). l ++ b.bytes) (a.added ∙ ap (λ (l : List ℕ). l ++ a.bytes) (begun ∙ ap (λ (l : List ℕ). l ++ preamble) empty)) ∙ append_assoc preamble a.bytes b.bytes in
    let long : length new ≡ least_module m =
    omega (arith, ap (λ (l : List ℕ). length l) whole, length-append preamble (a.bytes ++ b.bytes), length-append a.bytes b.bytes, a.long, b.long) in
    let spells : Spells new m = spelled a.bytes b.bytes new m a.spells b.spells known.spelled.counts whole in
    (record { spells = spells; fewest = λ others h. omega (arith, long, law others h) }, long)
