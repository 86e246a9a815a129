-- What stands in the sections is spelled by as many bytes as its least length says.
use Rattle.std.proofs.Common.{ℕ, ◌+◌, ◌^◌, ◌<◌, ◌≤◌, List, [], ◌++◌, length, length-append, sum_by, arith, refl}
use Rattle.std.proofs.lemmas.List.Elements.{All-append}
use Rattle.wasm_form.specs.Values.{SpellsU32, SpellsVector, SpellsBytes, SpellsName}
use Rattle.wasm_form.specs.Types.{SpellsValType, SpellsLimits, SpellsTableType, SpellsGlobalType}
use Rattle.wasm_form.specs.Trees.{SpellsExpr}
use Rattle.wasm_form.specs.Matching.{IsTree}
use Rattle.wasm_form.specs.Sections.{SpellsImported, SpellsImport, SpellsGlobal, SpellsExportKind, SpellsExport, SpellsElement, SpellsRun, SpellsFunction, SpellsBody, SpellsSegment}
use Rattle.wasm_form.specs.Least.{least_unsigned, least_vector, least_bytes, least_limits, least_table_type, least_expr, least_imported, least_import, least_global, least_export, least_element, least_run, least_function, least_body, least_segment}
use Rattle.wasm_form.specs.Spellable.{HasFewLocals}
use Rattle.wasm_form.specs.Ranges.{IsOctet, HasImportedRange, HasImportRange, HasGlobalRange, HasExportRange, HasElementRange, HasRunRange, HasBodyRange, HasSegmentRange}
use Rattle.wasm_form.specs.declared.body.Body.{Body}
use Rattle.wasm_form.specs.declared.body.LocalRun.{LocalRun}
use Rattle.wasm_form.specs.declared.parts.Imported.{Imported}
use Rattle.wasm_form.specs.declared.parts.Imported.TheVariants as imported
use Rattle.wasm_form.specs.declared.parts.Import.{Import}
use Rattle.wasm_form.specs.declared.parts.GlobalDef.{GlobalDef}
use Rattle.wasm_form.specs.declared.parts.ExportKind.{ExportKind}
use Rattle.wasm_form.specs.declared.parts.ExportKind.TheVariants as exports
use Rattle.wasm_form.specs.declared.parts.Export.{Export}
use Rattle.wasm_form.specs.declared.parts.Element.{Element}
use Rattle.wasm_form.specs.declared.parts.Segment.{Segment}
use Rattle.wasm_form.proofs.LeastNumbers.{Spelling, shortest_unsigned}
use Rattle.wasm_form.proofs.Shortest.{join, lead, single, shortest_vector, shortest_bytes, shortest_name, shortest_sized, shortest_val_type, shortest_limits, shortest_table_type, shortest_global_type, some_number, shortest_numbers}
use Rattle.wasm_form.proofs.ShortestCode.{shortest_expr}

-- what stands in the sections
shortest_imported : (what : Imported) → HasImportedRange what → least_imported what < 2 ^ 32 → Spelling SpellsImported what (least_imported what)
shortest_imported (imported.Function ty) h few =
    lead 0x00 SpellsU32 SpellsImported ty (imported.Function ty) (least_unsigned ty) (omega arith) (λ s k. (s, k, refl)) (shortest_unsigned ty h)
shortest_imported (imported.Table bounds) h few =
    lead 0x01 SpellsTableType SpellsImported bounds (imported.Table bounds) (least_table_type bounds) (omega arith) (λ s k. (s, k, refl)) (shortest_table_type bounds h)
shortest_imported (imported.Memory bounds) h few =
    lead 0x02 SpellsLimits SpellsImported bounds (imported.Memory bounds) (least_limits bounds) (omega arith) (λ s k. (s, k, refl)) (shortest_limits bounds h)
shortest_imported (imported.Global ty) h few =
    lead 0x03 SpellsGlobalType SpellsImported ty (imported.Global ty) 2 (omega arith) (λ s k. (s, k, refl)) (shortest_global_type ty)

-- three spellings, one after another
join3 : {A B C D : Type 0} (S : List ℕ → A → Type 0) (T : List ℕ → B → Type 0) (U : List ℕ → C → Type 0) (V : List ℕ → D → Type 0) (x : A) (y : B) (z : C) (w : D) (k m n : ℕ)
    → ((s t u : List ℕ) → S s x → T t y → U u z → V (s ++ (t ++ u)) w) → Spelling S x k → Spelling T y m → Spelling U z n → Spelling V w (k + (m + n))
join3 S T U V x y z w k m n all a b c =
    record {
      bytes = a.bytes ++ (b.bytes ++ c.bytes);
      octets = All-append IsOctet a.bytes (b.bytes ++ c.bytes) a.octets (All-append IsOctet b.bytes c.bytes b.octets c.octets);
      spells = all a.bytes b.bytes c.bytes a.spells b.spells c.spells;
      long = omega (arith, length-append a.bytes (b.bytes ++ c.bytes), length-append b.bytes c.bytes, a.long, b.long, c.long);
    }

pub shortest_import : (i : Import) → HasImportRange i → least_import i < 2 ^ 32 → Spelling SpellsImport i (least_import i)
shortest_import i h few =
    join3 SpellsName SpellsName SpellsImported SpellsImport i.«module» i.name i.what i (least_bytes i.«module») (least_bytes i.name) (least_imported i.what)
    (λ s t u a b c. (s, t, u, a, b, c, refl)) (shortest_name i.«module» h.0 (omega arith)) (shortest_name i.name h.1 (omega arith)) (shortest_imported i.what h.2 (omega arith))

pub shortest_global : (g : GlobalDef) → HasGlobalRange g × IsTree g.init → least_global g < 2 ^ 32 → Spelling SpellsGlobal g (least_global g)
shortest_global g h few =
    join SpellsGlobalType SpellsExpr SpellsGlobal g.ty g.init g 2 (least_expr g.init) (λ s t a b. (s, t, a, b, refl)) (shortest_global_type g.ty) (shortest_expr g.init h.1 h.0 (omega arith))

shortest_export_kind : (k : ExportKind) → Spelling SpellsExportKind k 1
shortest_export_kind exports.Function = single 0x00 SpellsExportKind exports.Function (omega arith) refl
shortest_export_kind exports.Table = single 0x01 SpellsExportKind exports.Table (omega arith) refl
shortest_export_kind exports.Memory = single 0x02 SpellsExportKind exports.Memory (omega arith) refl
shortest_export_kind exports.Global = single 0x03 SpellsExportKind exports.Global (omega arith) refl

pub shortest_export : (e : Export) → HasExportRange e → least_export e < 2 ^ 32 → Spelling SpellsExport e (least_export e)
shortest_export e h few =
    join3 SpellsName SpellsExportKind SpellsU32 SpellsExport e.name e.kind e.index e (least_bytes e.name) 1 (least_unsigned e.index)
    (λ s t u a b c. (s, t, u, a, b, c, refl)) (shortest_name e.name h.0 (omega arith)) (shortest_export_kind e.kind) (shortest_unsigned e.index h.1)

pub shortest_element : (e : Element) → HasElementRange e × IsTree e.offset → least_element e < 2 ^ 32 → Spelling SpellsElement e (least_element e)
shortest_element e h few =
    join3 SpellsU32 SpellsExpr (SpellsVector SpellsU32) SpellsElement e.table e.offset e.functions e (least_unsigned e.table) (least_expr e.offset) (least_vector least_unsigned e.functions)
    (λ s t u a b c. (s, t, u, a, b, c, refl)) (shortest_unsigned e.table h.0.0) (shortest_expr e.offset h.1 h.0.1 (omega arith)) (shortest_numbers e.functions h.0.2 (omega arith))

shortest_run : (r : LocalRun) → HasRunRange r → least_run r < 2 ^ 32 → Spelling SpellsRun r (least_run r)
shortest_run r h few =
    join SpellsU32 SpellsValType SpellsRun r.count r.ty r (least_unsigned r.count) 1 (λ s t a b. (s, t, a, b, refl)) (shortest_unsigned r.count h) (shortest_val_type r.ty)

pub shortest_function : (b : Body) → HasBodyRange b × IsTree b.expr × HasFewLocals b → least_function b < 2 ^ 32 → Spelling SpellsFunction b (least_function b)
shortest_function b h few =
    let few_locals : sum_by (λ (run : LocalRun). run.count) b.locals < 2 ^ 32 = h.2 in
    let locals : Spelling (SpellsVector SpellsRun) b.locals (least_vector least_run b.locals) =
    shortest_vector SpellsRun least_run HasRunRange shortest_run (λ r. omega arith) b.locals h.0.0 (omega arith) in
    join (SpellsVector SpellsRun) SpellsExpr SpellsFunction b.locals b.expr b (least_vector least_run b.locals) (least_expr b.expr) (λ s t x y. (s, t, x, y, few_locals, refl))
    locals (shortest_expr b.expr h.1 h.0.1 (omega arith))

pub shortest_body : (b : Body) → HasBodyRange b × IsTree b.expr × HasFewLocals b → least_body b < 2 ^ 32 → Spelling SpellsBody b (least_body b)
shortest_body b h few =
    shortest_sized SpellsFunction b (least_function b) (omega arith) (shortest_function b h (omega arith))

pub shortest_segment : (d : Segment) → HasSegmentRange d × IsTree d.offset → least_segment d < 2 ^ 32 → Spelling SpellsSegment d (least_segment d)
shortest_segment d h few =
    join3 SpellsU32 SpellsExpr SpellsBytes SpellsSegment d.memory d.offset d.bytes d (least_unsigned d.memory) (least_expr d.offset) (least_bytes d.bytes)
    (λ s t u a b c. (s, t, u, a, b, c, refl)) (shortest_unsigned d.memory h.0.0) (shortest_expr d.offset h.1 h.0.1 (omega arith)) (shortest_bytes d.bytes h.0.2 (omega arith))

-- each has some bytes
pub some_import : (i : Import) → 1 ≤ least_import i
some_import i = omega (arith, some_number (length i.name))

pub some_export : (e : Export) → 1 ≤ least_export e
some_export e = omega arith

pub some_element : (e : Element) → 1 ≤ least_element e
some_element e = omega (arith, some_number e.table)

pub some_body : (b : Body) → 1 ≤ least_body b
some_body b = omega (arith, some_number (least_function b))

pub some_segment : (d : Segment) → 1 ≤ least_segment d
some_segment d = omega (arith, some_number d.memory)
