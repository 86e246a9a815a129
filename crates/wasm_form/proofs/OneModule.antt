-- What stands in a section has spellings of its own, and the same bytes spell one module at most.
use Rattle.std.proofs.Common.{◌≡◌, ℕ, List, [], ◌∷◌, ◌++◌, Option, Some, None, MatchOption, arith, refl, ap, subst, sym, ◌∙◌, eqb}
use Rattle.std.specs.List.{find}
use Rattle.leb_read.specs.Numbers.{SpellsSigned}
use Rattle.wasm_form.specs.Values.{SpellsU32, SpellsItems, SpellsVector, SpellsBytes, SpellsName}
use Rattle.wasm_form.specs.Types.{SpellsValType, SpellsFuncType, SpellsLimits, SpellsTableType, SpellsGlobalType}
use Rattle.wasm_form.specs.Trees.{SpellsExpr}
use Rattle.wasm_form.specs.Sections.{SpellsTypes, SpellsImported, SpellsImport, SpellsImports, SpellsFunctions, SpellsTables, SpellsMemories, SpellsGlobal, SpellsGlobals, SpellsExportKind, SpellsExport, SpellsExports, SpellsStart, SpellsElement, SpellsElements, SpellsRun, SpellsFunction, SpellsBody, SpellsBodies, SpellsSegment, SpellsSegments}
use Rattle.wasm_form.specs.Modules.{Section, SpellsSection, HasPart, Spells, preamble}
use Rattle.wasm_form.specs.declared.types.Bounds.{Bounds}
use Rattle.wasm_form.specs.declared.types.GlobalType.{GlobalType}
use Rattle.wasm_form.specs.declared.parts.Imported.{Imported}
use Rattle.wasm_form.specs.declared.parts.Imported.TheVariants as imported
use Rattle.wasm_form.specs.declared.parts.ExportKind.{ExportKind}
use Rattle.wasm_form.specs.declared.parts.ExportKind.TheVariants as kind
use Rattle.wasm_form.specs.declared.parts.Parts.{Parts}
use Rattle.wasm_form.proofs.Fronts.{OneFront, Both, one_value, one_both, one_led, one_by, one_vector, one_bytes, one_sized, cancel, heads, tails}
use Rattle.wasm_form.proofs.OneType.{one_val_type, one_global_type, one_func_type, one_limits, one_table_type}
use Rattle.wasm_form.proofs.OneCode.{one_expr}

-- what is exported
abbrev export_code : ExportKind → ℕ
export_code kind.Function = 0x00
export_code kind.Table = 0x01
export_code kind.Memory = 0x02
export_code kind.Global = 0x03

is_kind : (s : List ℕ) (v : ExportKind) → SpellsExportKind s v → s ≡ export_code v ∷ []
is_kind s kind.Function h = h
is_kind s kind.Table h = h
is_kind s kind.Memory h = h
is_kind s kind.Global h = h

same_export_kind : (v w : ExportKind) → export_code v ≡ export_code w → v ≡ w
same_export_kind kind.Function kind.Function e = refl
same_export_kind kind.Table kind.Table e = refl
same_export_kind kind.Memory kind.Memory e = refl
same_export_kind kind.Global kind.Global e = refl
same_export_kind v w e = absurd (omega (arith, e))

pub one_export_kind : OneFront SpellsExportKind
one_export_kind =
    record {
      one = λ s t x y v w h k e.
          let same : export_code v ≡ export_code w = heads (export_code v) (export_code w) s t [] [] x y (is_kind s v h) (is_kind t w k) e in
          (is_kind s v h ∙ ap (λ (b : ℕ). b ∷ []) same ∙ sym (is_kind t w k), same_export_kind v w same);
    }

-- what is imported
abbrev import_code : Imported → ℕ
import_code (imported.Function ty) = 0x00
import_code (imported.Table bounds) = 0x01
import_code (imported.Memory bounds) = 0x02
import_code (imported.Global global) = 0x03

import_begins : (s : List ℕ) (v : Imported) → SpellsImported s v → (u : List ℕ) × (s ≡ import_code v ∷ u)
import_begins s (imported.Function ty) h = (h.0, h.2)
import_begins s (imported.Table bounds) h = (h.0, h.2)
import_begins s (imported.Memory bounds) h = (h.0, h.2)
import_begins s (imported.Global global) h = (h.0, h.2)

-- the sections of a module, up to the end of the bytes
section_not_empty : (s x : List ℕ) (v : Section) → SpellsSection s v → s ++ x ≡ [] → ⊥
section_not_empty s x v h e =
    let both : v.id ∷ ((h.0 ++ v.contents) ++ x) ≡ [] = ap (λ (l : List ℕ). l ++ x) (sym h.2) ∙ e in
    cc

one_sections : OneFront SpellsSection → (a b : List Section) (s t : List ℕ) → s ≡ t → SpellsItems SpellsSection s a → SpellsItems SpellsSection t b → a ≡ b
one_sections law [] [] s t e h k = refl
one_sections law [] (w ∷ b) s t e h k = absurd (section_not_empty k.0 k.1 w k.2 (sym k.4 ∙ sym e ∙ h))
one_sections law (v ∷ a) [] s t e h k = absurd (section_not_empty h.0 h.1 v h.2 (sym h.4 ∙ e ∙ k))
one_sections law (v ∷ a) (w ∷ b) s t e h k =
    let whole : h.0 ++ h.1 ≡ k.0 ++ k.1 = sym h.4 ∙ e ∙ k.4 in
    let first : (h.0 ≡ k.0) × (v ≡ w) = law.one h.0 k.0 h.1 k.1 v w h.2 k.2 whole in
    let more : a ≡ b = one_sections law a b h.1 k.1 (cancel h.0 k.0 h.1 k.1 first.0 whole) h.3 k.3 in
    ap (λ (l : Section). l ∷ a) first.1 ∙ ap (λ (l : List Section). w ∷ l) more

-- a part of one list of sections
part_of : {A : Type 0} (S : List ℕ → A → Type 0) → OneFront S → (absent x y : A) (o : Option Section)
    → MatchOption o (x ≡ absent) (λ s. S s.contents x) → MatchOption o (y ≡ absent) (λ s. S s.contents y) → x ≡ y
part_of S law absent x y None h k = h ∙ sym k
part_of S law absent x y (Some s) h k = one_value S law s.contents x y h k

one_part : {A : Type 0} (id : ℕ) (S : List ℕ → A → Type 0) → OneFront S → (absent x y : A) (a b : List Section) → a ≡ b
    → HasPart id S absent a x → HasPart id S absent b y → x ≡ y
one_part id S law absent x y a b e h k =
    part_of S law absent x y (find (λ s. eqb s.id id) b) (subst (λ (l : List Section). HasPart id S absent l x) e h) k

module _ (numbers : OneFront SpellsU32) (signed : (N : ℕ) → OneFront (SpellsSigned N)) where
  expr : OneFront SpellsExpr
  expr = one_expr numbers signed

  pub one_name : OneFront SpellsName
  one_name = record { one = λ s t x y v w h k e. (one_bytes numbers).one s t x y v w h.0 k.0 e }

  imported_one : (s t x y : List ℕ) (v w : Imported) → SpellsImported s v → SpellsImported t w → s ++ x ≡ t ++ y → (s ≡ t) × (v ≡ w)
  imported_one s t x y (imported.Function v) (imported.Function w) h k e =
      let r : (s ≡ t) × (v ≡ w) = (one_led 0x00 SpellsU32 numbers).one s t x y v w h k e in
      (r.0, ap (λ (l : ℕ). imported.Function l) r.1)
  imported_one s t x y (imported.Table v) (imported.Table w) h k e =
      let r : (s ≡ t) × (v ≡ w) = (one_led 0x01 SpellsTableType (one_table_type numbers)).one s t x y v w h k e in
      (r.0, ap (λ (l : Bounds). imported.Table l) r.1)
  imported_one s t x y (imported.Memory v) (imported.Memory w) h k e =
      let r : (s ≡ t) × (v ≡ w) = (one_led 0x02 SpellsLimits (one_limits numbers)).one s t x y v w h k e in
      (r.0, ap (λ (l : Bounds). imported.Memory l) r.1)
  imported_one s t x y (imported.Global v) (imported.Global w) h k e =
      let r : (s ≡ t) × (v ≡ w) = (one_led 0x03 SpellsGlobalType one_global_type).one s t x y v w h k e in
      (r.0, ap (λ (l : GlobalType). imported.Global l) r.1)
  imported_one s t x y v w h k e =
      absurd (omega (arith, heads (import_code v) (import_code w) s t (import_begins s v h).0 (import_begins t w k).0 x y (import_begins s v h).1 (import_begins t w k).1 e))

  pub one_imported : OneFront SpellsImported
  one_imported = record { one = imported_one }

  pub one_import : OneFront SpellsImport
  one_import =
      let names : OneFront SpellsName = one_name in
      one_by SpellsImport (Both SpellsName (Both SpellsName SpellsImported)) (λ v. (v.«module», (v.name, v.what)))
      (λ p. record { «module» = p.0; name = p.1.0; what = p.1.1 }) (λ v. refl) (λ s v h. (h.0, h.1 ++ h.2, h.3, (h.1, h.2, h.4, h.5, refl), h.6))
      (one_both SpellsName (Both SpellsName SpellsImported) names (one_both SpellsName SpellsImported names one_imported))

  pub one_global : OneFront SpellsGlobal
  one_global =
      one_by SpellsGlobal (Both SpellsGlobalType SpellsExpr) (λ v. (v.ty, v.init)) (λ p. record { ty = p.0; init = p.1 }) (λ v. refl) (λ s v h. h)
      (one_both SpellsGlobalType SpellsExpr one_global_type expr)

  pub one_export : OneFront SpellsExport
  one_export =
      one_by SpellsExport (Both SpellsName (Both SpellsExportKind SpellsU32)) (λ v. (v.name, (v.kind, v.index)))
      (λ p. record { name = p.0; kind = p.1.0; index = p.1.1 }) (λ v. refl) (λ s v h. (h.0, h.1 ++ h.2, h.3, (h.1, h.2, h.4, h.5, refl), h.6))
      (one_both SpellsName (Both SpellsExportKind SpellsU32) one_name (one_both SpellsExportKind SpellsU32 one_export_kind numbers))

  pub one_start : OneFront SpellsStart
  one_start =
      record {
        one = λ s t x y v w h k e.
            let r : (s ≡ t) × (h.0 ≡ k.0) = numbers.one s t x y h.0 k.0 h.1 k.1 e in
            (r.0, h.2 ∙ ap (λ (n : ℕ). Some n) r.1 ∙ sym k.2);
      }

  pub one_element : OneFront SpellsElement
  one_element =
      one_by SpellsElement (Both SpellsU32 (Both SpellsExpr (SpellsVector SpellsU32))) (λ v. (v.table, (v.offset, v.functions)))
      (λ p. record { table = p.0; offset = p.1.0; functions = p.1.1 }) (λ v. refl) (λ s v h. (h.0, h.1 ++ h.2, h.3, (h.1, h.2, h.4, h.5, refl), h.6))
      (one_both SpellsU32 (Both SpellsExpr (SpellsVector SpellsU32)) numbers (one_both SpellsExpr (SpellsVector SpellsU32) expr (one_vector SpellsU32 numbers numbers)))

  pub one_run : OneFront SpellsRun
  one_run =
      one_by SpellsRun (Both SpellsU32 SpellsValType) (λ v. (v.count, v.ty)) (λ p. record { count = p.0; ty = p.1 }) (λ v. refl) (λ s v h. h)
      (one_both SpellsU32 SpellsValType numbers one_val_type)

  pub one_function : OneFront SpellsFunction
  one_function =
      one_by SpellsFunction (Both (SpellsVector SpellsRun) SpellsExpr) (λ v. (v.locals, v.expr)) (λ p. record { locals = p.0; expr = p.1 }) (λ v. refl)
      (λ s v h. (h.0, h.1, h.2, h.3, h.5)) (one_both (SpellsVector SpellsRun) SpellsExpr (one_vector SpellsRun numbers one_run) expr)

  pub one_body : OneFront SpellsBody
  one_body = record { one = (one_sized SpellsFunction numbers one_function).one }

  pub one_segment : OneFront SpellsSegment
  one_segment =
      one_by SpellsSegment (Both SpellsU32 (Both SpellsExpr SpellsBytes)) (λ v. (v.memory, (v.offset, v.bytes)))
      (λ p. record { memory = p.0; offset = p.1.0; bytes = p.1.1 }) (λ v. refl) (λ s v h. (h.0, h.1 ++ h.2, h.3, (h.1, h.2, h.4, h.5, refl), h.6))
      (one_both SpellsU32 (Both SpellsExpr SpellsBytes) numbers (one_both SpellsExpr SpellsBytes expr (one_bytes numbers)))

  pub one_section : OneFront SpellsSection
  one_section =
      record {
        one = λ s t x y v w h k e.
            let mk : Section → Section = λ u. u in
            let id : v.id ≡ w.id = heads v.id w.id s t (h.0 ++ v.contents) (k.0 ++ w.contents) x y h.2 k.2 e in
            let r : (h.0 ++ v.contents ≡ k.0 ++ w.contents) × (v.contents ≡ w.contents) =
            (one_bytes numbers).one (h.0 ++ v.contents) (k.0 ++ w.contents) x y v.contents w.contents (h.0, h.1, refl) (k.0, k.1, refl)
            (tails v.id w.id s t (h.0 ++ v.contents) (k.0 ++ w.contents) x y h.2 k.2 e)
            in (
              h.2 ∙ ap (λ (b : ℕ). b ∷ (h.0 ++ v.contents)) id ∙ ap (λ (l : List ℕ). w.id ∷ l) r.0 ∙ sym k.2,
              ap (λ (b : ℕ). mk (record { id = b; contents = v.contents })) id ∙ ap (λ (l : List ℕ). mk (record { id = w.id; contents = l })) r.1,
            );
      }

  pub one_module : (bytes : List ℕ) (m n : Parts) → Spells bytes m → Spells bytes n → m ≡ n
  one_module bytes m n h k =
      let after : h.after ≡ k.after = cancel preamble preamble h.after k.after refl (sym h.whole ∙ k.whole) in
      let same : h.sections ≡ k.sections = one_sections one_section h.sections k.sections h.after k.after after h.spelled k.spelled in
      let types = one_part 1 SpellsTypes (one_vector SpellsFuncType numbers (one_func_type numbers)) [] m.types n.types h.sections k.sections same h.types k.types in
      let imports = one_part 2 SpellsImports (one_vector SpellsImport numbers one_import) [] m.imports n.imports h.sections k.sections same h.imports k.imports in
      let functions = one_part 3 SpellsFunctions (one_vector SpellsU32 numbers numbers) [] m.functions n.functions h.sections k.sections same h.functions k.functions in
      let tables = one_part 4 SpellsTables (one_vector SpellsTableType numbers (one_table_type numbers)) [] m.tables n.tables h.sections k.sections same h.tables k.tables in
      let memories = one_part 5 SpellsMemories (one_vector SpellsLimits numbers (one_limits numbers)) [] m.memories n.memories h.sections k.sections same h.memories k.memories in
      let globals = one_part 6 SpellsGlobals (one_vector SpellsGlobal numbers one_global) [] m.globals n.globals h.sections k.sections same h.globals k.globals in
      let exports = one_part 7 SpellsExports (one_vector SpellsExport numbers one_export) [] m.exports n.exports h.sections k.sections same h.exports k.exports in
      let start = one_part 8 SpellsStart one_start None m.start n.start h.sections k.sections same h.start k.start in
      let elements = one_part 9 SpellsElements (one_vector SpellsElement numbers one_element) [] m.elements n.elements h.sections k.sections same h.elements k.elements in
      let bodies = one_part 10 SpellsBodies (one_vector SpellsBody numbers one_body) [] m.bodies n.bodies h.sections k.sections same h.bodies k.bodies in
      let segments = one_part 11 SpellsSegments (one_vector SpellsSegment numbers one_segment) [] m.segments n.segments h.sections k.sections same h.segments k.segments in
      all_same m n types imports functions tables memories globals exports start elements bodies segments
    where
      all_same : (m n : Parts) → m.types ≡ n.types → m.imports ≡ n.imports → m.functions ≡ n.functions → m.tables ≡ n.tables → m.memories ≡ n.memories
          → m.globals ≡ n.globals → m.exports ≡ n.exports → m.start ≡ n.start → m.elements ≡ n.elements → m.bodies ≡ n.bodies → m.segments ≡ n.segments → m ≡ n
      all_same m n a b c d e f g h i j k =
          let left : Parts = record { types = m.types; imports = m.imports; functions = m.functions; tables = m.tables; memories = m.memories; globals = m.globals; exports = m.exports; start = m.start; elements = m.elements; bodies = m.bodies; segments = m.segments } in
          let right : Parts = record { types = n.types; imports = n.imports; functions = n.functions; tables = n.tables; memories = n.memories; globals = n.globals; exports = n.exports; start = n.start; elements = n.elements; bodies = n.bodies; segments = n.segments } in
          let same : left ≡ right = cc in
          same
