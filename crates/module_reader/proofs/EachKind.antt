-- The kinds of sections, one by one.
use Rattle.std.proofs.Common.{◌≡◌, ℕ, suc, zero, ◌<◌, ◌≤◌, List, Option, Some, None, MatchOption, arith, refl, ap, subst, sym, ◌∙◌}
use Rattle.std.specs.List.{find}
use Rattle.std.proofs.Math.Dec.{eqb}
use Rattle.leb_read.specs.Numbers.{SpellsSigned}
use Rattle.wasm_form.specs.Values.{SpellsU32}
use Rattle.wasm_form.specs.Types.{SpellsFuncType, SpellsLimits, SpellsTableType}
use Rattle.wasm_form.specs.Sections.{SpellsImport, SpellsGlobal, SpellsExport, SpellsElement, SpellsBody, SpellsSegment, SpellsTypes, SpellsImports, SpellsFunctions, SpellsTables, SpellsMemories, SpellsGlobals, SpellsExports, SpellsStart, SpellsElements, SpellsBodies, SpellsSegments}
use Rattle.wasm_form.specs.Modules.{Section}
use Rattle.wasm_form.specs.declared.types.FuncType.{FuncType}
use Rattle.wasm_form.specs.declared.types.Bounds.{Bounds}
use Rattle.wasm_form.specs.declared.body.Body.{Body}
use Rattle.wasm_form.specs.declared.parts.Import.{Import}
use Rattle.wasm_form.specs.declared.parts.GlobalDef.{GlobalDef}
use Rattle.wasm_form.specs.declared.parts.Export.{Export}
use Rattle.wasm_form.specs.declared.parts.Element.{Element}
use Rattle.wasm_form.specs.declared.parts.Segment.{Segment}
use Rattle.wasm_form.specs.declared.parts.Parts.{Parts}
use Rattle.wasm_form.proofs.Fronts.{OneFront, one_value, one_vector}
use Rattle.wasm_form.proofs.OneType.{one_func_type, one_limits, one_table_type}
use Rattle.wasm_form.proofs.OneModule.{one_import, one_global, one_export, one_start, one_element, one_body, one_segment}
use Rattle.module_reader.specs.declared.kind.Kind.{Kind}
use Rattle.module_reader.specs.declared.kind.Kind.TheVariants as kind
use Rattle.module_reader.specs.Kinds.{id_of, Says, Lacks, Puts, Tell}

-- ids are from 1 to 11, each that of one kind
pub id_some : (k : Kind) → 0 < id_of k
id_some kind.Types = omega arith
id_some kind.Imports = omega arith
id_some kind.Functions = omega arith
id_some kind.Tables = omega arith
id_some kind.Memories = omega arith
id_some kind.Globals = omega arith
id_some kind.Exports = omega arith
id_some kind.Start = omega arith
id_some kind.Elements = omega arith
id_some kind.Bodies = omega arith
id_some kind.Segments = omega arith

pub id_most : (k : Kind) → id_of k ≤ 11
id_most kind.Types = omega arith
id_most kind.Imports = omega arith
id_most kind.Functions = omega arith
id_most kind.Tables = omega arith
id_most kind.Memories = omega arith
id_most kind.Globals = omega arith
id_most kind.Exports = omega arith
id_most kind.Start = omega arith
id_most kind.Elements = omega arith
id_most kind.Bodies = omega arith
id_most kind.Segments = omega arith

pub same_kind : (k j : Kind) → id_of k ≡ id_of j → k ≡ j
same_kind kind.Types kind.Types e = refl
same_kind kind.Imports kind.Imports e = refl
same_kind kind.Functions kind.Functions e = refl
same_kind kind.Tables kind.Tables e = refl
same_kind kind.Memories kind.Memories e = refl
same_kind kind.Globals kind.Globals e = refl
same_kind kind.Exports kind.Exports e = refl
same_kind kind.Start kind.Start e = refl
same_kind kind.Elements kind.Elements e = refl
same_kind kind.Bodies kind.Bodies e = refl
same_kind kind.Segments kind.Segments e = refl
same_kind k j e = absurd (omega (arith, e))

-- the parts are the same as far as sections of that kind go
abbrev pub Same : Kind → (p q : Parts) → Type 0
Same kind.Types p q = p.types ≡ q.types
Same kind.Imports p q = p.imports ≡ q.imports
Same kind.Functions p q = p.functions ≡ q.functions
Same kind.Tables p q = p.tables ≡ q.tables
Same kind.Memories p q = p.memories ≡ q.memories
Same kind.Globals p q = p.globals ≡ q.globals
Same kind.Exports p q = p.exports ≡ q.exports
Same kind.Start p q = p.start ≡ q.start
Same kind.Elements p q = p.elements ≡ q.elements
Same kind.Bodies p q = p.bodies ≡ q.bodies
Same kind.Segments p q = p.segments ≡ q.segments

pub says_same : (k : Kind) (s : List ℕ) (p q : Parts) → Same k p q → Says k s p → Says k s q
says_same kind.Types s p q e h = subst (λ (v : List FuncType). SpellsTypes s v) e h
says_same kind.Imports s p q e h = subst (λ (v : List Import). SpellsImports s v) e h
says_same kind.Functions s p q e h = subst (λ (v : List ℕ). SpellsFunctions s v) e h
says_same kind.Tables s p q e h = subst (λ (v : List Bounds). SpellsTables s v) e h
says_same kind.Memories s p q e h = subst (λ (v : List Bounds). SpellsMemories s v) e h
says_same kind.Globals s p q e h = subst (λ (v : List GlobalDef). SpellsGlobals s v) e h
says_same kind.Exports s p q e h = subst (λ (v : List Export). SpellsExports s v) e h
says_same kind.Start s p q e h = subst (λ (v : Option ℕ). SpellsStart s v) e h
says_same kind.Elements s p q e h = subst (λ (v : List Element). SpellsElements s v) e h
says_same kind.Bodies s p q e h = subst (λ (v : List Body). SpellsBodies s v) e h
says_same kind.Segments s p q e h = subst (λ (v : List Segment). SpellsSegments s v) e h

pub lacks_same : (k : Kind) (p q : Parts) → Same k p q → Lacks k p → Lacks k q
lacks_same kind.Types p q e h = sym e ∙ h
lacks_same kind.Imports p q e h = sym e ∙ h
lacks_same kind.Functions p q e h = sym e ∙ h
lacks_same kind.Tables p q e h = sym e ∙ h
lacks_same kind.Memories p q e h = sym e ∙ h
lacks_same kind.Globals p q e h = sym e ∙ h
lacks_same kind.Exports p q e h = sym e ∙ h
lacks_same kind.Start p q e h = sym e ∙ h
lacks_same kind.Elements p q e h = sym e ∙ h
lacks_same kind.Bodies p q e h = sym e ∙ h
lacks_same kind.Segments p q e h = sym e ∙ h

pub lacks_one : (k : Kind) (p q : Parts) → Lacks k p → Lacks k q → Same k p q
lacks_one kind.Types p q h j = h ∙ sym j
lacks_one kind.Imports p q h j = h ∙ sym j
lacks_one kind.Functions p q h j = h ∙ sym j
lacks_one kind.Tables p q h j = h ∙ sym j
lacks_one kind.Memories p q h j = h ∙ sym j
lacks_one kind.Globals p q h j = h ∙ sym j
lacks_one kind.Exports p q h j = h ∙ sym j
lacks_one kind.Start p q h j = h ∙ sym j
lacks_one kind.Elements p q h j = h ∙ sym j
lacks_one kind.Bodies p q h j = h ∙ sym j
lacks_one kind.Segments p q h j = h ∙ sym j

-- what was put is said, and nothing else is changed
pub puts_says : (k : Kind) (s : List ℕ) (p q : Parts) → Puts k s p q → Says k s q
puts_says kind.Types s p q h = subst (λ (v : List FuncType). SpellsTypes s v) (sym (ap (λ (w : Parts). w.types) h.2)) h.1
puts_says kind.Imports s p q h = subst (λ (v : List Import). SpellsImports s v) (sym (ap (λ (w : Parts). w.imports) h.2)) h.1
puts_says kind.Functions s p q h = subst (λ (v : List ℕ). SpellsFunctions s v) (sym (ap (λ (w : Parts). w.functions) h.2)) h.1
puts_says kind.Tables s p q h = subst (λ (v : List Bounds). SpellsTables s v) (sym (ap (λ (w : Parts). w.tables) h.2)) h.1
puts_says kind.Memories s p q h = subst (λ (v : List Bounds). SpellsMemories s v) (sym (ap (λ (w : Parts). w.memories) h.2)) h.1
puts_says kind.Globals s p q h = subst (λ (v : List GlobalDef). SpellsGlobals s v) (sym (ap (λ (w : Parts). w.globals) h.2)) h.1
puts_says kind.Exports s p q h = subst (λ (v : List Export). SpellsExports s v) (sym (ap (λ (w : Parts). w.exports) h.2)) h.1
puts_says kind.Start s p q h = subst (λ (v : Option ℕ). SpellsStart s v) (sym (ap (λ (w : Parts). w.start) h.2)) h.1
puts_says kind.Elements s p q h = subst (λ (v : List Element). SpellsElements s v) (sym (ap (λ (w : Parts). w.elements) h.2)) h.1
puts_says kind.Bodies s p q h = subst (λ (v : List Body). SpellsBodies s v) (sym (ap (λ (w : Parts). w.bodies) h.2)) h.1
puts_says kind.Segments s p q h = subst (λ (v : List Segment). SpellsSegments s v) (sym (ap (λ (w : Parts). w.segments) h.2)) h.1

pub puts_keeps : (k j : Kind) (s : List ℕ) (p q : Parts) → (id_of k ≡ id_of j → ⊥) → Puts k s p q → Same j p q
puts_keeps kind.Types kind.Types s p q ne h = absurd (ne refl)
puts_keeps kind.Types kind.Imports s p q ne h = sym (ap (λ (w : Parts). w.imports) h.2)
puts_keeps kind.Types kind.Functions s p q ne h = sym (ap (λ (w : Parts). w.functions) h.2)
puts_keeps kind.Types kind.Tables s p q ne h = sym (ap (λ (w : Parts). w.tables) h.2)
puts_keeps kind.Types kind.Memories s p q ne h = sym (ap (λ (w : Parts). w.memories) h.2)
puts_keeps kind.Types kind.Globals s p q ne h = sym (ap (λ (w : Parts). w.globals) h.2)
puts_keeps kind.Types kind.Exports s p q ne h = sym (ap (λ (w : Parts). w.exports) h.2)
puts_keeps kind.Types kind.Start s p q ne h = sym (ap (λ (w : Parts). w.start) h.2)
puts_keeps kind.Types kind.Elements s p q ne h = sym (ap (λ (w : Parts). w.elements) h.2)
puts_keeps kind.Types kind.Bodies s p q ne h = sym (ap (λ (w : Parts). w.bodies) h.2)
puts_keeps kind.Types kind.Segments s p q ne h = sym (ap (λ (w : Parts). w.segments) h.2)
puts_keeps kind.Imports kind.Types s p q ne h = sym (ap (λ (w : Parts). w.types) h.2)
puts_keeps kind.Imports kind.Imports s p q ne h = absurd (ne refl)
puts_keeps kind.Imports kind.Functions s p q ne h = sym (ap (λ (w : Parts). w.functions) h.2)
puts_keeps kind.Imports kind.Tables s p q ne h = sym (ap (λ (w : Parts). w.tables) h.2)
puts_keeps kind.Imports kind.Memories s p q ne h = sym (ap (λ (w : Parts). w.memories) h.2)
puts_keeps kind.Imports kind.Globals s p q ne h = sym (ap (λ (w : Parts). w.globals) h.2)
puts_keeps kind.Imports kind.Exports s p q ne h = sym (ap (λ (w : Parts). w.exports) h.2)
puts_keeps kind.Imports kind.Start s p q ne h = sym (ap (λ (w : Parts). w.start) h.2)
puts_keeps kind.Imports kind.Elements s p q ne h = sym (ap (λ (w : Parts). w.elements) h.2)
puts_keeps kind.Imports kind.Bodies s p q ne h = sym (ap (λ (w : Parts). w.bodies) h.2)
puts_keeps kind.Imports kind.Segments s p q ne h = sym (ap (λ (w : Parts). w.segments) h.2)
puts_keeps kind.Functions kind.Types s p q ne h = sym (ap (λ (w : Parts). w.types) h.2)
puts_keeps kind.Functions kind.Imports s p q ne h = sym (ap (λ (w : Parts). w.imports) h.2)
puts_keeps kind.Functions kind.Functions s p q ne h = absurd (ne refl)
puts_keeps kind.Functions kind.Tables s p q ne h = sym (ap (λ (w : Parts). w.tables) h.2)
puts_keeps kind.Functions kind.Memories s p q ne h = sym (ap (λ (w : Parts). w.memories) h.2)
puts_keeps kind.Functions kind.Globals s p q ne h = sym (ap (λ (w : Parts). w.globals) h.2)
puts_keeps kind.Functions kind.Exports s p q ne h = sym (ap (λ (w : Parts). w.exports) h.2)
puts_keeps kind.Functions kind.Start s p q ne h = sym (ap (λ (w : Parts). w.start) h.2)
puts_keeps kind.Functions kind.Elements s p q ne h = sym (ap (λ (w : Parts). w.elements) h.2)
puts_keeps kind.Functions kind.Bodies s p q ne h = sym (ap (λ (w : Parts). w.bodies) h.2)
puts_keeps kind.Functions kind.Segments s p q ne h = sym (ap (λ (w : Parts). w.segments) h.2)
puts_keeps kind.Tables kind.Types s p q ne h = sym (ap (λ (w : Parts). w.types) h.2)
puts_keeps kind.Tables kind.Imports s p q ne h = sym (ap (λ (w : Parts). w.imports) h.2)
puts_keeps kind.Tables kind.Functions s p q ne h = sym (ap (λ (w : Parts). w.functions) h.2)
puts_keeps kind.Tables kind.Tables s p q ne h = absurd (ne refl)
puts_keeps kind.Tables kind.Memories s p q ne h = sym (ap (λ (w : Parts). w.memories) h.2)
puts_keeps kind.Tables kind.Globals s p q ne h = sym (ap (λ (w : Parts). w.globals) h.2)
puts_keeps kind.Tables kind.Exports s p q ne h = sym (ap (λ (w : Parts). w.exports) h.2)
puts_keeps kind.Tables kind.Start s p q ne h = sym (ap (λ (w : Parts). w.start) h.2)
puts_keeps kind.Tables kind.Elements s p q ne h = sym (ap (λ (w : Parts). w.elements) h.2)
puts_keeps kind.Tables kind.Bodies s p q ne h = sym (ap (λ (w : Parts). w.bodies) h.2)
puts_keeps kind.Tables kind.Segments s p q ne h = sym (ap (λ (w : Parts). w.segments) h.2)
puts_keeps kind.Memories kind.Types s p q ne h = sym (ap (λ (w : Parts). w.types) h.2)
puts_keeps kind.Memories kind.Imports s p q ne h = sym (ap (λ (w : Parts). w.imports) h.2)
puts_keeps kind.Memories kind.Functions s p q ne h = sym (ap (λ (w : Parts). w.functions) h.2)
puts_keeps kind.Memories kind.Tables s p q ne h = sym (ap (λ (w : Parts). w.tables) h.2)
puts_keeps kind.Memories kind.Memories s p q ne h = absurd (ne refl)
puts_keeps kind.Memories kind.Globals s p q ne h = sym (ap (λ (w : Parts). w.globals) h.2)
puts_keeps kind.Memories kind.Exports s p q ne h = sym (ap (λ (w : Parts). w.exports) h.2)
puts_keeps kind.Memories kind.Start s p q ne h = sym (ap (λ (w : Parts). w.start) h.2)
puts_keeps kind.Memories kind.Elements s p q ne h = sym (ap (λ (w : Parts). w.elements) h.2)
puts_keeps kind.Memories kind.Bodies s p q ne h = sym (ap (λ (w : Parts). w.bodies) h.2)
puts_keeps kind.Memories kind.Segments s p q ne h = sym (ap (λ (w : Parts). w.segments) h.2)
puts_keeps kind.Globals kind.Types s p q ne h = sym (ap (λ (w : Parts). w.types) h.2)
puts_keeps kind.Globals kind.Imports s p q ne h = sym (ap (λ (w : Parts). w.imports) h.2)
puts_keeps kind.Globals kind.Functions s p q ne h = sym (ap (λ (w : Parts). w.functions) h.2)
puts_keeps kind.Globals kind.Tables s p q ne h = sym (ap (λ (w : Parts). w.tables) h.2)
puts_keeps kind.Globals kind.Memories s p q ne h = sym (ap (λ (w : Parts). w.memories) h.2)
puts_keeps kind.Globals kind.Globals s p q ne h = absurd (ne refl)
puts_keeps kind.Globals kind.Exports s p q ne h = sym (ap (λ (w : Parts). w.exports) h.2)
puts_keeps kind.Globals kind.Start s p q ne h = sym (ap (λ (w : Parts). w.start) h.2)
puts_keeps kind.Globals kind.Elements s p q ne h = sym (ap (λ (w : Parts). w.elements) h.2)
puts_keeps kind.Globals kind.Bodies s p q ne h = sym (ap (λ (w : Parts). w.bodies) h.2)
puts_keeps kind.Globals kind.Segments s p q ne h = sym (ap (λ (w : Parts). w.segments) h.2)
puts_keeps kind.Exports kind.Types s p q ne h = sym (ap (λ (w : Parts). w.types) h.2)
puts_keeps kind.Exports kind.Imports s p q ne h = sym (ap (λ (w : Parts). w.imports) h.2)
puts_keeps kind.Exports kind.Functions s p q ne h = sym (ap (λ (w : Parts). w.functions) h.2)
puts_keeps kind.Exports kind.Tables s p q ne h = sym (ap (λ (w : Parts). w.tables) h.2)
puts_keeps kind.Exports kind.Memories s p q ne h = sym (ap (λ (w : Parts). w.memories) h.2)
puts_keeps kind.Exports kind.Globals s p q ne h = sym (ap (λ (w : Parts). w.globals) h.2)
puts_keeps kind.Exports kind.Exports s p q ne h = absurd (ne refl)
puts_keeps kind.Exports kind.Start s p q ne h = sym (ap (λ (w : Parts). w.start) h.2)
puts_keeps kind.Exports kind.Elements s p q ne h = sym (ap (λ (w : Parts). w.elements) h.2)
puts_keeps kind.Exports kind.Bodies s p q ne h = sym (ap (λ (w : Parts). w.bodies) h.2)
puts_keeps kind.Exports kind.Segments s p q ne h = sym (ap (λ (w : Parts). w.segments) h.2)
puts_keeps kind.Start kind.Types s p q ne h = sym (ap (λ (w : Parts). w.types) h.2)
puts_keeps kind.Start kind.Imports s p q ne h = sym (ap (λ (w : Parts). w.imports) h.2)
puts_keeps kind.Start kind.Functions s p q ne h = sym (ap (λ (w : Parts). w.functions) h.2)
puts_keeps kind.Start kind.Tables s p q ne h = sym (ap (λ (w : Parts). w.tables) h.2)
puts_keeps kind.Start kind.Memories s p q ne h = sym (ap (λ (w : Parts). w.memories) h.2)
puts_keeps kind.Start kind.Globals s p q ne h = sym (ap (λ (w : Parts). w.globals) h.2)
puts_keeps kind.Start kind.Exports s p q ne h = sym (ap (λ (w : Parts). w.exports) h.2)
puts_keeps kind.Start kind.Start s p q ne h = absurd (ne refl)
puts_keeps kind.Start kind.Elements s p q ne h = sym (ap (λ (w : Parts). w.elements) h.2)
puts_keeps kind.Start kind.Bodies s p q ne h = sym (ap (λ (w : Parts). w.bodies) h.2)
puts_keeps kind.Start kind.Segments s p q ne h = sym (ap (λ (w : Parts). w.segments) h.2)
puts_keeps kind.Elements kind.Types s p q ne h = sym (ap (λ (w : Parts). w.types) h.2)
puts_keeps kind.Elements kind.Imports s p q ne h = sym (ap (λ (w : Parts). w.imports) h.2)
puts_keeps kind.Elements kind.Functions s p q ne h = sym (ap (λ (w : Parts). w.functions) h.2)
puts_keeps kind.Elements kind.Tables s p q ne h = sym (ap (λ (w : Parts). w.tables) h.2)
puts_keeps kind.Elements kind.Memories s p q ne h = sym (ap (λ (w : Parts). w.memories) h.2)
puts_keeps kind.Elements kind.Globals s p q ne h = sym (ap (λ (w : Parts). w.globals) h.2)
puts_keeps kind.Elements kind.Exports s p q ne h = sym (ap (λ (w : Parts). w.exports) h.2)
puts_keeps kind.Elements kind.Start s p q ne h = sym (ap (λ (w : Parts). w.start) h.2)
puts_keeps kind.Elements kind.Elements s p q ne h = absurd (ne refl)
puts_keeps kind.Elements kind.Bodies s p q ne h = sym (ap (λ (w : Parts). w.bodies) h.2)
puts_keeps kind.Elements kind.Segments s p q ne h = sym (ap (λ (w : Parts). w.segments) h.2)
puts_keeps kind.Bodies kind.Types s p q ne h = sym (ap (λ (w : Parts). w.types) h.2)
puts_keeps kind.Bodies kind.Imports s p q ne h = sym (ap (λ (w : Parts). w.imports) h.2)
puts_keeps kind.Bodies kind.Functions s p q ne h = sym (ap (λ (w : Parts). w.functions) h.2)
puts_keeps kind.Bodies kind.Tables s p q ne h = sym (ap (λ (w : Parts). w.tables) h.2)
puts_keeps kind.Bodies kind.Memories s p q ne h = sym (ap (λ (w : Parts). w.memories) h.2)
puts_keeps kind.Bodies kind.Globals s p q ne h = sym (ap (λ (w : Parts). w.globals) h.2)
puts_keeps kind.Bodies kind.Exports s p q ne h = sym (ap (λ (w : Parts). w.exports) h.2)
puts_keeps kind.Bodies kind.Start s p q ne h = sym (ap (λ (w : Parts). w.start) h.2)
puts_keeps kind.Bodies kind.Elements s p q ne h = sym (ap (λ (w : Parts). w.elements) h.2)
puts_keeps kind.Bodies kind.Bodies s p q ne h = absurd (ne refl)
puts_keeps kind.Bodies kind.Segments s p q ne h = sym (ap (λ (w : Parts). w.segments) h.2)
puts_keeps kind.Segments kind.Types s p q ne h = sym (ap (λ (w : Parts). w.types) h.2)
puts_keeps kind.Segments kind.Imports s p q ne h = sym (ap (λ (w : Parts). w.imports) h.2)
puts_keeps kind.Segments kind.Functions s p q ne h = sym (ap (λ (w : Parts). w.functions) h.2)
puts_keeps kind.Segments kind.Tables s p q ne h = sym (ap (λ (w : Parts). w.tables) h.2)
puts_keeps kind.Segments kind.Memories s p q ne h = sym (ap (λ (w : Parts). w.memories) h.2)
puts_keeps kind.Segments kind.Globals s p q ne h = sym (ap (λ (w : Parts). w.globals) h.2)
puts_keeps kind.Segments kind.Exports s p q ne h = sym (ap (λ (w : Parts). w.exports) h.2)
puts_keeps kind.Segments kind.Start s p q ne h = sym (ap (λ (w : Parts). w.start) h.2)
puts_keeps kind.Segments kind.Elements s p q ne h = sym (ap (λ (w : Parts). w.elements) h.2)
puts_keeps kind.Segments kind.Bodies s p q ne h = sym (ap (λ (w : Parts). w.bodies) h.2)
puts_keeps kind.Segments kind.Segments s p q ne h = absurd (ne refl)

-- parts that are the same for each kind are one
pub all_same : (p q : Parts) → ((k : Kind) → Same k p q) → p ≡ q
all_same p q same =
    let types : p.types ≡ q.types = same kind.Types in
    let imports : p.imports ≡ q.imports = same kind.Imports in
    let functions : p.functions ≡ q.functions = same kind.Functions in
    let tables : p.tables ≡ q.tables = same kind.Tables in
    let memories : p.memories ≡ q.memories = same kind.Memories in
    let globals : p.globals ≡ q.globals = same kind.Globals in
    let exports : p.exports ≡ q.exports = same kind.Exports in
    let start : p.start ≡ q.start = same kind.Start in
    let elements : p.elements ≡ q.elements = same kind.Elements in
    let bodies : p.bodies ≡ q.bodies = same kind.Bodies in
    let segments : p.segments ≡ q.segments = same kind.Segments in
    let left : Parts = record { types = p.types; imports = p.imports; functions = p.functions; tables = p.tables; memories = p.memories; globals = p.globals; exports = p.exports; start = p.start; elements = p.elements; bodies = p.bodies; segments = p.segments } in
    let right : Parts = record { types = q.types; imports = q.imports; functions = q.functions; tables = q.tables; memories = q.memories; globals = q.globals; exports = q.exports; start = q.start; elements = q.elements; bodies = q.bodies; segments = q.segments } in
    let one : left ≡ right = cc in
    one

-- each number from 1 to 11 is an id
pub kind_at : (n : ℕ) → 0 < n → n ≤ 11 → (k : Kind) × (id_of k ≡ n)
kind_at zero some most = absurd (omega arith)
kind_at (suc zero) some most = (kind.Types, refl)
kind_at (suc (suc zero)) some most = (kind.Imports, refl)
kind_at (suc (suc (suc zero))) some most = (kind.Functions, refl)
kind_at (suc (suc (suc (suc zero)))) some most = (kind.Tables, refl)
kind_at (suc (suc (suc (suc (suc zero))))) some most = (kind.Memories, refl)
kind_at (suc (suc (suc (suc (suc (suc zero)))))) some most = (kind.Globals, refl)
kind_at (suc (suc (suc (suc (suc (suc (suc zero))))))) some most = (kind.Exports, refl)
kind_at (suc (suc (suc (suc (suc (suc (suc (suc zero)))))))) some most = (kind.Start, refl)
kind_at (suc (suc (suc (suc (suc (suc (suc (suc (suc zero))))))))) some most = (kind.Elements, refl)
kind_at (suc (suc (suc (suc (suc (suc (suc (suc (suc (suc zero)))))))))) some most = (kind.Bodies, refl)
kind_at (suc (suc (suc (suc (suc (suc (suc (suc (suc (suc (suc zero))))))))))) some most = (kind.Segments, refl)
kind_at (suc (suc (suc (suc (suc (suc (suc (suc (suc (suc (suc (suc n)))))))))))) some most = absurd (omega arith)

module _ (numbers : OneFront SpellsU32) (signed : (N : ℕ) → OneFront (SpellsSigned N)) where
  says_one : (k : Kind) (s : List ℕ) (p q : Parts) → Says k s p → Says k s q → Same k p q
  says_one kind.Types s p q h j = one_value SpellsTypes (one_vector SpellsFuncType numbers (one_func_type numbers)) s p.types q.types h j
  says_one kind.Imports s p q h j = one_value SpellsImports (one_vector SpellsImport numbers (one_import numbers signed)) s p.imports q.imports h j
  says_one kind.Functions s p q h j = one_value SpellsFunctions (one_vector SpellsU32 numbers numbers) s p.functions q.functions h j
  says_one kind.Tables s p q h j = one_value SpellsTables (one_vector SpellsTableType numbers (one_table_type numbers)) s p.tables q.tables h j
  says_one kind.Memories s p q h j = one_value SpellsMemories (one_vector SpellsLimits numbers (one_limits numbers)) s p.memories q.memories h j
  says_one kind.Globals s p q h j = one_value SpellsGlobals (one_vector SpellsGlobal numbers (one_global numbers signed)) s p.globals q.globals h j
  says_one kind.Exports s p q h j = one_value SpellsExports (one_vector SpellsExport numbers (one_export numbers signed)) s p.exports q.exports h j
  says_one kind.Start s p q h j = one_value SpellsStart (one_start numbers signed) s p.start q.start h j
  says_one kind.Elements s p q h j = one_value SpellsElements (one_vector SpellsElement numbers (one_element numbers signed)) s p.elements q.elements h j
  says_one kind.Bodies s p q h j = one_value SpellsBodies (one_vector SpellsBody numbers (one_body numbers signed)) s p.bodies q.bodies h j
  says_one kind.Segments s p q h j = one_value SpellsSegments (one_vector SpellsSegment numbers (one_segment numbers signed)) s p.segments q.segments h j

  one_of : (k : Kind) (p q : Parts) (o : Option Section) → MatchOption o (Lacks k p) (λ s. Says k s.contents p) → MatchOption o (Lacks k q) (λ s. Says k s.contents q) → Same k p q
  one_of k p q None h j = lacks_one k p q h j
  one_of k p q (Some s) h j = says_one k s.contents p q h j

  pub tell_one : (k : Kind) (sections : List Section) (p q : Parts) → Tell k sections p → Tell k sections q → Same k p q
  tell_one k sections p q h j = one_of k p q (find (λ s. eqb s.id (id_of k)) sections) h j
