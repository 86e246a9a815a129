-- What each section says of a module's parts, for all kinds of sections at once.
use Rattle.std.specs.Prelude.{◌≡◌, ℕ, ◌==◌, List, [], Option, None, MatchOption, find}
use Rattle.wasm_form.specs.Sections.{SpellsTypes, SpellsImports, SpellsFunctions, SpellsTables, SpellsMemories, SpellsGlobals, SpellsExports, SpellsStart, SpellsElements, SpellsBodies, SpellsSegments}
use Rattle.wasm_form.specs.Modules.{Section}
use Rattle.wasm_form.specs.declared.types.FuncType.{FuncType}
use Rattle.wasm_form.specs.declared.types.Bounds.{Bounds}
use Rattle.wasm_form.specs.declared.body.Body.{Body}
use Rattle.wasm_form.specs.declared.parts.Import.{Import}
use Rattle.wasm_form.specs.declared.parts.GlobalDef.{GlobalDef}
use Rattle.wasm_form.specs.declared.parts.Export.{Export}
use Rattle.wasm_form.specs.declared.parts.Element.{Element}
use Rattle.wasm_form.specs.declared.parts.Segment.{Segment}
use Rattle.wasm_form.specs.declared.parts.Parts.{Parts}
use Rattle.module_reader.specs.declared.kind.Kind.{Kind}
use Rattle.module_reader.specs.declared.kind.Kind.TheVariants as kind

-- the id of a kind of section
abbrev pub id_of : Kind → ℕ
id_of kind.Types = 1
id_of kind.Imports = 2
id_of kind.Functions = 3
id_of kind.Tables = 4
id_of kind.Memories = 5
id_of kind.Globals = 6
id_of kind.Exports = 7
id_of kind.Start = 8
id_of kind.Elements = 9
id_of kind.Bodies = 10
id_of kind.Segments = 11

-- contents of that kind say this of the parts
abbrev pub Says : Kind → List ℕ → Parts → Type 0
Says kind.Types bytes p = SpellsTypes bytes p.types
Says kind.Imports bytes p = SpellsImports bytes p.imports
Says kind.Functions bytes p = SpellsFunctions bytes p.functions
Says kind.Tables bytes p = SpellsTables bytes p.tables
Says kind.Memories bytes p = SpellsMemories bytes p.memories
Says kind.Globals bytes p = SpellsGlobals bytes p.globals
Says kind.Exports bytes p = SpellsExports bytes p.exports
Says kind.Start bytes p = SpellsStart bytes p.start
Says kind.Elements bytes p = SpellsElements bytes p.elements
Says kind.Bodies bytes p = SpellsBodies bytes p.bodies
Says kind.Segments bytes p = SpellsSegments bytes p.segments

-- the parts are as where no such section is
abbrev pub Lacks : Kind → Parts → Type 0
Lacks kind.Types p = p.types ≡ []
Lacks kind.Imports p = p.imports ≡ []
Lacks kind.Functions p = p.functions ≡ []
Lacks kind.Tables p = p.tables ≡ []
Lacks kind.Memories p = p.memories ≡ []
Lacks kind.Globals p = p.globals ≡ []
Lacks kind.Exports p = p.exports ≡ []
Lacks kind.Start p = p.start ≡ None
Lacks kind.Elements p = p.elements ≡ []
Lacks kind.Bodies p = p.bodies ≡ []
Lacks kind.Segments p = p.segments ≡ []

-- the parts are as where there are no sections at all
abbrev pub IsEmpty : Parts → Type 0
IsEmpty p = (k : Kind) → Lacks k p

-- new is old with what contents of that kind say
abbrev pub Puts : Kind → List ℕ → (old new : Parts) → Type 0
Puts kind.Types bytes old new = (v : List FuncType) × SpellsTypes bytes v × (new ≡ record old { types = v })
Puts kind.Imports bytes old new = (v : List Import) × SpellsImports bytes v × (new ≡ record old { imports = v })
Puts kind.Functions bytes old new = (v : List ℕ) × SpellsFunctions bytes v × (new ≡ record old { functions = v })
Puts kind.Tables bytes old new = (v : List Bounds) × SpellsTables bytes v × (new ≡ record old { tables = v })
Puts kind.Memories bytes old new = (v : List Bounds) × SpellsMemories bytes v × (new ≡ record old { memories = v })
Puts kind.Globals bytes old new = (v : List GlobalDef) × SpellsGlobals bytes v × (new ≡ record old { globals = v })
Puts kind.Exports bytes old new = (v : List Export) × SpellsExports bytes v × (new ≡ record old { exports = v })
Puts kind.Start bytes old new = (v : Option ℕ) × SpellsStart bytes v × (new ≡ record old { start = v })
Puts kind.Elements bytes old new = (v : List Element) × SpellsElements bytes v × (new ≡ record old { elements = v })
Puts kind.Bodies bytes old new = (v : List Body) × SpellsBodies bytes v × (new ≡ record old { bodies = v })
Puts kind.Segments bytes old new = (v : List Segment) × SpellsSegments bytes v × (new ≡ record old { segments = v })

-- the sections say this of the parts, as far as sections of that kind go
abbrev pub Tell : Kind → List Section → Parts → Type 0
Tell k sections p = MatchOption (find (λ s. s.id == id_of k) sections) (Lacks k p) (λ s. Says k s.contents p)
