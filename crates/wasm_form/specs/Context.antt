-- What is known where an instruction stands, and what its indexes count.
use Rattle.std.specs.Prelude.{◌≡◌, ℕ, ◌<◌, List, [], ◌∷◌, ◌++◌, length, map, flat_map, filter_map, replicate, slice_get, Option, Some, None}
use Rattle.wasm_form.specs.declared.value_type.ValType.{ValType}
use Rattle.wasm_form.specs.declared.types.FuncType.{FuncType}
use Rattle.wasm_form.specs.declared.types.Bounds.{Bounds}
use Rattle.wasm_form.specs.declared.types.GlobalType.{GlobalType}
use Rattle.wasm_form.specs.declared.body.LocalRun.{LocalRun}
use Rattle.wasm_form.specs.declared.parts.Imported.{Imported}
use Rattle.wasm_form.specs.declared.parts.Imported.TheVariants as imported
use Rattle.wasm_form.specs.declared.parts.Import.{Import}
use Rattle.wasm_form.specs.declared.parts.GlobalDef.{GlobalDef}
use Rattle.wasm_form.specs.declared.parts.Parts.{Parts}

-- Core 1.0, 3.1.1, contexts: the types; each function by the index of its type; tables, memories, globals and locals;
-- for each label, the innermost first, what a branch to it carries; and what the function gives
pub record Context : Type 0 where
  pub types : List FuncType
  pub functions : List ℕ
  pub tables : List Bounds
  pub memories : List Bounds
  pub globals : List GlobalType
  pub locals : List ValType
  pub labels : List (List ValType)
  pub results : List ValType

-- the same inside one label more, to which a branch carries these
abbrev pub with_label : List ValType → Context → Context
with_label carried context = record context { labels = carried ∷ context.labels }

-- the function with this index is there and has this type
abbrev pub IsFunctionType : Context → (function : ℕ) → FuncType → Type 0
IsFunctionType context function ty =
    (index : ℕ) × (slice_get context.functions function ≡ Some index) × (slice_get context.types index ≡ Some ty)

-- a table is there
abbrev pub HasTable : Context → Type 0
HasTable context = 0 < length context.tables

-- a memory is there
abbrev pub HasMemory : Context → Type 0
HasMemory context = 0 < length context.memories

-- what is imported, if it is a function: the index of its type
abbrev pub function_of : Imported → Option ℕ
function_of (imported.Function ty) = Some ty
function_of what = None

-- what is imported, if it is a table: its limits
abbrev pub table_of : Imported → Option Bounds
table_of (imported.Table bounds) = Some bounds
table_of what = None

-- what is imported, if it is a memory: its limits
abbrev pub memory_of : Imported → Option Bounds
memory_of (imported.Memory bounds) = Some bounds
memory_of what = None

-- what is imported, if it is a global: its type
abbrev pub global_of : Imported → Option GlobalType
global_of (imported.Global ty) = Some ty
global_of what = None

-- Core 1.0, 2.5.1, indices: the functions, the imported ones first, each by the index of its type
abbrev pub functions_of : Parts → List ℕ
functions_of m = filter_map (λ (i : Import). function_of i.what) m.imports ++ m.functions

-- the tables, the imported ones first
abbrev pub tables_of : Parts → List Bounds
tables_of m = filter_map (λ (i : Import). table_of i.what) m.imports ++ m.tables

-- the memories, the imported ones first
abbrev pub memories_of : Parts → List Bounds
memories_of m = filter_map (λ (i : Import). memory_of i.what) m.imports ++ m.memories

-- the imported globals
abbrev pub imported_globals : Parts → List GlobalType
imported_globals m = filter_map (λ (i : Import). global_of i.what) m.imports

-- the types of the globals, the imported ones first
abbrev pub globals_of : Parts → List GlobalType
globals_of m = imported_globals m ++ map (λ (g : GlobalDef). g.ty) m.globals

-- Core 1.0, 2.5.3, functions: the parameters are the first locals
abbrev pub locals_of : FuncType → List LocalRun → List ValType
locals_of ty runs = ty.params ++ flat_map (λ (run : LocalRun). replicate run.count run.ty) runs

-- Core 1.0, 3.4.1 and 3.4.10: where the body of a function of this type with these locals begins. The outermost label is
-- the body itself
abbrev pub context_of : Parts → FuncType → List LocalRun → Context
context_of m ty runs = record {
  types = m.types;
  functions = functions_of m;
  tables = tables_of m;
  memories = memories_of m;
  globals = globals_of m;
  locals = locals_of ty runs;
  labels = ty.results ∷ [];
  results = ty.results;
}
