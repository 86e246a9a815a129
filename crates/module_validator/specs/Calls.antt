-- Which calls of the host a module imports.
use Rattle.std.specs.Prelude.{ℕ, List, filter_map, Option, option_map, option_and_then}
use Rattle.wasm_form.specs.declared.parts.Import.{Import}
use Rattle.wasm_form.specs.declared.parts.Parts.{Parts}
use Rattle.wasm_form.specs.Context.{function_of}
use Rattle.code_map.specs.declared.map.CodeMap.{CodeMap}
use Rattle.code_map.specs.Maps.{IsMapOf}
use Rattle.host_port.specs.HostTable.{Row, row_of_import}

-- the number in a row of the host table, if there is a row
abbrev pub number_in : Option Row → Option ℕ
number_in row = option_map (λ (row : Row). row.call) row

-- the call that an import is: where it is a function, the one that the host table has under its names
abbrev pub call_of : Import → Option ℕ
call_of i = option_and_then (λ (ty : ℕ). number_in (row_of_import i.«module» i.name)) (function_of i.what)

-- the calls that a module imports, in order
abbrev pub calls_of : Parts → List ℕ
calls_of m = filter_map call_of m.imports

-- the map is that of the module whose imported functions are these calls
abbrev pub IsItsMap : Parts → CodeMap → Type 0
IsItsMap m map = IsMapOf m (calls_of m) map
