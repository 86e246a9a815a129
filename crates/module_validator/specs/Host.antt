-- What the host offers to a module: the functions of the host table.
use Rattle.std.specs.Prelude.{ℕ, List, map, Option, option_map, option_to_list}
use Rattle.wasm_ops.specs.declared.num.Num.{Num}
use Rattle.wasm_form.specs.declared.types.FuncType.{FuncType}
use Rattle.wasm_form.specs.Typing.{value_type, arrow}
use Rattle.wasm_form.specs.Profile.{Host}
use Rattle.host_port.specs.declared.host_table.HostRow.{HostRow}
use Rattle.host_port.specs.HostTable.{Row, row_of_import}

-- the type of what takes and gives these integer types, as a module writes it
abbrev pub type_of : (params : List Num) → (result : Option Num) → FuncType
type_of params result = arrow (map value_type params) (option_to_list (option_map value_type result))

-- the type of the call in a row of the host table
abbrev pub offered_type : Row → FuncType
offered_type row = type_of row.params row.result

-- the same of a row as the code has it
abbrev pub shown_type : HostRow → FuncType
shown_type row = type_of row.params.now row.result

-- by the names of an import the type of the call in the host table, if there is one
unfoldable pub host : Host
host module_name name = option_map offered_type (row_of_import module_name name)
