use Rattle.wasm_form.specs.Values.{SpellsU32}
use Rattle.wasm_form.specs.Types.{SpellsFuncType, SpellsLimits, SpellsTableType}
use Rattle.wasm_form.specs.Sections.{SpellsImport, SpellsGlobal, SpellsExport, SpellsElement, SpellsBody, SpellsSegment}
use Rattle.wasm_form.specs.Least.{least_unsigned, least_func_type, least_limits, least_table_type, least_import, least_global, least_export, least_element, least_body, least_segment}
use Rattle.wasm_form.proofs.LeastParts as parts
use Rattle.wasm_form.proofs.Unspelled.{sizes}
use Rattle.wasm_form.proofs.least.least_contents.Goals as goal

pub returns-clause-types : goal.returns-clause-types
returns-clause-types c = (parts.vector SpellsFuncType least_func_type parts.func_type).at

pub returns-clause-imports : goal.returns-clause-imports
returns-clause-imports c = (parts.vector SpellsImport least_import parts.import).at

pub returns-clause-functions : goal.returns-clause-functions
returns-clause-functions c = (parts.vector SpellsU32 least_unsigned parts.number).at

pub returns-clause-tables : goal.returns-clause-tables
returns-clause-tables c = (parts.vector SpellsTableType least_table_type parts.table_type).at

pub returns-clause-memories : goal.returns-clause-memories
returns-clause-memories c = (parts.vector SpellsLimits least_limits parts.limits).at

pub returns-clause-globals : goal.returns-clause-globals
returns-clause-globals c = (parts.vector SpellsGlobal least_global parts.global).at

pub returns-clause-exports : goal.returns-clause-exports
returns-clause-exports c = (parts.vector SpellsExport least_export parts.export).at

pub returns-clause-elements : goal.returns-clause-elements
returns-clause-elements c = (parts.vector SpellsElement least_element parts.element).at

pub returns-clause-bodies : goal.returns-clause-bodies
returns-clause-bodies c = (parts.vector SpellsBody least_body parts.body).at

pub returns-clause-segments : goal.returns-clause-segments
returns-clause-segments c = (parts.vector SpellsSegment least_segment parts.segment).at

pub returns-clause-sizes : goal.returns-clause-sizes
returns-clause-sizes c = sizes
