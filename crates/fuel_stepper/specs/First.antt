-- The first function that a module defines.
use Rattle.std.specs.Prelude.{ℕ, ◌-◌, length, slice_get, Option, Some, None}
use Rattle.wasm_form.specs.declared.body.Body.{Body}
use Rattle.wasm_form.specs.declared.parts.Parts.{Parts}
use Rattle.code_map.specs.declared.callee.Callee.{Callee}
use Rattle.code_map.specs.declared.callee.Callee.TheVariants as callee
use Rattle.code_map.specs.declared.map.CodeMap.{CodeMap}
use Rattle.code_map.specs.Targets.{count_if}

-- how many results a function of the module gives; no other callee is one
abbrev pub given_by : Option Callee → ℕ
given_by None = 0
given_by (Some (callee.Own body params locals gives class)) = count_if gives
given_by (Some (callee.Host call params gives class)) = 0

-- how many the first function gives: its callee stands behind those of the imported functions
abbrev pub first_results : Parts → CodeMap → ℕ
first_results m map = given_by (slice_get map.callees (length map.callees - length m.bodies))
