-- The module whose one function, exported as `_start`, has this code.
use Rattle.std.specs.Prelude.{List, [], ◌∷◌, None, codes}
use Rattle.wasm_form.specs.declared.body.Body.{Body}
use Rattle.wasm_form.specs.declared.instr.Instr.{Instr}
use Rattle.wasm_form.specs.declared.parts.ExportKind.TheVariants as kind
use Rattle.wasm_form.specs.declared.parts.Parts.{Parts}

-- the body with this code: no locals, no labels, no matches
abbrev pub body_with : List Instr → Body
body_with code = record { locals = []; expr = record { code = code; labels = []; matches = [] } }

-- the module whose one function has this code: it is of the one type, from nothing to nothing, and exported as `_start`
abbrev pub start_parts : List Instr → Parts
start_parts code = record {
  types = record { params = []; results = [] } ∷ [];
  imports = [];
  functions = 0 ∷ [];
  tables = [];
  memories = [];
  globals = [];
  exports = record { name = codes "_start"; kind = kind.Function; index = 0 } ∷ [];
  start = None;
  elements = [];
  segments = [];
  bodies = body_with code ∷ [];
}
