use Rattle.std.proofs.Common.{[], None, refl}
use Rattle.wasm_form.specs.declared.parts.Parts.{Parts}
use Rattle.code_map.proofs.tests.mapped.Goals as goal

pub map_body-requires-clause-of_module : goal.map_body-requires-clause-of_module
map_body-requires-clause-of_module c =
    let m : Parts = record {
      types = [];
      imports = [];
      functions = [];
      tables = [];
      memories = [];
      globals = [];
      exports = [];
      start = None;
      elements = [];
      segments = [];
      bodies = [];
    } in
    (m, record { types = refl; functions = refl })
