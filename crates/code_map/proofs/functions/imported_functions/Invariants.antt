use Rattle.std.proofs.Common.{◌≡◌, take}
use Rattle.std.specs.Prelude.{filter_map}
use Rattle.wasm_form.specs.declared.parts.Import.{Import}
use Rattle.wasm_form.specs.Context.{function_of}
use Rattle.code_map.proofs.functions.imported_functions.Given as goal

abbrev pub invariant-loop-import : goal.invariant-loop-import
invariant-loop-import l = record {
  so_far : l.functions.items ≡ filter_map (λ (i : Import). function_of i.what) (take l.import-index l.imports);
}
