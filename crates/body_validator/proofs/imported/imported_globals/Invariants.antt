use Rattle.std.proofs.Common.{◌≡◌, take}
use Rattle.std.specs.Prelude.{filter_map}
use Rattle.wasm_form.specs.declared.parts.Import.{Import}
use Rattle.wasm_form.specs.Context.{global_of}
use Rattle.body_validator.proofs.imported.imported_globals.Given as goal

abbrev pub invariant-loop-import : goal.invariant-loop-import
invariant-loop-import l = record {
  so_far : l.globals.items ≡ filter_map (λ (i : Import). global_of i.what) (take l.import-index l.imports);
}
