use Rattle.std.proofs.Common.{◌≡◌, take, []}
use Rattle.std.specs.Prelude.{filter_map}
use Rattle.wasm_form.specs.declared.parts.Import.{Import}
use Rattle.wasm_form.specs.Context.{memory_of}
use Rattle.body_validator.proofs.imported.imports_memory.Given as goal

abbrev pub invariant-loop-import : goal.invariant-loop-import
invariant-loop-import l = record {
  so_far : [] ≡ filter_map (λ (i : Import). memory_of i.what) (take l.import-index l.imports);
}
