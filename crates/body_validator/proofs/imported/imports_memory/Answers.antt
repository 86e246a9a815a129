use Rattle.std.proofs.Common.{refl, ap, []}
use Rattle.std.specs.Prelude.{filter_map}
use Rattle.wasm_form.specs.Context.{memory_of}
use Rattle.wasm_form.specs.declared.parts.Import.{Import}
use Rattle.body_validator.proofs.Lists.{some_there, other_more, all_found, none_there, not_memory}
use Rattle.body_validator.proofs.imported.imports_memory.Goals as goal

pub loop-import-init : goal.loop-import-init
loop-import-init c = record { so_far = refl }

pub loop-import-preserved : goal.loop-import-preserved
loop-import-preserved c = record {
  so_far = other_more (λ (i : Import). memory_of i.what) c.args.imports.now c.loop-import.import-index c.import-item.result [] c.loop-import-test.true c.import-item.is
      (not_memory c.import-item.result.what c.in_default.not-Memory) c.loop-import.invariant.so_far;
}

pub returns-in-Memory : goal.returns-in-Memory
returns-in-Memory c = (λ e. some_there (λ (i : Import). memory_of i.what) c.args.imports.now c.loop-import.import-index c.import-item.result c.in-Memory.field-0 c.loop-import-test.true c.import-item.is (ap memory_of c.in-Memory.is), λ h. refl)

pub returns : goal.returns
returns c = (
  λ e. absurd (cc e),
  λ h. absurd (none_there (filter_map (λ (i : Import). memory_of i.what) c.args.imports.now) (all_found (λ (i : Import). memory_of i.what) c.args.imports.now c.loop-import.import-index [] c.loop-import-test.false c.loop-import.invariant.so_far) h),
)
