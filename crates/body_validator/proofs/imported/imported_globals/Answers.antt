use Rattle.std.proofs.Common.{ap, ◌∙◌}
use Rattle.wasm_form.specs.Context.{global_of}
use Rattle.wasm_form.specs.declared.parts.Import.{Import}
use Rattle.body_validator.proofs.Lists.{found_more, other_more, all_found, not_global}
use Rattle.body_validator.proofs.imported.imported_globals.Goals as goal
use Rattle.body_validator.proofs.imported.imported_globals.Goals.{in-Global+in_ok-push, in_default}

pub loop-import-init : goal.loop-import-init
loop-import-init c = record { so_far = c.new-globals.ensures.items }

pub loop-import-preserved : goal.loop-import-preserved
loop-import-preserved c =
    record {
      so_far = elim c.match-import.branch [
        | in-Global+in_ok-push w ↦ found_more (λ (i : Import). global_of i.what) c.args.imports.now c.loop-import.import-index c.import-item.result w.in-Global.ty _ _ c.loop-import-test.true c.import-item.is
            (ap global_of w.in-Global.is) c.loop-import.invariant.so_far (ap (λ v. v.items) w.globals-is ∙ w.in_ok-push.ensures.items)
        | in_default w ↦ ap (λ v. v.items) w.globals-is
            ∙ other_more (λ (i : Import). global_of i.what) c.args.imports.now c.loop-import.import-index c.import-item.result _ c.loop-import-test.true c.import-item.is
            (not_global c.import-item.result.what w.in_default.not-Global) c.loop-import.invariant.so_far
      ];
    }

pub returns : goal.returns
returns c = all_found (λ (i : Import). global_of i.what) c.args.imports.now c.loop-import.import-index _ c.loop-import-test.false c.loop-import.invariant.so_far
