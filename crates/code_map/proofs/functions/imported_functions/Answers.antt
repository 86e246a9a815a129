use Rattle.std.proofs.Common.{ap, ◌∙◌}
use Rattle.wasm_form.specs.Context.{function_of}
use Rattle.wasm_form.specs.declared.parts.Import.{Import}
use Rattle.body_validator.proofs.Lists.{found_more, other_more, all_found, not_function}
use Rattle.code_map.proofs.functions.imported_functions.Goals as goal
use Rattle.code_map.proofs.functions.imported_functions.Goals.{in-Function+in_ok-push, in_default}

pub loop-import-init : goal.loop-import-init
loop-import-init c = record { so_far = c.new-functions.ensures.items }

pub loop-import-preserved : goal.loop-import-preserved
loop-import-preserved c =
    record {
      so_far = elim c.match-import.branch [
        | in-Function+in_ok-push w ↦ found_more (λ (i : Import). function_of i.what) c.args.imports.now c.loop-import.import-index c.import-item.result w.in-Function.index _ _
            c.loop-import-test.true c.import-item.is
            (ap function_of w.in-Function.is) c.loop-import.invariant.so_far (ap (λ v. v.items) w.functions-is ∙ w.in_ok-push.ensures.items)
        | in_default w ↦ ap (λ v. v.items) w.functions-is
            ∙ other_more (λ (i : Import). function_of i.what) c.args.imports.now c.loop-import.import-index c.import-item.result _ c.loop-import-test.true c.import-item.is
            (not_function c.import-item.result.what w.in_default.not-Function) c.loop-import.invariant.so_far
      ];
    }

pub returns : goal.returns
returns c = all_found (λ (i : Import). function_of i.what) c.args.imports.now c.loop-import.import-index _ c.loop-import-test.false c.loop-import.invariant.so_far
