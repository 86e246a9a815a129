use Rattle.std.proofs.Common.{ap, ◌∙◌, ◌++◌}
use Rattle.std.specs.Prelude.{filter_map}
use Rattle.wasm_form.specs.declared.parts.Import.{Import}
use Rattle.wasm_form.specs.Context.{function_of}
use Rattle.body_validator.proofs.module_context.ModuleContext.new.Goals as goal

pub invariant_of-result : goal.invariant_of-result
invariant_of-result c = record {
  all_functions = c.in_ok-extend_from_slice.ensures.items ∙ ap (λ l. l ++ c.functions.result.now) (c.in_ok-functions.ensures ∙ ap (λ l. filter_map (λ (i : Import). function_of i.what) l) c.imports.ensures)
      ∙ ap (λ l. filter_map (λ (i : Import). function_of i.what) c.args.«module».now.imports ++ l) c.functions.ensures;
  table = c.any_table-has_table.ensures;
  memory = c.any_memory-has_memory.ensures;
  all_globals = c.in_ok-globals.ensures;
}
