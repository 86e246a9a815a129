use Rattle.std.proofs.Common.{refl, subst, sym, length, ◌<◌, List}
use Rattle.std.specs.Prelude.{filter_map}
use Rattle.wasm_form.specs.Context.{table_of}
use Rattle.wasm_form.specs.declared.types.Bounds.{Bounds}
use Rattle.wasm_form.specs.declared.parts.Import.{Import}
use Rattle.body_validator.proofs.Lists.{either_there, second_there, neither_there, some_or_none, none_or_some}
use Rattle.body_validator.proofs.Types.{not_both}
use Rattle.body_validator.proofs.module_context.any_table.Goals as goal

pub returns-then-imports_table : goal.returns-then-imports_table
returns-then-imports_table c = (
  λ e. either_there (filter_map (λ (i : Import). table_of i.what) c.args.«module».now.imports) c.args.«module».now.tables
      (subst (λ l. 0 < length (filter_map (λ (i : Import). table_of i.what) l)) c.imports.ensures (c.imports_table.ensures.0 c.if-imports_table.true)),
  λ h. refl,
)

pub returns : goal.returns
returns c = (
  λ e. second_there (filter_map (λ (i : Import). table_of i.what) c.args.«module».now.imports) c.args.«module».now.tables
      (subst (λ (l : List Bounds). 0 < length l) c.tables.ensures (none_or_some c.tables.result.now c.is_empty.result c.is_empty.ensures e)),
  λ h. some_or_none c.tables.result.now c.is_empty.result c.is_empty.ensures
      (subst (λ (l : List Bounds). 0 < length l) (sym c.tables.ensures)
      (neither_there (filter_map (λ (i : Import). table_of i.what) c.args.«module».now.imports) c.args.«module».now.tables
      (λ t. not_both _ (c.imports_table.ensures.1 (subst (λ l. 0 < length (filter_map (λ (i : Import). table_of i.what) l)) (sym c.imports.ensures) t)) c.if-imports_table.false) h)),
)
