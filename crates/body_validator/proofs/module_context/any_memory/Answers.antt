use Rattle.std.proofs.Common.{refl, subst, sym, length, ◌<◌, List}
use Rattle.std.specs.Prelude.{filter_map}
use Rattle.wasm_form.specs.Context.{memory_of}
use Rattle.wasm_form.specs.declared.types.Bounds.{Bounds}
use Rattle.wasm_form.specs.declared.parts.Import.{Import}
use Rattle.body_validator.proofs.Lists.{either_there, second_there, neither_there, some_or_none, none_or_some}
use Rattle.body_validator.proofs.Types.{not_both}
use Rattle.body_validator.proofs.module_context.any_memory.Goals as goal

pub returns-then-imports_memory : goal.returns-then-imports_memory
returns-then-imports_memory c = (
  λ e. either_there (filter_map (λ (i : Import). memory_of i.what) c.args.«module».now.imports) c.args.«module».now.memories
      (subst (λ l. 0 < length (filter_map (λ (i : Import). memory_of i.what) l)) c.imports.ensures (c.imports_memory.ensures.0 c.if-imports_memory.true)),
  λ h. refl,
)

pub returns : goal.returns
returns c = (
  λ e. second_there (filter_map (λ (i : Import). memory_of i.what) c.args.«module».now.imports) c.args.«module».now.memories
      (subst (λ (l : List Bounds). 0 < length l) c.memories.ensures (none_or_some c.memories.result.now c.is_empty.result c.is_empty.ensures e)),
  λ h. some_or_none c.memories.result.now c.is_empty.result c.is_empty.ensures
      (subst (λ (l : List Bounds). 0 < length l) (sym c.memories.ensures)
      (neither_there (filter_map (λ (i : Import). memory_of i.what) c.args.«module».now.imports) c.args.«module».now.memories
      (λ t. not_both _ (c.imports_memory.ensures.1 (subst (λ l. 0 < length (filter_map (λ (i : Import). memory_of i.what) l)) (sym c.imports.ensures) t)) c.if-imports_memory.false) h)),
)
