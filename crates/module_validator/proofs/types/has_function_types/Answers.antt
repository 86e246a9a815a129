use Rattle.std.proofs.Common.{ℕ, ◌<◌, List, length, ap}
use Rattle.std.specs.Prelude.{All, MatchOption, ⊤, filter_map}
use Rattle.wasm_form.specs.declared.parts.Import.{Import}
use Rattle.wasm_form.specs.Context.{function_of}
use Rattle.module_validator.proofs.Lists.{all_append, all_filter_map}
use Rattle.module_validator.proofs.types.has_function_types.Goals as goal

pub returns : goal.returns
returns c =
    let m = c.args.module.now in
    let same = rw (c.imports.ensures, c.functions.ensures, c.types.ensures) at c.are_all_below.ensures in
    let apart = all_append (λ index. index < length m.types) (filter_map (λ (i : Import). function_of i.what) m.imports) m.functions in
    let kept = all_filter_map (λ index. index < length m.types) (λ (i : Import). function_of i.what) m.imports in (
      λ t. let h = same.0 t in apart.1 (kept.1 h.0, h.1),
      λ h. let p = apart.0 h in same.1 (kept.0 p.0, p.1),
    )
