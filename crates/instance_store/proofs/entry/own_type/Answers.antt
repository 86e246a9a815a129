use Rattle.std.proofs.Common.{◌≡◌, ℕ, ◌-◌, length, ap, arith, ◌∙◌}
use Rattle.tree_machine.specs.Functions.{defined_function}
use Rattle.instance_store.proofs.OwnFunctions.{type_in, imported_type, own_type}
use Rattle.instance_store.proofs.entry.own_type.Goals as goal

pub returns-then-index-imported : goal.returns-then-index-imported
returns-then-index-imported c =
    let m = c.args.module.now in
    let same : length c.imports-imported.result.now ≡ length m.imports = ap length c.imports-imported.ensures in
    imported_type m c.requires c.args.index (omega arith)

pub returns : goal.returns
returns c =
    let m = c.args.module.now in
    let same : length c.imports-imported.result.now ≡ length m.imports = ap length c.imports-imported.ensures in
    c.defined_type.ensures
    ∙ ap (λ (n : ℕ). type_in (defined_function m (c.args.index - n))) same
    ∙ own_type m c.requires c.args.index (omega arith)
