use Rattle.std.proofs.Common.{length, ap, arith}
use Rattle.std.proofs.lemmas.Bool.{ltb-true, lt-ltb}
use Rattle.module_validator.proofs.FunctionsAlone.{function_count}
use Rattle.module_validator.proofs.types.has_function.Goals as goal

pub returns-then-place-imported : goal.returns-then-place-imported
returns-then-place-imported c =
    let count = function_count c.args.module.now c.requires in
    let imports = ap length c.imports-imported.ensures in
    (λ t. omega arith, λ h. lt-ltb _ _ c.if-place-imported.true)

pub returns-else-place-imported : goal.returns-else-place-imported
returns-else-place-imported c =
    let count = function_count c.args.module.now c.requires in
    let imports = ap length c.imports-imported.ensures in
    let functions = ap length c.functions.ensures in
    (λ t. omega (arith, ltb-true _ _ t), λ h. lt-ltb _ _ (omega arith))
