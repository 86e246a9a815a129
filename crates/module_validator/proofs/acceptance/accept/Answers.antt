use Rattle.wasm_form.specs.Profile.{FunctionsAlone, IsInProfile}
use Rattle.wasm_form.specs.Validity.{SingleResults, KeepsRules}
use Rattle.module_validator.specs.Host.{host}
use Rattle.module_validator.proofs.acceptance.accept.Goals as goal

pub broken_rule-requires : goal.broken_rule-requires
broken_rule-requires c =
    let inside : IsInProfile host c.args.module = rw c.in_default.is at c.broken_profile_rule.ensures in
    inside FunctionsAlone

pub untyped_function-requires : goal.untyped_function-requires
untyped_function-requires c =
    let rules : KeepsRules c.args.module = rw c.in_default-2.is at c.in_ok-rule.ensures in
    rules SingleResults
