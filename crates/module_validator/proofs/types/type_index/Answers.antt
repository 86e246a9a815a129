use Rattle.std.proofs.Common.{sym, ap, ◌∙◌, length, ◌-◌}
use Rattle.std.specs.Option.{option_copied}
use Rattle.module_validator.proofs.Lists.{got}
use Rattle.module_validator.proofs.FunctionsAlone.{imported_at, own_at}
use Rattle.module_validator.proofs.types.type_index.Goals as goal

pub returns-in-Some : goal.returns-in-Some
returns-in-Some c =
    let imports = c.imports-imports.result.now in
    c.function_index.ensures
    ∙ imported_at c.args.module.now c.requires c.args.function imports c.in-Some.import.now c.imports-imports.ensures c.in-Some.ensures.lookup.3.0
    (sym (got imports c.args.function c.get.result c.get.ensures.lookup.3) ∙ ap option_copied c.in-Some.is)

pub returns-in-None : goal.returns-in-None
returns-in-None c =
    let imports = c.imports-imports.result.now in
    c.copied.ensures
    ∙ got c.functions.result.now (c.args.function - length imports) c.get-in-None.result c.get-in-None.ensures.lookup.3
    ∙ own_at c.args.module.now c.requires c.args.function imports c.functions.result.now c.imports-imports.ensures c.functions.ensures c.in-None.ensures.lookup.3
