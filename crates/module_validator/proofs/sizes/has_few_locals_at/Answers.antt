use Rattle.std.proofs.Common.{sym, ap, ◌∙◌, get_or}
use Rattle.std.specs.Option.{option_copied}
use Rattle.module_validator.proofs.Lists.{got}
use Rattle.module_validator.proofs.LocalsAt.{few_at}
use Rattle.module_validator.proofs.sizes.has_few_locals_at.Goals as goal

pub returns : goal.returns
returns c =
    let functions = c.functions.result.now in
    let types = c.types.result.now in
    let bodies = c.bodies.result.now in
    let place = c.args.place in
    let at = sym (got types (get_or functions place 0) c.get.result c.get.ensures.lookup.3) ∙ ap option_copied c.in-Some.is in
    let has = sym (got bodies place c.get-2.result c.get-2.ensures.lookup.3) ∙ ap option_copied c.in-Some-get.is in
    let few = few_at c.args.module.now functions types bodies c.functions.ensures c.types.ensures c.bodies.ensures place c.requires c.in-Some.ty.now c.in-Some-get.body.now at has c.len.result c.as_slice.result.now c.len.ensures c.as_slice.ensures in
    (λ t. few.0 (c.has_few.ensures.0 t), λ h. c.has_few.ensures.1 (few.1 h))
