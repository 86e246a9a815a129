use Rattle.std.proofs.Common.{length, ap, sym, ◌∙◌, arith}
use Rattle.std.proofs.lemmas.Bool.{false≢true}
use Rattle.module_validator.proofs.FunctionsAlone.{tables_are}
use Rattle.module_validator.proofs.segments.is_element.Goals as goal

pub returns-then-element-tables : goal.returns-then-element-tables
returns-then-element-tables c =
    let count = ap length (c.tables-tables.ensures ∙ sym (tables_are c.args.module.now c.requires)) in
    (λ t. absurd (false≢true t), λ h. absurd (omega (arith, h.table, count, c.if-element-tables.true)))
