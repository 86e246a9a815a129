use Rattle.std.proofs.Common.{sym, subst, ◌∙◌}
use Rattle.body_validator.proofs.Rows.{no_row}
use Rattle.code_map.specs.Counts.{Count}
use Rattle.code_map.proofs.Counting.{other_counted}
use Rattle.code_map.proofs.signatures.Signatures.counts.Goals as goal

pub control-requires-clause-kind : goal.control-requires-clause-kind
control-requires-clause-kind c = sym c.in-Some.ensures.row.kind ∙ c.in-Control.is

pub control-requires-in-None-clause-kind : goal.control-requires-in-None-clause-kind
control-requires-in-None-clause-kind c = no_row c.args.instr.code (λ t. absurd (cc (c.in-None.ensures.there.1 t)))

pub returns-in_default-clause-counted : goal.returns-in_default-clause-counted
returns-in_default-clause-counted c m context ty are inside typed =
    subst (λ k. Count k ty) (sym c.listed.ensures.is) (other_counted c.in-Some.row.now context c.args.instr ty c.in-Some.ensures.row c.in_default.not-Control typed)
