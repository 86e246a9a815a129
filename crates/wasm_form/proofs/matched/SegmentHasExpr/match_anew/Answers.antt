use Rattle.std.proofs.Common.{ap}
use Rattle.wasm_form.specs.declared.parts.Segment.{Segment}
use Rattle.wasm_form.proofs.matched.SegmentHasExpr.match_anew.Goals as goal

pub returns-clause-unmatched : goal.returns-clause-unmatched
returns-clause-unmatched c fault x same tree = c.match_anew.ensures.unmatched fault x.offset (ap (λ (y : Segment). y.offset) same) tree
