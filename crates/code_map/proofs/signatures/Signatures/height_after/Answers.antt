use Rattle.std.proofs.Common.{ap, ◌∙◌, ◌+◌}
use Rattle.code_map.proofs.Counting.{height}
use Rattle.code_map.proofs.signatures.Signatures.height_after.Goals as goal

pub returns-clause-after : goal.returns-clause-after
returns-clause-after c m after are goes =
    ap (λ n. n + c.counts-counts.result.gives) c.saturating_sub.ensures ∙ height m c.args.instr c.args.self.now c.counts-counts.result c.args.height after c.counts-counts.ensures.counted are goes
