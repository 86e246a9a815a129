use Rattle.lunatic_cli.proofs.judge.judge_text.Goals as goal

pub returns-in-Malformed : goal.returns-in-Malformed
returns-in-Malformed c = (λ e. absurd (cc), c.in-Err.ensures c.in-Malformed.is)
