use Rattle.body_reader.proofs.Fields.{bytes_answer}
use Rattle.body_reader.proofs.names.bytes_at.Goals as goal

pub returns : goal.returns
returns c = bytes_answer (λ b. b.now) c.in_ok-count.count _ _ _ _ c.in_ok-count.ensures c.take_at.ensures.ok c.take_at.ensures.malformed
