use Rattle.host_calls.proofs.Making.{few_in_order}
use Rattle.host_calls.proofs.tests.proc_with_stream.Goals as goal

pub returns : goal.returns
returns c = few_in_order _ c.in_ok-proc.ensures.scratch c.put_ninth.ensures c.in_ok-proc.ensures.shed
