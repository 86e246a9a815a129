use Rattle.lunatic_cli.proofs.Completions.{check_completes, told_is_read}
use Rattle.lunatic_cli.proofs.check.check_call.Goals as goal

pub returns-in-Ok-clause-completes : goal.returns-in-Ok-clause-completes
returns-in-Ok-clause-completes g c files lacks sink =
    let judged = rw (← c.verdict.ensures) at c.in-Ok.ensures.verdict in
    check_completes _ c.accepted_alone.ensures _ _ judged.bytes c.verdict.result c.tell_verdict.result.verdict
    (record {
      faults_before = g.K.Sink.faults c.args.out.now;
      faults_after = g.K.Sink.faults c.tell_verdict.new.out;
      before = g.K.Sink.written c.args.out.now;
      after = g.K.Sink.written c.tell_verdict.new.out;
    }) _ judged.is_content judged.is_verdict c.tell_verdict.ensures.told c.tell_verdict.ensures.memory c.tell_verdict.ensures.unwritten sink

pub returns-in-Ok-clause-unread_told : goal.returns-in-Ok-clause-unread_told
returns-in-Ok-clause-unread_told g c =
    let judged = c.in-Ok.ensures.verdict in
    told_is_read _ _ _ judged.bytes c.verdict.result c.tell_verdict.result.verdict
    (record {
      faults_before = g.K.Sink.faults c.args.out.now;
      faults_after = g.K.Sink.faults c.tell_verdict.new.out;
      before = g.K.Sink.written c.args.out.now;
      after = g.K.Sink.written c.tell_verdict.new.out;
    }) _ _ _ judged.is_content c.tell_verdict.ensures.told c.tell_verdict.ensures.memory
