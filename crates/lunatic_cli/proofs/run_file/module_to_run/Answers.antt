use Rattle.lunatic_cli.proofs.Completions.{run_refused, refused_is_read}
use Rattle.lunatic_cli.proofs.JudgedFiles.{module-of-judged, refusal-of-judged}
use Rattle.lunatic_cli.proofs.run_file.module_to_run.Goals as goal

pub returns-in-Accepted-clause-accepted : goal.returns-in-Accepted-clause-accepted
returns-in-Accepted-clause-accepted g c = module-of-judged _ _ c.in-Ok.file c.in-Accepted.valid c.in-Ok.ensures.judged c.in-Accepted.is

pub returns-in-Refused-clause-unread_told : goal.returns-in-Refused-clause-unread_told
returns-in-Refused-clause-unread_told g c =
    let refusal = refusal-of-judged _ _ c.in-Ok.file c.in-Refused.verdict c.in-Ok.ensures.judged c.in-Refused.is in
    rw c.of_check-in-Refused.ensures.status (
    refused_is_read _ _ _ refusal.1.bytes c.in-Refused.verdict c.tell_verdict.result.verdict
    (record {
      faults_before = g.K.Sink.faults c.args.out.now;
      faults_after = g.K.Sink.faults c.tell_verdict.new.out;
      before = g.K.Sink.written c.args.out.now;
      after = g.K.Sink.written c.tell_verdict.new.out;
    }) _ _ _ refusal.1.is_content refusal.0 c.tell_verdict.ensures.told c.tell_verdict.ensures.memory
    )

pub returns-in-Refused-clause-completes : goal.returns-in-Refused-clause-completes
returns-in-Refused-clause-completes g c files lacks options =
    let refusal = refusal-of-judged _ _ c.in-Ok.file c.in-Refused.verdict c.in-Ok.ensures.judged c.in-Refused.is in
    rw c.of_check-in-Refused.ensures.status (
    run_refused _ c.accepted_alone.ensures _ _ refusal.1.bytes options c.in-Refused.verdict c.tell_verdict.result.verdict
    (record {
      faults_before = g.K.Sink.faults c.args.out.now;
      faults_after = g.K.Sink.faults c.tell_verdict.new.out;
      before = g.K.Sink.written c.args.out.now;
      after = g.K.Sink.written c.tell_verdict.new.out;
    }) _ refusal.1.is_content refusal.0 refusal.1.is_verdict c.tell_verdict.ensures.told c.tell_verdict.ensures.memory
    )
