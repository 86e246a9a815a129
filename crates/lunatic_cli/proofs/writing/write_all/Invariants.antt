use Rattle.std.proofs.Common.{◌-◌, length}
use Rattle.lunatic_cli.proofs.Fronts.{FrontWritten}
use Rattle.lunatic_cli.proofs.writing.write_all.Given as goal

abbrev pub invariant-loop-done : goal.invariant-loop-done
invariant-loop-done g l =
    FrontWritten l.text l.done (g.K.Sink.written l.initial.out) (g.K.Sink.written l.out)
    (g.K.Sink.faults l.initial.out) (g.K.Sink.faults l.out)

abbrev pub decreases-loop-done : goal.decreases-loop-done
decreases-loop-done g l = length l.text - l.done
