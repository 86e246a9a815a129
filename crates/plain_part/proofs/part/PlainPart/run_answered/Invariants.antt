use Rattle.std.proofs.Common.{drop}
use Rattle.plain_part.specs.Shown.{shown_part}
use Rattle.plain_part.proofs.LocalLaws.{GoesOn}
use Rattle.plain_part.proofs.part.PlainPart.run_answered.Given as goal

abbrev pub invariant-loop-call : goal.invariant-loop-call
invariant-loop-call l = GoesOn l.start (shown_part l.fn.self) l.calls (shown_part l.self) (drop l.call-index l.calls)
