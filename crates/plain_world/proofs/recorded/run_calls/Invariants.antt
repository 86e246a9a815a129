use Rattle.std.proofs.Common.{drop}
use Rattle.plain_part.specs.Shown.{shown_part}
use Rattle.plain_world.proofs.Turning.{CallsLeft}
use Rattle.plain_world.proofs.recorded.run_calls.Given as goal

abbrev pub invariant-loop-call : goal.invariant-loop-call
invariant-loop-call l =
    CallsLeft l.pid l.start (shown_part l.fn.part) l.calls l.fn.moves.items l.fn.closed.items (shown_part l.part)
    (drop l.call-index l.calls) l.moves.items l.closed.items
