use Rattle.std.proofs.Common.{◌≡◌, ◌++◌, take}
use Rattle.plain_world.proofs.recorded.append_calls.Given as goal

abbrev pub invariant-loop-call : goal.invariant-loop-call
invariant-loop-call l = l.calls ≡ l.fn.calls ++ take l.call-index l.more
