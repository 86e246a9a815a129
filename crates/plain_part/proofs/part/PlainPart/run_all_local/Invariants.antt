use Rattle.std.proofs.Common.{◌≡◌, drop}
use Rattle.world_rules.specs.Local.{part_after}
use Rattle.plain_part.specs.Shown.{shown_part}
use Rattle.plain_part.proofs.part.PlainPart.run_all_local.Given as goal

abbrev pub invariant-loop-call : goal.invariant-loop-call
invariant-loop-call l =
    part_after l.start (shown_part l.self) (drop l.call-index l.calls)
    ≡ part_after l.start (shown_part l.fn.self) l.calls
