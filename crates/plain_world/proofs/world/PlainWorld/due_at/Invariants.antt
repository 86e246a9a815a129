use Rattle.std.proofs.Common.{◌≡◌, ℕ, filter, take}
use Rattle.world_rules.specs.Time.{is_due}
use Rattle.plain_world.specs.Shown.{shown_world}
use Rattle.plain_world.proofs.world.PlainWorld.due_at.Given as goal

abbrev pub invariant-loop-pid : goal.invariant-loop-pid
invariant-loop-pid l =
    l.due.items ≡ filter (λ (pid : ℕ). is_due l.time ((shown_world l.self).process pid)) (take l.pid-index l.pid-items)
