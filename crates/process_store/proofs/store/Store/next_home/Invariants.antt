use Rattle.std.proofs.Common.{◌≡◌, ◌++◌, ℕ, List, true, false, length}
use Rattle.world_rules.specs.Part.{is_among}
use Rattle.node_mirror.specs.Slots.{is_home}
use Rattle.process_store.specs.Holds.{place_at}
use Rattle.process_store.proofs.TakingOut.{Passed}
use Rattle.process_store.proofs.store.Store.next_home.Given as goal

abbrev pub invariant-loop-pid : goal.invariant-loop-pid
invariant-loop-pid g l = Passed l.fn.self l.self

abbrev pub decreases-loop-pid : goal.decreases-loop-pid
decreases-loop-pid g l = length l.self.queue.ready
