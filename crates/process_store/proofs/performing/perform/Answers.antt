use Rattle.std.proofs.Common.{subst, sym}
use Rattle.process_store.specs.Performing.{IsPerformed}
use Rattle.process_store.proofs.performing.perform.Goals as goal

pub unreachable-requires : goal.unreachable-requires
unreachable-requires g c = subst IsPerformed (sym c.in_default.ensures) c.requires.call
