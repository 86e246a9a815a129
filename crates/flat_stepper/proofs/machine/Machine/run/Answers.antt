use Rattle.std.proofs.Common.{sym, subst}
use Rattle.flat_machine.specs.Flat.{Flat}
use Rattle.flat_machine.specs.Runs.{IsSafe}
use Rattle.flat_stepper.proofs.machine.Machine.run.Goals as goal

pub run-requires-clause-safe : goal.run-requires-clause-safe
run-requires-clause-safe c = subst (λ (f : Flat). IsSafe c.args.parts.now c.args.map.now f) (sym c.self.view_is) c.requires.safe
