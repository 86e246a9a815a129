use Rattle.std.proofs.Common.{sym, subst}
use Rattle.std.specs.Arc.{arc_value}
use Rattle.fuel_stepper.specs.Life.{Life, StandsIn}
use Rattle.fuel_stepper.proofs.Ends.{at_end}
use Rattle.fuel_stepper.proofs.engine.InstanceEngine.done.Goals as goal

pub returns : goal.returns
returns c valid start calls fuel stands =
    let s = c.self.inside in
    let life : Life = record { program = arc_value s.program; machine = s.machine; fuel_left = s.fuel_left; stage = s.stage } in
    at_end valid start calls fuel life (subst (λ (l : Life). StandsIn valid start calls fuel l) (sym c.self.view_is) stands)
    c.is_at_end.result c.is_at_end.ensures
