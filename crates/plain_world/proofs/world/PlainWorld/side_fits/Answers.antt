use Rattle.std.proofs.Common.{Option, Some, ◌↔◌, ◌∙◌, IsTrue, subst, sym, ap}
use Rattle.host_port.specs.declared.row.MayCome.{MayCome}
use Rattle.world_rules.specs.Allowed.{SideFits}
use Rattle.plain_part.specs.Shown.{shown_part}
use Rattle.plain_world.specs.Shown.{shown_world}
use Rattle.plain_world.proofs.world.PlainWorld.side_fits.Goals as goal

pub returns-in-Some-Nothing : goal.returns-in-Some-Nothing
returns-in-Some-Nothing c =
    let P : Option MayCome → Type 0 = λ m. IsTrue c.nothing_fits.result ↔
    SideFits m (shown_world c.args.self.now) c.args.pid (shown_part c.args.part.now) c.args.request.now c.args.side.now in
    subst P (ap Some (sym c.in-Some-Nothing.field-0-is) ∙ c.in-Some-Nothing.ensures) (c.nothing_fits.ensures (shown_part c.args.part.now))

pub returns-in-Some-Answer : goal.returns-in-Some-Answer
returns-in-Some-Answer c =
    let P : Option MayCome → Type 0 = λ m. IsTrue c.outside_fits.result ↔
    SideFits m (shown_world c.args.self.now) c.args.pid (shown_part c.args.part.now) c.args.request.now c.args.side.now in
    subst P (ap Some (sym c.in-Some-Answer.field-0-is) ∙ c.in-Some-Answer.ensures) (c.outside_fits.ensures (shown_world c.args.self.now) c.args.pid)
