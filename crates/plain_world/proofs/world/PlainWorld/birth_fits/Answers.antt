use Rattle.std.proofs.Common.{◌≡◌, Option, Some, None, ◌↔◌, IsTrue, subst, sym, ap, ◌∙◌}
use Rattle.std.specs.Option.{option_copied}
use Rattle.world_rules.specs.declared.life.Birth.{Birth}
use Rattle.world_rules.specs.declared.life.Birth.TheVariants.{Refused}
use Rattle.world_rules.specs.World.{Process}
use Rattle.world_rules.specs.Births.{BirthFits}
use Rattle.world_rules.specs.Spawn.{next_birth}
use Rattle.plain_part.specs.Shown.{shown_part}
use Rattle.plain_world.specs.Parent.{parent_of}
use Rattle.plain_world.specs.Shown.{shown_world}
use Rattle.plain_world.proofs.world.PlainWorld.birth_fits.Goals as goal

pub returns-in-Some-Refused : goal.returns-in-Some-Refused
returns-in-Some-Refused c =
    let parent : Process = parent_of c.args.start.now (shown_part c.args.part.now) in
    let P : Option Birth → Type 0 = λ birth. IsTrue c.is_refused_birth.result ↔
    BirthFits None (shown_world c.args.self.now) parent c.args.request.now c.args.side.now birth in
    let there : Some (Refused c.in-Some-Refused.reply) ≡ next_birth c.args.births.now (shown_world c.args.self.now) =
    sym (ap Some c.in-Some-Refused.field-0-is) ∙ sym (ap option_copied c.in-Some-Refused.is) ∙ c.next_birth.ensures in
    subst P there (c.is_refused_birth.ensures parent c.args.request.now)
