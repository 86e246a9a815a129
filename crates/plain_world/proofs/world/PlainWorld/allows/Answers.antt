use Rattle.std.proofs.Common.{◌↔◌, IsTrue, IfOk, None, sym, subst}
use Rattle.world_rules.specs.declared.entry.Entry.{Entry}
use Rattle.world_rules.specs.Allowed.{Allowed}
use Rattle.plain_world.specs.Shown.{shown_world}
use Rattle.plain_world.proofs.world.PlainWorld.allows.Goals as goal

pub returns-in-Stall : goal.returns-in-Stall
returns-in-Stall c =
    subst (λ (entry : Entry). IfOk c.allows_stall.result (λ allowed. IsTrue allowed ↔ Allowed None c.args.births.now (shown_world c.args.self.now) entry))
    (sym c.in-Stall.is) c.allows_stall.ensures
