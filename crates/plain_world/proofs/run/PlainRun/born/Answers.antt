use Rattle.std.proofs.Common.{◌∷◌, []}
use Rattle.plain_world.specs.Shown.{shown_world}
use Rattle.plain_world.proofs.RunLaws.{run_longer}
use Rattle.plain_world.proofs.run.PlainRun.born.Goals as goal

pub invariant_of-result : goal.invariant_of-result
invariant_of-result c =
    run_longer c.self.inside.births.items (c.args.birth ∷ []) c.push.new.self.items c.self.inside.entries.items
    (shown_world c.self.inside.world) c.self.invariant c.in_ok-push.ensures.items
