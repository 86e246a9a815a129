use Rattle.std.proofs.Common.{ℕ, sym, subst}
use Rattle.world_rules.specs.World.{Process}
use Rattle.plain_world.specs.Population.{AreWatched}
use Rattle.plain_world.specs.ShownProcess.{process_in}
use Rattle.plain_world.proofs.Watching.{take_watched}
use Rattle.plain_world.proofs.population.Population.take.Goals as goal

pub invariant_of-self : goal.invariant_of-self
invariant_of-self c =
    let a = c.self.inside in
    subst (λ (process : ℕ → Process). AreWatched a.ready.items process a.unended a.woken) (sym c.take_at.ensures.left)
    (take_watched a.ready.items a.unended a.woken (process_in a.list.items) c.args.pid c.self.invariant)
