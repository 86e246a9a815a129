use Rattle.std.proofs.Common.{ℕ, sym, subst}
use Rattle.world_rules.specs.World.{Process}
use Rattle.plain_world.specs.Population.{AreWatched}
use Rattle.plain_world.specs.ShownProcess.{process_in, shown_process}
use Rattle.plain_world.proofs.Watching.{more_watched, put_watched}
use Rattle.plain_world.proofs.population.Population.put.Goals as goal

pub invariant_of-self-in_err-put_at : goal.invariant_of-self-in_err-put_at
invariant_of-self-in_err-put_at c =
    let a = c.self.inside in
    subst (λ (process : ℕ → Process). AreWatched a.ready.items process c.add_if.new.numbers c.add_if-2.new.numbers) (sym c.in_err-put_at.ensures.same)
    (more_watched a.ready.items a.unended a.woken c.add_if.new.numbers c.add_if-2.new.numbers (process_in a.list.items) c.args.pid
    c.is_there-there.result c.is_ready.result c.self.invariant c.in_ok-add_if.ensures.added c.in_ok-add_if-2.ensures.added)

pub invariant_of-self-2 : goal.invariant_of-self-2
invariant_of-self-2 c =
    let a = c.self.inside in
    subst (λ (process : ℕ → Process). AreWatched a.ready.items process c.remove_if.new.numbers c.add_if-2.new.numbers) (sym c.in_ok-put_at.ensures.put_in)
    (put_watched a.ready.items a.unended a.woken c.add_if.new.numbers c.add_if-2.new.numbers c.remove_if.new.numbers (process_in a.list.items) c.args.pid
    (shown_process c.args.process) c.is_there-there.result c.is_ready.result c.self.invariant c.is_there-there.ensures c.is_ready.ensures
    c.in_ok-add_if.ensures.added c.in_ok-add_if-2.ensures.added c.remove_if.ensures)
