use Rattle.world_rules.specs.World.{World}
use Rattle.world_rules.specs.Arrivals as Came
use Rattle.world_rules.specs.Changes.{with_arrival}
use Rattle.world_rules.specs.Ends.{ended}
use Rattle.plain_world.specs.Shown.{shown_world}
use Rattle.plain_world.proofs.ProcessList.{ok_after}
use Rattle.plain_world.proofs.world.PlainWorld.end_from_outside.Goals as goal

pub returns : goal.returns
returns c =
    ok_after c.end.result (λ (v : World). ended v c.args.pid c.args.end) (shown_world c.end.new.self)
    (shown_world c.add_arrival.new.self) (with_arrival (shown_world c.args.self.now) c.args.pid (Came.Doomed c.args.end))
    c.in_ok-add_arrival.ensures c.end.ensures
