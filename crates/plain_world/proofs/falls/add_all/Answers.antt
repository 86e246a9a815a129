use Rattle.std.proofs.Common.{◌≡◌, ℕ, inl, inr, true, ◌∙◌, ap}
use Rattle.world_rules.specs.Part.{is_among}
use Rattle.plain_world.proofs.Nearness.{added_more}
use Rattle.plain_world.proofs.falls.add_all.Goals as goal

pub loop-pid-preserved : goal.loop-pid-preserved
loop-pid-preserved c =
    added_more c.args.more.now c.args.numbers.now c.loop-pid.numbers c.add.new.self c.loop-pid.pid-index c.loop-pid-test.true c.loop-pid.invariant c.in_ok-add.ensures.added
