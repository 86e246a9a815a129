use Rattle.std.proofs.Common.{◌∙◌}
use Rattle.plain_world.proofs.Streaming.{streamed-more}
use Rattle.plain_world.proofs.streams.fill.Goals as goal

pub filling-preserved : goal.filling-preserved
filling-preserved c =
    streamed-more c.filling.streamed.items c.push.new.self.items c.new.result c.in_ok-push.ensures.items c.new.ensures
    ∙ c.filling.invariant
