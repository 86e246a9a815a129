use Rattle.std.proofs.Common.{None}
use Rattle.world_rules.specs.Answers.{empty_reply}
use Rattle.world_rules.specs.Registry.{with_name}
use Rattle.plain_world.specs.Shown.{shown_world}
use Rattle.plain_world.proofs.Answering.{replied_ok}
use Rattle.plain_world.proofs.world.PlainWorld.unregister.Goals as goal

pub returns : goal.returns
returns c =
    replied_ok c.reply.result (with_name (shown_world c.args.self.now) c.args.request.now.first None) (shown_world c.set_name.new.self)
    (shown_world c.reply.new.self) c.args.pid c.args.request.now empty_reply c.empty_reply.result
    c.in_ok-set_name.ensures c.empty_reply.ensures c.reply.ensures
