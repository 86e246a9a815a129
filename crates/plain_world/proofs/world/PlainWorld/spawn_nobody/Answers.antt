use Rattle.world_rules.specs.Answers.{number_reply}
use Rattle.world_rules.specs.Spawn.{spawn_counted}
use Rattle.plain_world.specs.Shown.{shown_world}
use Rattle.plain_world.proofs.Answering.{replied_ok}
use Rattle.plain_world.proofs.world.PlainWorld.spawn_nobody.Goals as goal

pub returns : goal.returns
returns c =
    replied_ok c.reply.result (spawn_counted (shown_world c.args.self.now)) (shown_world c.count_spawn.new.self)
    (shown_world c.reply.new.self) c.args.pid c.args.request.now (number_reply c.args.answer) c.number_reply.result
    c.in_ok-count_spawn.ensures c.number_reply.ensures c.reply.ensures
