use Rattle.world_rules.specs.Arrivals.{arrival_of}
use Rattle.world_rules.specs.Receive.{held, delivery_reply}
use Rattle.plain_part.specs.Shown.{shown_item}
use Rattle.plain_world.specs.What.{shown_what}
use Rattle.plain_world.specs.Shown.{shown_world}
use Rattle.plain_world.proofs.Answering.{answered_ok}
use Rattle.plain_world.proofs.world.PlainWorld.deliver.Goals as goal

pub returns : goal.returns
returns c =
    let item = shown_item c.args.item in
    answered_ok c.answer.result (held (shown_world c.args.self.now) c.args.pid item) (shown_world c.hold.new.self)
    (shown_world c.answer.new.self) c.args.pid c.args.request.now (delivery_reply item) c.delivery_reply-reply.result
    (arrival_of item) (shown_what c.in_ok-what.what)
    c.in_ok-hold.ensures c.delivery_reply-reply.ensures c.in_ok-what.ensures c.answer.ensures
