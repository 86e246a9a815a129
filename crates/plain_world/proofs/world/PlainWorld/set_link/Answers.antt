use Rattle.std.proofs.lemmas.Result.{on_ok_weaker}
use Rattle.plain_world.specs.Shown.{shown_world}
use Rattle.plain_world.proofs.LinkList.{between_set}
use Rattle.plain_world.proofs.world.PlainWorld.set_link.Goals as goal

pub returns : goal.returns
returns c =
    on_ok_weaker c.set_tag.result
    (λ is. between_set (shown_world c.args.self.now) c.args.a c.args.b c.min.result c.max.result c.args.tag _ c.min.ensures
    c.max.ensures is) c.set_tag.ensures
