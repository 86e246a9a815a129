use Rattle.std.proofs.Common.{sym, ◌∙◌, ap}
use Rattle.std.proofs.lemmas.Result.{on_ok_weaker}
use Rattle.world_rules.specs.World.{World}
use Rattle.world_rules.specs.Changes.{with_arrival}
use Rattle.plain_world.specs.What.{shown_what}
use Rattle.plain_world.specs.Shown.{shown_world}
use Rattle.plain_world.proofs.ProcessList.{answered_home}
use Rattle.plain_world.proofs.world.PlainWorld.answer.Goals as goal

pub returns-then-is_home : goal.returns-then-is_home
returns-then-is_home c =
    on_ok_weaker c.add_arrival.result
    (λ is. is ∙ ap (λ (v : World). with_arrival v c.args.pid (shown_what c.args.what)) c.in_ok-make_ready.ensures
    ∙ sym (answered_home (shown_world c.args.self.now) c.args.pid c.args.request.now c.args.reply (shown_what c.args.what)
    (sym c.if-is_home.ensures)))
    c.add_arrival.ensures
