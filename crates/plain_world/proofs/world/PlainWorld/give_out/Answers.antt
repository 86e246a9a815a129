use Rattle.std.proofs.Common.{ap, ◌∙◌}
use Rattle.std.proofs.lemmas.Result.{on_ok_weaker}
use Rattle.world_rules.specs.Views.{want_of}
use Rattle.world_rules.specs.Rules.{halted, home}
use Rattle.world_rules.specs.World.{World}
use Rattle.plain_world.proofs.world.PlainWorld.give_out.Goals as goal

pub returns : goal.returns
returns c =
    on_ok_weaker c.halt.result (λ one worker. one
    ∙ ap (λ (v : World). halted (want_of c.args.halt.now) c.args.births.now v c.args.pid c.args.side.now)
    (c.in_ok-come_home.ensures ∙ ap (λ (v : World). home v c.args.pid) (c.in_ok-record.ensures worker))) c.halt.ensures
