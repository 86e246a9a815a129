use Rattle.std.proofs.Common.{ap, ◌∙◌, if◌then◌else◌}
use Rattle.std.proofs.lemmas.Result.{on_ok_weaker}
use Rattle.world_rules.specs.Views.{is_opened}
use Rattle.world_rules.specs.Outside.{opened_and_shut}
use Rattle.world_rules.specs.Ends.{closed_with_first, ended_from_outside}
use Rattle.world_rules.specs.World.{World}
use Rattle.plain_world.proofs.world.PlainWorld.give_doomed.Goals as goal

pub returns : goal.returns
returns c =
    let pid = c.args.pid in
    let opened = is_opened c.args.side.now in
    on_ok_weaker c.close_with_first.result (λ one worker. one
    ∙ ap closed_with_first (c.in_ok-end_from_outside.ensures
    ∙ ap (λ (v : World). ended_from_outside v pid c.args.end) (c.in_ok-shut_opening.ensures
    ∙ ap (λ (v : World). if opened then opened_and_shut v pid else v) (c.in_ok-record.ensures worker)))) c.close_with_first.ensures
