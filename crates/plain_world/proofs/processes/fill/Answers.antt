use Rattle.std.proofs.Common.{◌∙◌, ap}
use Rattle.plain_world.specs.ShownProcess.{process_in}
use Rattle.plain_world.proofs.ProcessList.{process_push_nobody}
use Rattle.plain_world.proofs.processes.fill.Goals as goal

pub filling-preserved : goal.filling-preserved
filling-preserved c =
    ap process_in c.in_ok-push.ensures.items ∙ process_push_nobody c.filling.processes.items c.unborn.result c.unborn.ensures
    ∙ c.filling.invariant
