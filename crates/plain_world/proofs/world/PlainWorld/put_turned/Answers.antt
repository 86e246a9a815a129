use Rattle.std.proofs.Common.{◌∙◌}
use Rattle.std.proofs.lemmas.Result.{on_ok_weaker}
use Rattle.plain_world.specs.ShownProcess.{shown_process}
use Rattle.plain_world.specs.Shown.{shown_world}
use Rattle.plain_world.proofs.Turning.{turn_done}
use Rattle.plain_world.proofs.world.PlainWorld.put_turned.Goals as goal

pub returns : goal.returns
returns c =
    on_ok_weaker c.put_process.result
    (λ one. one ∙ turn_done (shown_world c.args.self.now) (shown_world c.take_process-process.new.self) c.args.pid
    (shown_process c.take_process-process.result) (shown_process c.turn.new.process) c.args.calls.now c.args.fuel
    c.args.halt.now c.turn.new.moves.items c.turn.new.closed.items c.take_process-process.ensures.taken
    c.take_process-process.ensures.left c.in_ok-turn.ensures.process c.in_ok-turn.ensures.moves
    c.in_ok-turn.ensures.closed)
    c.put_process.ensures
