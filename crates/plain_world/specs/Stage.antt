use Rattle.plain_world.specs.declared.stage.PlainStage.{PlainStage}
use Rattle.plain_world.specs.declared.stage.PlainStage.TheVariants as Plain
use Rattle.world_rules.specs.World.{Stage, Unborn, Ready, Out, Waiting, Doomed, Ended}

-- where a process is
abbrev pub shown_stage : PlainStage → Stage
shown_stage Plain.Unborn = Unborn
shown_stage Plain.Ready = Ready
shown_stage (Plain.Out worker) = Out worker
shown_stage (Plain.Waiting request) = Waiting request
shown_stage (Plain.Doomed worker end) = Doomed worker end
shown_stage (Plain.Ended end) = Ended end
