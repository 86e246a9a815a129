use Rattle.std.proofs.Common.{ℕ, List, ap, ◌∙◌}
use Rattle.std.proofs.lemmas.Result.{IfOk-equal}
use Rattle.world_rules.specs.Time.{all_timed_out, due_processes, ticked}
use Rattle.world_rules.specs.World.{World}
use Rattle.plain_world.specs.Shown.{shown_world}
use Rattle.plain_world.proofs.world.PlainWorld.tick.Goals as goal

pub returns : goal.returns
returns c =
    let there = shown_world c.set_time.new.self in
    IfOk-equal c.time_out_all.result (shown_world c.time_out_all.new.self) (all_timed_out there c.as_slice.result.now)
    (ticked (shown_world c.args.self.now) c.args.now) c.time_out_all.ensures
    (ap (λ (pids : List ℕ). all_timed_out there pids) (c.as_slice.ensures.value ∙ c.in_ok-due.ensures)
    ∙ ap (λ (v : World). all_timed_out v (due_processes v)) c.set_time.ensures)
