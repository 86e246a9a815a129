use Rattle.std.proofs.Common.{List, ℕ, Bool, ◌∙◌, filter, ap}
use Rattle.plain_world.proofs.Rising.{all_taken, filter_within}
use Rattle.plain_world.proofs.Members.{live_there}
use Rattle.world_rules.specs.World.{World, is_live, up_to}
use Rattle.world_rules.specs.Touches.{is_there}
use Rattle.plain_world.specs.Shown.{shown_world}
use Rattle.plain_world.proofs.world.PlainWorld.live_processes.Goals as goal

pub returns : goal.returns
returns c =
    let w : World = shown_world c.args.self.now in
    let test : ℕ → Bool = λ pid. is_live (w.process pid).stage in
    c.loop-pid.invariant
    ∙ ap (λ (xs : List ℕ). filter test xs)
    (all_taken c.deref-pid-items.result.now c.loop-pid.pid-index c.loop-pid-test.false c.loop-pid.auto.pid-index-end
    ∙ c.deref-pid-items.ensures.value
    ∙ c.in_ok-unended.ensures)
    ∙ filter_within (λ pid. is_there (w.process pid).stage) test (up_to w.numbers_drawn) (λ q e. live_there (w.process q).stage e)
