use Rattle.std.proofs.Common.{List, ℕ, ◌∙◌, ◌&&◌, nat_lt, nat_le, filter, ap, subst, sym, take, length, arith}
use Rattle.std.specs.Option.{option_to_list}
use Rattle.plain_world.proofs.Rising.{all_taken}
use Rattle.world_rules.specs.Sound.{Rise}
use Rattle.world_rules.specs.Touches.{is_there}
use Rattle.world_rules.specs.World.{up_to}
use Rattle.plain_world.specs.Population.{Population, is_made_ready, made_ready}
use Rattle.plain_world.specs.ShownProcess.{process_in}
use Rattle.plain_world.proofs.Watching.{woken_are}
use Rattle.plain_world.proofs.population.Population.made_ready.Goals as goal

pub returns : goal.returns
returns c =
    let a = c.self.inside in
    let all : Population = record { ready = a.ready.items; list = a.list.items } in
    let kept : Population → List ℕ → List ℕ = λ x xs. filter (λ pid. (nat_lt 0 pid && nat_le pid c.args.drawn) && is_made_ready x (option_to_list c.args.giver) pid) xs in
    c.loop-pid.invariant
    ∙ ap (λ (xs : List ℕ). kept c.args.self.now xs) (all_taken c.as_slice-pid-items.result.now c.loop-pid.pid-index c.loop-pid-test.false c.loop-pid.auto.pid-index-end)
    ∙ ap (λ (x : Population). kept x c.as_slice-pid-items.result.now) (sym c.self.view_is)
    ∙ ap (λ (xs : List ℕ). kept all xs) c.as_slice-pid-items.ensures.same
    ∙ woken_are all a.unended a.woken (option_to_list c.args.giver) c.args.drawn c.self.invariant (subst Rise c.as_slice-pid-items.ensures.same c.as_slice-pid-items.ensures.rising)
    ∙ ap (λ (x : Population). made_ready x (option_to_list c.args.giver) c.args.drawn) c.self.view_is
