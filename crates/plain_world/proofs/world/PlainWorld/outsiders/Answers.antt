use Rattle.std.proofs.Common.{List, ℕ, Bool, subst, ◌∙◌, ap, ◌&&◌, nat_lt, nat_le, not, filter}
use Rattle.world_rules.specs.Part.{is_among}
use Rattle.world_rules.specs.Sound.{Rise}
use Rattle.world_rules.specs.World.{World, is_live}
use Rattle.plain_world.specs.Shown.{shown_world}
use Rattle.plain_world.proofs.Nearness.{outsiders_are}
use Rattle.plain_world.proofs.Rising.{all_taken}
use Rattle.plain_world.proofs.world.PlainWorld.outsiders.Goals as goal

pub returns : goal.returns
returns c =
    let w : World = shown_world c.args.self.now in
    let members : List ℕ = c.args.members.now in
    let near : List ℕ = c.as_slice-pid-items.result.now in
    let test : ℕ → Bool = λ pid. (nat_lt 0 pid && nat_le pid w.numbers_drawn) && (not (is_among members pid) && is_live (w.process pid).stage) in
    outsiders_are w members c.in_ok-near.near c.loop-pid.others.items (subst Rise c.as_slice-pid-items.ensures.same c.as_slice-pid-items.ensures.rising) c.in_ok-near.ensures
    (c.loop-pid.invariant
    ∙ ap (λ (xs : List ℕ). filter test xs) (all_taken near c.loop-pid.pid-index c.loop-pid-test.false c.loop-pid.auto.pid-index-end ∙ c.as_slice-pid-items.ensures.same))
