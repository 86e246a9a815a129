use Rattle.std.proofs.Common.{◌≡◌, List, ℕ, Bool, true, sym, subst, ◌∙◌, ap, ◌&&◌, ◌||◌, nat_lt, nat_le, filter}
use Rattle.world_rules.specs.Part.{is_among}
use Rattle.world_rules.specs.Sound.{Rise}
use Rattle.world_rules.specs.World.{World}
use Rattle.world_rules.specs.Links.{falls_with}
use Rattle.plain_world.specs.Fall.{AreNear}
use Rattle.plain_world.specs.Shown.{shown_world}
use Rattle.plain_world.proofs.Nearness.{spread_are}
use Rattle.plain_world.proofs.Rising.{all_taken}
use Rattle.plain_world.proofs.Watching.{or_left, or_right}
use Rattle.plain_world.proofs.world.PlainWorld.spread.Goals as goal

pub returns : goal.returns
returns c =
    let w : World = shown_world c.args.self.now in
    let members : List ℕ = c.args.members.now in
    let near : List ℕ = c.as_slice-pid-items.result.now in
    let added = c.in_ok-add_all.ensures in
    let test : ℕ → Bool = λ pid. (nat_lt 0 pid && nat_le pid w.numbers_drawn) && (is_among members pid || falls_with w members pid) in
    c.loop-pid.invariant
    ∙ ap (λ (xs : List ℕ). filter test xs) (all_taken near c.loop-pid.pid-index c.loop-pid-test.false c.loop-pid.auto.pid-index-end ∙ c.as_slice-pid-items.ensures.same)
    ∙ spread_are w members c.add_all.new.numbers (subst Rise c.as_slice-pid-items.ensures.same c.as_slice-pid-items.ensures.rising)
    (λ member pid there linked. added pid (or_left (is_among c.in_ok-near.near pid) (is_among members pid) (c.in_ok-near.ensures member pid there linked)))
    (λ pid there. added pid (or_right (is_among c.in_ok-near.near pid) (is_among members pid) there))
