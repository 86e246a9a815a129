use Rattle.std.proofs.Common.{◌≡◌, List, ℕ, inl, inr, true, false, refl, sym, subst, ap, ◌∙◌}
use Rattle.world_rules.specs.Part.{is_among}
use Rattle.world_rules.specs.World.{is_away}
use Rattle.plain_world.specs.Shown.{shown_world}
use Rattle.plain_world.proofs.Members.{away_there, taken_more, never_true}
use Rattle.plain_world.proofs.Rising.{all_taken}
use Rattle.plain_world.proofs.world.PlainWorld.is_nobody_away.Goals as goal

pub loop-pid-preserved : goal.loop-pid-preserved
loop-pid-preserved c q there =
    let w = shown_world c.args.self.now in
    elim (taken_more c.watched-pid-items.result.now c.loop-pid.pid-index q c.loop-pid-test.true there) as (λ _. is_away (w.process q).stage ≡ false) [
      | inl earlier ↦ c.loop-pid.invariant q earlier
      | inr same ↦ ap (λ (n : ℕ). is_away (w.process n).stage) same ∙ c.if-not-is_home_or_none.ensures.0 refl
    ]

pub returns : goal.returns
returns c =
    let w = shown_world c.args.self.now in
    let items = c.watched-pid-items.result.now in (
      λ _ pid. never_true (is_away (w.process pid).stage)
          (λ away. c.loop-pid.invariant pid
          (subst (λ (xs : List ℕ). is_among xs pid ≡ true) (sym (all_taken items c.loop-pid.pid-index c.loop-pid-test.false c.loop-pid.auto.pid-index-end))
          (c.watched-pid-items.ensures pid (away_there (w.process pid).stage away)))),
      λ _. refl,
    )
