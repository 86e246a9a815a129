use Rattle.std.proofs.Common.{◌≡◌, List, true, sym, subst, ◌∙◌, ap, take}
use Rattle.std.specs.Prelude.{ℕ, min, max, is_some}
use Rattle.std.proofs.lemmas.List.{take_more}
use Rattle.plain_world.specs.declared.world.PlainLink.{PlainLink}
use Rattle.plain_world.specs.Shown.{tag_in}
use Rattle.plain_world.proofs.Nearness.{NearBy, near_more}
use Rattle.plain_world.proofs.Rising.{all_taken}
use Rattle.plain_world.proofs.world.PlainWorld.neighbours.Goals as goal

pub loop-link-preserved : goal.loop-link-preserved
loop-link-preserved c =
    let links : List PlainLink = c.deref-link-items.result.now in
    subst (λ (some : List PlainLink). NearBy c.args.members.now some c.add_ends.new.near) (sym (take_more links c.loop-link.link-index _ c.loop-link-test.true))
    (near_more c.args.members.now c.loop-link.near c.add_ends.new.near (take c.loop-link.link-index links) _ c.loop-link.invariant c.in_ok-add_ends.ensures)

pub returns : goal.returns
returns c =
    let links : List PlainLink = c.deref-link-items.result.now in
    subst (λ (some : List PlainLink). NearBy c.args.members.now some c.loop-link.near)
    (all_taken links c.loop-link.link-index c.loop-link-test.false c.loop-link.auto.link-index-end ∙ c.deref-link-items.ensures.value)
    c.loop-link.invariant
