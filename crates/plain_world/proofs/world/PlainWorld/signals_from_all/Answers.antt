use Rattle.std.proofs.Common.{List, ℕ, ◌∙◌, ◌++◌, ap, refl, slice_index}
use Rattle.world_rules.specs.Links.{Told, signals_from}
use Rattle.plain_world.specs.Fall.{signals_to}
use Rattle.plain_world.specs.Shown.{shown_world}
use Rattle.plain_world.proofs.Falling.{members_more}
use Rattle.plain_world.proofs.Rising.{among_at}
use Rattle.plain_world.proofs.world.PlainWorld.signals_from_all.Goals as goal

pub loop-member-preserved : goal.loop-member-preserved
loop-member-preserved c =
    let w = shown_world c.args.self.now in
    let members : List ℕ = c.args.members.now in
    let member : ℕ = slice_index members c.loop-member.member-index in
    members_more (signals_from w members) members c.loop-member.member-index c.loop-member.told.items c.push_signals.new.told.items c.loop-member-test.true
    c.loop-member.invariant
    (c.in_ok-push_signals.ensures
    ∙ ap (λ (pids : List ℕ). c.loop-member.told.items ++ signals_to w member pids) c.deref.ensures.value
    ∙ ap (λ (told : List Told). c.loop-member.told.items ++ told)
    (c.in_ok-outsiders.ensures member (among_at members c.loop-member.member-index member c.loop-member-test.true refl)))
