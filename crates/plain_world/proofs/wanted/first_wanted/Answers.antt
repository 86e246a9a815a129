use Rattle.std.proofs.Common.{ℕ, ap, sym, ◌∙◌}
use Rattle.world_rules.specs.Mail.{tags_in, is_wanted}
use Rattle.plain_world.proofs.WantedTags.{found-here}
use Rattle.plain_world.proofs.wanted.first_wanted.Goals as goal

pub returns-then-is_wanted_by : goal.returns-then-is_wanted_by
returns-then-is_wanted_by c =
    found-here (tags_in c.args.tags.now) c.args.mail.now c.loop-k.k c.index-mail-k.result c.loop-k-test.true c.index-mail-k.is (ap (λ (t : ℕ). is_wanted (tags_in c.args.tags.now) t) (sym c.tag_of.ensures) ∙ sym c.if-is_wanted_by.ensures) c.loop-k.invariant
