use Rattle.world_rules.specs.Mail.{tags_in}
use Rattle.plain_world.proofs.WantedTags.{IsPassed}
use Rattle.plain_world.proofs.wanted.first_wanted.Given as goal

abbrev pub invariant-loop-k : goal.invariant-loop-k
invariant-loop-k l = IsPassed (tags_in l.tags) l.mail l.k
