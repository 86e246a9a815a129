use Rattle.std.specs.Prelude.{◌≡◌, List, Option, Some, None}
use Rattle.world_rules.specs.declared.entry.Entry.{Entry}
use Rattle.world_rules.specs.declared.life.Birth.{Birth}
use Rattle.world_rules.specs.World.{World}
use Rattle.world_rules.specs.Rules.{next}
use Rattle.world_rules.specs.Allowed.{Allowed}
use Rattle.plain_world.specs.declared.world.PlainWorld.{PlainWorld}
use Rattle.plain_world.specs.Shown.{shown_world}

-- the next world where the entry is allowed, and none where it isn't
abbrev pub IsApplied : List Birth → World → Entry → Option PlainWorld → Type 0
IsApplied births w entry None = Allowed None births w entry → ⊥
IsApplied births w entry (Some plain) =
    Allowed None births w entry × (shown_world plain ≡ next births w entry)
