-- The births of a run.
use Rattle.std.proofs.Common.{◌≡◌, List, [], ◌∷◌, Some, slice_get}
use Rattle.host_port.specs.declared.start.Start.{Start}
use Rattle.world_rules.specs.declared.life.Birth.{Birth}
use Rattle.world_rules.specs.declared.life.Birth.TheVariants.{Born, Refused}
use Rattle.lunatic_cli.specs.Headline.{FirstIsBornWith}

pub first-is-born : (births : List Birth) (start : Start) → slice_get births 0 ≡ Some (Born start) → FirstIsBornWith start births
first-is-born [] start is = absurd (cc)
first-is-born (Born first ∷ births) start is = let same : Some (Born first) ≡ Some (Born start) = is in cc
first-is-born (Refused reply ∷ births) start is = let same : Some (Refused reply) ≡ Some (Born start) = is in absurd (cc)
