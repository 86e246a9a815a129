use Rattle.std.proofs.Common.{ℕ, List, ◌++◌, refl, ap}
use Rattle.module_writer.proofs.Appending.{pushed, appends_three}
use Rattle.module_writer.proofs.types.FuncTypePart.write.Goals as goal

pub write_vector-requires : goal.write_vector-requires
write_vector-requires c = record { bytes = c.requires.spells.0; spells = c.requires.spells.2 }

pub write_vector-requires-2 : goal.write_vector-requires-2
write_vector-requires-2 c = record { bytes = c.requires.spells.1; spells = c.requires.spells.3 }

pub returns : goal.returns
returns c =
    appends_three _ _ _ _ _ _ _ _ _ _ _ _ _ _ _ _ (pushed _ _ _ c.in_ok-push.ensures.items) c.in_ok-write_vector.ensures c.in_ok-write_vector-2.ensures
    (λ s t u b h k. (t, u, h, k, ap (λ (l : List ℕ). l ++ (t ++ u)) b)) refl
