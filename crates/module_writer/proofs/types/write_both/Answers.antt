use Rattle.std.proofs.Common.{ℕ, List, ◌++◌, refl, ap}
use Rattle.module_writer.proofs.Appending.{pushed, appends_three}
use Rattle.module_writer.proofs.types.write_both.Goals as goal

pub returns : goal.returns
returns c =
    appends_three _ _ _ _ _ _ _ _ _ _ _ _ _ _ _ _ (pushed _ _ _ c.in_ok-push.ensures.items) c.in_ok-write_u32.ensures c.in_ok-write_u32-2.ensures
    (λ s t u b h k. (t, u, h, k, ap (λ (l : List ℕ). l ++ (t ++ u)) b)) refl
