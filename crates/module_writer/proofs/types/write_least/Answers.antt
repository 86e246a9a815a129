use Rattle.std.proofs.Common.{ℕ, List, ◌++◌, ap, arith}
use Rattle.module_writer.proofs.Appending.{pushed, appends_both}
use Rattle.module_writer.proofs.types.write_least.Goals as goal

pub returns : goal.returns
returns c =
    appends_both _ _ _ _ _ _ _ _ _ _ _ _ (pushed _ _ _ c.in_ok-push.ensures.items) c.in_ok-write_u32.ensures
    (λ s t b h. (t, h, ap (λ (l : List ℕ). l ++ t) b)) (omega arith)
