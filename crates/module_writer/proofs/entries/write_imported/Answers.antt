use Rattle.std.proofs.Common.{ℕ, List, ◌++◌, refl, ap}
use Rattle.module_writer.proofs.Appending.{pushed, appends_both, appends_at}
use Rattle.module_writer.proofs.entries.write_imported.Goals as goal

pub returns-in_ok-write_u32-in-Function : goal.returns-in_ok-write_u32-in-Function
returns-in_ok-write_u32-in-Function c =
    appends_at _ _ _ _ _ _ c.in-Function.is
    (appends_both _ _ _ _ _ _ _ _ _ _ _ _ (pushed _ _ _ c.in_ok-push-in-Function.ensures.items) c.in_ok-write_u32-in-Function.ensures
    (λ s t b h. (t, h, ap (λ (l : List ℕ). l ++ t) b)) refl)

pub returns-in_ok-write_table_type-in-Table : goal.returns-in_ok-write_table_type-in-Table
returns-in_ok-write_table_type-in-Table c =
    appends_at _ _ _ _ _ _ c.in-Table.is
    (appends_both _ _ _ _ _ _ _ _ _ _ _ _ (pushed _ _ _ c.in_ok-push-in-Table.ensures.items) c.in_ok-write_table_type-in-Table.ensures
    (λ s t b h. (t, h, ap (λ (l : List ℕ). l ++ t) b)) refl)

pub returns-in_ok-write_limits-in-Memory : goal.returns-in_ok-write_limits-in-Memory
returns-in_ok-write_limits-in-Memory c =
    appends_at _ _ _ _ _ _ c.in-Memory.is
    (appends_both _ _ _ _ _ _ _ _ _ _ _ _ (pushed _ _ _ c.in_ok-push-in-Memory.ensures.items) c.in_ok-write_limits-in-Memory.ensures
    (λ s t b h. (t, h, ap (λ (l : List ℕ). l ++ t) b)) refl)

pub returns-in_ok-write_global_type-in-Global : goal.returns-in_ok-write_global_type-in-Global
returns-in_ok-write_global_type-in-Global c =
    appends_at _ _ _ _ _ _ c.in-Global.is
    (appends_both _ _ _ _ _ _ _ _ _ _ _ _ (pushed _ _ _ c.in_ok-push-in-Global.ensures.items) c.in_ok-write_global_type-in-Global.ensures
    (λ s t b h. (t, h, ap (λ (l : List ℕ). l ++ t) b)) refl)
