use Rattle.std.proofs.Common.{refl}
use Rattle.module_writer.proofs.Appending.{appends_nothing, appends_as, appends_at}
use Rattle.module_writer.proofs.sections.write_start.Goals as goal

pub returns-in-None : goal.returns-in-None
returns-in-None c = appends_at _ _ _ _ _ _ c.in-None.is (appends_nothing _ _ _ _ refl refl)

pub returns-in_ok-write_function-in-Some : goal.returns-in_ok-write_function-in-Some
returns-in_ok-write_function-in-Some c =
    appends_at _ _ _ _ _ _ c.in-Some.is (appends_as _ _ _ _ _ _ _ _ c.in_ok-write_function-in-Some.ensures (λ s h. h) refl)
