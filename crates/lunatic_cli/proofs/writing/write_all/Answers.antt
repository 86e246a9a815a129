use Rattle.lunatic_cli.proofs.Fronts.{front_goes_on, some-stayed}
use Rattle.lunatic_cli.proofs.writing.write_all.Goals as goal

pub loop-done-preserved : goal.loop-done-preserved
loop-done-preserved g c =
    front_goes_on _ _ _ _ _ _ _ _ _ c.loop-done.invariant c.in-Ok.ensures.taken c.in-Ok.ensures.faults.later
    (some-stayed _ _ c.in-Ok.count _ c.in-Ok.ensures.faults.only c.if-count-eq0.false)
