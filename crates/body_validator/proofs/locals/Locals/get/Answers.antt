use Rattle.std.proofs.Common.{sym}
use Rattle.body_validator.proofs.Runs.{found_local, no_local}
use Rattle.body_validator.proofs.locals.Locals.get.Goals as goal

pub returns-then-run-self : goal.returns-then-run-self
returns-then-run-self c =
    no_local c.args.self.now c.self.inside.params.now c.self.inside.runs.now c.self.inside.ends.items c.as_slice.result.now c.args.place c.run_of-run.result (sym c.self.view_is) c.as_slice.ensures.value
    c.self.invariant c.if-place-self.false c.if-run-self.true c.run_of-run.ensures.bound c.run_of-run.ensures.below

pub returns : goal.returns
returns c =
    found_local c.args.self.now c.self.inside.params.now c.self.inside.runs.now c.self.inside.ends.items c.as_slice.result.now c.args.place c.run_of-run.result (sym c.self.view_is) c.as_slice.ensures.value
    c.self.invariant c.if-place-self.false c.if-run-self.false c.run_of-run.ensures.below c.run_of-run.ensures.above
