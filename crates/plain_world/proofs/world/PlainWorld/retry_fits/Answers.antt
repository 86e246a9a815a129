use Rattle.std.proofs.Common.{refl, sym, ◌∙◌}
use Rattle.std.proofs.lemmas.Result.{IfOk-weaker}
use Rattle.plain_world.specs.Give.{shown_give}
use Rattle.plain_world.specs.ShownProcess.{shown_process}
use Rattle.plain_world.specs.Shown.{shown_world}
use Rattle.plain_world.proofs.AllowedTurns.{empty_of, retry_again}
use Rattle.plain_world.proofs.world.PlainWorld.retry_fits.Goals as goal

pub returns-in-Again : goal.returns-in-Again
returns-in-Again c =
    let process = shown_process c.args.process.now in
    IfOk-weaker c.beside_fits.result _ _
    (λ fits beside. retry_again c.args.births.now (shown_world c.args.self.now) process (shown_give c.args.give.now)
    c.args.request.now fits (empty_of c.args.give.now.calls.now (sym c.is_empty.ensures ∙ c.if-not-is_empty.false))
    c.if-give-process.false c.in-Again.is (beside process refl refl)) c.beside_fits.ensures
