use Rattle.std.proofs.Common.{ap, ℕ, List, Option}
use Rattle.std.proofs.lemmas.Result.{on_ok_weaker}
use Rattle.plain_world.specs.Shown.{shown_world}
use Rattle.plain_world.proofs.world.PlainWorld.set_name.Goals as goal

pub returns : goal.returns
returns c =
    on_ok_weaker c.set_named.result
    (λ is. ap (λ (f : List ℕ → Option ℕ). record (shown_world c.args.self.now) { names = f }) is) c.set_named.ensures
