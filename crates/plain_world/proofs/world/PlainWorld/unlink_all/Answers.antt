use Rattle.std.proofs.Common.{ap, ℕ, Option}
use Rattle.plain_world.specs.Shown.{shown_world}
use Rattle.plain_world.proofs.world.PlainWorld.unlink_all.Goals as goal

pub returns : goal.returns
returns c = ap (λ (f : ℕ → ℕ → Option ℕ). record (shown_world c.args.self.now) { links = f }) c.cut_links.ensures
