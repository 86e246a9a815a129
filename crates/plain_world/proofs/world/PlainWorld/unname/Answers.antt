use Rattle.std.proofs.Common.{ap, ◌∙◌, ℕ, List, Option, arith}
use Rattle.std.proofs.lemmas.List.{with_items_is}
use Rattle.world_rules.specs.Ends.{unless_process}
use Rattle.plain_world.specs.declared.world.PlainName.{PlainName}
use Rattle.plain_world.specs.Shown.{named_in, shown_world}
use Rattle.plain_world.proofs.world.PlainWorld.unname.Goals as goal

pub returns : goal.returns
returns c =
    ap (λ (f : List ℕ → Option ℕ). record (shown_world c.args.self.now) { names = f })
    (ap named_in (with_items_is c.args.self.now.names c.forget.new.names
    (grind (arith, c.forget.auto.names, c.args.self.now.names.ok.0)))
    ∙ c.forget.ensures
    ∙ ap {B = List ℕ → Option ℕ} (λ (names : List PlainName). λ (name : List ℕ). unless_process c.args.pid (named_in names name))
    c.deref_mut.ensures.value)
