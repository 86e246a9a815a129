use Rattle.std.proofs.Common.{ap, sym, ◌∙◌}
use Rattle.std.specs.FinMap.{get}
use Rattle.name_registry.specs.Names.{Names}
use Rattle.name_registry.proofs.NameLemmas.{lookup_is_find, get-names_of}
use Rattle.name_registry.proofs.registry.Registry.get.Goals as goal

pub returns : goal.returns
returns c =
    c.copied.ensures
    ∙ c.get.ensures.value
    ∙ lookup_is_find c.args.name.now c.self.inside.numbers.entries
    ∙ sym (get-names_of c.self.inside.numbers.entries c.args.name.now)
    ∙ ap (λ (m : Names). get m c.args.name.now) c.self.view_is
