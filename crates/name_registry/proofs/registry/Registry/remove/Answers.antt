use Rattle.std.proofs.Common.{ℕ, List, ap, sym, ◌∙◌, subst}
use Rattle.std.specs.BTreeMap.{is_at}
use Rattle.std.specs.FinMap.{remove}
use Rattle.name_registry.specs.Names.{Names}
use Rattle.name_registry.specs.Counts.{AreCounts}
use Rattle.name_registry.proofs.NameLemmas.{Key, order, names_of, remove_is}
use Rattle.name_registry.proofs.NameCounts.{counts_remove}
use Rattle.name_registry.proofs.registry.Registry.remove.Goals as goal

pub invariant_of-self : goal.invariant_of-self
invariant_of-self c = (
  c.remove-number.ensures.ordered,
  subst (λ (es : List (Key × ℕ)). AreCounts c.one_less.new.counts es) (sym c.remove-number.ensures.entries)
      (counts_remove c.self.inside.counts c.self.inside.numbers.entries c.self.invariant.1 c.one_less.new.counts
      (is_at (λ (k : Key). order c.args.name.now k.items)) c.remove-number.result c.one_less.ensures
      c.remove-number.ensures.value),
)

pub returns : goal.returns
returns c =
    ap names_of c.remove-number.ensures.entries
    ∙ remove_is c.args.name.now c.self.inside.numbers.entries c.self.invariant.0
    ∙ ap (λ (m : Names). remove m c.args.name.now) c.self.view_is
