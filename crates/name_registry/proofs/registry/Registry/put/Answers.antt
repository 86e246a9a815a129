use Rattle.std.proofs.Common.{List, ℕ, ap, sym, ◌∙◌, subst, arith}
use Rattle.std.specs.FinMap.{insert}
use Rattle.name_registry.specs.Names.{Names}
use Rattle.name_registry.specs.Counts.{AreCounts}
use Rattle.name_registry.proofs.NameLemmas.{Key, names_of, insert_is}
use Rattle.name_registry.proofs.NameCounts.{names_for-le, counts_put}
use Rattle.name_registry.proofs.registry.Registry.put.Goals as goal

pub one_more-requires : goal.one_more-requires
one_more-requires c =
    let few = names_for-le c.args.pid c.self.inside.numbers.entries in
    omega (arith, c.self.invariant.1 c.args.pid, few, c.len.ensures.len, c.len.ensures.small)

pub invariant_of-self-in-Ok : goal.invariant_of-self-in-Ok
invariant_of-self-in-Ok c = (
  c.in-Ok.ensures.ordered,
  subst (λ (es : List (Key × ℕ)). AreCounts c.one_less.new.counts es) (sym c.in-Ok.ensures.entries)
      (counts_put c.self.inside.counts c.self.inside.numbers.entries c.self.invariant.1 c.one_more.new.counts
      c.one_less.new.counts c.in_ok-name.name c.args.pid c.in-Ok.earlier c.self.invariant.0 c.in_ok-one_more.ensures.ok
      c.one_less.ensures c.in-Ok.ensures.old),
)

pub returns-in-Ok-clause-ok : goal.returns-in-Ok-clause-ok
returns-in-Ok-clause-ok c =
    ap names_of c.in-Ok.ensures.entries
    ∙ insert_is c.in_ok-name.name c.args.pid c.self.inside.numbers.entries
    ∙ ap (λ (name : List ℕ). insert (names_of c.self.inside.numbers.entries) name c.args.pid) c.in_ok-name.ensures.items
    ∙ ap (λ (m : Names). insert m c.args.name.now c.args.pid) c.self.view_is
