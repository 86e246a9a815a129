use Rattle.std.proofs.Common.{◌≡◌, ℕ, List, not, eqb, Option, unwrap_or, ap, sym, ◌∙◌, subst, rules}
use Rattle.std.specs.FinMap.{get}
use Rattle.std.proofs.lemmas.Map.Made.{filter_same_pairs}
use Rattle.name_registry.specs.Names.{Names, unless}
use Rattle.name_registry.specs.Counts.{AreCounts, count_of}
use Rattle.name_registry.proofs.NameLemmas.{Key, names_of, get-names_of, filter_is}
use Rattle.name_registry.proofs.NameCounts.{counts_filter, no_names}
use Rattle.name_registry.proofs.registry.Registry.remove_process.Goals as goal

pub invariant_of-self : goal.invariant_of-self
invariant_of-self c =
    let kept = filter_same_pairs _ (λ (e : Key × ℕ). not (eqb e.1 c.args.pid)) _ (λ k v b w f' t. search rules)
    c.self.inside.numbers.entries c.retain.new.self.entries c.retain.ensures.filtered in (
      c.retain.ensures.ordered,
      subst (λ (es : List (Key × ℕ)). AreCounts c.remove.new.self es) (sym kept)
          (counts_filter c.self.inside.counts c.remove.new.self c.self.inside.numbers.entries c.args.pid
          c.self.invariant.1 c.remove.ensures.updates),
    )

pub returns-in-Some : goal.returns-in-Some
returns-in-Some c =
    let kept = filter_same_pairs _ (λ (e : Key × ℕ). not (eqb e.1 c.args.pid)) _ (λ k v b w f' t. search rules)
    c.self.inside.numbers.entries c.retain.new.self.entries c.retain.ensures.filtered in
    λ name.
    ap (λ (es : List (Key × ℕ)). get (names_of es) name) kept
    ∙ filter_is c.args.pid c.self.inside.numbers.entries c.self.invariant.0 name
    ∙ ap (λ (m : Names). unless c.args.pid (get m name)) c.self.view_is

pub returns-in-None : goal.returns-in-None
returns-in-None c =
    let zero : count_of c.self.inside.counts c.args.pid ≡ 0 =
    ap (λ (o : Option ℕ). unwrap_or o 0) (sym c.remove.ensures.value ∙ c.in-None.is) in
    let none = sym (c.self.invariant.1 c.args.pid) ∙ zero in
    λ name.
    get-names_of c.self.inside.numbers.entries name
    ∙ no_names c.args.pid c.self.inside.numbers.entries none name
    ∙ ap (unless c.args.pid) (sym (get-names_of c.self.inside.numbers.entries name))
    ∙ ap (λ (m : Names). unless c.args.pid (get m name)) c.self.view_is
