use Rattle.std.proofs.Common.{ℕ, not, eqb, ap, sym, ◌∙◌, subst, rules}
use Rattle.std.specs.FinMap.{remove}
use Rattle.std.proofs.lemmas.Fn.{filter_same}
use Rattle.run_queue.proofs.Entries.{map_of, Once, once_filter, filter_is_remove}
use Rattle.run_queue.proofs.Dues.{before_filter}
use Rattle.run_queue.proofs.deadlines.Deadlines.clear.Goals as goal

pub invariant_of-self : goal.invariant_of-self
invariant_of-self c =
    let kept = filter_same _ (λ (e : ℕ × ℕ). not (eqb e.0 c.args.pid)) _ (λ x b f' k. search rules)
    c.self.inside.entries.items c.retain.new.self.items c.retain.ensures.filtered in (
      subst Once (sym kept) (once_filter c.self.inside.entries.items c.args.pid c.self.invariant.0),
      before_filter c.self.inside.entries.items c.retain.new.self.items (λ (e : ℕ × ℕ). not (eqb e.0 c.args.pid))
          c.self.inside.earliest kept c.self.invariant.1,
    )

pub returns-clause-deadlines : goal.returns-clause-deadlines
returns-clause-deadlines c =
    let kept = filter_same _ (λ (e : ℕ × ℕ). not (eqb e.0 c.args.pid)) _ (λ x b f' k. search rules)
    c.self.inside.entries.items c.retain.new.self.items c.retain.ensures.filtered in
    ap map_of kept
    ∙ filter_is_remove c.self.inside.entries.items c.args.pid
    ∙ ap (λ places. remove places.deadlines c.args.pid) c.self.view_is
