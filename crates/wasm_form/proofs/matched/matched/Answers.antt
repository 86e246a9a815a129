use Rattle.std.proofs.Common.{◌≡◌, map, rules, arith, ap, sym, subst, ◌∙◌}
use Rattle.std.proofs.lemmas.List.{take_at}
use Rattle.std.specs.List.{All}
use Rattle.wasm_form.specs.Matching.{IsTree}
use Rattle.wasm_form.proofs.Rematching.{same_length}
use Rattle.wasm_form.proofs.matched.matched.Goals as goal

pub returns-clause-ok : goal.returns-clause-ok
returns-clause-ok g c =
    let made = c.in_ok-match_each.ensures.ok in
    let bare = g.T.HasExpr.bare in
    let from : c.as_mut_slice.result.now ≡ c.args.items = search rules in
    let long = same_length bare c.match_each.new.items c.as_mut_slice.result.now made.0 in
    let is : c.from_vec.result ≡ c.match_each.new.items =
    c.from_vec.ensures ∙ take_at c.match_each.new.items _ c.into_vec-items.result.len (omega (arith, long)) in (
      ap (λ l. map bare l) is ∙ made.0 ∙ ap (λ l. map bare l) from,
      subst (λ l. All (λ x. IsTree (g.T.HasExpr.expr_of x)) l) (sym is) made.1,
    )
