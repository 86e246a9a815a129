use Rattle.std.proofs.Common.{◌≡◌, ◌≢◌, ◌<◌, length, get_or, Err, arith, ap, sym, ◌∙◌}
use Rattle.std.proofs.lemmas.List.{get_or-set_other}
use Rattle.std.proofs.lemmas.List.Elements.{AllWithin-more_set}
use Rattle.std.proofs.lemmas.Result.{err_from_is_err_and}
use Rattle.wasm_form.specs.Matching.{IsTree}
use Rattle.wasm_form.specs.declared.fault.PartsFault.TheVariants.{Unmatched}
use Rattle.wasm_form.proofs.Rematching.{same_at, same_length, set_same}
use Rattle.wasm_form.proofs.matched.match_each.Goals as goal

pub returns-in_err-match_anew-clause-unmatched : goal.returns-in_err-match_anew-clause-unmatched
returns-in_err-match_anew-clause-unmatched g c x xs same trees =
    let bare = g.T.HasExpr.bare in
    let i = c.loop-i.i in
    let item = c.index-items-i.result in
    let p = err_from_is_err_and c.from_residual.result c.from_residual.ensures.1 in
    let errs : Err p.0 ≡ Err Unmatched = sym p.1 ∙ x in
    let fault : c.in_err-match_anew.field-0.0 ≡ Unmatched = cc (p.2, errs) in
    let low : i < length c.args.items.now = omega arith in
    let long = same_length bare xs c.args.items.now same in
    let here = same_at bare xs c.args.items.now i item item same low in
    let is = c.loop-i.invariant.rest i item (omega arith) in
    c.in_err-match_anew.ensures.unmatched (ap (λ e. Err e) fault) (get_or xs i item) (here ∙ sym (ap bare is)) (trees i item (omega (arith, low, long)))

pub loop-i-preserved : goal.loop-i-preserved
loop-i-preserved g c =
    let bare = g.T.HasExpr.bare in
    let items = c.loop-i.items in
    let i = c.loop-i.i in
    let item = c.index-items-i.result in
    let new = c.match_anew.new.self in
    let done = c.in_ok-match_anew.ensures.ok in
    let low : i < length items = omega arith in
    record {
      bare = set_same bare items i new item low done.0 ∙ c.loop-i.invariant.bare;
      rest = λ k d more. let other : k ≢ i = λ e. absurd (omega (arith, e, more)) in get_or-set_other items i k new d other ∙ c.loop-i.invariant.rest k d (omega (arith, more));
      done = AllWithin-more_set items i new low (λ y. IsTree (g.T.HasExpr.expr_of y)) c.loop-i.invariant.done done.1;
    }
