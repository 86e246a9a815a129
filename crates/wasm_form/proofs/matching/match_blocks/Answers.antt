use Rattle.std.proofs.Common.{◌≡◌, sym, ◌∙◌, Err}
use Rattle.std.proofs.lemmas.List.{nil_from_length}
use Rattle.std.proofs.lemmas.Result.{err_from_is_err_and}
use Rattle.wasm_form.specs.declared.fault.PartsFault.TheVariants.{Unmatched}
use Rattle.wasm_form.proofs.Taken.{matched, no_step, no_whole}
use Rattle.wasm_form.proofs.matching.match_blocks.Goals as goal

pub returns-clause-ok : goal.returns-clause-ok
returns-clause-ok c =
    let h = c.loop-instr.invariant.after in
    matched _ _ _ h.0 _ _ _ _ h.1 (nil_from_length _ c.in_default.ensures.cases) h.2 (sym c.is_whole.ensures ∙ c.if-not-is_whole.false) (c.from_vec.ensures ∙ c.reverse.ensures.items)

pub returns-in_err-step-clause-unmatched : goal.returns-in_err-step-clause-unmatched
returns-in_err-step-clause-unmatched c x =
    let h = c.loop-instr.invariant.after in
    let p = err_from_is_err_and c.from_residual.result c.from_residual.ensures.1 in
    let same : Err p.0 ≡ Err Unmatched = sym p.1 ∙ x in
    let fault : c.in_err-step.field-0.0 ≡ Unmatched = cc (p.2, same) in
    no_step _ _ _ _ h.0 _ _ h.1 c.in-Some.ensures.cases.0 h.2 (c.in_err-step.ensures fault)

pub returns-then-not-is_whole-clause-unmatched : goal.returns-then-not-is_whole-clause-unmatched
returns-then-not-is_whole-clause-unmatched c x =
    let h = c.loop-instr.invariant.after in
    no_whole _ _ _ h.0 _ h.1 (nil_from_length _ c.in_default.ensures.cases) h.2 (sym c.is_whole.ensures ∙ c.if-not-is_whole.true)
