use Rattle.std.proofs.Common.{◌≡◌, IsTrue, Err, List, All, length, refl, arith, ap, sym, subst, ◌∙◌}
use Rattle.std.proofs.lemmas.Result.{err_from_is_err_and}
use Rattle.wasm_form.specs.Spellable.{HasFewLocals}
use Rattle.wasm_form.specs.declared.body.Body.{Body}
use Rattle.wasm_form.specs.declared.fault.PartsFault.TheVariants.{Unmatched}
use Rattle.wasm_form.proofs.Spelled.{spelled}
use Rattle.wasm_form.proofs.Unspelled.{sizes, trees, few_locals, sizes_same, locals_same, counts_same, ranges_same}
use Rattle.wasm_form.proofs.module.Module.from_parts.Goals as goal

pub of_spelled-requires : goal.of_spelled-requires
of_spelled-requires c =
    let parts = c.args.parts in
    let made = c.in_ok-made.made in
    let same = sym c.in_ok-made.ensures.ok.0 in
    let counts : length parts.functions ≡ length parts.bodies = omega (arith, c.len.ensures, c.len-2.ensures, c.if-len.false) in
    let fits = c.if-not-have_sizes.ensures.yes refl in
    let given = subst (λ (l : List Body). All HasFewLocals l) c.as_slice.ensures (c.if-not-have_few_locals.ensures.0 refl) in
    let few = locals_same parts made same given in
    record {
      spelled = spelled made (counts_same parts made same counts) (sizes_same parts made same fits.0) (ranges_same parts made same fits.1) c.in_ok-made.ensures.ok.1 few;
    }

pub returns-then-not-have_few_locals-clause-unmatched : goal.returns-then-not-have_few_locals-clause-unmatched
returns-then-not-have_few_locals-clause-unmatched c _ m same bytes h =
    let few = locals_same m c.args.parts same (few_locals m bytes h) in
    let yes : IsTrue c.have_few_locals.result = c.have_few_locals.ensures.1 (subst (λ (l : List Body). All HasFewLocals l) (sym c.as_slice.ensures) few) in
    absurd (cc (yes, c.if-not-have_few_locals.true))

pub returns-then-not-have_sizes-clause-unmatched : goal.returns-then-not-have_sizes-clause-unmatched
returns-then-not-have_sizes-clause-unmatched c _ m same bytes h =
    let yes : IsTrue c.have_sizes.result = c.have_sizes.ensures.no (sizes_same m c.args.parts same (sizes m bytes h)) in
    absurd (cc (yes, c.if-not-have_sizes.true))

pub returns-in_err-made-clause-unmatched : goal.returns-in_err-made-clause-unmatched
returns-in_err-made-clause-unmatched c x m same bytes h =
    let p = err_from_is_err_and c.from_residual.result c.from_residual.ensures.1 in
    let errs : Err p.0 ≡ Err Unmatched = sym p.1 ∙ x in
    let fault : c.in_err-made.field-0.0 ≡ Unmatched = cc (p.2, errs) in
    c.in_err-made.ensures.unmatched (ap (λ e. Err e) fault) m same (trees m bytes h)
