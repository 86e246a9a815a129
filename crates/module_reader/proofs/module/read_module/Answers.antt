use Rattle.std.proofs.Common.{◌≡◌, ◌++◌, ℕ, List, Some, ap, arith, sym, subst, ◌∙◌}
use Rattle.std.proofs.lemmas.Slice.Eq.{strip_prefix_is}
use Rattle.std.proofs.lemmas.Bool.Decides.{Decides-eqb}
use Rattle.std.proofs.lemmas.Result.{err_from_is_err_and}
use Rattle.wasm_form.specs.Modules.{Spells}
use Rattle.wasm_form.specs.declared.parts.Parts.{Parts}
use Rattle.body_reader.proofs.Pieces.{refused_with}
use Rattle.module_reader.proofs.Octets.{octets}
use Rattle.module_reader.proofs.SectionsSeen.{whole_module, unequal, in_module}
use Rattle.module_reader.proofs.module.read_module.Goals as goal

pub of_spelled-requires : goal.of_spelled-requires
of_spelled-requires c =
    let whole = strip_prefix_is Decides-eqb c.args.bytes.now c.as_slice.result.now (Some c.in-Some.sections) c.in-Some.ensures.cases in
    let read = whole_module _ _ _ (whole ∙ ap (λ (l : List ℕ). l ++ c.in-Some.sections.now) c.as_slice.ensures) (omega (arith, c.len.ensures, c.len-2.ensures, c.if-len.false)) c.in_ok-parts.ensures in
    record { spelled = record { bytes = c.args.bytes.now; octets = octets c.args.bytes.now c.type_inv.bytes; spelled = read.0 } }

pub returns : goal.returns
returns c =
    let whole = strip_prefix_is Decides-eqb c.args.bytes.now c.as_slice.result.now (Some c.in-Some.sections) c.in-Some.ensures.cases in
    let read = whole_module _ _ _ (whole ∙ ap (λ (l : List ℕ). l ++ c.in-Some.sections.now) c.as_slice.ensures) (omega (arith, c.len.ensures, c.len-2.ensures, c.if-len.false)) c.in_ok-parts.ensures in
    let Reads : Parts → Type 0 = λ m. Spells c.args.bytes.now m × ((w : Parts) → Spells c.args.bytes.now w → w ≡ m) in
    subst Reads (sym c.of_spelled.ensures.is) read

pub returns-then-len : goal.returns-then-len
returns-then-len c m =
    let whole = strip_prefix_is Decides-eqb c.args.bytes.now c.as_slice.result.now (Some c.in-Some.sections) c.in-Some.ensures.cases in
    unequal _ _ _ (whole ∙ ap (λ (l : List ℕ). l ++ c.in-Some.sections.now) c.as_slice.ensures) (λ e. omega (arith, e, c.len.ensures, c.len-2.ensures, c.if-len.true)) c.in_ok-parts.ensures.1

pub returns-in_err-parts : goal.returns-in_err-parts
returns-in_err-parts c =
    let p = err_from_is_err_and c.from_residual.result c.from_residual.ensures.1 in
    let whole = strip_prefix_is Decides-eqb c.args.bytes.now c.as_slice.result.now (Some c.in-Some.sections) c.in-Some.ensures.cases in
    refused_with _ _ _ _ _ p.1 p.2 (λ m v h. c.in_err-parts.ensures m v (in_module _ _ v (whole ∙ ap (λ (l : List ℕ). l ++ c.in-Some.sections.now) c.as_slice.ensures) h))
