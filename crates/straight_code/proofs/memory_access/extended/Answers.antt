use Rattle.std.proofs.Common.{ℕ, ◌∙◌, ap, sym, w64, SFits, rules}
use Rattle.std.proofs.lemmas.Int.{to_z-of_z}
use Rattle.wasm_ops.specs.Integers.{unsigned}
use Rattle.straight_code.specs.Loads.{number_loaded}
use Rattle.straight_code.proofs.memory_access.extended.Goals as goal

pub returns-in-44 : goal.returns-in-44
returns-in-44 c =
    let fit : SFits w64 c.signed_8.result = search rules in
    let same = to_z-of_z w64 c.signed_8.result fit in
    c.low_32.ensures ∙ ap (unsigned 32) (same ∙ c.signed_8.ensures) ∙ sym (ap (λ (k : ℕ). number_loaded k c.args.number) c.in-44.is)

pub returns-in-46 : goal.returns-in-46
returns-in-46 c =
    let fit : SFits w64 c.signed_16.result = search rules in
    let same = to_z-of_z w64 c.signed_16.result fit in
    c.low_32-in-46.ensures ∙ ap (unsigned 32) (same ∙ c.signed_16.ensures) ∙ sym (ap (λ (k : ℕ). number_loaded k c.args.number) c.in-46.is)

pub returns-in-48 : goal.returns-in-48
returns-in-48 c =
    let fit : SFits w64 c.signed_8-in-48.result = search rules in
    let same = to_z-of_z w64 c.signed_8-in-48.result fit in
    c.low_64.ensures ∙ ap (unsigned 64) (same ∙ c.signed_8-in-48.ensures) ∙ sym (ap (λ (k : ℕ). number_loaded k c.args.number) c.in-48.is)

pub returns-in-50 : goal.returns-in-50
returns-in-50 c =
    let fit : SFits w64 c.signed_16-in-50.result = search rules in
    let same = to_z-of_z w64 c.signed_16-in-50.result fit in
    c.low_64-in-50.ensures ∙ ap (unsigned 64) (same ∙ c.signed_16-in-50.ensures) ∙ sym (ap (λ (k : ℕ). number_loaded k c.args.number) c.in-50.is)

pub returns-in-52 : goal.returns-in-52
returns-in-52 c =
    let fit : SFits w64 c.signed_32.result = search rules in
    let same = to_z-of_z w64 c.signed_32.result fit in
    c.low_64-in-52.ensures ∙ ap (unsigned 64) (same ∙ c.signed_32.ensures) ∙ sym (ap (λ (k : ℕ). number_loaded k c.args.number) c.in-52.is)
