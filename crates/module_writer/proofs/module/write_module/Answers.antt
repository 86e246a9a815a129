use Rattle.std.proofs.Common.{◌≡◌, ap, subst, sym, arith}
use Rattle.wasm_form.specs.Modules.{IsSpelled}
use Rattle.wasm_form.specs.Least.{least_module}
use Rattle.wasm_form.specs.declared.parts.Parts.{Parts}
use Rattle.module_writer.specs.Shortest.{IsShortest}
use Rattle.module_writer.proofs.Sectioned.{early, late}
use Rattle.module_writer.proofs.Written.{module_written}
use Rattle.module_writer.proofs.module.write_module.Goals.{in_default-via-in-Some+else-length-le-MOST_BYTES, in_default-via-in_default}
use Rattle.module_writer.proofs.module.write_module.Goals as goal

pub write_early-requires : goal.write_early-requires
write_early-requires c =
    rw c.parts-parts.ensures.is (record {
      sizes = c.least_contents.ensures.sizes _ _ c.parts-parts.ensures.spelled.spelled;
      spelled = early _ _ c.parts-parts.ensures.spelled.spelled;
    })

pub write_late-requires : goal.write_late-requires
write_late-requires c =
    rw c.parts-parts.ensures.is (record {
      sizes = c.least_contents.ensures.sizes _ _ c.parts-parts.ensures.spelled.spelled;
      spelled = late _ _ c.parts-parts.ensures.spelled.spelled;
    })

pub returns-in_default-clause-too_large : goal.returns-in_default-clause-too_large
returns-in_default-clause-too_large c =
    let same : least_module c.parts-parts.result.now ≡ least_module c.args.module.now = ap least_module c.parts-parts.ensures.is in
    elim c.in_default.branch [
      | in_default-via-in-Some+else-length-le-MOST_BYTES w ↦ λ e bytes h. omega (arith, same, w.in-Some.ensures.0, c.least_lengths.ensures.whole c.args.module.now bytes h)
      | in_default-via-in_default w ↦ λ e bytes h. omega (arith, same, w.in_default.ensures, c.least_lengths.ensures.whole c.args.module.now bytes h)
    ]

pub returns-clause-shortest : goal.returns-clause-shortest
returns-clause-shortest c =
    let is : c.parts-parts.result.now ≡ c.args.module.now = c.parts-parts.ensures.is in
    let whole =
    module_written _ _ _ _ _ (subst IsSpelled (sym is) c.parts-parts.ensures.spelled) c.in_ok-written.ensures.items c.in_ok-extend_from_slice.ensures.items
    c.in_ok-write_early.ensures c.in_ok-write_late.ensures (λ s h. c.least_lengths.ensures.whole c.parts-parts.result.now s h) in
    subst (λ (m : Parts). IsShortest c.write_late.new.out.items m) is whole.0
