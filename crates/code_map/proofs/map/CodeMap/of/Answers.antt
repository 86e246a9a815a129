use Rattle.std.proofs.Common.{◌≡◌, List, length, subst, sym, ap, ◌∙◌, arith, rules, vec_len}
use Rattle.std.specs.Prelude.{filter_map}
use Rattle.std.proofs.lemmas.Grind.{common_steps}
use Rattle.wasm_form.specs.declared.parts.Import.{Import}
use Rattle.wasm_form.specs.declared.parts.Parts.{Parts}
use Rattle.wasm_form.specs.Context.{function_of}
use Rattle.code_map.specs.Ready.{IsReady}
use Rattle.code_map.specs.Callees.{imported_of, AreClasses}
use Rattle.code_map.proofs.Ready.{ready}
use Rattle.code_map.proofs.Found.{made}
use Rattle.code_map.proofs.map.CodeMap.of.Goals as goal

pub classes_of-requires : goal.classes_of-requires
classes_of-requires c =
    let r : IsReady c.args.module.now = ready c.args.module.now c.requires.rules c.requires.locals c.requires.parameters c.parts-parts.ensures.spelled in
    let same : length c.as_slice-3.result.now ≡ length c.args.module.now.types = ap length (c.as_slice-3.ensures ∙ ap (λ (p : Parts). p.types) c.parts-parts.ensures.is) in
    omega (arith, r.types, same)

pub callees-requires : goal.callees-requires
callees-requires c =
    let r : IsReady c.args.module.now = ready c.args.module.now c.requires.rules c.requires.locals c.requires.parameters c.parts-parts.ensures.spelled in
    let count : vec_len c.in_ok-functions.functions ≡ length c.in_ok-functions.functions.items = first_of (search rules, grind (arith, common_steps)) in
    let imported : c.len-imported.result ≡ length (imported_of c.parts-parts.result.now) =
    c.len-imported.ensures ∙ count ∙ ap length (c.in_ok-functions.ensures ∙ ap (λ (l : List Import). filter_map (λ (i : Import). function_of i.what) l) c.as_slice.ensures)
    in
    record {
      ready = subst (λ (p : Parts). IsReady p) (sym c.parts-parts.ensures.is) r;
      functions = made c.parts-parts.result.now c.as_slice-4.result.now _ _ c.as_slice-2.result.now c.as_slice.result.now c.as_slice-4.ensures.value
          c.in_ok-extend_from_slice.ensures.items c.in_ok-functions.ensures
          c.as_slice.ensures c.as_slice-2.ensures;
      imported = imported;
      calls = c.requires.calls ∙ ap (λ (p : Parts). length (imported_of p)) (sym c.parts-parts.ensures.is) ∙ sym imported;
      classes = subst (λ l. AreClasses c.parts-parts.result.now.types l) (sym c.as_slice-5.ensures) (subst (λ l. AreClasses l c.in_ok-classes.classes) c.as_slice-3.ensures c.in_ok-classes.ensures);
    }

pub map_bodies-requires-clause-ready : goal.map_bodies-requires-clause-ready
map_bodies-requires-clause-ready c =
    subst (λ (p : Parts). IsReady p) (sym c.parts-parts.ensures.is) (ready c.args.module.now c.requires.rules c.requires.locals c.requires.parameters c.parts-parts.ensures.spelled)
