use Rattle.std.proofs.Common.{ap, sym, ◌∙◌, append-nil, ◌++◌, map}
use Rattle.wasm_form.specs.declared.parts.GlobalDef.{GlobalDef}
use Rattle.body_validator.proofs.Lists.{map_more, map_all}
use Rattle.wasm_form.specs.Context.{imported_globals, global_of}
use Rattle.wasm_form.specs.declared.parts.Import.{Import}
use Rattle.std.specs.Prelude.{filter_map}
use Rattle.body_validator.proofs.module_context.all_globals.Goals as goal

pub loop-global-init : goal.loop-global-init
loop-global-init c = record {
  so_far = c.in_ok-globals.ensures ∙ ap (λ l. filter_map (λ (i : Import). global_of i.what) l) c.imports.ensures ∙ sym (append-nil (imported_globals c.args.«module».now));
}

pub loop-global-preserved : goal.loop-global-preserved
loop-global-preserved c = record {
  so_far = map_more (λ (g : GlobalDef). g.ty) c.globals-own.result.now (imported_globals c.args.«module».now) c.loop-global.global-index c.global-item.result c.loop-global.globals.items _
      c.loop-global-test.true c.global-item.is c.loop-global.invariant.so_far c.in_ok-push.ensures.items;
}

pub returns : goal.returns
returns c =
    map_all (λ (g : GlobalDef). g.ty) c.globals-own.result.now (imported_globals c.args.«module».now) c.loop-global.global-index _ c.loop-global-test.false c.loop-global.invariant.so_far
    ∙ ap (λ l. imported_globals c.args.«module».now ++ map (λ (g : GlobalDef). g.ty) l) c.globals-own.ensures
