use Rattle.std.proofs.Common.{refl, ap, sym, ◌∙◌, subst}
use Rattle.wasm_form.specs.declared.parts.Parts.{Parts}
use Rattle.wasm_form.specs.Modules.{IsSpelled}
use Rattle.body_validator.proofs.Types.{found, missing, copied_some, copied_none}
use Rattle.body_validator.proofs.Valid.{valid, not_valid, no_index, no_type, no_body, body_spelled, single_results}
use Rattle.body_validator.proofs.module_context.ModuleContext.check.Goals as goal

pub returns-in_default-clause-no : goal.returns-in_default-clause-no
returns-in_default-clause-no c e =
    no_index c.args.self.now c.args.place
    (missing c.args.self.now.functions c.as_slice.result.now c.args.place c.function_at.result
    (sym (c.as_slice.ensures ∙ ap (λ (q : Parts). q.functions) (c.parts-parts.ensures.is ∙ c.self.view_is))) c.function_at.ensures c.in_default.is)

pub returns-in_default-type_at-clause-no : goal.returns-in_default-type_at-clause-no
returns-in_default-type_at-clause-no c e =
    no_type c.args.self.now c.args.place c.in-Some.index
    (found c.args.self.now.functions c.as_slice.result.now c.args.place c.function_at.result c.in-Some.index
    (sym (c.as_slice.ensures ∙ ap (λ (q : Parts). q.functions) (c.parts-parts.ensures.is ∙ c.self.view_is))) c.function_at.ensures c.in-Some.is)
    (missing c.args.self.now.types c.as_slice-2.result.now c.in-Some.index _
    (sym (c.as_slice-2.ensures ∙ ap (λ (q : Parts). q.types) (c.parts-parts.ensures.is ∙ c.self.view_is))) refl (copied_none c.type_at.result _ c.in_default-type_at.is c.type_at.ensures))

pub returns-in_default-body_at-clause-no : goal.returns-in_default-body_at-clause-no
returns-in_default-body_at-clause-no c e =
    no_body c.args.self.now c.args.place
    (missing c.args.self.now.bodies c.as_slice-3.result.now c.args.place _
    (sym (c.as_slice-3.ensures ∙ ap (λ (q : Parts). q.bodies) (c.parts-parts.ensures.is ∙ c.self.view_is))) refl (copied_none c.body_at.result _ c.in_default-body_at.is c.body_at.ensures))

pub is_typed-requires : goal.is_typed-requires
is_typed-requires c = record {
  single = single_results c.args.self.now c.in-Some.index c.in-Some-type_at.ty.now c.requires (found c.args.self.now.types c.as_slice-2.result.now c.in-Some.index _ c.in-Some-type_at.ty.now
      (sym (c.as_slice-2.ensures ∙ ap (λ (q : Parts). q.types) (c.parts-parts.ensures.is ∙ c.self.view_is))) refl (copied_some c.type_at.result _ c.in-Some-type_at.ty c.in-Some-type_at.is c.type_at.ensures));
  few = (body_spelled c.args.self.now c.args.place c.in-Some-body_at.body.now (subst (λ (q : Parts). IsSpelled q) c.self.view_is c.parts-parts.ensures.spelled) (found c.args.self.now.bodies c.as_slice-3.result.now c.args.place _ c.in-Some-body_at.body.now
      (sym (c.as_slice-3.ensures ∙ ap (λ (q : Parts). q.bodies) (c.parts-parts.ensures.is ∙ c.self.view_is))) refl (copied_some c.body_at.result _ c.in-Some-body_at.body c.in-Some-body_at.is c.body_at.ensures))).0;
}

pub returns-clause-yes : goal.returns-clause-yes
returns-clause-yes c e =
    valid c.args.self.now c.args.place c.in-Some.index c.in-Some-type_at.ty.now c.in-Some-body_at.body.now
    (found c.args.self.now.functions c.as_slice.result.now c.args.place c.function_at.result c.in-Some.index
    (sym (c.as_slice.ensures ∙ ap (λ (q : Parts). q.functions) (c.parts-parts.ensures.is ∙ c.self.view_is))) c.function_at.ensures c.in-Some.is)
    (found c.args.self.now.types c.as_slice-2.result.now c.in-Some.index _ c.in-Some-type_at.ty.now
    (sym (c.as_slice-2.ensures ∙ ap (λ (q : Parts). q.types) (c.parts-parts.ensures.is ∙ c.self.view_is))) refl (copied_some c.type_at.result _ c.in-Some-type_at.ty c.in-Some-type_at.is c.type_at.ensures))
    (found c.args.self.now.bodies c.as_slice-3.result.now c.args.place _ c.in-Some-body_at.body.now
    (sym (c.as_slice-3.ensures ∙ ap (λ (q : Parts). q.bodies) (c.parts-parts.ensures.is ∙ c.self.view_is))) refl (copied_some c.body_at.result _ c.in-Some-body_at.body c.in-Some-body_at.is c.body_at.ensures))
    c.requires (subst (λ (q : Parts). IsSpelled q) c.self.view_is c.parts-parts.ensures.spelled) (c.is_typed.ensures.yes e)

pub returns-clause-no : goal.returns-clause-no
returns-clause-no c e =
    not_valid c.args.self.now c.args.place c.in-Some.index c.in-Some-type_at.ty.now c.in-Some-body_at.body.now
    (found c.args.self.now.functions c.as_slice.result.now c.args.place c.function_at.result c.in-Some.index
    (sym (c.as_slice.ensures ∙ ap (λ (q : Parts). q.functions) (c.parts-parts.ensures.is ∙ c.self.view_is))) c.function_at.ensures c.in-Some.is)
    (found c.args.self.now.types c.as_slice-2.result.now c.in-Some.index _ c.in-Some-type_at.ty.now
    (sym (c.as_slice-2.ensures ∙ ap (λ (q : Parts). q.types) (c.parts-parts.ensures.is ∙ c.self.view_is))) refl (copied_some c.type_at.result _ c.in-Some-type_at.ty c.in-Some-type_at.is c.type_at.ensures))
    (found c.args.self.now.bodies c.as_slice-3.result.now c.args.place _ c.in-Some-body_at.body.now
    (sym (c.as_slice-3.ensures ∙ ap (λ (q : Parts). q.bodies) (c.parts-parts.ensures.is ∙ c.self.view_is))) refl (copied_some c.body_at.result _ c.in-Some-body_at.body c.in-Some-body_at.is c.body_at.ensures))
    c.requires (c.is_typed.ensures.no e)
