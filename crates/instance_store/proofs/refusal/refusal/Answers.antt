use Rattle.std.proofs.Common.{◌≡◌, true, false, nat_le, refl, sym, ap, arith, ◌∙◌}
use Rattle.std.specs.Prelude.{slice_get}
use Rattle.wasm_form.specs.Context.{memories_of}
use Rattle.tree_machine.specs.Begin.{least_pages}
use Rattle.tree_machine.specs.Instantiation.{segments_lie_in}
use Rattle.instance_store.proofs.Accepted.{functions_alone}
use Rattle.instance_store.proofs.SameTypes.{same_types, other_types}
use Rattle.instance_store.proofs.Refusals.{types_of, no_export, judged, over, within}
use Rattle.instance_store.proofs.refusal.refusal.Goals as goal

pub entry_type-requires : goal.entry_type-requires
entry_type-requires c = functions_alone c.args.module.now c.requires

pub returns-in_default : goal.returns-in_default
returns-in_default c =
    no_export c.args.module.now c.args.start.now c.as_slice.result.now c.as_slice.ensures c.in_default.ensures

pub returns-then-not-are_types_of : goal.returns-then-not-are_types_of
returns-then-not-are_types_of c =
    let m = c.args.module.now in
    let start = c.args.start.now in
    let ty = c.in-Some.ty.now in
    judged m start c.as_slice.result.now c.as_slice.ensures ty c.in-Some.ensures
    false (nat_le (least_pages (slice_get (memories_of m) 0)) start.limits.pages) (segments_lie_in start.limits.pages m)
    (other_types (types_of start.params) ty.params
    (λ e. let no : false ≡ true = c.if-not-are_types_of.ensures.1 (c.as_slice-2.ensures ∙ e ∙ sym (ap types_of c.as_slice-3.ensures)) in cc))
    refl refl

pub least_pages-requires : goal.least_pages-requires
least_pages-requires c = functions_alone c.args.module.now c.requires

pub returns-then-least_pages-pages : goal.returns-then-least_pages-pages
returns-then-least_pages-pages c =
    let m = c.args.module.now in
    let start = c.args.start.now in
    let ty = c.in-Some.ty.now in
    judged m start c.as_slice.result.now c.as_slice.ensures ty c.in-Some.ensures true false (segments_lie_in start.limits.pages m)
    (same_types (types_of start.params) ty.params
    (sym c.as_slice-2.ensures ∙ c.if-not-are_types_of.ensures.0 refl ∙ ap types_of c.as_slice-3.ensures))
    (over (least_pages (slice_get (memories_of m) 0)) start.limits.pages (omega (arith, c.least_pages.ensures, c.pages.ensures.pages)))
    refl

pub returns-then-not-segments_lie_in : goal.returns-then-not-segments_lie_in
returns-then-not-segments_lie_in c =
    let m = c.args.module.now in
    let start = c.args.start.now in
    let ty = c.in-Some.ty.now in
    judged m start c.as_slice.result.now c.as_slice.ensures ty c.in-Some.ensures true true false
    (same_types (types_of start.params) ty.params
    (sym c.as_slice-2.ensures ∙ c.if-not-are_types_of.ensures.0 refl ∙ ap types_of c.as_slice-3.ensures))
    (within (least_pages (slice_get (memories_of m) 0)) start.limits.pages (omega (arith, c.least_pages.ensures, c.pages.ensures.pages)))
    (sym (c.if-not-segments_lie_in.ensures start.limits.pages))

pub returns : goal.returns
returns c =
    let m = c.args.module.now in
    let start = c.args.start.now in
    let ty = c.in-Some.ty.now in
    judged m start c.as_slice.result.now c.as_slice.ensures ty c.in-Some.ensures true true true
    (same_types (types_of start.params) ty.params
    (sym c.as_slice-2.ensures ∙ c.if-not-are_types_of.ensures.0 refl ∙ ap types_of c.as_slice-3.ensures))
    (within (least_pages (slice_get (memories_of m) 0)) start.limits.pages (omega (arith, c.least_pages.ensures, c.pages.ensures.pages)))
    (sym (c.if-not-segments_lie_in.ensures start.limits.pages))
