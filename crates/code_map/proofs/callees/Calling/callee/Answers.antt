use Rattle.std.proofs.Common.{refl, sym, ap, ◌∙◌, arith}
use Rattle.std.specs.Prelude.{sum_by}
use Rattle.std.proofs.lemmas.Option.{slice_get-get_or}
use Rattle.wasm_form.specs.declared.body.Body.{Body}
use Rattle.wasm_form.specs.declared.body.LocalRun.{LocalRun}
use Rattle.code_map.proofs.Found.{callee_shape, host_callee, own_callee, own_place, body_found, few_runs}
use Rattle.code_map.proofs.callees.Calling.callee.Goals as goal

pub returns-then-function-self : goal.returns-then-function-self
returns-then-function-self c index e =
    let made = c.requires.made in
    host_callee c.args.self.now.parts.now c.args.self.now.calls.now c.args.self.now.imported c.args.function _ _ _ index _ made.imported c.if-function-self.true
    (slice_get-get_or c.args.self.now.calls.now c.args.function 0 (omega (arith, c.if-function-self.true, made.calls)))
    (callee_shape c.args.self.now.parts.now made.ready c.as_slice.result.now c.args.self.now.functions.now c.args.self.now.classes.now c.args.function index c.len-params.result
    c.index-as_slice-index.result
    c.is_empty-gives.result made.functions made.classes c.as_slice.ensures e c.index-as_slice-index.is c.len-params.ensures c.is_empty-gives.ensures)

pub local_count-requires : goal.local_count-requires
local_count-requires c =
    let made = c.requires.made in
    few_runs c.args.self.now.parts.now made.ready c.as_slice-2.result.now _ c.index-as_slice-body.result c.as_slice-3.result.now c.as_slice-2.ensures
    (own_place c.args.self.now.parts.now made.ready c.args.self.now.functions.now c.args.self.now.imported c.args.function made.functions made.imported c.if-function-self.false c.requires.there)
    c.index-as_slice-body.is (c.as_slice-3.ensures ∙ sym (ap (λ (b : Body). b.locals) c.index-as_slice-body.is))

pub returns : goal.returns
returns c index e =
    let made = c.requires.made in
    let low = own_place c.args.self.now.parts.now made.ready c.args.self.now.functions.now c.args.self.now.imported c.args.function made.functions made.imported c.if-function-self.false
    c.requires.there in
    own_callee c.args.self.now.parts.now c.args.self.now.calls.now c.args.self.now.imported c.args.function _ _ c.local_count.result _ index _ c.index-as_slice-body.result made.imported
    c.if-function-self.false refl
    (body_found c.args.self.now.parts.now made.ready c.as_slice-2.result.now _ c.index-as_slice-body.result c.as_slice-2.ensures low c.index-as_slice-body.is)
    (c.local_count.ensures ∙ ap (λ l. sum_by (λ (run : LocalRun). run.count) l) (c.as_slice-3.ensures ∙ sym (ap (λ (b : Body). b.locals) c.index-as_slice-body.is)))
    (callee_shape c.args.self.now.parts.now made.ready c.as_slice.result.now c.args.self.now.functions.now c.args.self.now.classes.now c.args.function index c.len-params.result
    c.index-as_slice-index.result
    c.is_empty-gives.result made.functions made.classes c.as_slice.ensures e c.index-as_slice-index.is c.len-params.ensures c.is_empty-gives.ensures)
