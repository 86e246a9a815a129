use Rattle.std.proofs.Common.{◌+◌, ap, ◌∙◌, arith}
use Rattle.std.specs.Prelude.{sum_by}
use Rattle.wasm_form.specs.declared.body.LocalRun.{LocalRun}
use Rattle.code_map.proofs.Found.{own_bound, function_found, type_found, body_found, few_places, tree_there, body_mapped, if_ok}
use Rattle.code_map.proofs.map.map_function.Goals as goal

pub bounds-as_slice-index : goal.bounds-as_slice-index
bounds-as_slice-index c = own_bound c.args.parts.now c.requires.ready c.as_slice.result.now c.as_slice-2.result.now c.args.place c.as_slice.ensures c.as_slice-2.ensures c.requires.there

pub overflow_add-locals : goal.overflow_add-locals
overflow_add-locals c =
    let f = function_found c.args.parts.now c.requires.ready c.as_slice.result.now c.args.place c.as_slice.ensures c.requires.there in
    let t = type_found c.args.parts.now c.requires.ready c.as_slice.result.now c.as_slice-2.result.now c.args.place c.index-as_slice-index.result c.as_slice.ensures c.as_slice-2.ensures
    c.requires.there c.index-as_slice-index.is in
    let b = body_found c.args.parts.now c.requires.ready c.as_slice-3.result.now c.args.place c.index-as_slice-place.result c.as_slice-3.ensures c.requires.there c.index-as_slice-place.is in
    let few = few_places c.args.parts.now c.requires.ready c.args.place _ c.index-as_slice-index.result c.index-as_slice-place.result c.len.result c.local_count.result f t b c.len.ensures
    (c.local_count.ensures ∙ ap (λ l. sum_by (λ (run : LocalRun). run.count) l) c.as_slice-4.ensures)
    in
    omega (arith, few)

pub map_body-requires-clause-tree : goal.map_body-requires-clause-tree
map_body-requires-clause-tree c =
    tree_there c.args.parts.now c.requires.ready c.args.place c.index-as_slice-place.result
    (body_found c.args.parts.now c.requires.ready c.as_slice-3.result.now c.args.place c.index-as_slice-place.result c.as_slice-3.ensures c.requires.there c.index-as_slice-place.is)

pub map_body-requires-clause-few : goal.map_body-requires-clause-few
map_body-requires-clause-few c =
    let f = function_found c.args.parts.now c.requires.ready c.as_slice.result.now c.args.place c.as_slice.ensures c.requires.there in
    let t = type_found c.args.parts.now c.requires.ready c.as_slice.result.now c.as_slice-2.result.now c.args.place c.index-as_slice-index.result c.as_slice.ensures c.as_slice-2.ensures
    c.requires.there c.index-as_slice-index.is in
    let b = body_found c.args.parts.now c.requires.ready c.as_slice-3.result.now c.args.place c.index-as_slice-place.result c.as_slice-3.ensures c.requires.there c.index-as_slice-place.is in
    let few = few_places c.args.parts.now c.requires.ready c.args.place _ c.index-as_slice-index.result c.index-as_slice-place.result c.len.result c.local_count.result f t b c.len.ensures
    (c.local_count.ensures ∙ ap (λ l. sum_by (λ (run : LocalRun). run.count) l) c.as_slice-4.ensures)
    in
    omega (arith, few)

pub returns : goal.returns
returns c =
    let f = function_found c.args.parts.now c.requires.ready c.as_slice.result.now c.args.place c.as_slice.ensures c.requires.there in
    let t = type_found c.args.parts.now c.requires.ready c.as_slice.result.now c.as_slice-2.result.now c.args.place c.index-as_slice-index.result c.as_slice.ensures c.as_slice-2.ensures
    c.requires.there c.index-as_slice-index.is in
    let b = body_found c.args.parts.now c.requires.ready c.as_slice-3.result.now c.args.place c.index-as_slice-place.result c.as_slice-3.ensures c.requires.there c.index-as_slice-place.is in
    let runs = c.local_count.ensures ∙ ap (λ l. sum_by (λ (run : LocalRun). run.count) l) c.as_slice-4.ensures in
    if_ok c.map_body.result _ _ c.map_body.ensures
    (λ map h. body_mapped c.args.parts.now c.args.place _ c.index-as_slice-index.result c.index-as_slice-place.result (c.len.result + c.local_count.result) c.is_empty.result map c.requires.ready f t b
    (omega (arith, c.len.ensures, runs)) c.is_empty.ensures (h c.args.parts.now c.requires.signatures))
