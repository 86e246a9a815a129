use Rattle.std.proofs.Common.{◌≡◌, ℕ, ◌*◌, List, length, replicate, Option, Some, sym, ap, ◌∙◌}
use Rattle.std.specs.Prelude.{slice_get}
use Rattle.std.specs.List.{fold}
use Rattle.std.proofs.lemmas.List.{length-replicate}
use Rattle.linear_memory.specs.Contents.{Contents, page_size}
use Rattle.wasm_form.specs.declared.types.Bounds.{Bounds}
use Rattle.wasm_form.specs.Context.{memories_of}
use Rattle.tree_machine.specs.Begin.{least_pages}
use Rattle.tree_machine.specs.Config.{bytes_of}
use Rattle.tree_machine.specs.Instantiation.{memory_with, new_memory, put_segment}
use Rattle.module_validator.proofs.FunctionsAlone.{memories_are}
use Rattle.instance_store.specs.Segments.{data_lie_in}
use Rattle.instance_store.proofs.Memories.{no_memory, bytes_at_first, least_below_most}
use Rattle.instance_store.proofs.memory.first_memory.Goals as goal
use Rattle.instance_store.proofs.memory.first_memory.Goals.{In-Some}

-- the first memory of the module
first_is : (c : In-Some) → Some c.in-Some.bounds.now ≡ slice_get (memories_of c.args.module.now) 0
first_is c =
    c.in-Some.ensures.value
    ∙ ap (λ (xs : List Bounds). slice_get xs 0) (c.memories.ensures ∙ sym (memories_are c.args.module.now c.requires.functions))

pub returns-in_default : goal.returns-in_default
returns-in_default c =
    no_memory c.args.module.now c.args.limit
    (c.in_default.ensures.value
    ∙ ap (λ (xs : List Bounds). slice_get xs 0) (c.memories.ensures ∙ sym (memories_are c.args.module.now c.requires.functions)))

pub new-requires-clause-within : goal.new-requires-clause-within
new-requires-clause-within c =
    rw c.most_pages.ensures (
    least_below_most c.args.module.now c.args.limit c.in-Some.bounds.now c.requires.limits
    (first_is (goal.at.new-requires-clause-within c).In-Some) c.requires.pages
    )

pub put_segments-requires-clause-inside : goal.put_segments-requires-clause-inside
put_segments-requires-clause-inside c =
    let m = c.args.module.now in
    let same : length c.in_ok-memory.memory.bytes ≡ length (bytes_of (new_memory c.args.limit m)) =
    ap (λ (memory : Contents). length memory.bytes) c.in_ok-memory.ensures
    ∙ length-replicate (c.in-Some.bounds.now.min * page_size) 0
    ∙ ap (λ (o : Option Bounds). least_pages o * page_size) (first_is (goal.at.put_segments-requires-clause-inside c).In-Some)
    ∙ sym (bytes_at_first m c.args.limit) in
    ap (λ (n : ℕ). data_lie_in n c.segments.result.now) same
    ∙ ap (data_lie_in (length (bytes_of (new_memory c.args.limit m)))) c.segments.ensures
    ∙ c.requires.inside

pub returns : goal.returns
returns c =
    let m = c.args.module.now in
    let memory = c.in_ok-memory.memory in
    c.put_segments.ensures
    ∙ ap (fold put_segment (Some memory)) c.segments.ensures
    ∙ ap (λ (o : Option Contents). fold put_segment o m.segments)
    (ap (λ (new : Contents). Some new) c.in_ok-memory.ensures
    ∙ ap (λ (most : ℕ). Some (record { bytes = replicate (c.in-Some.bounds.now.min * page_size) 0; most = most })) c.most_pages.ensures
    ∙ ap (memory_with c.args.limit) (first_is (goal.at.returns c).In-Some))
