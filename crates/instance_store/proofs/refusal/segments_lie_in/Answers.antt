use Rattle.std.proofs.Common.{ℕ, ◌*◌, ◌&&◌, Bool, length, refl, sym, ap, ◌∙◌}
use Rattle.tree_machine.specs.Config.{bytes_of}
use Rattle.tree_machine.specs.Instantiation.{new_memory}
use Rattle.instance_store.specs.Segments.{elements_lie_in, data_lie_in}
use Rattle.instance_store.proofs.Accepted.{functions_alone, constant_elements, constant_segments}
use Rattle.instance_store.proofs.Memories.{bytes_at_first}
use Rattle.instance_store.proofs.SegmentsInside.{all_inside}
use Rattle.instance_store.proofs.refusal.segments_lie_in.Goals as goal

pub table_size-requires : goal.table_size-requires
table_size-requires c = functions_alone c.args.module.now c.requires

pub least_pages-requires : goal.least_pages-requires
least_pages-requires c = functions_alone c.args.module.now c.requires

pub elements_lie_in-requires : goal.elements_lie_in-requires
elements_lie_in-requires c = rw c.elements.ensures (constant_elements c.args.module.now c.requires)

pub data_lie_in-requires : goal.data_lie_in-requires
data_lie_in-requires c = rw c.segments.ensures (constant_segments c.args.module.now c.requires)

pub returns-then-elements_lie_in : goal.returns-then-elements_lie_in
returns-then-elements_lie_in c = λ limit.
    let m = c.args.module.now in
    let places = c.from-places.result in
    let bytes = c.from-bytes.result * 65536 in
    c.data_lie_in.ensures
    ∙ ap (data_lie_in bytes) c.segments.ensures
    ∙ ap (λ (b : Bool). b && data_lie_in bytes m.segments)
    (sym c.if-elements_lie_in.true ∙ c.elements_lie_in.ensures ∙ ap (elements_lie_in places) c.elements.ensures)
    ∙ all_inside m limit places bytes (c.from-places.ensures ∙ c.table_size.ensures)
    (ap (λ (n : ℕ). n * 65536) (c.from-bytes.ensures ∙ c.least_pages.ensures) ∙ sym (bytes_at_first m limit))

pub returns-else-elements_lie_in : goal.returns-else-elements_lie_in
returns-else-elements_lie_in c = λ limit.
    let m = c.args.module.now in
    let places = c.from-places.result in
    let bytes = length (bytes_of (new_memory limit m)) in
    c.if-elements_lie_in.false
    ∙ ap (λ (b : Bool). b && data_lie_in bytes m.segments)
    (sym c.if-elements_lie_in.false ∙ c.elements_lie_in.ensures ∙ ap (elements_lie_in places) c.elements.ensures)
    ∙ all_inside m limit places bytes (c.from-places.ensures ∙ c.table_size.ensures) refl
