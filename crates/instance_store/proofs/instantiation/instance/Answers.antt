use Rattle.std.proofs.Common.{◌≡◌, ℕ, ◌≤◌, true, length, sym, subst}
use Rattle.std.specs.Prelude.{slice_get}
use Rattle.wasm_form.specs.Context.{memories_of}
use Rattle.tree_machine.specs.Begin.{least_pages}
use Rattle.tree_machine.specs.Config.{bytes_of}
use Rattle.tree_machine.specs.Instantiation.{new_memory}
use Rattle.instance_store.specs.Segments.{data_lie_in}
use Rattle.instance_store.proofs.Accepted.{functions_alone, constant_globals, constant_elements, constant_segments, memory_limits}
use Rattle.instance_store.proofs.SegmentsInside.{each_inside}
use Rattle.instance_store.proofs.Refusals.{granted}
use Rattle.instance_store.proofs.instantiation.instance.Goals as goal

pub new_globals-requires : goal.new_globals-requires
new_globals-requires c = constant_globals c.args.module.now c.requires.accepted

pub first_table-requires-clause-functions : goal.first_table-requires-clause-functions
first_table-requires-clause-functions c = functions_alone c.args.module.now c.requires.accepted

pub first_table-requires-clause-constant : goal.first_table-requires-clause-constant
first_table-requires-clause-constant c = constant_elements c.args.module.now c.requires.accepted

pub first_table-requires-clause-inside : goal.first_table-requires-clause-inside
first_table-requires-clause-inside c =
    let m = c.args.module.now in
    let start = c.args.start.now in
    (each_inside m start.limits.pages (granted m start c.requires.begins).segments).0

pub first_memory-requires-clause-functions : goal.first_memory-requires-clause-functions
first_memory-requires-clause-functions c = functions_alone c.args.module.now c.requires.accepted

pub first_memory-requires-clause-limits : goal.first_memory-requires-clause-limits
first_memory-requires-clause-limits c = memory_limits c.args.module.now c.requires.accepted

pub first_memory-requires-clause-constant : goal.first_memory-requires-clause-constant
first_memory-requires-clause-constant c = constant_segments c.args.module.now c.requires.accepted

pub first_memory-requires-clause-pages : goal.first_memory-requires-clause-pages
first_memory-requires-clause-pages c =
    let m = c.args.module.now in
    subst (λ (n : ℕ). least_pages (slice_get (memories_of m) 0) ≤ n) (sym c.pages.ensures.pages)
    (granted m c.args.start.now c.requires.begins).pages

pub first_memory-requires-clause-inside : goal.first_memory-requires-clause-inside
first_memory-requires-clause-inside c =
    let m = c.args.module.now in
    let start = c.args.start.now in
    subst (λ (n : ℕ). data_lie_in (length (bytes_of (new_memory n m))) m.segments ≡ true) (sym c.pages.ensures.pages)
    (each_inside m start.limits.pages (granted m start c.requires.begins).segments).1

pub invocations-requires : goal.invocations-requires
invocations-requires c = functions_alone c.args.module.now c.requires.accepted
