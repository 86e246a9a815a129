use Rattle.std.proofs.Common.{None, arith}
use Rattle.std.proofs.lemmas.List.Sums.{sum_by_more}
use Rattle.std.proofs.lemmas.List.Elements.{All-more}
use Rattle.wasm_form.specs.Least.{least_table_type}
use Rattle.wasm_form.specs.Ranges.{HasBoundsRange}
use Rattle.wasm_form.specs.declared.types.Bounds.{Bounds}
use Rattle.wasm_form.proofs.least_length.table_types_length.Goals as goal

pub loop-bounds-preserved : goal.loop-bounds-preserved
loop-bounds-preserved c =
    let default : Bounds = record { min = 0; max = None } in
    let more = sum_by_more least_table_type c.args.tables.now c.loop-bounds.bounds-index default (omega arith) in
    record {
      sum = omega (arith, more, c.in_ok-total.ensures, c.in_ok-length.ensures, c.loop-bounds.invariant.sum);
      all = All-more HasBoundsRange c.args.tables.now c.loop-bounds.bounds-index default (omega arith) c.loop-bounds.invariant.all c.in_ok-length.ensures.1;
    }
