use Rattle.std.proofs.Common.{ltb, rules, of_calls, ◌≡◌, true, false, get_or, arith}
use Rattle.std.proofs.lemmas.Bool.{lt-ltb, ltb-true, ltb-false}
use Rattle.std.proofs.lemmas.Fn.{always_returns_same}
use Rattle.std.specs.List.Sorted.{IsPartitionedBy}
use Rattle.resource_table.specs.Handles.{Handle}
use Rattle.resource_table.proofs.Filters.{All-take_within, All-drop_within}
use Rattle.resource_table.proofs.Rising.{rises_along}
use Rattle.resource_table.proofs.resources.place_for.Goals as goal

pub returns : goal.returns
returns g c =
    let xs = c.args.handles.now in
    let number = c.args.number in
    let p = λ (h : Handle g.row.S.Denot). ltb h.number number in
    let parts : IsPartitionedBy p xs = λ i j d le lt holds.
    let along = rises_along xs i j d c.requires le lt in
    let under = ltb-true (get_or xs j d).number number holds in
    lt-ltb _ _ (omega (arith, along, under)) in
    let key = always_returns_same _ _ _ (λ a r f k. search (rules, of_calls)) in
    let point = c.partition_point.ensures.partitioned p key parts in
    record {
      bound = c.partition_point.ensures.bound;
      lower = λ k d lt. ltb-true _ _ (All-take_within (λ h. p h ≡ true) xs c.partition_point.result point.0 k d lt);
      higher = λ k d lt. ltb-false _ _ (All-drop_within (λ h. p h ≡ false) xs c.partition_point.result point.1 k d lt);
    }
