use Rattle.std.proofs.Common.{◌≡◌, ◌++◌, ◌∷◌, [], length, map, take}
use Rattle.code_map.specs.Left.{labels_in}
use Rattle.code_map.specs.Marks.{target_at}
use Rattle.code_map.proofs.body_map.BodyMap.mark_table.Given as goal

abbrev pub invariant-loop-label : goal.invariant-loop-label
invariant-loop-label l = record {
  slots : l.self.slots ≡ l.fn.self.slots ++ length l.fn.self.tables ∷ [];
  targets : l.self.targets ≡ l.fn.self.targets;
  tables : l.self.tables ≡ l.fn.self.tables ++ map (target_at (labels_in l.fn.opens)) (take l.label-index l.labels);
}
