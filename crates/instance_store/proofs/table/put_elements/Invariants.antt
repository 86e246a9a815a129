use Rattle.std.proofs.Common.{◌≡◌, take}
use Rattle.std.specs.List.{fold}
use Rattle.tree_machine.specs.Instantiation.{put_element}
use Rattle.instance_store.proofs.table.put_elements.Given as goal

abbrev pub invariant-loop-element : goal.invariant-loop-element
invariant-loop-element l = l.table ≡ fold put_element l.initial.table (take l.element-index l.elements)
