use Rattle.std.proofs.Common.{◌≡◌, true, take}
use Rattle.instance_store.specs.Segments.{elements_lie_in}
use Rattle.instance_store.proofs.segments.elements_lie_in.Given as goal

abbrev pub invariant-loop-element : goal.invariant-loop-element
invariant-loop-element l = elements_lie_in l.places (take l.element-index l.elements) ≡ true
