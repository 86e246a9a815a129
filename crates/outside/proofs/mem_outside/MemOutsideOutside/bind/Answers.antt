use Rattle.outside.specs.MemListener.{IsUp}
use Rattle.outside.proofs.Fronts.{all_behind}
use Rattle.outside.proofs.mem_outside.MemOutsideOutside.bind.Goals as goal

pub invariant_of-self : goal.invariant_of-self
invariant_of-self c = record {
  listeners_up = all_behind IsUp c.self.inside.listeners.items c.pop_front.new.self.items c.pop_front.result c.pop_front.ensures.items c.self.invariant.listeners_up;
  streams_new = c.self.invariant.streams_new;
}
