use Rattle.outside.specs.MemStream.{IsNew}
use Rattle.outside.proofs.Fronts.{all_behind}
use Rattle.outside.proofs.mem_outside.MemOutsideOutside.connect.Goals as goal

pub invariant_of-self : goal.invariant_of-self
invariant_of-self c = record {
  listeners_up = c.self-2.invariant.listeners_up;
  streams_new = all_behind IsNew c.self-2.inside.streams.items c.pop_front.new.self.items c.pop_front.result c.pop_front.ensures.items c.self-2.invariant.streams_new;
}
