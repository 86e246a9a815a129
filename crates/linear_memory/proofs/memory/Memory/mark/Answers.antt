use Rattle.std.proofs.Common.{sym, ◌∙◌, ap, ℕ, ◌%◌, ◌^◌}
use Rattle.linear_memory.specs.Contents.{Contents}
use Rattle.linear_memory.proofs.Marks.{weighed-none, mark_step, mark_done}
use Rattle.linear_memory.proofs.memory.Memory.mark.Goals as goal

pub loop-place-init : goal.loop-place-init
loop-place-init c = ap (λ (n : ℕ). n % 2 ^ 64) (sym (weighed-none 0))

pub loop-place-preserved : goal.loop-place-preserved
loop-place-preserved c = mark_step c.deref-byte-items.result.now c.loop-place.place c.loop-place.mark c.from.result c.loop-place-test.true c.loop-place.invariant c.from.ensures

pub returns : goal.returns
returns c = mark_done c.args.self.now.bytes c.deref-byte-items.result.now c.loop-place.place c.loop-place.mark
    (c.deref-byte-items.ensures.value ∙ ap (λ (m : Contents). m.bytes) c.self.view_is) c.loop-place-test.false c.loop-place.invariant
