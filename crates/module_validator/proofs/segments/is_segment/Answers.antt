use Rattle.std.proofs.Common.{length, ap, sym, ◌∙◌, arith}
use Rattle.std.proofs.lemmas.Bool.{false≢true}
use Rattle.module_validator.proofs.FunctionsAlone.{memories_are}
use Rattle.module_validator.proofs.segments.is_segment.Goals as goal

pub returns-then-segment-memories : goal.returns-then-segment-memories
returns-then-segment-memories c =
    let count = ap length (c.memories-memories.ensures ∙ sym (memories_are c.args.module.now c.requires)) in
    (λ t. absurd (false≢true t), λ h. absurd (omega (arith, h.memory, count, c.if-segment-memories.true)))
