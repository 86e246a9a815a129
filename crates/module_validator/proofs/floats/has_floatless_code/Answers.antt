use Rattle.module_validator.proofs.Expressions.{all_expressions, in_expressions}
use Rattle.module_validator.proofs.floats.has_floatless_code.Goals as goal

pub returns : goal.returns
returns c =
    let m = c.args.module.now in
    let same = rw (c.globals.ensures, c.elements.ensures, c.segments.ensures, c.bodies.ensures) at c.are_floatless.ensures in (
      λ t. let h = same.0 t in all_expressions m (record { globals = h.0; elements = h.1; segments = h.2; bodies = h.3 }),
      λ h. let by = in_expressions m h in same.1 (by.globals, by.elements, by.segments, by.bodies),
    )
