use Rattle.std.proofs.Common.{arith}
use Rattle.wasm_form.specs.Sections.{SpellsFunction}
use Rattle.wasm_form.specs.Least.{least_function}
use Rattle.wasm_form.proofs.LeastParts as parts
use Rattle.module_writer.proofs.Sized.{appends_sized, size_fits}
use Rattle.module_writer.proofs.entries.BodyPart.write.Goals as goal

pub unreachable-requires : goal.unreachable-requires
unreachable-requires c = omega (arith, size_fits SpellsFunction least_function c.args.self.now parts.function c.requires, c.in_default.ensures)

pub write_function-requires : goal.write_function-requires
write_function-requires c = record { bytes = c.requires.spells.1; spells = c.requires.spells.3 }

pub returns : goal.returns
returns c = appends_sized _ _ _ _ _ _ _ c.in_ok-write_u32.ensures c.in_ok-write_function.ensures c.in-Some.ensures.0
