use Rattle.std.proofs.Common.{sym, ◌∙◌, arith}
use Rattle.module_writer.proofs.Sized.{no_section, section_contents, section_of}
use Rattle.module_writer.proofs.sections.write_part.Goals as goal

pub returns-then-is_empty : goal.returns-then-is_empty
returns-then-is_empty g c = no_section _ _ _ _ _ (sym c.is_empty.ensures ∙ c.if-is_empty.true)

pub unreachable-requires : goal.unreachable-requires
unreachable-requires g c = omega (arith, c.in_default.ensures, c.requires.small)

pub write_vector-requires : goal.write_vector-requires
write_vector-requires g c = section_contents _ _ _ (sym c.is_empty.ensures ∙ c.if-is_empty.false) c.requires.spelled

pub returns : goal.returns
returns g c =
    section_of _ _ _ _ _ _ _ _ _ (sym c.is_empty.ensures ∙ c.if-is_empty.false) c.in_ok-push.ensures.items c.in_ok-write_u32.ensures c.in_ok-write_vector.ensures
    c.in-Some.ensures.0
