use Rattle.std.proofs.Common.{refl, sym, ◌∙◌, arith}
use Rattle.module_writer.proofs.Appending.{appends_both}
use Rattle.wasm_form.specs.Types.{SpellsTableType}
use Rattle.module_writer.proofs.Items.{counted}
use Rattle.module_writer.proofs.Sized.{no_section, section_contents, section_of}
use Rattle.module_writer.proofs.sections.write_tables.Goals as goal

pub returns-then-is_empty : goal.returns-then-is_empty
returns-then-is_empty c = no_section _ _ _ _ _ (sym c.is_empty.ensures ∙ c.if-is_empty.true)

pub unreachable-requires : goal.unreachable-requires
unreachable-requires c = omega (arith, c.in_default.ensures, c.requires.small)

pub overflow_cast-len : goal.overflow_cast-len
overflow_cast-len c =
    omega (arith, c.len.ensures, counted SpellsTableType c.args.tables.now (section_contents _ _ _ (sym c.is_empty.ensures ∙ c.if-is_empty.false) c.requires.spelled))

pub returns : goal.returns
returns c =
    section_of _ _ _ _ _ _ _ _ _ (sym c.is_empty.ensures ∙ c.if-is_empty.false) c.in_ok-push.ensures.items c.in_ok-write_u32.ensures
    (appends_both _ _ _ _ _ _ _ _ _ _ _ _ (rw c.len.ensures at c.in_ok-write_u32-2.ensures) (rw c.as_slice.ensures at c.in_ok-write_table_types.ensures) (λ s t h k. (s, t, h, k, refl)) refl)
    c.in-Some.ensures.0
