use Rattle.module_writer.proofs.laws.written_is_read.Goals as goal

pub returns : goal.returns
returns c = λ bytes m n h k. c.one_module.ensures bytes m n h.spells k
