use Rattle.world_rules.proofs.SoundLaws.{first_sound, entry_sound, told_sound}
use Rattle.world_rules.proofs.soundness.sound.Goals as goal

pub returns-clause-first : goal.returns-clause-first
returns-clause-first c = first_sound

pub returns-clause-kept : goal.returns-clause-kept
returns-clause-kept c = entry_sound

pub returns-clause-all_told : goal.returns-clause-all_told
returns-clause-all_told c = told_sound
