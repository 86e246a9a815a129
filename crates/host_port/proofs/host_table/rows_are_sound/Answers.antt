use Rattle.host_port.proofs.RowLaws.{rows_sound, rows_numbered, rows_distinct}
use Rattle.host_port.proofs.host_table.rows_are_sound.Goals as goal

pub returns-clause-sound : goal.returns-clause-sound
returns-clause-sound c = rows_sound

pub returns-clause-numbered : goal.returns-clause-numbered
returns-clause-numbered c = rows_numbered

pub returns-clause-distinct : goal.returns-clause-distinct
returns-clause-distinct c = rows_distinct
