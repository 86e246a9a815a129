use Rattle.world_rules.proofs.PlacedLaws.{first_placed, entry_placed, told_placed}
use Rattle.world_rules.proofs.placing.placed.Goals as goal

pub returns-clause-first : goal.returns-clause-first
returns-clause-first c = first_placed

pub returns-clause-kept : goal.returns-clause-kept
returns-clause-kept c = entry_placed

pub returns-clause-all_told : goal.returns-clause-all_told
returns-clause-all_told c = told_placed
