use Rattle.world_rules.proofs.UnmetLaws.{new_wanted, new_unwanted, first_unmet, entry_unmet, told_unmet}
use Rattle.world_rules.proofs.waiting.waits_are_unmet.Goals as goal

pub returns-clause-first : goal.returns-clause-first
returns-clause-first c = first_unmet

pub returns-clause-kept : goal.returns-clause-kept
returns-clause-kept c = entry_unmet

pub returns-clause-all_told : goal.returns-clause-all_told
returns-clause-all_told c = told_unmet

pub returns-clause-wanted : goal.returns-clause-wanted
returns-clause-wanted c = new_wanted

pub returns-clause-unwanted : goal.returns-clause-unwanted
returns-clause-unwanted c = new_unwanted
