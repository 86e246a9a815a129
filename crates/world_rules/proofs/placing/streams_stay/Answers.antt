use Rattle.world_rules.proofs.StreamsGoLaws.{entry_goes, hand_stays}
use Rattle.world_rules.proofs.placing.streams_stay.Goals as goal

pub returns-clause-goes_on : goal.returns-clause-goes_on
returns-clause-goes_on c = entry_goes

pub returns-clause-in_hand : goal.returns-clause-in_hand
returns-clause-in_hand c = hand_stays
