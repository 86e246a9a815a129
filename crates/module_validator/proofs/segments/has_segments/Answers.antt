use Rattle.module_validator.specs.Constants.{IsDataSegment}
use Rattle.module_validator.proofs.segments.has_segments.Goals as goal

pub returns : goal.returns
unfolding IsDataSegment
returns c = c.are_data_segments.ensures
