use Rattle.module_validator.specs.Constants.{IsDataSegment}
use Rattle.module_validator.proofs.segments.is_data_segment.Goals as goal

pub returns : goal.returns
unfolding IsDataSegment
returns c = c.is_segment.ensures
