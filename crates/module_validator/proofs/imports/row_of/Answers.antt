use Rattle.std.proofs.Common.{◌∙◌}
use Rattle.module_validator.proofs.Hosts.{offered_by}
use Rattle.module_validator.proofs.imports.row_of.Goals as goal

pub returns : goal.returns
returns c =
    offered_by c.args.import.now.module c.args.import.now.name c.as_bytes.result.now c.as_bytes-2.result.now
    (c.as_bytes.ensures.value ∙ c.as_str.ensures) (c.as_bytes-2.ensures.value ∙ c.as_str-2.ensures) c.import.result c.import.ensures
