use Rattle.flat_machine.proofs.ModuleMapped.{accepted_mapped, own_mapped, host_mapped}
use Rattle.flat_machine.proofs.map_laws.modules_are_mapped.Goals as goal

pub returns-clause-accepted : goal.returns-clause-accepted
returns-clause-accepted c host m map offers accepted spelled mapped = accepted_mapped host m map offers accepted spelled mapped

pub returns-clause-own : goal.returns-clause-own
returns-clause-own c m map index function mapped is = own_mapped m map mapped index function is

pub returns-clause-host : goal.returns-clause-host
returns-clause-host c m map index ty call mapped is = host_mapped m map mapped index ty call is
