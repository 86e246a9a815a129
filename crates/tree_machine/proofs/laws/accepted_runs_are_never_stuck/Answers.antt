use Rattle.tree_machine.proofs.BeginTyped.{module_typed, begun_typed}
use Rattle.tree_machine.proofs.RunsTyped.{point_typed, point_goes_on}
use Rattle.tree_machine.proofs.laws.accepted_runs_are_never_stuck.Goals as goal

pub returns-clause-typed : goal.returns-clause-typed
returns-clause-typed c host m offers accepted spelled = module_typed host m offers accepted spelled

pub returns-clause-begins : goal.returns-clause-begins
returns-clause-begins c host m start offers accepted spelled typed begins =
    begun_typed host m offers accepted spelled start typed.pages typed.params begins

pub returns-clause-stands : goal.returns-clause-stands
returns-clause-stands c host m start calls n p offers accepted spelled typed forms there =
    point_typed host m offers accepted spelled start typed.pages typed.params calls forms n p there

pub returns-clause-goes_on : goal.returns-clause-goes_on
returns-clause-goes_on c host m start calls n config offers accepted spelled typed forms there fuel =
    point_goes_on host m offers accepted spelled start typed.pages typed.params calls forms n config there fuel
