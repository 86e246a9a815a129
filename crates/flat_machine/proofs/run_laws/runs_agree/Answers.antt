use Rattle.flat_machine.proofs.EveryMove.{every_move}
use Rattle.flat_machine.proofs.RunsAgree.{stands_safe, halts_stand, halts_ready}
use Rattle.flat_machine.proofs.run_laws.runs_agree.Goals as goal

pub returns-clause-safe : goal.returns-clause-safe
returns-clause-safe c m map start calls fuel flat module_typed mapped stands =
    stands_safe m map (λ flat c follows typed. every_move m map module_typed mapped flat c follows typed) start calls fuel flat stands

pub returns-clause-halts : goal.returns-clause-halts
returns-clause-halts c m map start calls fuel budget executed reason from to module_typed mapped stands halts most =
    halts_stand m map (λ flat c follows typed. every_move m map module_typed mapped flat c follows typed) start calls reason fuel budget executed from to stands halts most

pub returns-clause-ready : goal.returns-clause-ready
returns-clause-ready c m map start calls fuel budget executed k reason from to module_typed mapped stands halts most less =
    halts_ready m map (λ flat c follows typed. every_move m map module_typed mapped flat c follows typed) start calls reason fuel budget executed k from to stands halts most less
