use Rattle.flat_machine.proofs.CallsAgree.{call_agrees, call_exceeds}
use Rattle.flat_machine.proofs.laws.calls_agree.Goals as goal

pub returns-clause-enters : goal.returns-clause-enters
returns-clause-enters c m maps flat config i index body function module_typed follows typed own mapped code number at room =
    call_agrees m maps module_typed flat config follows typed i index function body own mapped code number at room

pub returns-clause-exceeds : goal.returns-clause-exceeds
returns-clause-exceeds c m maps flat config i index body function module_typed follows typed own mapped code number at room =
    call_exceeds m maps module_typed flat config follows typed i index function body own mapped code number at room
