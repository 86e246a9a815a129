use Rattle.std.proofs.Common.{arith, length-drop}
use Rattle.outside.proofs.Scripts.{bytes_in_behind}
use Rattle.outside.proofs.script.Script.next.Goals as goal

pub returns-then-self-len-clause-bytes : goal.returns-then-self-len-clause-bytes
returns-then-self-len-clause-bytes c = grind (arith, bytes_in_behind, length-drop)

pub returns-in-Some-Bytes-clause-bytes : goal.returns-in-Some-Bytes-clause-bytes
returns-in-Some-Bytes-clause-bytes c = grind (arith, bytes_in_behind, length-drop)
