use Rattle.std.specs.Prelude.{◌≡◌, ℕ, List, length, Option, Some, None, IfSome}
use Rattle.outside.specs.declared.outside.AcceptStep.{AcceptStep}
use Rattle.outside.specs.Makes.{IfAccepted, AcceptFault, AcceptWait}
use Rattle.resource_table.specs.Steps.{Told}
use Rattle.host_port.specs.declared.reply.Reply.{Reply}
use Rattle.host_port.specs.declared.request.Request.{Request}
use Rattle.world_rules.specs.Calls.{HostCall}
use Rattle.world_rules.specs.Calls as CallIs
use Rattle.host_calls.specs.Outsides.{side_in, arrived_in, IsOutStep}
use Rattle.host_calls.specs.Steps.{AreInOrder}
use Rattle.host_calls.specs.declared.proc.Proc.{Proc}
use Rattle.host_calls.specs.declared.outside_calls.OutStep.{OutStep}

-- What the functions for the single calls of the outside promise.

-- an accept: what was accepted is so, and an answer that is no success has its cause in the counts
pub record Accepts {T : Type 0} (faults_before faults_now waits_before waits_now : ℕ) (step : AcceptStep T)
    (IsSo : T → Type 0) : Type 0 where
  pub accepted : IfAccepted step IsSo
  pub faults : AcceptFault faults_before faults_now step
  pub waits : AcceptWait waits_before waits_now step

-- the call with this request came to this step, and the process is so afterwards; where memory was lacking, it stays
pub record ComesTo {E O P S L : Type 0} (tells : Told S) (request : Request) (old new : Proc E O P S L)
    (came : OutStep S) : Type 0 where
  pub engine : new.engine ≡ old.engine
  pub start : new.start ≡ old.start
  pub fuel : new.fuel ≡ old.fuel
  pub shed : new.shed ≡ old.shed
  pub order : AreInOrder new
  pub step : IfSome (side_in came) (λ side. IsOutStep tells request old new side (arrived_in came))
  pub memory : side_in came ≡ None → new ≡ old

-- the answer 0 with bytes at an address, and their count at another; and with a count alone
abbrev pub moved_reply : (addr : ℕ) → (bytes : List ℕ) → (count_addr : ℕ) → Reply
moved_reply addr bytes count_addr = record {
  result = Some 0;
  word = Some (record { addr = count_addr; width = 4; value = length bytes });
  text = Some (record { addr = addr; bytes = bytes });
}

abbrev pub count_reply : (count count_addr : ℕ) → Reply
count_reply count count_addr = record {
  result = Some 0;
  word = Some (record { addr = count_addr; width = 4; value = count });
  text = None;
}

-- the calls of the outside have these numbers
abbrev pub outside_number : HostCall → Option ℕ
outside_number CallIs.Bind = Some 27
outside_number CallIs.LocalPort = Some 28
outside_number CallIs.Accept = Some 29
outside_number CallIs.Connect = Some 30
outside_number CallIs.ReadStream = Some 31
outside_number CallIs.WriteStream = Some 32
outside_number _ = None
