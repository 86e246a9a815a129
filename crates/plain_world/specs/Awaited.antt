use Rattle.std.specs.Prelude.{ℕ, Option, Some, None, Bool, true, false}
use Rattle.host_port.specs.declared.request.Request.{Request}
use Rattle.world_rules.specs.Calls.{HostCall, call_of}
use Rattle.world_rules.specs.Calls as CallIs
use Rattle.world_rules.specs.Mail.{MailItem, Letter, Signal}
use Rattle.world_rules.specs.World.{Stage, Unborn, Ready, Out, Waiting, Doomed, Ended}

-- the number of a message; a signal has none
abbrev pub number_of : MailItem → Option ℕ
number_of (Letter number message) = Some number
number_of (Signal tag) = None

-- a request for this call, where it is a receive
abbrev pub receive_in : Option HostCall → Request → Option Request
receive_in (Some CallIs.Receive) request = Some request
receive_in _ request = None

-- the receive in which a process waits, if it waits in one
abbrev pub awaited_in : Stage → Option Request
awaited_in Unborn = None
awaited_in Ready = None
awaited_in (Out worker) = None
awaited_in (Waiting request) = receive_in (call_of request) request
awaited_in (Doomed worker end) = None
awaited_in (Ended end) = None

-- the request whose answer a process waits for
abbrev pub request_in : Stage → Option Request
request_in Unborn = None
request_in Ready = None
request_in (Out worker) = None
request_in (Waiting request) = Some request
request_in (Doomed worker end) = None
request_in (Ended end) = None

-- a read from a stream, or a write to one
abbrev pub is_streaming : HostCall → Bool
is_streaming CallIs.ReadStream = true
is_streaming CallIs.WriteStream = true
is_streaming _ = false
