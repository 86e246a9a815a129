use Rattle.std.proofs.Common.{◌≡◌, Some, None, true, refl}
use Rattle.host_port.specs.declared.request.Request.{Request}
use Rattle.host_port.specs.declared.row.MayCome.TheVariants as Beside
use Rattle.host_port.specs.HostTable.{NoResult, all_rows, is_served, row_of, known_row_of, results_of, send, receive}
use Rattle.host_port.specs.ProcessRows.{sleep_ms}
use Rattle.host_port.proofs.HostLaws.{results_by}
use Rattle.world_rules.specs.Calls.{call_of}
use Rattle.world_rules.specs.Calls as CallIs
use Rattle.world_rules.specs.Kinds.{may_come, is_refusable}
use Rattle.node_state.specs.Fits.{kept_ask}

-- What a request of a send, a receive or a sleep is, by its row.

pub sleep-row : row_of 17 ≡ Some sleep_ms
unfolding row_of all_rows is_served
sleep-row = refl

pub sleep-results : results_of 17 ≡ Some NoResult
sleep-results = results_by 17 sleep_ms sleep-row

known_send : known_row_of 8 ≡ Some send
unfolding known_row_of all_rows
known_send = refl

known_receive : known_row_of 9 ≡ Some receive
unfolding known_row_of all_rows
known_receive = refl

known_sleep : known_row_of 17 ≡ Some sleep_ms
unfolding known_row_of all_rows
known_sleep = refl

-- the names of the three calls

pub send-called : (request : Request) → request.ask.call ≡ 8 → call_of request ≡ Some CallIs.Send
send-called request call = rw call refl

pub receive-called : (request : Request) → request.ask.call ≡ 9 → call_of request ≡ Some CallIs.Receive
receive-called request call = rw call refl

pub sleep-called : (request : Request) → request.ask.call ≡ 17 → call_of request ≡ Some CallIs.SleepMs
sleep-called request call = rw call refl

-- beside a send comes nothing, or the refusal of memory

pub send-beside : (request : Request) → request.ask.call ≡ 8 → may_come request ≡ Some Beside.Nothing
send-beside request call = rw (call, known_send) refl

pub send-refusable : (request : Request) → request.ask.call ≡ 8 → is_refusable request ≡ true
send-refusable request call = rw (call, known_send) refl

-- none of the three is kept until the outside has answered it

pub send-unkept : (request : Request) → request.ask.call ≡ 8 → kept_ask request ≡ None
send-unkept request call = rw (call, known_send) refl

pub receive-unkept : (request : Request) → request.ask.call ≡ 9 → kept_ask request ≡ None
receive-unkept request call = rw (call, known_receive) refl

pub sleep-unkept : (request : Request) → request.ask.call ≡ 17 → kept_ask request ≡ None
sleep-unkept request call = rw (call, known_sleep) refl
