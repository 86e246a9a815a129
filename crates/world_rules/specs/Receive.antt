use Rattle.std.specs.Prelude.{ℕ, ◌+◌, [], ◌∷◌, Option, Some, None, Bool, true, false, nat_eq, nat_lt, if◌then◌else◌}
use Rattle.host_port.specs.declared.request.Request.{Request}
use Rattle.host_port.specs.declared.reply.Reply.{Reply}
use Rattle.world_rules.specs.Calls.{HostCall, call_of, arg}
use Rattle.world_rules.specs.Calls as CallIs
use Rattle.world_rules.specs.Answers.{number_reply}
use Rattle.world_rules.specs.Part.{Scratch, scratch_handles}
use Rattle.world_rules.specs.Mail.{MailItem, Letter, Signal, tags_in, pick, unpicked, message_count, most_messages}
use Rattle.world_rules.specs.Settled.{settled, SentOff, Delivered}
use Rattle.world_rules.specs.Moves.{Sent}
use Rattle.world_rules.specs.Handles.{delivery_moves}
use Rattle.world_rules.specs.Arrivals.{arrival_of}
use Rattle.world_rules.specs.World.{World, Process, Stage, Unborn, Ready, Out, Waiting, Doomed, Ended, is_live, with_process, with_moves, with_closed}
use Rattle.world_rules.specs.Changes.{with_part, answered, replied, waiting, posted}
use Rattle.world_rules.specs.Time.{is_positive, deadline_after}

-- Messages between processes: send, receive, and what arrives at a process that waits.

-- DELIVERY

-- the item is in the scratch area, and the streams of the old scratch message are closed
abbrev pub held : World → ℕ → MailItem → World
held w pid item =
    let p = w.process pid in
    with_moves (with_closed (with_part w pid (settled p.part (Delivered item))) (scratch_handles p.part))
    (delivery_moves pid item)

-- 0 for a message, 1 for a signal
abbrev pub delivery_reply : MailItem → Reply
delivery_reply (Letter number message) = number_reply 0
delivery_reply (Signal tag) = number_reply 1

-- DELIVERY. The item comes into the scratch area, and the receive is answered.
abbrev pub delivered : World → ℕ → Request → MailItem → World
delivered w pid request item = answered (held w pid item) pid request (delivery_reply item) (arrival_of item)

-- the item of a mailbox that a receive wants, if there is one
abbrev pub wanted_item : World → ℕ → Request → Option MailItem
wanted_item w pid request = pick (tags_in request.first) (w.process pid).mail

-- the world without that item in the mailbox
abbrev pub without_wanted : World → ℕ → Request → World
without_wanted w pid request =
    with_process w pid (record (w.process pid) { mail = unpicked (tags_in request.first) (w.process pid).mail })

-- what was found for a receive is delivered; where nothing was, the world is the other one
abbrev pub delivered_or : World → World → ℕ → Request → Option MailItem → World
delivered_or other w pid request None = other
delivered_or other w pid request (Some item) = delivered (without_wanted w pid request) pid request item

-- RECEIVE

-- where nothing is wanted: a limit of 0 milliseconds answers 9027 at once, a positive one waits up to the deadline,
-- and a negative one waits without end
abbrev pub unmet : World → ℕ → Request → World
unmet w pid request =
    let ms = arg request 2 in
    if nat_eq ms 0
    then replied w pid request (number_reply 9027)
    else waiting w pid request (if is_positive ms then Some (deadline_after w ms) else None)

-- RECEIVE. The first item of the mailbox whose tag is wanted is delivered.
abbrev pub receive_performed : World → ℕ → Request → World
receive_performed w pid request = delivered_or (unmet w pid request) w pid request (wanted_item w pid request)

-- ARRIVAL

-- a process that waits in receive, and wants an item of its mailbox, gets it
abbrev pub woken_from : Option HostCall → World → ℕ → Request → World
woken_from (Some CallIs.Receive) w pid request = delivered_or w w pid request (wanted_item w pid request)
woken_from _ w pid request = w

abbrev pub woken : Stage → World → ℕ → World
woken Unborn w pid = w
woken Ready w pid = w
woken (Out worker) w pid = w
woken (Waiting request) w pid = woken_from (call_of request) w pid request
woken (Doomed worker end) w pid = w
woken (Ended end) w pid = w

-- ARRIVAL. An item put into the mailbox of a process that waits for it is delivered in the same entry.
abbrev pub arrived : World → ℕ → MailItem → World
arrived w to item = woken (w.process to).stage (posted w to item) to

-- SEND

-- 12 where memory was refused, else the number
abbrev pub unless_refused : Bool → ℕ → ℕ
unless_refused true number = 12
unless_refused false number = number

-- 1 exactly where no live process has the number, else 2 exactly where its mailbox holds 1,024 messages, else 0 or 12
abbrev pub send_answer : Process → Bool → ℕ
send_answer to refused =
    if is_live to.stage then (if nat_lt (message_count to.mail) most_messages
    then unless_refused refused 0 else 2) else 1

-- the scratch message is on its way to `to`, counted among the sends that were answered 0
abbrev pub sent_off : World → ℕ → ℕ → World
sent_off w pid to =
    record (with_moves (with_part w pid (settled (w.process pid).part SentOff)) (Sent pid to w.sends ∷ [])) {
      sends =
          w.sends + 1;
    }

-- the message leaves the scratch area, the sender is answered 0, and the message arrives under the next number
abbrev pub sent : World → ℕ → ℕ → Request → Option Scratch → World
sent w pid to request None = w
sent w pid to request (Some scratch) =
    arrived (replied (sent_off w pid to) pid request (number_reply 0)) to (Letter w.sends scratch.message)

-- SEND. With the answer 0 the message is sent; with any other it stays in the scratch area.
abbrev pub send_performed : World → ℕ → Request → Bool → World
send_performed w pid request refused =
    let to = arg request 0 in
    let answer = send_answer (w.process to) refused in
    if nat_eq answer 0
    then sent w pid to request (w.process pid).part.scratch
    else replied w pid request (number_reply answer)
