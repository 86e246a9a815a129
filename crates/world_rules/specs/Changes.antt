use Rattle.std.specs.Prelude.{ℕ, [], ◌∷◌, ◌++◌, Option, Some, None, if◌then◌else◌}
use Rattle.host_port.specs.declared.request.Request.{Request}
use Rattle.host_port.specs.declared.reply.Reply.{Reply}
use Rattle.world_rules.specs.Arrivals.{What}
use Rattle.world_rules.specs.Arrivals as Came
use Rattle.world_rules.specs.Part.{Part}
use Rattle.world_rules.specs.Mail.{MailItem}
use Rattle.world_rules.specs.World.{World, Process, Ready, Waiting, is_home, with_process}

-- The changes of one process, of which the rules are made.

-- what arrives at a process is told with the number of the turns that it has given back
abbrev pub reached : Process → What → Process
reached p what = record p { arrivals = p.arrivals ++ record { turns = p.gives; what = what } ∷ [] }

abbrev pub with_arrival : World → ℕ → What → World
with_arrival w pid what = with_process w pid (reached (w.process pid) what)

-- the process with this part
abbrev pub with_part : World → ℕ → Part → World
with_part w pid part = with_process w pid (record (w.process pid) { part = part })

-- the request and its reply join the process's calls; it owes nothing, waits for nothing and is ready
abbrev pub readied : Process → Request → Reply → Process
readied p request reply = record p {
  stage = Ready;
  calls = p.calls ++ record { request = request; reply = reply } ∷ [];
  owed = None;
  deadline = None;
}

-- ANSWER. A process that gets the reply to its request keeps the two among its calls, and is made ready; one that the
-- same entry has ended gets no reply.
abbrev pub answered : World → ℕ → Request → Reply → What → World
answered w pid request reply what =
    if is_home (w.process pid).stage
    then with_arrival (with_process w pid (readied (w.process pid) request reply)) pid what
    else w

-- an answer that is neither a delivery nor an opened stream
abbrev pub replied : World → ℕ → Request → Reply → World
replied w pid request reply = answered w pid request reply (Came.Answered reply)

-- PENDING. A process whose request can't be answered yet is ready, and its next turn tries the same request again.
abbrev pub pended : World → ℕ → Request → World
pended w pid request = with_process w pid (record (w.process pid) { stage = Ready; owed = Some request })

-- WAIT. A process waits for the answer to its request, up to a deadline or without end.
abbrev pub waiting : World → ℕ → Request → Option ℕ → World
waiting w pid request deadline =
    with_process w pid (record (w.process pid) { stage = Waiting request; deadline = deadline })

-- POST. An item put into a mailbox goes behind the others.
abbrev pub posted : World → ℕ → MailItem → World
posted w to item = with_process w to (record (w.process to) { mail = (w.process to).mail ++ item ∷ [] })
