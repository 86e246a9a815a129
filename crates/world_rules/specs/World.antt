use Rattle.std.specs.Prelude.{ℕ, zero, suc, List, [], ◌∷◌, ◌++◌, Option, None, Bool, true, false, not, nat_eq, filter, min, max, length, if◌then◌else◌}
use Rattle.host_port.specs.declared.start.Start.{Start}
use Rattle.host_port.specs.declared.call.Call.{Call}
use Rattle.host_port.specs.declared.request.Request.{Request}
use Rattle.world_rules.specs.declared.halt.End.{End}
use Rattle.world_rules.specs.declared.life.Birth.{Birth}
use Rattle.world_rules.specs.declared.life.Birth.TheVariants.{Born, Refused}
use Rattle.world_rules.specs.Part.{Part, no_part}
use Rattle.world_rules.specs.Mail.{MailItem}
use Rattle.world_rules.specs.Moves.{Move}
use Rattle.world_rules.specs.Streams.{Streamed, nothing_streamed}
use Rattle.world_rules.specs.Arrivals.{Arrival}

-- The state of a whole run, as one thread would keep it.

-- where a process is: not born yet, at home and able to go on, out to a worker, waiting for the answer to a request,
-- doomed (out to a worker, with the end that it will have), or ended
pub data Stage : Type 0 where
  Unborn : Stage
  Ready : Stage
  Out : (worker : ℕ) → Stage
  Waiting : (request : Request) → Stage
  Doomed : (worker : ℕ) (end : End) → Stage
  Ended : (end : End) → Stage

-- a process: how it was started and where it is; its own part; the fuel that it had burnt at its last Give; its calls
-- that were answered, in order; the request that its next turn tries again; its mailbox, the oldest first; the time at
-- which its wait ends; whether it dies with links; and what no rule of another process reads: how many turns it has
-- given back, and what has arrived from outside them
pub record Process : Type 0 where
  pub start : Start
  pub stage : Stage
  pub part : Part
  pub fuel : ℕ
  pub calls : List Call
  pub owed : Option Request
  pub mail : List MailItem
  pub deadline : Option ℕ
  pub dies : Bool
  pub gives : ℕ
  pub arrivals : List Arrival

-- CORE. What a worker may rely on while it has a process: no entry but that process's Give changes it.
pub record Core : Type 0 where
  pub start : Start
  pub calls : List Call
  pub fuel : ℕ
  pub part : Part
  pub owed : Option Request

abbrev pub core_of : Process → Core
core_of p = record { start = p.start; calls = p.calls; fuel = p.fuel; part = p.part; owed = p.owed }

-- the end of a process
pub record Exit : Type 0 where
  pub pid : ℕ
  pub end : End

-- the ready list, the front first; the process of each number; the tag of the link of two processes, the lesser number
-- first; the process that is registered under each name; how many process numbers and stream numbers were drawn, how
-- many spawns were performed, and how many sends were answered 0; the time in milliseconds; how many Pending gives and
-- early Ticks the last entries are, in a row; whether the run is over; and what has happened, which no rule reads:
-- what was streamed on each stream, the streams that were closed, in order, the ends, and the moves of handles, in
-- order
pub record World : Type 0 where
  pub ready : List ℕ
  pub process : ℕ → Process
  pub links : ℕ → ℕ → Option ℕ
  pub names : List ℕ → Option ℕ
  pub numbers_drawn : ℕ
  pub streams : ℕ
  pub spawns : ℕ
  pub sends : ℕ
  pub time : ℕ
  pub row : ℕ
  pub over : Bool
  pub streamed : ℕ → Streamed
  pub closed : List ℕ
  pub exits : List Exit
  pub moves : List Move

-- STAGES

-- a process is live while it is ready, out or waiting
abbrev pub is_live : Stage → Bool
is_live Unborn = false
is_live Ready = true
is_live (Out worker) = true
is_live (Waiting request) = true
is_live (Doomed worker end) = false
is_live (Ended end) = false

-- a worker has the process
abbrev pub is_away : Stage → Bool
is_away Unborn = false
is_away Ready = false
is_away (Out worker) = true
is_away (Waiting request) = false
is_away (Doomed worker end) = true
is_away (Ended end) = false

-- a process is at home and can be answered: while its Give is performed, or while it waits
abbrev pub is_home : Stage → Bool
is_home Unborn = false
is_home Ready = true
is_home (Out worker) = false
is_home (Waiting request) = true
is_home (Doomed worker end) = false
is_home (Ended end) = false

-- a process is at home, and able to go on
abbrev pub is_ready : Stage → Bool
is_ready Unborn = false
is_ready Ready = true
is_ready (Out worker) = false
is_ready (Waiting request) = false
is_ready (Doomed worker end) = false
is_ready (Ended end) = false

abbrev pub is_waiting : Stage → Bool
is_waiting Unborn = false
is_waiting Ready = false
is_waiting (Out worker) = false
is_waiting (Waiting request) = true
is_waiting (Doomed worker end) = false
is_waiting (Ended end) = false

abbrev pub is_ended : Stage → Bool
is_ended Unborn = false
is_ended Ready = false
is_ended (Out worker) = false
is_ended (Waiting request) = false
is_ended (Doomed worker end) = false
is_ended (Ended end) = true

-- PROCESSES

-- the numbers from 1 to n
abbrev pub up_to : ℕ → List ℕ
up_to zero = []
up_to (suc n) = up_to n ++ suc n ∷ []

-- of the processes that were born, those at such a stage, by rising number
abbrev pub processes_at : (Stage → Bool) → World → List ℕ
processes_at test w = filter (λ pid. test (w.process pid).stage) (up_to w.numbers_drawn)

-- the live processes, by rising number
abbrev pub live_processes : World → List ℕ
live_processes w = processes_at is_live w

-- how many processes haven't ended, doomed ones among them
abbrev pub unended_count : World → ℕ
unended_count w = length (processes_at (λ stage. not (is_ended stage)) w)

-- the processes, the one of this number replaced
abbrev pub put : (ℕ → Process) → ℕ → Process → ℕ → Process
put processes pid process other = if nat_eq other pid then process else processes other

-- the world with this process replaced
abbrev pub with_process : World → ℕ → Process → World
with_process w pid process = record w { process = put w.process pid process }

-- the world in which these moves were made besides
abbrev pub with_moves : World → List Move → World
with_moves w moves = record w { moves = w.moves ++ moves }

-- the world in which these streams were closed besides
abbrev pub with_closed : World → List ℕ → World
with_closed w handles = record w { closed = w.closed ++ handles }

-- the tag of the link of two processes, if they are linked
abbrev pub link_between : World → ℕ → ℕ → Option ℕ
link_between w a b = w.links (min a b) (max a b)

-- THE BEGINNING

-- the start of no process
abbrev pub no_start : Start
no_start =
    record { pid = 0; «module» = 0; entry = []; params = []; limits = record { pages = 0; fuel = 0; traffic = 0 } }

-- a process with this start, at this stage, that has done nothing yet; at first it dies with links
abbrev pub fresh_process : Start → Stage → Process
fresh_process start stage = record {
  start = start;
  stage = stage;
  part = no_part;
  fuel = 0;
  calls = [];
  owed = None;
  mail = [];
  deadline = None;
  dies = true;
  gives = 0;
  arrivals = [];
}

-- the start of process 1 is the first birth
abbrev pub first_start : List Birth → Start
first_start [] = no_start
first_start (Born start ∷ births) = start
first_start (Refused reply ∷ births) = no_start

-- the run begins with process 1 ready, time 0 and nothing else
abbrev pub first_world : List Birth → World
first_world births = record {
  ready = 1 ∷ [];
  process = put (λ _. fresh_process no_start Unborn) 1 (fresh_process (first_start births) Ready);
  links = λ a b. None;
  names = λ name. None;
  numbers_drawn = 1;
  streams = 0;
  spawns = 0;
  sends = 0;
  time = 0;
  row = 0;
  over = false;
  streamed = λ handle. nothing_streamed;
  closed = [];
  exits = [];
  moves = [];
}
