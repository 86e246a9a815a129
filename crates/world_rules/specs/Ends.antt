use Rattle.std.specs.Prelude.{ℕ, ◌||◌, List, [], ◌∷◌, ◌++◌, Option, Some, None, true, nat_eq, if◌then◌else◌}
use Rattle.world_rules.specs.declared.halt.End.{End}
use Rattle.world_rules.specs.declared.halt.End.TheVariants as EndIs
use Rattle.world_rules.specs.Arrivals as Came
use Rattle.world_rules.specs.Part.{no_part, scratch_handles}
use Rattle.world_rules.specs.Mail.{mail_handles}
use Rattle.world_rules.specs.Moves.{ShutAll, ShutMail}
use Rattle.world_rules.specs.World.{World, Process, Stage, Unborn, Ready, Out, Waiting, Doomed, Ended, with_process, with_moves, with_closed, live_processes}
use Rattle.world_rules.specs.Changes.{with_arrival}

-- How processes end.

-- what a name names, unless it is this process
abbrev pub unless_process : ℕ → Option ℕ → Option ℕ
unless_process pid None = None
unless_process pid (Some other) = if nat_eq other pid then None else Some other

-- the world without the registry entries and without the links of a process
abbrev pub unnamed : World → ℕ → World
unnamed w pid = record w { names = λ name. unless_process pid (w.names name) }

abbrev pub unlinked_all : World → ℕ → World
unlinked_all w pid = record w { links = λ a b. if nat_eq a pid || nat_eq b pid then None else w.links a b }

-- the world with this process in the place of its number, without its registry entries and its links
abbrev pub parted : World → ℕ → Process → World
parted w pid p = unlinked_all (unnamed (with_process w pid p) pid) pid

-- the streams that a process holds: those of its table, then of its scratch message, then of its mailbox
abbrev pub held_handles : Process → List ℕ
held_handles p = p.part.handles ++ scratch_handles p.part ++ mail_handles p.mail

-- the process with nothing of its own left, ended so
abbrev pub stripped : Process → End → Process
stripped p end = record p { stage = Ended end; part = no_part; owed = None; mail = []; deadline = None }

-- END. A process that ends closes its streams and its listeners, and loses its mailbox, its registry entries and its
-- links.
abbrev pub ended : World → ℕ → End → World
ended w pid end =
    let left = with_closed (parted w pid (stripped (w.process pid) end)) (held_handles (w.process pid)) in
    record (with_moves left (ShutAll pid ∷ [])) { exits = w.exits ++ record { pid = pid; end = end } ∷ [] }

-- an end that is not of the process's own turn
abbrev pub ended_from_outside : World → ℕ → End → World
ended_from_outside w pid end = ended (with_arrival w pid (Came.Doomed end)) pid end

-- the process without its mailbox, doomed so under this worker
abbrev pub fated : Process → ℕ → End → Process
fated p worker end = record p { stage = Doomed worker end; mail = [] }

-- DOOM. A process to which an end comes while it is out loses its mailbox, its registry entries and its links now, and
-- has that end at its Give.
abbrev pub doomed : World → ℕ → ℕ → End → World
doomed w pid worker end =
    let left = with_closed (parted w pid (fated (w.process pid) worker end)) (mail_handles (w.process pid).mail) in
    with_moves left (ShutMail pid ∷ [])

-- an end comes to a process from outside its turn: it ends, or is doomed where it is out; a doomed process keeps its
-- first doom
abbrev pub struck : Stage → World → ℕ → End → World
struck Unborn w pid end = w
struck Ready w pid end = ended_from_outside w pid end
struck (Out worker) w pid end = doomed w pid worker end
struck (Waiting request) w pid end = ended_from_outside w pid end
struck (Doomed worker earlier) w pid end = w
struck (Ended earlier) w pid end = w

-- the same end comes to these processes, in this order
abbrev pub all_struck : World → List ℕ → End → World
all_struck w [] end = w
all_struck w (pid ∷ pids) end = all_struck (struck (w.process pid).stage w pid end) pids end

-- END OF ALL. An end comes to every live process, by rising number, and the run is over. No links fall, and no signal
-- is put.
abbrev pub all_end : World → End → World
all_end w end = record (all_struck w (live_processes w) end) { over = true }

-- where process 1 has ended, every other live process ends Closed, by rising number, or is doomed to it, and the run
-- is over
abbrev pub over_with_first : Stage → World → World
over_with_first Unborn w = w
over_with_first Ready w = w
over_with_first (Out worker) w = w
over_with_first (Waiting request) w = w
over_with_first (Doomed worker end) w = w
over_with_first (Ended end) w = all_end w EndIs.Closed

abbrev pub closed_with_first : World → World
closed_with_first w = over_with_first (w.process 1).stage w
