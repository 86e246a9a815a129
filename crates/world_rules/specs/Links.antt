use Rattle.std.specs.Prelude.{ℕ, zero, suc, ◌&&◌, ◌||◌, List, [], ◌∷◌, filter, filter_map, flat_map, min, max, option_map, Option, Some, None, Bool, true, false, not, nat_eq, is_some, if◌then◌else◌}
use Rattle.std.specs.List.{list_any}
use Rattle.host_port.specs.declared.request.Request.{Request}
use Rattle.world_rules.specs.declared.halt.End.{End}
use Rattle.world_rules.specs.declared.halt.End.TheVariants as EndIs
use Rattle.world_rules.specs.Calls.{arg}
use Rattle.world_rules.specs.Answers.{empty_reply, number_reply}
use Rattle.world_rules.specs.Part.{is_among, without_number}
use Rattle.world_rules.specs.Mail.{Signal}
use Rattle.world_rules.specs.World.{World, is_live, with_process, link_between, live_processes, up_to}
use Rattle.world_rules.specs.Changes.{replied}
use Rattle.world_rules.specs.Receive.{arrived, unless_refused}
use Rattle.world_rules.specs.Ends.{ended, struck, all_struck, closed_with_first}

-- Links between processes: who falls when a process ends, and who is told.

-- THE CALLS

-- the world in which two processes have this link, or none
abbrev pub with_link : World → ℕ → ℕ → Option ℕ → World
with_link w a b tag =
    record w { links = λ c d. if nat_eq c (min a b) && nat_eq d (max a b) then tag else w.links c d }

-- 1 exactly where the number is the caller's own or no live process has it, else 0 or 12
abbrev pub link_answer : World → (pid other : ℕ) → Bool → ℕ
link_answer w pid other refused =
    if not (nat_eq other pid) && is_live (w.process other).stage then unless_refused refused 0 else 1

-- LINK. With the answer 0 both sides have the tag, in place of an earlier one.
abbrev pub link_performed : World → ℕ → Request → Bool → World
link_performed w pid request refused =
    let other = arg request 1 in
    let answer = link_answer w pid other refused in
    let linked = if nat_eq answer 0 then with_link w pid other (Some (arg request 0)) else w in
    replied linked pid request (number_reply answer)

-- UNLINK. The link goes on both sides, if there is one.
abbrev pub unlink_performed : World → ℕ → Request → World
unlink_performed w pid request = replied (with_link w pid (arg request 0) None) pid request empty_reply

-- DIE WHEN LINK DIES. 0 asks for signals, any other number for dying with links.
abbrev pub die_performed : World → ℕ → Request → World
die_performed w pid request =
    let minded = record (w.process pid) { dies = not (nat_eq (arg request 0) 0) } in
    replied (with_process w pid minded) pid request empty_reply

-- WHO FALLS

-- two processes are linked
abbrev pub are_linked : World → ℕ → ℕ → Bool
are_linked w a b = is_some (link_between w a b)

-- a live process that dies with links falls with a process that it is linked with
abbrev pub falls_with : World → List ℕ → ℕ → Bool
falls_with w members pid =
    is_live (w.process pid).stage && (w.process pid).dies && list_any (λ member. are_linked w member pid) members

-- the members and those that fall with one of them, by rising number
abbrev pub spread : World → List ℕ → List ℕ
spread w members = filter (λ pid. is_among members pid || falls_with w members pid) (up_to w.numbers_drawn)

-- spread so many times
abbrev pub spread_times : ℕ → World → List ℕ → List ℕ
spread_times zero w members = members
spread_times (suc n) w members = spread w (spread_times n w members)

-- THE OTHERS WHO FALL. The least set that holds the first process and each live process that is linked with a member
-- and dies with links, without the first, by rising number. With the end Done nobody falls.
abbrev pub fallen_with : World → ℕ → End → List ℕ
fallen_with w pid EndIs.Done = []
fallen_with w pid end = without_number pid (spread_times w.numbers_drawn w (pid ∷ []))

-- WHO IS TOLD

-- a signal with this tag, to this process
pub record Told : Type 0 where
  pub to : ℕ
  pub tag : ℕ

-- the signals of one member: to each live process that is linked with it and is no member, by rising number
abbrev pub signals_from : World → List ℕ → ℕ → List Told
signals_from w members member =
    filter_map (λ pid. option_map (λ (tag : ℕ). record { to = pid; tag = tag }) (link_between w member pid))
    (filter (λ pid. not (is_among members pid)) (live_processes w))

-- the signals of the members, member by member. With the end Done there are none.
abbrev pub signals_of : World → List ℕ → End → List Told
signals_of w members EndIs.Done = []
signals_of w members end = flat_map (signals_from w members) members

-- the signals are put, in this order
abbrev pub all_told : World → List Told → World
all_told w [] = w
all_told w (told ∷ rest) = all_told (arrived w told.to (Signal told.tag)) rest

-- FALL. When a process has ended so, or was doomed to it, those that fall with it end Linked; then the signals are
-- put; and where process 1 is among the ended, all others end Closed. Who falls and who is told is read in the world
-- before.
abbrev pub fallen : (before after : World) → ℕ → End → World
fallen before after pid end =
    let others = fallen_with before pid end in
    closed_with_first (all_told (all_struck after others EndIs.Linked) (signals_of before (pid ∷ others) end))

-- END BY ITSELF. A process ends by its own halt.
abbrev pub ended_by_halt : World → ℕ → End → World
ended_by_halt w pid end = fallen w (ended w pid end) pid end

-- a live process that is killed ends, or is doomed where it is out
abbrev pub killed : Bool → World → ℕ → World
killed true w pid = fallen w (struck (w.process pid).stage w pid EndIs.Killed) pid EndIs.Killed
killed false w pid = w

-- KILL. A live process of that number ends Killed; a caller that thereby ends gets no reply.
abbrev pub kill_performed : World → ℕ → Request → World
kill_performed w pid request =
    replied (killed (is_live (w.process (arg request 0)).stage) w (arg request 0)) pid request empty_reply
