-- The walk over all rules: ends, falls, births, links and names, and each entry.
use Rattle.std.specs.Prelude.{◌≡◌, ◌≢◌, ◌⊎◌, ℕ, ◌+◌, ◌≤◌, List, [], ◌∷◌, ◌++◌, length, slice_get, Option, Some, None, Bool, true, false, not, nat_eq, filter, filter_map, flat_map, cond, option_map, ◌&&◌, ◌||◌, if◌then◌else◌, refl}
use Rattle.std.specs.Option.{option_map_or}
use Rattle.std.proofs.Common.{subst, sym, ◌∙◌, ap, inl, inr, arith}
use Rattle.std.proofs.lemmas.Bool.Decides.{eqb_tells, nat_tests}
use Rattle.std.specs.List.{All, cons_option}
use Rattle.std.proofs.lemmas.List.Elements.{All-nil, All-cons, All-head, All-tail, filter_passes}
use Rattle.host_port.specs.declared.call.Call.{Call}
use Rattle.world_rules.specs.Local.{AreLocal}
use Rattle.host_port.specs.declared.start.Start.{Start}
use Rattle.host_port.specs.declared.request.Request.{Request}
use Rattle.host_port.specs.declared.reply.Reply.{Reply}
use Rattle.world_rules.specs.declared.entry.Side.{Side}
use Rattle.world_rules.specs.declared.halt.End.{End}
use Rattle.world_rules.specs.declared.halt.End.TheVariants as EndIs
use Rattle.world_rules.specs.declared.life.Birth.{Birth}
use Rattle.world_rules.specs.declared.life.Birth.TheVariants.{Born, Refused}
use Rattle.world_rules.specs.Views.{Given, Deed, Taking, Giving, Timing, EndingAll, end_by, Want, Goes, Wants, Retries, Ends, want_of, wanted_in, is_starved, is_opened, is_refused, is_pending}
use Rattle.world_rules.specs.Calls.{HostCall, call_of, arg}
use Rattle.world_rules.specs.Calls as CallIs
use Rattle.world_rules.specs.Answers.{empty_reply, number_reply, written_reply}
use Rattle.world_rules.specs.Arrivals.{What, arrival_of}
use Rattle.world_rules.specs.Arrivals as Came
use Rattle.world_rules.specs.Part.{is_among}
use Rattle.world_rules.specs.Mail.{Signal}
use Rattle.world_rules.specs.World.{World, Process, Stage, Unborn, Ready, Out, Waiting, Doomed, Ended, is_away, is_live, with_process, fresh_process, live_processes, up_to, link_between}
use Rattle.world_rules.specs.Changes.{reached, with_arrival, replied}
use Rattle.world_rules.specs.Receive.{arrived, unless_refused}
use Rattle.world_rules.specs.Links.{with_link, link_answer, link_performed, fallen_with, signals_of, signals_from, Told, all_told, fallen, ended_by_halt, killed, kill_performed}
use Rattle.world_rules.specs.Outside.{opened_and_shut}
use Rattle.world_rules.specs.Ends.{ended, ended_from_outside, struck, all_struck, all_end, over_with_first, closed_with_first, stripped, fated}
use Rattle.world_rules.specs.Registry.{with_name, put_answer, put_performed}
use Rattle.world_rules.specs.Spawn.{next_number, next_birth, born, spawn_counted, spawned}
use Rattle.world_rules.specs.Births.{Terms, BirthFits}
use Rattle.world_rules.specs.Allowed.{is_out, IsWith, DeedFits, GiveFits, GivesTurn, SpawnFits}
use Rattle.world_rules.specs.Rules.{turned, starved_by, recorded, home, opening_shut, call_performed, performed, asked, retried, halted, given, happened}
use Rattle.world_rules.specs.Touches.{Pends, TurnStands, is_there, can_end}
use Rattle.world_rules.specs.laws.BirthLaws.{counted, process_counted, HasBirth, birth_of_turn, owed_home, spawns_recorded}
use Rattle.world_rules.specs.laws.CarryLaws.{put_other, numbers_recorded}
use Rattle.world_rules.specs.laws.KeepingLaws.{false_is_true}
use Rattle.world_rules.proofs.Walk.{Whole, IsLive, NobodyLives, over, child_there, more_spawns}
use Rattle.world_rules.proofs.MildWalk.{stage_put, LiveSame, live_mild, if_walk, put_walk, arrival_walk, replied_walk, fine, steps, send_walk, receive_walk, sleep_walk, die_walk, outside_walk, taken_walk, recorded_walk, home_walk, shut_walk, ticked_walk}

-- LISTS

either : (a b : Bool) → (a || b) ≡ true → (a ≡ true) ⊎ (b ≡ true)
either true b e = inl refl
either false b e = inr e

neither : (a b : Bool) → (a || b) ≡ false → (a ≡ false) × (b ≡ false)
neither true b e = false_is_true (sym e)
neither false b e = (refl, e)

equal : (a b : ℕ) → a ≡ b → nat_eq a b ≡ true
equal a b same = grind (arith, nat_tests)

second_of : (a b : Bool) → b ≡ true → (a || b) ≡ true
second_of true b e = refl
second_of false b e = e

first_of_two : (a b : Bool) → a ≡ true → (a || b) ≡ true
first_of_two true b e = refl
first_of_two false b e = false_is_true e

same_number : (a b : ℕ) → nat_eq a b ≡ true → a ≡ b
same_number a b e = by (eqb_tells a b) e
  where
    by : ((nat_eq a b ≡ true) × (a ≡ b)) ⊎ ((nat_eq a b ≡ false) × (a ≢ b)) → nat_eq a b ≡ true → a ≡ b
    by (inl h) e = h.1
    by (inr h) e = false_is_true (sym h.0 ∙ e)

kept_in : (b : Bool) (test : ℕ → Bool) (x : ℕ) (xs : List ℕ) (q : ℕ) → is_among (filter test xs) q ≡ true →
    is_among (cond b (x ∷ filter test xs) (filter test xs)) q ≡ true
kept_in true test x xs q there = second_of (nat_eq q x) (is_among (filter test xs) q) there
kept_in false test x xs q there = there

first_in : (b : Bool) (test : ℕ → Bool) (x : ℕ) (xs : List ℕ) (q : ℕ) → test x ≡ b → nat_eq q x ≡ true →
    (is_among (cond b (x ∷ filter test xs) (filter test xs)) q ≡ true) ⊎ (test q ≡ false)
first_in true test x xs q e same = inl (first_of_two (nat_eq q x) (is_among (filter test xs) q) same)
first_in false test x xs q e same = inr (ap (λ (n : ℕ). test n) (same_number q x same) ∙ e)

filter_among : (test : ℕ → Bool) (xs : List ℕ) (q : ℕ) → is_among xs q ≡ true →
    (is_among (filter test xs) q ≡ true) ⊎ (test q ≡ false)
filter_among test [] q is = false_is_true is
filter_among test (x ∷ xs) q is = by (λ there. filter_among test xs q there) (either (nat_eq q x) (is_among xs q) is)
  where
    behind : (is_among (filter test xs) q ≡ true) ⊎ (test q ≡ false) →
        (is_among (cond (test x) (x ∷ filter test xs) (filter test xs)) q ≡ true) ⊎ (test q ≡ false)
    behind (inl there) = inl (kept_in (test x) test x xs q there)
    behind (inr isnt) = inr isnt

    by : (is_among xs q ≡ true → (is_among (filter test xs) q ≡ true) ⊎ (test q ≡ false)) → (nat_eq q x ≡ true) ⊎ (is_among xs q ≡ true) →
        (is_among (cond (test x) (x ∷ filter test xs) (filter test xs)) q ≡ true) ⊎ (test q ≡ false)
    by rest (inl same) = first_in (test x) test x xs q refl same
    by rest (inr there) = behind (rest there)

-- WHO IS STRUCK

outside_other : (w : World) (pid : ℕ) (end : End) (q : ℕ) → q ≢ pid →
    (ended_from_outside w pid end).process q ≡ w.process q
outside_other w pid end q other =
    let p : Process = reached (w.process pid) (Came.Doomed end) in
    let mid : World = with_process w pid p in
    put_other mid pid (stripped (mid.process pid) end) q other ∙ put_other w pid p q other

struck_other : (stage : Stage) (w : World) (pid : ℕ) (end : End) (q : ℕ) → q ≢ pid →
    (struck stage w pid end).process q ≡ w.process q
struck_other Unborn w pid end q other = refl
struck_other Ready w pid end q other = outside_other w pid end q other
struck_other (Out worker) w pid end q other = put_other w pid (fated (w.process pid) worker end) q other
struck_other (Waiting request) w pid end q other = outside_other w pid end q other
struck_other (Doomed worker earlier) w pid end q other = refl
struck_other (Ended earlier) w pid end q other = refl

all_struck_other : (w : World) (pids : List ℕ) (end : End) (q : ℕ) → is_among pids q ≡ false →
    (all_struck w pids end).process q ≡ w.process q
all_struck_other w [] end q none = refl
all_struck_other w (pid ∷ pids) end q none =
    let mid : World = struck (w.process pid).stage w pid end in
    let isnt = neither (nat_eq q pid) (is_among pids q) none in
    all_struck_other mid pids end q isnt.1
    ∙ struck_other (w.process pid).stage w pid end q (λ same. false_is_true (sym isnt.0 ∙ equal q pid same))

-- who is struck is live no more, and nobody else comes to life

outside_dead : (w : World) (pid : ℕ) (end : End) → is_live ((ended_from_outside w pid end).process pid).stage ≡ false
outside_dead w pid end =
    let p : Process = reached (w.process pid) (Came.Doomed end) in
    let mid : World = with_process w pid p in
    ap (λ (s : Stage). is_live s) (stage_put mid pid (stripped (mid.process pid) end))

struck_dead : (stage : Stage) (w : World) (pid : ℕ) (end : End) → (w.process pid).stage ≡ stage →
    is_live ((struck stage w pid end).process pid).stage ≡ false
struck_dead Unborn w pid end at = ap (λ (s : Stage). is_live s) at
struck_dead Ready w pid end at = outside_dead w pid end
struck_dead (Out worker) w pid end at =
    ap (λ (s : Stage). is_live s) (stage_put w pid (fated (w.process pid) worker end))
struck_dead (Waiting request) w pid end at = outside_dead w pid end
struck_dead (Doomed worker earlier) w pid end at = ap (λ (s : Stage). is_live s) at
struck_dead (Ended earlier) w pid end at = ap (λ (s : Stage). is_live s) at

-- a process that isn't live, or is among those who are struck next
abbrev IsDue : World → List ℕ → ℕ → Type 0
IsDue w pids q = (is_live (w.process q).stage ≡ false) ⊎ (is_among pids q ≡ true)

all_struck_dead : (w : World) (pids : List ℕ) (end : End) (q : ℕ) → IsDue w pids q →
    is_live ((all_struck w pids end).process q).stage ≡ false
all_struck_dead w [] end q (inl dead) = dead
all_struck_dead w [] end q (inr is) = false_is_true is
all_struck_dead w (pid ∷ pids) end q due =
    all_struck_dead mid pids end q (by (eqb_tells q pid) due)
  where
    mid : World
    mid = struck (w.process pid).stage w pid end

    apart : q ≢ pid → nat_eq q pid ≡ false → IsDue w (pid ∷ pids) q → IsDue mid pids q
    apart other isnt (inl dead) =
        inl (ap (λ (p : Process). is_live p.stage) (struck_other (w.process pid).stage w pid end q other) ∙ dead)
    apart other isnt (inr is) = inr (ap (λ (b : Bool). b || is_among pids q) (sym isnt) ∙ is)

    by : ((nat_eq q pid ≡ true) × (q ≡ pid)) ⊎ ((nat_eq q pid ≡ false) × (q ≢ pid)) → IsDue w (pid ∷ pids) q → IsDue mid pids q
    by (inl same) due = inl (ap (λ (n : ℕ). is_live (mid.process n).stage) same.1 ∙ struck_dead (w.process pid).stage w pid end refl)
    by (inr differs) due = apart differs.1 differs.0 due

struck_numbers : (stage : Stage) (w : World) (pid : ℕ) (end : End) → (struck stage w pid end).numbers_drawn ≡ w.numbers_drawn
struck_numbers Unborn w pid end = refl
struck_numbers Ready w pid end = refl
struck_numbers (Out worker) w pid end = refl
struck_numbers (Waiting request) w pid end = refl
struck_numbers (Doomed worker earlier) w pid end = refl
struck_numbers (Ended earlier) w pid end = refl

all_struck_numbers : (w : World) (pids : List ℕ) (end : End) → (all_struck w pids end).numbers_drawn ≡ w.numbers_drawn
all_struck_numbers w [] end = refl
all_struck_numbers w (pid ∷ pids) end =
    all_struck_numbers (struck (w.process pid).stage w pid end) pids end ∙ struck_numbers (w.process pid).stage w pid end

nobody_lives : (w : World) (end : End) → NobodyLives (all_struck w (live_processes w) end)
nobody_lives w end q is =
    all_struck_dead w (live_processes w) end q (turned_round (filter_among (λ pid. is_live (w.process pid).stage) (up_to w.numbers_drawn) q
    (subst (λ (n : ℕ). is_among (up_to n) q ≡ true) (all_struck_numbers w (live_processes w) end) is)))
  where
    turned_round : (is_among (live_processes w) q ≡ true) ⊎ (is_live (w.process q).stage ≡ false) → IsDue w (live_processes w) q
    turned_round (inl is) = inr is
    turned_round (inr isnt) = inl isnt

-- WHO IS TOLD

-- each signal goes to a live process
abbrev pub AllLive : World → List Told → Type 0
AllLive w [] = Unit {0}
AllLive w (told ∷ rest) = IsLive w told.to × AllLive w rest

live_append : (w : World) (xs ys : List Told) → AllLive w xs → AllLive w ys → AllLive w (xs ++ ys)
live_append w [] ys first second = second
live_append w (x ∷ xs) ys first second = (first.0, live_append w xs ys first.1 second)

live_after : (w after : World) (told : List Told) → LiveSame w after → AllLive w told → AllLive after told
live_after w after [] same all = tt
live_after w after (told ∷ rest) same all = (same told.to ∙ all.0, live_after w after rest same all.1)

signal_at : (tag : Option ℕ) (w after : World) (pid : ℕ) (rest : List Told) → IsLive after pid → AllLive after rest →
    AllLive after (cons_option (option_map (λ (t : ℕ). record { to = pid; tag = t }) tag) rest)
signal_at None w after pid rest live all = all
signal_at (Some tag) w after pid rest live all = (live, all)

signals_live : (w after : World) (member : ℕ) (pids : List ℕ) → All (IsLive after) pids →
    AllLive after (filter_map (λ pid. option_map (λ (tag : ℕ). record { to = pid; tag = tag }) (link_between w member pid)) pids)
signals_live w after member [] all = tt
signals_live w after member (pid ∷ pids) all =
    signal_at (link_between w member pid) w after pid
    (filter_map (λ pid. option_map (λ (tag : ℕ). record { to = pid; tag = tag }) (link_between w member pid)) pids)
    (All-head (IsLive after) pid pids all)
    (signals_live w after member pids (All-tail (IsLive after) pid pids all))

-- those who are live and no members are live afterwards, where only members were changed
left_live : (w after : World) (members : List ℕ) → ((q : ℕ) → is_among members q ≡ false → after.process q ≡ w.process q)
    → All (IsLive after) (filter (λ pid. not (is_among members pid)) (live_processes w))
left_live w after members others =
    both (live_processes w) (filter_passes (λ pid. is_live (w.process pid).stage) (up_to w.numbers_drawn))
  where
    at : (b : Bool) (pid : ℕ) (rest : List ℕ) → is_among members pid ≡ b → IsLive w pid → All (IsLive after) rest
        → All (IsLive after) (cond (not b) (pid ∷ rest) rest)
    at true pid rest is live all = all
    at false pid rest is live all =
        All-cons (IsLive after) pid rest (ap (λ (p : Process). is_live p.stage) (others pid is) ∙ live) all

    both : (pids : List ℕ) → All (IsLive w) pids → All (IsLive after) (filter (λ pid. not (is_among members pid)) pids)
    both [] all = All-nil (IsLive after)
    both (pid ∷ pids) all =
        at (is_among members pid) pid (filter (λ pid. not (is_among members pid)) pids) refl (All-head (IsLive w) pid pids all) (both pids (All-tail (IsLive w) pid pids all))

members_told : (w after : World) (all these : List ℕ) → ((q : ℕ) → is_among all q ≡ false → after.process q ≡ w.process q)
    → AllLive after (flat_map (signals_from w all) these)
members_told w after all [] others = tt
members_told w after all (member ∷ these) others =
    live_append after (signals_from w all member) (flat_map (signals_from w all) these)
    (signals_live w after member (filter (λ pid. not (is_among all pid)) (live_processes w)) (left_live w after all others))
    (members_told w after all these others)

signals_stand : (w after : World) (members : List ℕ) (end : End) → ((q : ℕ) → is_among members q ≡ false → after.process q ≡ w.process q)
    → AllLive after (signals_of w members end)
signals_stand w after members EndIs.Done others = tt
signals_stand w after members _ others = members_told w after members members others

arrived_live : (w : World) (to : ℕ) (tag : ℕ) → IsLive w to → LiveSame w (arrived w to (Signal tag))
arrived_live w to tag live = (steps LiveSame (fine LiveSame live_mild)).signals w to tag live

-- BIRTHS

-- the next birth has the next number
abbrev IsNumbered : List Birth → World → Type 0
IsNumbered births w = (start : Start) → next_birth births w ≡ Some (Born start) → start.pid ≡ next_number w

ends_there : (s : Stage) → can_end s ≡ true → is_there s ≡ true
ends_there Unborn e = false_is_true e
ends_there Ready e = refl
ends_there (Out worker) e = false_is_true e
ends_there (Waiting request) e = refl
ends_there (Doomed worker end) e = refl
ends_there (Ended end) e = false_is_true e

zero_link : (own live refused : Bool) → nat_eq (if own && live then unless_refused refused 0 else 1) 0 ≡ true → live ≡ true
zero_link true true refused e = refl
zero_link true false refused e = false_is_true e
zero_link false live refused e = false_is_true e

zero_name : (live refused : Bool) → nat_eq (if live then unless_refused refused 0 else 1) 0 ≡ true → live ≡ true
zero_name true refused e = refl
zero_name false refused e = false_is_true e

-- who is live is live beside a new child, or is the child
still_live : (w : World) (pid child : ℕ) (start : Start) → IsLive w pid → IsLive (with_process w child (fresh_process start Ready)) pid
still_live w pid child start live = by (nat_eq pid child)
  where
    by : (b : Bool) → is_live (if b then fresh_process start Ready else w.process pid).stage ≡ true
    by true = refl
    by false = live

away_with : (s : Stage) (worker : ℕ) → IsWith s worker → is_away s ≡ true
away_with Unborn worker is = absurd is
away_with Ready worker is = absurd is
away_with (Out other) worker is = refl
away_with (Waiting request) worker is = absurd is
away_with (Doomed other end) worker is = refl
away_with (Ended end) worker is = absurd is

turn_grown : (terms : Option Terms) (births : List Birth) (w : World) (p : Process) (give : Given) (owed : Option Request)
    → GivesTurn terms births w p give owed → (p.fuel ≤ give.fuel) × AreLocal p.start p.part give.calls
turn_grown terms births w p give None turn = (turn.grown, turn.local)
turn_grown terms births w p give (Some request) turn =
    let same = turn.fuel in
    (omega (arith, same), subst (λ (calls : List Call). AreLocal p.start p.part calls) (sym turn.calls) tt)

turn_stands : (terms : Option Terms) (births : List Birth) (w : World) (give : Given) → GiveFits terms births w give → TurnStands (w.process give.pid) give
turn_stands terms births w give fits =
    let grown = turn_grown terms births w (w.process give.pid) give (w.process give.pid).owed fits.turn in
    record { away = away_with (w.process give.pid).stage give.worker fits.away; grown = grown.0; local = grown.1 }

starved_stage : (w : World) (give : Given) (starved : Bool) → let there : World = if starved then with_arrival w give.pid (Came.Starved (length give.calls)) else w in
    (there.process give.pid).stage ≡ (w.process give.pid).stage
starved_stage w give true = stage_put w give.pid (reached (w.process give.pid) (Came.Starved (length give.calls)))
starved_stage w give false = refl

recorded_stage : (w : World) (give : Given) → ((recorded w give).process give.pid).stage ≡ (w.process give.pid).stage
recorded_stage w give =
    let starved : World = starved_by (counted w give) give in
    stage_put starved give.pid (turned (starved.process give.pid) give)
    ∙ starved_stage (counted w give) give (is_starved give.halt)
    ∙ ap (λ (ps : ℕ → Process). (ps give.pid).stage) (process_counted w give)

shut_stage : (opening : Bool) (w : World) (pid : ℕ) → ((if opening then opened_and_shut w pid else w).process pid).stage ≡ (w.process pid).stage
shut_stage true w pid = refl
shut_stage false w pid = refl

-- the birth that an allowed spawn finds has the next number
found_number : (terms : Option Terms) (w : World) (parent : Process) (request : Request) (side : Side) (birth : Option Birth) (start : Start)
    → birth ≡ Some (Born start) → BirthFits terms w parent request side birth → start.pid ≡ next_number w
found_number terms w parent request side birth start same fits =
    (subst (λ (b : Option Birth). BirthFits terms w parent request side b) same fits).child.pid

spawn_number : (terms : Option Terms) (births : List Birth) (call : Option HostCall) (stage : Stage) (worker : ℕ) (w : World) (parent : Process) (request : Request) (side : Side) (start : Start)
    → call ≡ Some CallIs.Spawn → stage ≡ Out worker → SpawnFits terms births call stage w parent request side → next_birth births w ≡ Some (Born start)
    → start.pid ≡ next_number w
spawn_number terms births call stage worker w parent request side start spawns out fits found =
    let P : Option HostCall → Type 0 = λ c. SpawnFits terms births c stage w parent request side in
    let Q : Stage → Type 0 = λ s. SpawnFits terms births (Some CallIs.Spawn) s w parent request side in
    found_number terms w parent request side (next_birth births w) start found (subst Q out (subst P spawns fits))

birth_numbered : (terms : Option Terms) (births : List Birth) (w : World) (give : Given) (worker : ℕ) → (w.process give.pid).stage ≡ Out worker → GiveFits terms births w give
    → (request : Request) → wanted_in (want_of give.halt) ((home (recorded w give) give.pid).process give.pid).owed ≡ Some request → call_of request ≡ Some CallIs.Spawn
    → IsNumbered births (home (recorded w give) give.pid)
birth_numbered terms births w give worker at fits request wanted spawns start found =
    let has : HasBirth terms births w give request =
    birth_of_turn terms births w (w.process give.pid) give (w.process give.pid).owed request fits.turn
    (ap (λ (owed : Option Request). wanted_in (want_of give.halt) owed) (sym (owed_home w give)) ∙ wanted) in
    spawn_number terms births (call_of request) (w.process give.pid).stage worker w has.0 request give.side start spawns at has.1
    (ap (λ (n : ℕ). slice_get births (n + 1)) (sym (spawns_recorded w give)) ∙ found)
    ∙ ap (λ (n : ℕ). n + 1) (sym (numbers_recorded w give))

-- THE WALK

module _ (R : World → World → Type 0) (k : Whole R) where
  self : (w : World) → R w w
  self w = k.mild.calm.self w

  step : (a b c : World) → R a b → R b c → R a c
  step a b c first second = k.mild.calm.next a b c first second

  reply_then : (w mid : World) (pid : ℕ) (request : Request) (reply : Reply) → R w mid → R w (replied mid pid request reply)
  reply_then w mid pid request reply first = step w mid (replied mid pid request reply) first (replied_walk R k.mild.calm mid pid request reply)

  outside_end_walk : (w : World) (pid : ℕ) (end : End) → can_end (w.process pid).stage ≡ true → R w (ended_from_outside w pid end)
  outside_end_walk w pid end can =
      let p : Process = reached (w.process pid) (Came.Doomed end) in
      let mid : World = with_process w pid p in
      step w mid (ended_from_outside w pid end)
      (arrival_walk R k.mild.calm w pid (Came.Doomed end) (ends_there (w.process pid).stage can))
      (k.ends mid pid end (ap (λ (s : Stage). can_end s) (stage_put w pid p) ∙ can))

  struck_walk : (stage : Stage) (w : World) (pid : ℕ) (end : End) → (w.process pid).stage ≡ stage → R w (struck stage w pid end)
  struck_walk Unborn w pid end at = self w
  struck_walk Ready w pid end at = outside_end_walk w pid end (ap (λ (s : Stage). can_end s) at)
  struck_walk (Out worker) w pid end at = k.dooms w pid worker end at
  struck_walk (Waiting request) w pid end at = outside_end_walk w pid end (ap (λ (s : Stage). can_end s) at)
  struck_walk (Doomed worker earlier) w pid end at = self w
  struck_walk (Ended earlier) w pid end at = self w

  all_struck_walk : (w : World) (pids : List ℕ) (end : End) → R w (all_struck w pids end)
  all_struck_walk w [] end = self w
  all_struck_walk w (pid ∷ pids) end =
      let mid : World = struck (w.process pid).stage w pid end in
      step w mid (all_struck mid pids end) (struck_walk (w.process pid).stage w pid end refl) (all_struck_walk mid pids end)

  pub all_end_walk : (w : World) (end : End) → R w (all_end w end)
  all_end_walk w end =
      let mid : World = all_struck w (live_processes w) end in
      step w mid (over mid) (all_struck_walk w (live_processes w) end) (k.overs mid (nobody_lives w end))

  first_walk : (stage : Stage) (w : World) → R w (over_with_first stage w)
  first_walk Unborn w = self w
  first_walk Ready w = self w
  first_walk (Out worker) w = self w
  first_walk (Waiting request) w = self w
  first_walk (Doomed worker end) w = self w
  first_walk (Ended end) w = all_end_walk w EndIs.Closed

  told_walk : (w : World) (signals : List Told) → AllLive w signals → R w (all_told w signals)
  told_walk w [] all = self w
  told_walk w (told ∷ rest) all =
      let mid : World = arrived w told.to (Signal told.tag) in
      step w mid (all_told mid rest)
      (k.mild.signals w told.to told.tag all.0)
      (told_walk mid rest (live_after w mid rest (arrived_live w told.to told.tag all.0) all.1))

  fallen_walk : (before after : World) (pid : ℕ) (end : End) → R before after → ((q : ℕ) → q ≢ pid → after.process q ≡ before.process q)
      → R before (fallen before after pid end)
  fallen_walk before after pid end first others =
      let fall : List ℕ = fallen_with before pid end in
      let struck_all : World = all_struck after fall EndIs.Linked in
      let signals : List Told = signals_of before (pid ∷ fall) end in
      let signalled : World = all_told struck_all signals in
      step before after (closed_with_first signalled) first
      (step after struck_all (closed_with_first signalled) (all_struck_walk after fall EndIs.Linked)
      (step struck_all signalled (closed_with_first signalled)
      (told_walk struck_all signals (signals_stand before struck_all (pid ∷ fall) end
      (λ q none.
      let isnt = neither (nat_eq q pid) (is_among fall q) none in
      all_struck_other after fall EndIs.Linked q isnt.1 ∙ others q (λ same. false_is_true (sym isnt.0 ∙ equal q pid same)))))
      (first_walk (signalled.process 1).stage signalled)))

  halt_walk : (w : World) (pid : ℕ) (end : End) → (w.process pid).stage ≡ Ready → R w (ended_by_halt w pid end)
  halt_walk w pid end there =
      fallen_walk w (ended w pid end) pid end (k.ends w pid end (ap (λ (s : Stage). can_end s) there))
      (λ q other. put_other w pid (stripped (w.process pid) end) q other)

  killed_walk : (live : Bool) (w : World) (pid : ℕ) → R w (killed live w pid)
  killed_walk true w pid =
      fallen_walk w (struck (w.process pid).stage w pid EndIs.Killed) pid EndIs.Killed
      (struck_walk (w.process pid).stage w pid EndIs.Killed refl)
      (λ q other. struck_other (w.process pid).stage w pid EndIs.Killed q other)
  killed_walk false w pid = self w

  kill_walk : (w : World) (pid : ℕ) (request : Request) → R w (kill_performed w pid request)
  kill_walk w pid request =
      let live : Bool = is_live (w.process (arg request 0)).stage in
      reply_then w (killed live w (arg request 0)) pid request empty_reply (killed_walk live w (arg request 0))

  link_walk : (w : World) (pid : ℕ) (request : Request) (refused : Bool) → (w.process pid).stage ≡ Ready →
      R w (link_performed w pid request refused)
  link_walk w pid request refused there =
      let other : ℕ = arg request 1 in
      let answer : ℕ = link_answer w pid other refused in
      let linked : World = with_link w pid other (Some (arg request 0)) in
      reply_then w (if nat_eq answer 0 then linked else w) pid request (number_reply answer)
      (if_walk R k.mild.calm (nat_eq answer 0) w linked w
      (λ zero. k.linked w pid other (arg request 0) (ap (λ (s : Stage). is_live s) there)
      (zero_link (not (nat_eq other pid)) (is_live (w.process other).stage) refused zero))
      (λ isnt. self w))

  put_name_walk : (w : World) (pid : ℕ) (request : Request) (refused : Bool) → R w (put_performed w pid request refused)
  put_name_walk w pid request refused =
      let other : ℕ = arg request 2 in
      let answer : ℕ = put_answer w other refused in
      let there : World = with_name w request.first (Some other) in
      reply_then w (if nat_eq answer 0 then there else w) pid request (number_reply answer)
      (if_walk R k.mild.calm (nat_eq answer 0) w there w
      (λ zero. k.named w request.first other (zero_name (is_live (w.process other).stage) refused zero)) (λ isnt. self w))

  born_walk : (w : World) (pid : ℕ) (request : Request) (start : Start) → (w.process pid).stage ≡ Ready → start.pid ≡ next_number w →
      R w (born w pid request start)
  born_walk w pid request start there number =
      let child : ℕ = next_number w in
      let tag : ℕ = arg request 0 in
      let alive : IsLive w pid = ap (λ (s : Stage). is_live s) there in
      let mid : World = child_there w start in
      let first : R w mid = k.begins w pid start alive number in
      if_walk R k.mild.calm (nat_eq tag 0) w mid (with_link mid pid child (Some tag))
      (λ zero. first)
      (λ more. step w mid (with_link mid pid child (Some tag)) first
      (k.linked mid pid child tag (still_live w pid child start alive)
      (ap (λ (s : Stage). is_live s) (stage_put w child (fresh_process start Ready)))))

  spawn_walk : (w : World) → R w (spawn_counted w)
  spawn_walk w = k.mild.calm.still w (spawn_counted w) (record { process = λ q. refl; rest = refl; counts = more_spawns w }) refl

  spawned_walk : (birth : Option Birth) (w : World) (pid : ℕ) (request : Request) → (w.process pid).stage ≡ Ready →
      ((start : Start) → birth ≡ Some (Born start) → start.pid ≡ next_number w) → R w (spawned birth w pid request)
  spawned_walk None w pid request there numbered =
      reply_then w (spawn_counted w) pid request (number_reply 12) (spawn_walk w)
  spawned_walk (Some (Born start)) w pid request there numbered =
      let mid : World = spawn_counted w in
      reply_then w (born mid pid request start) pid request (written_reply 0 (arg request 7) (next_number w))
      (step w mid (born mid pid request start) (spawn_walk w) (born_walk mid pid request start there (numbered start refl)))
  spawned_walk (Some (Refused reply)) w pid request there numbered =
      reply_then w (spawn_counted w) pid request (number_reply reply) (spawn_walk w)

  call_walk : (births : List Birth) (call : HostCall) (w : World) (pid : ℕ) (request : Request) (side : Side) → (w.process pid).stage ≡ Ready
      → (call ≡ CallIs.Spawn → IsNumbered births w) → call_of request ≡ Some call → R w (call_performed births call w pid request side)
  call_walk births CallIs.Send w pid request side there numbered named = send_walk R k.mild w pid request (is_refused side) there
  call_walk births CallIs.Receive w pid request side there numbered named = receive_walk R k.mild w pid request there
  call_walk births CallIs.Exists w pid request side there numbered named =
      replied_walk R k.mild.calm w pid request (number_reply (if is_live (w.process (arg request 0)).stage then 1 else 0))
  call_walk births CallIs.Spawn w pid request side there numbered named =
      spawned_walk (next_birth births w) w pid request there (numbered refl)
  call_walk births CallIs.Kill w pid request side there numbered named = kill_walk w pid request
  call_walk births CallIs.Link w pid request side there numbered named = link_walk w pid request (is_refused side) there
  call_walk births CallIs.Unlink w pid request side there numbered named =
      reply_then w (with_link w pid (arg request 0) None) pid request empty_reply (k.unlinked w pid (arg request 0))
  call_walk births CallIs.DieWhenLinkDies w pid request side there numbered named = die_walk R k.mild w pid request there
  call_walk births CallIs.SleepMs w pid request side there numbered named = sleep_walk R k.mild w pid request named there
  call_walk births CallIs.RegistryPut w pid request side there numbered named = put_name_walk w pid request (is_refused side)
  call_walk births CallIs.RegistryGet w pid request side there numbered named =
      replied_walk R k.mild.calm w pid request
      (option_map_or (λ (named : ℕ). written_reply 0 (arg request 2) named) (w.names request.first) (number_reply 1))
  call_walk births CallIs.RegistryRemove w pid request side there numbered named =
      reply_then w (with_name w request.first None) pid request empty_reply (k.nameless w request.first)
  call_walk births CallIs.Bind w pid request side there numbered named = outside_walk R k.mild CallIs.Bind w pid request side there
  call_walk births CallIs.LocalPort w pid request side there numbered named = outside_walk R k.mild CallIs.LocalPort w pid request side there
  call_walk births CallIs.Accept w pid request side there numbered named = outside_walk R k.mild CallIs.Accept w pid request side there
  call_walk births CallIs.Connect w pid request side there numbered named = outside_walk R k.mild CallIs.Connect w pid request side there
  call_walk births CallIs.ReadStream w pid request side there numbered named = outside_walk R k.mild CallIs.ReadStream w pid request side there
  call_walk births CallIs.WriteStream w pid request side there numbered named = outside_walk R k.mild CallIs.WriteStream w pid request side there
  call_walk births _ w pid request side there numbered named = self w

  request_walk : (births : List Birth) (call : Option HostCall) (w : World) (pid : ℕ) (request : Request) (side : Side) → (w.process pid).stage ≡ Ready
      → (call ≡ Some CallIs.Spawn → IsNumbered births w) → call_of request ≡ call → R w (performed births call w pid request side)
  request_walk births None w pid request side there numbered named = self w
  request_walk births (Some call) w pid request side there numbered named =
      call_walk births call w pid request side there (λ same. numbered (ap (λ (c : HostCall). Some c) same)) named

  ask_walk : (pending : Bool) (births : List Birth) (w : World) (pid : ℕ) (request : Request) (side : Side) → (w.process pid).stage ≡ Ready
      → (call_of request ≡ Some CallIs.Spawn → IsNumbered births w) → R w (asked pending births w pid request side)
  ask_walk true births w pid request side there numbered = put_walk R k.mild.calm w pid (Pends request) there refl refl
  ask_walk false births w pid request side there numbered = request_walk births (call_of request) w pid request side there numbered refl

  retry_walk : (owed : Option Request) (births : List Birth) (w : World) (pid : ℕ) (side : Side) → (w.process pid).stage ≡ Ready
      → ((request : Request) → owed ≡ Some request → call_of request ≡ Some CallIs.Spawn → IsNumbered births w)
      → R w (retried owed births w pid side)
  retry_walk None births w pid side there numbered = self w
  retry_walk (Some request) births w pid side there numbered =
      ask_walk (is_pending side) births w pid request side there (numbered request refl)

  want_walk : (want : Want) (births : List Birth) (w : World) (pid : ℕ) (side : Side) → (w.process pid).stage ≡ Ready
      → ((request : Request) → wanted_in want (w.process pid).owed ≡ Some request → call_of request ≡ Some CallIs.Spawn → IsNumbered births w)
      → R w (halted want births w pid side)
  want_walk Goes births w pid side there numbered = self w
  want_walk (Wants request) births w pid side there numbered =
      ask_walk (is_pending side) births w pid request side there (numbered request refl)
  want_walk Retries births w pid side there numbered = retry_walk (w.process pid).owed births w pid side there numbered
  want_walk (Ends end) births w pid side there numbered = halt_walk w pid end there

  given_walk : (terms : Option Terms) (births : List Birth) (w : World) (give : Given) (stage : Stage) → (w.process give.pid).stage ≡ stage
      → GiveFits terms births w give → R w (given stage births w give)
  given_walk terms births w give Unborn at fits = self w
  given_walk terms births w give Ready at fits = self w
  given_walk terms births w give (Out worker) at fits =
      let stands : TurnStands (w.process give.pid) give = turn_stands terms births w give fits in
      let written : World = recorded w give in
      let after : World = home written give.pid in
      let out : is_out (written.process give.pid).stage ≡ true = ap (λ (s : Stage). is_out s) (recorded_stage w give ∙ at) in
      step w written (halted (want_of give.halt) births after give.pid give.side) (recorded_walk R k.mild w give stands)
      (step written after (halted (want_of give.halt) births after give.pid give.side) (home_walk R k.mild written give.pid out)
      (want_walk (want_of give.halt) births after give.pid give.side
      (stage_put written give.pid (record (written.process give.pid) { stage = Ready }))
      (λ request wanted spawns. birth_numbered terms births w give worker at fits request wanted spawns)))
  given_walk terms births w give (Waiting request) at fits = self w
  given_walk terms births w give (Doomed worker end) at fits =
      let written : World = recorded w give in
      let shut : World = opening_shut written give in
      let gone : World = ended_from_outside shut give.pid end in
      step w written (closed_with_first gone) (recorded_walk R k.mild w give (turn_stands terms births w give fits))
      (step written shut (closed_with_first gone) (shut_walk R k.mild (is_opened give.side) written give.pid)
      (step shut gone (closed_with_first gone)
      (outside_end_walk shut give.pid end (ap (λ (s : Stage). can_end s) (shut_stage (is_opened give.side) written give.pid ∙ recorded_stage w give ∙ at)))
      (first_walk (gone.process 1).stage gone)))
  given_walk terms births w give (Ended end) at fits = self w

  -- each allowed entry, where who is at the front of the ready list is ready
  pub deed_walk : (terms : Option Terms) (births : List Birth) (w : World) (deed : Deed) → DeedFits terms births w deed
      → ((pid : ℕ) → slice_get w.ready 0 ≡ Some pid → (w.process pid).stage ≡ Ready) → R w (happened births w deed)
  deed_walk terms births w (Taking worker pid) fits front = taken_walk R k.mild w worker pid (front pid fits.1)
  deed_walk terms births w (Giving give) fits front = given_walk terms births w give (w.process give.pid).stage refl fits
  deed_walk terms births w (Timing now) fits front = ticked_walk R k.mild w now
  deed_walk terms births w (EndingAll cause) fits front = all_end_walk w (end_by cause)
