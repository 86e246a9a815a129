-- Alike worlds stay alike by ends, falls and births.
use Rattle.std.specs.Prelude.{◌≡◌, ◌⊎◌, ℕ, zero, suc, ◌+◌, List, [], ◌∷◌, ◌++◌, filter, filter_map, flat_map, slice_get, min, max, option_map, is_some, Option, Some, None, Bool, true, false, not, ◌&&◌, ◌||◌, nat_eq, if◌then◌else◌, refl}
use Rattle.std.specs.Option.{option_map_or}
use Rattle.std.specs.List.{list_any}
use Rattle.std.proofs.Common.{subst, sym, ◌∙◌, ap, inl, inr}
use Rattle.std.proofs.lemmas.List.Elements.{filter_agree}
use Rattle.host_port.specs.declared.start.Start.{Start}
use Rattle.host_port.specs.declared.request.Request.{Request}
use Rattle.host_port.specs.declared.reply.Reply.{Reply}
use Rattle.world_rules.specs.declared.entry.Side.{Side}
use Rattle.world_rules.specs.declared.halt.End.{End}
use Rattle.world_rules.specs.declared.halt.End.TheVariants as EndIs
use Rattle.world_rules.specs.declared.life.Birth.{Birth}
use Rattle.world_rules.specs.declared.life.Birth.TheVariants.{Born, Refused}
use Rattle.world_rules.specs.Views.{is_opened, answer_in}
use Rattle.world_rules.specs.Calls.{HostCall, call_of, arg}
use Rattle.world_rules.specs.Calls as CallIs
use Rattle.world_rules.specs.Answers.{empty_reply, number_reply, written_reply}
use Rattle.world_rules.specs.Arrivals as Came
use Rattle.world_rules.specs.Part.{no_part, is_among, without_number}
use Rattle.world_rules.specs.Mail.{Signal}
use Rattle.world_rules.specs.Settled.{settled, StreamOpened, ListenerBound}
use Rattle.world_rules.specs.Streams.{has_result}
use Rattle.world_rules.specs.Moves.{Opened}
use Rattle.world_rules.specs.World.{World, Stage, Unborn, Ready, Out, Waiting, Doomed, Ended, is_live, is_away, up_to, live_processes, with_process, with_moves, fresh_process, link_between}
use Rattle.world_rules.specs.Changes.{with_arrival, with_part, replied}
use Rattle.world_rules.specs.Ends.{unless_process, stripped, fated, ended, ended_from_outside, doomed, struck, all_struck, all_end, over_with_first, closed_with_first}
use Rattle.world_rules.specs.Receive.{arrived, unless_refused}
use Rattle.world_rules.specs.Links.{with_link, link_answer, link_performed, are_linked, falls_with, spread, spread_times, fallen_with, Told, signals_from, signals_of, all_told, fallen, killed, kill_performed}
use Rattle.world_rules.specs.Registry.{with_name, put_answer, put_performed, remove_performed}
use Rattle.world_rules.specs.Spawn.{next_number, next_birth, born, spawn_counted, spawned, spawn_performed}
use Rattle.world_rules.specs.Outside.{stream_drawn, id_address, opened, opened_and_shut, bound, outside_performed}
use Rattle.host_port.specs.HostTable.{same_text}
use Rattle.world_rules.specs.laws.KeepingLaws.{false_is_true}
use Rattle.kept_world.proofs.Alike.{Seen, Rest, Same, put_like, alike_by, either_same, arrival_same, part_same, answered_same}
use Rattle.kept_world.proofs.MailAlike.{tested_same, replied_same, rest_same, arrived_same, linked_same}

-- WHO FALLS AND WHO IS TOLD

live_same : (known : ℕ → Type 0) (w v : World) → Same known w v → live_processes w ≡ live_processes v
live_same known w v like = tested_same known w v (λ s. is_live s.stage) like

falls_same : (known : ℕ → Type 0) (w v : World) (members : List ℕ) (pid : ℕ) → Same known w v → falls_with w members pid ≡ falls_with v members pid
falls_same known w v members pid like =
    ap (λ (s : Seen). is_live s.stage && s.dies && list_any (λ member. are_linked w member pid) members) (like.process pid).seen
    ∙ ap (λ (r : Rest). is_live (v.process pid).stage && (v.process pid).dies && list_any (λ member. is_some (r.links (min member pid) (max member pid))) members) like.rest

spread_same : (known : ℕ → Type 0) (w v : World) (n : ℕ) (members : List ℕ) → Same known w v → spread_times n w members ≡ spread_times n v members
spread_same known w v zero members like = refl
spread_same known w v (suc n) members like =
    ap (λ (ms : List ℕ). spread w ms) (spread_same known w v n members like)
    ∙ filter_agree (λ pid. is_among (spread_times n v members) pid || falls_with w (spread_times n v members) pid)
    (λ pid. is_among (spread_times n v members) pid || falls_with v (spread_times n v members) pid)
    (λ pid. ap (λ (b : Bool). is_among (spread_times n v members) pid || b) (falls_same known w v (spread_times n v members) pid like)) (up_to w.numbers_drawn)
    ∙ ap (λ (r : Rest). filter (λ pid. is_among (spread_times n v members) pid || falls_with v (spread_times n v members) pid) (up_to r.numbers)) like.rest

all_fallen_same : (known : ℕ → Type 0) (w v : World) (pid : ℕ) → Same known w v
    → without_number pid (spread_times w.numbers_drawn w (pid ∷ [])) ≡ without_number pid (spread_times v.numbers_drawn v (pid ∷ []))
all_fallen_same known w v pid like =
    ap (λ (ms : List ℕ). without_number pid ms) (spread_same known w v w.numbers_drawn (pid ∷ []) like)
    ∙ ap (λ (r : Rest). without_number pid (spread_times r.numbers v (pid ∷ []))) like.rest

fallen_with_same : (known : ℕ → Type 0) (w v : World) (pid : ℕ) (end : End) → Same known w v → fallen_with w pid end ≡ fallen_with v pid end
fallen_with_same known w v pid EndIs.Done like = refl
fallen_with_same known w v pid _ like = all_fallen_same known w v pid like

signals_from_same : (known : ℕ → Type 0) (w v : World) (members : List ℕ) (member : ℕ) → Same known w v → signals_from w members member ≡ signals_from v members member
signals_from_same known w v members member like =
    ap (λ (r : Rest). filter_map (λ pid. option_map (λ (tag : ℕ). record { to = pid; tag = tag }) (r.links (min member pid) (max member pid)))
    (filter (λ pid. not (is_among members pid)) (live_processes w))) like.rest
    ∙ ap (λ (pids : List ℕ). filter_map (λ pid. option_map (λ (tag : ℕ). record { to = pid; tag = tag }) (link_between v member pid))
    (filter (λ pid. not (is_among members pid)) pids)) (live_same known w v like)

members_same : (known : ℕ → Type 0) (w v : World) (all these : List ℕ) → Same known w v → flat_map (signals_from w all) these ≡ flat_map (signals_from v all) these
members_same known w v all [] like = refl
members_same known w v all (member ∷ these) like =
    ap (λ (told : List Told). told ++ flat_map (signals_from w all) these) (signals_from_same known w v all member like)
    ∙ ap (λ (told : List Told). signals_from v all member ++ told) (members_same known w v all these like)

signals_same : (known : ℕ → Type 0) (w v : World) (members : List ℕ) (end : End) → Same known w v → signals_of w members end ≡ signals_of v members end
signals_same known w v members EndIs.Done like = refl
signals_same known w v members _ like = members_same known w v members members like

module _ (known : ℕ → Type 0) where
  -- ENDS

  pub ended_same : (w v : World) (pid : ℕ) (end : End) → (is_away (w.process pid).stage ≡ false) ⊎ known pid → Same known w v → Same known (ended w pid end) (ended v pid end)
  ended_same w v pid end k like =
      let near =
      put_like known w v pid (stripped (w.process pid) end) (stripped (v.process pid) end) like
      (alike_by (known pid) (w.process pid) (v.process pid) (stripped (w.process pid) end) (stripped (v.process pid) end)
      (λ s. record s { stage = Ended end; mail = []; deadline = None }) (λ h. record h { part = no_part; owed = None }) (like.process pid) refl refl refl refl (λ any. k)) in
      record {
        rest = ap (λ (r : Rest). record r { names = λ name. unless_process pid (r.names name); links = λ a b. if nat_eq a pid || nat_eq b pid then None else r.links a b }) like.rest;
        process = near.process;
      }

  pub outside_end_same : (w v : World) (pid : ℕ) (end : End) → (is_away (w.process pid).stage ≡ false) ⊎ known pid → Same known w v
      → Same known (ended_from_outside w pid end) (ended_from_outside v pid end)
  outside_end_same w v pid end k like =
      ended_same (with_arrival w pid (Came.Doomed end)) (with_arrival v pid (Came.Doomed end)) pid end (by k) (arrival_same known w v pid (Came.Doomed end) (Came.Doomed end) like)
    where
      by : (is_away (w.process pid).stage ≡ false) ⊎ known pid → (is_away ((with_arrival w pid (Came.Doomed end)).process pid).stage ≡ false) ⊎ known pid
      by (inl home) = inl (stage_put w pid home)
        where
          stage_put : (w : World) (pid : ℕ) → is_away (w.process pid).stage ≡ false → is_away ((with_arrival w pid (Came.Doomed end)).process pid).stage ≡ false
          stage_put w pid home = at (nat_eq pid pid)
            where
              at : (b : Bool) → is_away (if b then record (w.process pid) { arrivals = (w.process pid).arrivals ++ record { turns = (w.process pid).gives; what = Came.Doomed end } ∷ [] } else w.process pid).stage ≡ false
              at true = home
              at false = home
      by (inr k) = inr k

  pub doomed_same : (w v : World) (pid worker : ℕ) (end : End) → Same known w v → Same known (doomed w pid worker end) (doomed v pid worker end)
  doomed_same w v pid worker end like =
      let near =
      put_like known w v pid (fated (w.process pid) worker end) (fated (v.process pid) worker end) like
      (alike_by (known pid) (w.process pid) (v.process pid) (fated (w.process pid) worker end) (fated (v.process pid) worker end)
      (λ s. record s { stage = Doomed worker end; mail = [] }) (λ h. h) (like.process pid) refl refl refl refl by) in
      record {
        rest = ap (λ (r : Rest). record r { names = λ name. unless_process pid (r.names name); links = λ a b. if nat_eq a pid || nat_eq b pid then None else r.links a b }) like.rest;
        process = near.process;
      }
    where
      by : (true ≡ false) ⊎ known pid → (is_away (w.process pid).stage ≡ false) ⊎ known pid
      by (inl never) = false_is_true (sym never)
      by (inr k) = inr k

  struck_at : (stage : Stage) (w v : World) (pid : ℕ) (end : End) → (w.process pid).stage ≡ stage → Same known w v → Same known (struck stage w pid end) (struck stage v pid end)
  struck_at Unborn w v pid end at like = like
  struck_at Ready w v pid end at like = outside_end_same w v pid end (inl (ap (λ (s : Stage). is_away s) at)) like
  struck_at (Out worker) w v pid end at like = doomed_same w v pid worker end like
  struck_at (Waiting request) w v pid end at like = outside_end_same w v pid end (inl (ap (λ (s : Stage). is_away s) at)) like
  struck_at (Doomed worker earlier) w v pid end at like = like
  struck_at (Ended earlier) w v pid end at like = like

  pub struck_same : (w v : World) (pid : ℕ) (end : End) → Same known w v → Same known (struck (w.process pid).stage w pid end) (struck (v.process pid).stage v pid end)
  struck_same w v pid end like =
      subst (λ (s : Seen). Same known (struck (w.process pid).stage w pid end) (struck s.stage v pid end)) (like.process pid).seen
      (struck_at (w.process pid).stage w v pid end refl like)

  pub all_struck_same : (w v : World) (pids : List ℕ) (end : End) → Same known w v → Same known (all_struck w pids end) (all_struck v pids end)
  all_struck_same w v [] end like = like
  all_struck_same w v (pid ∷ pids) end like =
      all_struck_same (struck (w.process pid).stage w pid end) (struck (v.process pid).stage v pid end) pids end (struck_same w v pid end like)

  pub all_end_same : (w v : World) (end : End) → Same known w v → Same known (all_end w end) (all_end v end)
  all_end_same w v end like =
      let near : Same known (all_struck w (live_processes w) end) (all_struck v (live_processes v) end) =
      subst (λ (pids : List ℕ). Same known (all_struck w (live_processes w) end) (all_struck v pids end)) (live_same known w v like)
      (all_struck_same w v (live_processes w) end like) in
      rest_same known (all_struck w (live_processes w) end) (all_struck v (live_processes v) end) (all_end w end) (all_end v end) (λ r. record r { over = true }) near
      (λ q. refl) (λ q. refl) refl refl

  first_same : (stage : Stage) (w v : World) → Same known w v → Same known (over_with_first stage w) (over_with_first stage v)
  first_same Unborn w v like = like
  first_same Ready w v like = like
  first_same (Out worker) w v like = like
  first_same (Waiting request) w v like = like
  first_same (Doomed worker end) w v like = like
  first_same (Ended end) w v like = all_end_same w v EndIs.Closed like

  pub closed_first_same : (w v : World) → Same known w v → Same known (closed_with_first w) (closed_with_first v)
  closed_first_same w v like =
      subst (λ (s : Seen). Same known (closed_with_first w) (over_with_first s.stage v)) (like.process 1).seen (first_same (w.process 1).stage w v like)

  told_same : (w v : World) (signals : List Told) → Same known w v → Same known (all_told w signals) (all_told v signals)
  told_same w v [] like = like
  told_same w v (told ∷ rest) like =
      told_same (arrived w told.to (Signal told.tag)) (arrived v told.to (Signal told.tag)) rest (arrived_same known w v told.to (Signal told.tag) like)

  pub fallen_same : (w v after after' : World) (pid : ℕ) (end : End) → Same known w v → Same known after after' → Same known (fallen w after pid end) (fallen v after' pid end)
  fallen_same w v after after' pid end like first =
      let fall : List ℕ = fallen_with w pid end in
      let fall' : List ℕ = fallen_with v pid end in
      let same : fall ≡ fall' = fallen_with_same known w v pid end like in
      let a : World = all_struck after fall EndIs.Linked in
      let b : World = all_struck after' fall' EndIs.Linked in
      let near : Same known a b =
      subst (λ (pids : List ℕ). Same known a (all_struck after' pids EndIs.Linked)) same (all_struck_same after after' fall EndIs.Linked first) in
      let told : signals_of w (pid ∷ fall) end ≡ signals_of v (pid ∷ fall') end =
      signals_same known w v (pid ∷ fall) end like ∙ ap (λ (pids : List ℕ). signals_of v (pid ∷ pids) end) same in
      closed_first_same (all_told a (signals_of w (pid ∷ fall) end)) (all_told b (signals_of v (pid ∷ fall') end))
      (subst (λ (signals : List Told). Same known (all_told a (signals_of w (pid ∷ fall) end)) (all_told b signals)) told
      (told_same a b (signals_of w (pid ∷ fall) end) near))

  killed_same : (live : Bool) (w v : World) (pid : ℕ) → Same known w v → Same known (killed live w pid) (killed live v pid)
  killed_same true w v pid like =
      fallen_same w v (struck (w.process pid).stage w pid EndIs.Killed) (struck (v.process pid).stage v pid EndIs.Killed) pid EndIs.Killed like (struck_same w v pid EndIs.Killed like)
  killed_same false w v pid like = like

  pub kill_same : (w v : World) (pid : ℕ) (request : Request) → Same known w v → Same known (kill_performed w pid request) (kill_performed v pid request)
  kill_same w v pid request like =
      let other : ℕ = arg request 0 in
      replied_same known (killed (is_live (w.process other).stage) w other) (killed (is_live (v.process other).stage) v other) pid request request empty_reply empty_reply
      (subst (λ (s : Seen). Same known (killed (is_live (w.process other).stage) w other) (killed (is_live s.stage) v other)) (like.process other).seen
      (killed_same (is_live (w.process other).stage) w v other like))

  -- LINKS AND NAMES

  pub link_answer_same : (w v : World) (pid other : ℕ) (refused : Bool) → Same known w v → link_answer w pid other refused ≡ link_answer v pid other refused
  link_answer_same w v pid other refused like =
      ap (λ (s : Seen). if not (nat_eq other pid) && is_live s.stage then unless_refused refused 0 else 1) (like.process other).seen

  pub put_answer_same : (w v : World) (other : ℕ) (refused : Bool) → Same known w v → put_answer w other refused ≡ put_answer v other refused
  put_answer_same w v other refused like = ap (λ (s : Seen). if is_live s.stage then unless_refused refused 0 else 1) (like.process other).seen

  pub link_call_same : (w v : World) (pid : ℕ) (request : Request) (refused : Bool) → Same known w v → Same known (link_performed w pid request refused) (link_performed v pid request refused)
  link_call_same w v pid request refused like =
      let other : ℕ = arg request 1 in
      let a : ℕ = link_answer w pid other refused in
      let b : ℕ = link_answer v pid other refused in
      let tag : Option ℕ = Some (arg request 0) in
      replied_same known (if nat_eq a 0 then with_link w pid other tag else w) (if nat_eq b 0 then with_link v pid other tag else v) pid request request (number_reply a) (number_reply b)
      (either_same known (nat_eq a 0) (nat_eq b 0) (with_link w pid other tag) w (with_link v pid other tag) v (ap (λ (n : ℕ). nat_eq n 0) (link_answer_same w v pid other refused like))
      (λ zero. linked_same known w v pid other tag like) (λ isnt. like))

  pub named_same : (w v : World) (name : List ℕ) (named : Option ℕ) → Same known w v → Same known (with_name w name named) (with_name v name named)
  named_same w v name named like =
      rest_same known w v (with_name w name named) (with_name v name named) (λ r. record r { names = λ other. if same_text other name then named else r.names other }) like
      (λ q. refl) (λ q. refl) refl refl

  pub put_name_same : (w v : World) (pid : ℕ) (request : Request) (refused : Bool) → Same known w v → Same known (put_performed w pid request refused) (put_performed v pid request refused)
  put_name_same w v pid request refused like =
      let other : ℕ = arg request 2 in
      let a : ℕ = put_answer w other refused in
      let b : ℕ = put_answer v other refused in
      replied_same known (if nat_eq a 0 then with_name w request.first (Some other) else w) (if nat_eq b 0 then with_name v request.first (Some other) else v) pid request request
      (number_reply a) (number_reply b)
      (either_same known (nat_eq a 0) (nat_eq b 0) (with_name w request.first (Some other)) w (with_name v request.first (Some other)) v
      (ap (λ (n : ℕ). nat_eq n 0) (put_answer_same w v other refused like)) (λ zero. named_same w v request.first (Some other) like) (λ isnt. like))

  pub remove_same : (w v : World) (pid : ℕ) (request : Request) → Same known w v → Same known (remove_performed w pid request) (remove_performed v pid request)
  remove_same w v pid request like =
      replied_same known (with_name w request.first None) (with_name v request.first None) pid request request empty_reply empty_reply (named_same w v request.first None like)

  -- BIRTHS

  counted_same : (w v : World) → Same known w v → Same known (spawn_counted w) (spawn_counted v)
  counted_same w v like =
      rest_same known w v (spawn_counted w) (spawn_counted v) (λ r. record r { spawns = r.spawns + 1 }) like (λ q. refl) (λ q. refl) refl refl

  child_same : (n : ℕ) (w v : World) (start : Start) → Same known w v
      → Same known (record (with_process w n (fresh_process start Ready)) { numbers_drawn = n }) (record (with_process v n (fresh_process start Ready)) { numbers_drawn = n })
  child_same n w v start like =
      let near = put_like known w v n (fresh_process start Ready) (fresh_process start Ready) like (record { seen = refl; hand = λ any. refl }) in
      record { rest = ap (λ (r : Rest). record r { numbers = n }) like.rest; process = near.process }

  pub born_same : (w v : World) (pid : ℕ) (request : Request) (start : Start) → Same known w v → Same known (born w pid request start) (born v pid request start)
  born_same w v pid request start like =
      let n : ℕ = next_number w in
      let tag : ℕ = arg request 0 in
      let a : World = record (with_process w n (fresh_process start Ready)) { numbers_drawn = n } in
      let b : World = record (with_process v n (fresh_process start Ready)) { numbers_drawn = n } in
      let near : Same known a b = child_same n w v start like in
      subst (λ (r : Rest). Same known (born w pid request start)
      (if nat_eq tag 0 then record (with_process v (r.numbers + 1) (fresh_process start Ready)) { numbers_drawn = r.numbers + 1 }
      else with_link (record (with_process v (r.numbers + 1) (fresh_process start Ready)) { numbers_drawn = r.numbers + 1 }) pid (r.numbers + 1) (Some tag))) like.rest
      (either_same known (nat_eq tag 0) (nat_eq tag 0) a (with_link a pid n (Some tag)) b (with_link b pid n (Some tag)) refl (λ none. near)
      (λ more. linked_same known a b pid n (Some tag) near))

  spawned_same : (birth : Option Birth) (w v : World) (pid : ℕ) (request : Request) → Same known w v → Same known (spawned birth w pid request) (spawned birth v pid request)
  spawned_same None w v pid request like =
      replied_same known (spawn_counted w) (spawn_counted v) pid request request (number_reply 12) (number_reply 12) (counted_same w v like)
  spawned_same (Some (Born start)) w v pid request like =
      replied_same known (born (spawn_counted w) pid request start) (born (spawn_counted v) pid request start) pid request request (written_reply 0 (arg request 7) (next_number w))
      (written_reply 0 (arg request 7) (next_number v)) (born_same (spawn_counted w) (spawn_counted v) pid request start (counted_same w v like))
  spawned_same (Some (Refused reply)) w v pid request like =
      replied_same known (spawn_counted w) (spawn_counted v) pid request request (number_reply reply) (number_reply reply) (counted_same w v like)

  pub next_birth_same : (births : List Birth) (w v : World) → Same known w v → next_birth births w ≡ next_birth births v
  next_birth_same births w v like = ap (λ (r : Rest). slice_get births (r.spawns + 1)) like.rest

  pub spawn_same : (births : List Birth) (w v : World) (pid : ℕ) (request : Request) → Same known w v → Same known (spawn_performed births w pid request) (spawn_performed births v pid request)
  spawn_same births w v pid request like =
      subst (λ (birth : Option Birth). Same known (spawn_performed births w pid request) (spawned birth v pid request)) (next_birth_same births w v like)
      (spawned_same (next_birth births w) w v pid request like)

  -- THE OUTSIDE

  pub shut_same : (w v : World) (pid : ℕ) → Same known w v → Same known (opened_and_shut w pid) (opened_and_shut v pid)
  shut_same w v pid like =
      rest_same known w v (opened_and_shut w pid) (opened_and_shut v pid) (λ r. record r { streams = r.streams + 1 }) like (λ q. refl) (λ q. refl) refl refl

  drawn_same : (n : ℕ) (w v : World) (pid : ℕ) → Same known w v
      → Same known (with_part (stream_drawn w) pid (settled (w.process pid).part (StreamOpened n))) (with_part (stream_drawn v) pid (settled (v.process pid).part (StreamOpened n)))
  drawn_same n w v pid like =
      let near = part_same known w v pid (λ part. settled part (StreamOpened n)) like in
      record { rest = ap (λ (r : Rest). record r { streams = r.streams + 1 }) like.rest; process = near.process }

  pub opened_same : (call : HostCall) (w v : World) (pid : ℕ) (request : Request) → Same known w v → Same known (opened call w pid request) (opened call v pid request)
  opened_same call w v pid request like =
      let reply : Reply = written_reply 0 (id_address call request) w.streams in
      let reply' : Reply = written_reply 0 (id_address call request) v.streams in
      let near : Same known (with_part (stream_drawn w) pid (settled (w.process pid).part (StreamOpened w.streams))) (with_part (stream_drawn v) pid (settled (v.process pid).part (StreamOpened v.streams))) =
      subst (λ (r : Rest). Same known (with_part (stream_drawn w) pid (settled (w.process pid).part (StreamOpened w.streams)))
      (with_part (stream_drawn v) pid (settled (v.process pid).part (StreamOpened r.streams)))) like.rest (drawn_same w.streams w v pid like) in
      answered_same known
      (with_moves (with_part (stream_drawn w) pid (settled (w.process pid).part (StreamOpened w.streams))) (Opened w.streams pid ∷ []))
      (with_moves (with_part (stream_drawn v) pid (settled (v.process pid).part (StreamOpened v.streams))) (Opened v.streams pid ∷ []))
      pid request request reply reply' (Came.Opened reply) (Came.Opened reply') (record { rest = near.rest; process = near.process })

  pub bound_same : (call : HostCall) (w v : World) (pid : ℕ) (reply : Reply) → Same known w v → Same known (bound call w pid reply) (bound call v pid reply)
  bound_same CallIs.Bind w v pid reply like =
      either_same known (has_result 0 reply) (has_result 0 reply) (with_part w pid (settled (w.process pid).part ListenerBound)) w
      (with_part v pid (settled (v.process pid).part ListenerBound)) v refl (λ zero. part_same known w v pid (λ part. settled part ListenerBound) like) (λ other. like)
  bound_same _ w v pid reply like = like

  answer_same : (call : HostCall) (w v : World) (pid : ℕ) (request : Request) (answer : Option Reply) → Same known w v
      → Same known (option_map_or (λ (reply : Reply). replied (bound call w pid reply) pid request reply) answer w)
      (option_map_or (λ (reply : Reply). replied (bound call v pid reply) pid request reply) answer v)
  answer_same call w v pid request None like = like
  answer_same call w v pid request (Some reply) like =
      replied_same known (bound call w pid reply) (bound call v pid reply) pid request request reply reply (bound_same call w v pid reply like)

  pub outside_same : (call : HostCall) (w v : World) (pid : ℕ) (request : Request) (side : Side) → Same known w v
      → Same known (outside_performed call w pid request side) (outside_performed call v pid request side)
  outside_same call w v pid request side like =
      either_same known (is_opened side) (is_opened side) (opened call w pid request)
      (option_map_or (λ (reply : Reply). replied (bound call w pid reply) pid request reply) (answer_in side) w) (opened call v pid request)
      (option_map_or (λ (reply : Reply). replied (bound call v pid reply) pid request reply) (answer_in side) v) refl
      (λ is. opened_same call w v pid request like) (λ other. answer_same call w v pid request (answer_in side) like)
