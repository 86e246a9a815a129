-- Alike worlds stay alike by each entry, where it is known what the giver's worker brings back.
use Rattle.std.specs.Prelude.{◌≡◌, ◌⊎◌, ℕ, List, ◌++◌, filter, length, Option, Some, None, Bool, true, false, not, nat_eq, if◌then◌else◌, refl}
use Rattle.std.specs.Option.{option_map_or}
use Rattle.std.proofs.Common.{subst, sym, ◌∙◌, ap, inl, inr}
use Rattle.std.proofs.lemmas.List.Elements.{filter_agree}
use Rattle.host_port.specs.declared.request.Request.{Request}
use Rattle.world_rules.specs.declared.entry.Entry.{Entry}
use Rattle.world_rules.specs.declared.entry.Side.{Side}
use Rattle.world_rules.specs.declared.life.Birth.{Birth}
use Rattle.world_rules.specs.Views.{Given, Deed, Taking, Giving, Timing, EndingAll, deed_of, end_by, Want, Goes, Wants, Retries, Ends, want_of, wanted_in, asked_in, is_starved, is_pending, is_opened, is_refused, clock_in}
use Rattle.world_rules.specs.Calls.{HostCall, call_of, arg}
use Rattle.world_rules.specs.Calls as CallIs
use Rattle.world_rules.specs.Answers.{empty_reply, number_reply, written_reply}
use Rattle.world_rules.specs.Arrivals as Came
use Rattle.world_rules.specs.Part.{is_among}
use Rattle.world_rules.specs.Judge.{charged}
use Rattle.world_rules.specs.Local.{part_after}
use Rattle.world_rules.specs.World.{World, Stage, Unborn, Ready, Out, Waiting, Doomed, Ended, is_live, is_away, is_ready, up_to, with_process}
use Rattle.world_rules.specs.Changes.{with_arrival}
use Rattle.world_rules.specs.Ends.{ended_from_outside, ended}
use Rattle.world_rules.specs.Time.{clocked, at_time}
use Rattle.world_rules.specs.Links.{with_link}
use Rattle.world_rules.specs.Outside.{opened_and_shut}
use Rattle.world_rules.specs.Rules.{call_performed, performed, asked, retried, halted, turned, starved_by, streamed_in, recorded, home, opening_shut, given, taken, happened, is_pending_give, is_early, row_with, row_after, giver_of, ready_among, all_but, queued, with_row, next}
use Rattle.world_rules.specs.laws.KeepingLaws.{false_is_true}
use Rattle.kept_world.proofs.Alike.{Seen, Hand, Rest, Same, put_like, alike_by, arrival_same}
use Rattle.kept_world.proofs.MailAlike.{replied_same, time_same, due_same, ticked_same, linked_same, pended_same, receive_same, sleep_same, die_same, send_same}
use Rattle.kept_world.proofs.EndsAlike.{ended_same, outside_end_same, all_end_same, closed_first_same, fallen_same, kill_same, link_call_same, put_name_same, remove_same, spawn_same, shut_same, outside_same}

module _ (known : ℕ → Type 0) where
  -- WHAT IS RECORDED

  clocked_same : (clock : Option ℕ) (w v : World) → Same known w v → Same known (option_map_or (λ now. at_time now w) clock w) (option_map_or (λ now. at_time now v) clock v)
  clocked_same None w v like = like
  clocked_same (Some now) w v like = time_same known w v now like

  streamed_same : (a b : Option Request) (give : Given) (w v : World) → Same known w v → Same known (streamed_in a give w) (streamed_in b give v)
  streamed_same None None give w v like = like
  streamed_same None (Some b) give w v like = record { rest = like.rest; process = like.process }
  streamed_same (Some a) None give w v like = record { rest = like.rest; process = like.process }
  streamed_same (Some a) (Some b) give w v like = record { rest = like.rest; process = like.process }

  starved_same : (starved : Bool) (give : Given) (w v : World) → Same known w v
      → Same known (if starved then with_arrival w give.pid (Came.Starved (length give.calls)) else w) (if starved then with_arrival v give.pid (Came.Starved (length give.calls)) else v)
  starved_same true give w v like = arrival_same known w v give.pid (Came.Starved (length give.calls)) (Came.Starved (length give.calls)) like
  starved_same false give w v like = like

  -- what a turn makes of what the giver's worker had
  abbrev turned_hand : Given → Hand → Hand
  turned_hand give h = record h {
    part = option_map_or (λ (request : Request). charged request (part_after h.start h.part give.calls)) (asked_in give.halt) (part_after h.start h.part give.calls);
    fuel = give.fuel;
  }

  turned_same : (w v : World) (give : Given) → known give.pid → Same known w v
      → Same known (with_process w give.pid (turned (w.process give.pid) give)) (with_process v give.pid (turned (v.process give.pid) give))
  turned_same w v give k like =
      put_like known w v give.pid (turned (w.process give.pid) give) (turned (v.process give.pid) give) like
      (alike_by (known give.pid) (w.process give.pid) (v.process give.pid) (turned (w.process give.pid) give) (turned (v.process give.pid) give)
      (λ s. s) (turned_hand give) (like.process give.pid) refl refl refl refl (λ any. inr k))

  recorded_same : (w v : World) (give : Given) → known give.pid → Same known w v → Same known (recorded w give) (recorded v give)
  recorded_same w v give k like =
      let a : World = starved_by (streamed_in (wanted_in (want_of give.halt) (w.process give.pid).owed) give (clocked give.side w)) give in
      let b : World = starved_by (streamed_in (wanted_in (want_of give.halt) (v.process give.pid).owed) give (clocked give.side v)) give in
      let near : Same known a b =
      starved_same (is_starved give.halt) give (streamed_in (wanted_in (want_of give.halt) (w.process give.pid).owed) give (clocked give.side w))
      (streamed_in (wanted_in (want_of give.halt) (v.process give.pid).owed) give (clocked give.side v))
      (streamed_same (wanted_in (want_of give.halt) (w.process give.pid).owed) (wanted_in (want_of give.halt) (v.process give.pid).owed) give (clocked give.side w) (clocked give.side v)
      (clocked_same (clock_in give.side) w v like)) in
      let after = turned_same a b give k near in
      record { rest = after.rest; process = after.process }

  home_same : (w v : World) (pid : ℕ) → known pid → Same known w v → Same known (home w pid) (home v pid)
  home_same w v pid k like =
      put_like known w v pid (record (w.process pid) { stage = Ready }) (record (v.process pid) { stage = Ready }) like
      (alike_by (known pid) (w.process pid) (v.process pid) (record (w.process pid) { stage = Ready }) (record (v.process pid) { stage = Ready })
      (λ s. record s { stage = Ready }) (λ h. h) (like.process pid) refl refl refl refl (λ any. inr k))

  -- WHAT IS PERFORMED

  module _ (pid : ℕ) (k : known pid) where
    pub call_same : (births : List Birth) (call : HostCall) (w v : World) (request : Request) (side : Side) → Same known w v
        → Same known (call_performed births call w pid request side) (call_performed births call v pid request side)
    call_same births CallIs.Send w v request side like = send_same known pid k w v request (is_refused side) like
    call_same births CallIs.Receive w v request side like = receive_same known pid k w v request like
    call_same births CallIs.Exists w v request side like =
        replied_same known w v pid request request (number_reply (if is_live (w.process (arg request 0)).stage then 1 else 0))
        (number_reply (if is_live (v.process (arg request 0)).stage then 1 else 0)) like
    call_same births CallIs.Spawn w v request side like = spawn_same known births w v pid request like
    call_same births CallIs.Kill w v request side like = kill_same known w v pid request like
    call_same births CallIs.Link w v request side like = link_call_same known w v pid request (is_refused side) like
    call_same births CallIs.Unlink w v request side like =
        replied_same known (with_link w pid (arg request 0) None) (with_link v pid (arg request 0) None) pid request request empty_reply empty_reply
        (linked_same known w v pid (arg request 0) None like)
    call_same births CallIs.DieWhenLinkDies w v request side like = die_same known pid k w v request like
    call_same births CallIs.SleepMs w v request side like = sleep_same known pid k w v request like
    call_same births CallIs.RegistryPut w v request side like = put_name_same known w v pid request (is_refused side) like
    call_same births CallIs.RegistryGet w v request side like =
        replied_same known w v pid request request (option_map_or (λ (named : ℕ). written_reply 0 (arg request 2) named) (w.names request.first) (number_reply 1))
        (option_map_or (λ (named : ℕ). written_reply 0 (arg request 2) named) (v.names request.first) (number_reply 1)) like
    call_same births CallIs.RegistryRemove w v request side like = remove_same known w v pid request like
    call_same births CallIs.Bind w v request side like = outside_same known CallIs.Bind w v pid request side like
    call_same births CallIs.LocalPort w v request side like = outside_same known CallIs.LocalPort w v pid request side like
    call_same births CallIs.Accept w v request side like = outside_same known CallIs.Accept w v pid request side like
    call_same births CallIs.Connect w v request side like = outside_same known CallIs.Connect w v pid request side like
    call_same births CallIs.ReadStream w v request side like = outside_same known CallIs.ReadStream w v pid request side like
    call_same births CallIs.WriteStream w v request side like = outside_same known CallIs.WriteStream w v pid request side like
    call_same births _ w v request side like = like

    performed_same : (births : List Birth) (call : Option HostCall) (w v : World) (request : Request) (side : Side) → Same known w v
        → Same known (performed births call w pid request side) (performed births call v pid request side)
    performed_same births None w v request side like = like
    performed_same births (Some call) w v request side like = call_same births call w v request side like

    asked_same : (pending : Bool) (births : List Birth) (w v : World) (request : Request) (side : Side) → Same known w v
        → Same known (asked pending births w pid request side) (asked pending births v pid request side)
    asked_same true births w v request side like = pended_same known pid k w v request like
    asked_same false births w v request side like = performed_same births (call_of request) w v request side like

    retried_same : (owed : Option Request) (births : List Birth) (w v : World) (side : Side) → Same known w v
        → Same known (retried owed births w pid side) (retried owed births v pid side)
    retried_same None births w v side like = like
    retried_same (Some request) births w v side like = asked_same (is_pending side) births w v request side like

    halted_same : (want : Want) (births : List Birth) (w v : World) (side : Side) → Same known w v → Same known (halted want births w pid side) (halted want births v pid side)
    halted_same Goes births w v side like = like
    halted_same (Wants request) births w v side like = asked_same (is_pending side) births w v request side like
    halted_same Retries births w v side like =
        subst (λ (h : Hand). Same known (retried (w.process pid).owed births w pid side) (retried h.owed births v pid side)) ((like.process pid).hand (inr k))
        (retried_same (w.process pid).owed births w v side like)
    halted_same (Ends end) births w v side like = fallen_same known w v (ended w pid end) (ended v pid end) pid end like (ended_same known w v pid end (inr k) like)

  -- GIVES

  opening_same : (opening : Bool) (w v : World) (pid : ℕ) → Same known w v
      → Same known (if opening then opened_and_shut w pid else w) (if opening then opened_and_shut v pid else v)
  opening_same true w v pid like = shut_same known w v pid like
  opening_same false w v pid like = like

  given_at : (stage : Stage) (births : List Birth) (w v : World) (give : Given) → known give.pid → Same known w v → Same known (given stage births w give) (given stage births v give)
  given_at Unborn births w v give k like = like
  given_at Ready births w v give k like = like
  given_at (Out worker) births w v give k like =
      halted_same give.pid k (want_of give.halt) births (home (recorded w give) give.pid) (home (recorded v give) give.pid) give.side
      (home_same (recorded w give) (recorded v give) give.pid k (recorded_same w v give k like))
  given_at (Waiting request) births w v give k like = like
  given_at (Doomed worker end) births w v give k like =
      let a : World = opening_shut (recorded w give) give in
      let b : World = opening_shut (recorded v give) give in
      closed_first_same known (ended_from_outside a give.pid end) (ended_from_outside b give.pid end)
      (outside_end_same known a b give.pid end (inr k) (opening_same (is_opened give.side) (recorded w give) (recorded v give) give.pid (recorded_same w v give k like)))
  given_at (Ended end) births w v give k like = like

  -- ENTRIES

  -- it is known what the giver's worker brings back
  abbrev pub Brings : Deed → Type 0
  Brings (Taking worker pid) = Unit {0}
  Brings (Giving give) = known give.pid
  Brings (Timing now) = Unit {0}
  Brings (EndingAll cause) = Unit {0}

  pub taken_same : (w v : World) (worker pid : ℕ) → Same known w v → Same known (taken w worker pid) (taken v worker pid)
  taken_same w v worker pid like =
      put_like known w v pid (record (w.process pid) { stage = Out worker }) (record (v.process pid) { stage = Out worker }) like
      (alike_by (known pid) (w.process pid) (v.process pid) (record (w.process pid) { stage = Out worker }) (record (v.process pid) { stage = Out worker })
      (λ s. record s { stage = Out worker }) (λ h. h) (like.process pid) refl refl refl refl by)
    where
      by : (true ≡ false) ⊎ known pid → (is_away (w.process pid).stage ≡ false) ⊎ known pid
      by (inl never) = false_is_true (sym never)
      by (inr k) = inr k

  happened_same : (births : List Birth) (w v : World) (deed : Deed) → Brings deed → Same known w v → Same known (happened births w deed) (happened births v deed)
  happened_same births w v (Taking worker pid) k like = taken_same w v worker pid like
  happened_same births w v (Giving give) k like =
      subst (λ (s : Seen). Same known (given (w.process give.pid).stage births w give) (given s.stage births v give)) (like.process give.pid).seen
      (given_at (w.process give.pid).stage births w v give k like)
  happened_same births w v (Timing now) k like = ticked_same known w v now like
  happened_same births w v (EndingAll cause) k like = all_end_same known w v (end_by cause) like

  row_same : (w v : World) (deed : Deed) → Same known w v → row_after w deed ≡ row_after v deed
  row_same w v (Taking worker pid) like = ap (λ (r : Rest). r.row) like.rest
  row_same w v (Giving give) like =
      ap (λ (s : Seen). row_with (is_pending_give s.stage give.side) w.row) (like.process give.pid).seen
      ∙ ap (λ (r : Rest). row_with (is_pending_give (v.process give.pid).stage give.side) r.row) like.rest
  row_same w v (Timing now) like =
      ap (λ (pids : List ℕ). row_with (nat_eq (length pids) 0) w.row) (due_same known (at_time now w) (at_time now v) (time_same known w v now like))
      ∙ ap (λ (r : Rest). row_with (is_early v now) r.row) like.rest
  row_same w v (EndingAll cause) like = refl

  among_same : (w v : World) (pids : List ℕ) → Same known w v → ready_among w pids ≡ ready_among v pids
  among_same w v pids like =
      filter_agree (λ pid. is_ready (w.process pid).stage) (λ pid. is_ready (v.process pid).stage) (λ pid. ap (λ (s : Seen). is_ready s.stage) (like.process pid).seen) pids

  others_same : (w v : World) (pids : List ℕ) → Same known w v → all_but w pids ≡ all_but v pids
  others_same w v pids like = ap (λ (r : Rest). filter (λ pid. not (is_among pids pid)) (up_to r.numbers)) like.rest

  queued_same : (earlier earlier' giver : List ℕ) (w v : World) → earlier ≡ earlier' → Same known w v
      → ready_among w earlier ++ ready_among w (all_but w (earlier ++ giver)) ++ ready_among w giver
      ≡ ready_among v earlier' ++ ready_among v (all_but v (earlier' ++ giver)) ++ ready_among v giver
  queued_same earlier earlier' giver w v same like =
      ap (λ (xs : List ℕ). xs ++ ready_among w (all_but w (earlier ++ giver)) ++ ready_among w giver) (among_same w v earlier like)
      ∙ ap (λ (xs : List ℕ). ready_among v earlier ++ xs ++ ready_among w giver)
      (among_same w v (all_but w (earlier ++ giver)) like ∙ ap (λ (pids : List ℕ). ready_among v pids) (others_same w v (earlier ++ giver) like))
      ∙ ap (λ (xs : List ℕ). ready_among v earlier ++ ready_among v (all_but v (earlier ++ giver)) ++ xs) (among_same w v giver like)
      ∙ ap (λ (xs : List ℕ). ready_among v xs ++ ready_among v (all_but v (xs ++ giver)) ++ ready_among v giver) same

  queue_same : (w v after after' : World) (deed : Deed) → Same known w v → Same known after after'
      → Same known (with_row (row_after w deed) (queued w.ready (giver_of deed) after)) (with_row (row_after v deed) (queued v.ready (giver_of deed) after'))
  queue_same w v after after' deed like later =
      let same = queued_same w.ready v.ready (giver_of deed) after after' (ap (λ (r : Rest). r.ready) like.rest) later in
      record {
        rest = (λ i. record (later.rest i) { ready = same i; row = row_same w v deed like i });
        process = later.process;
      }

  pub next_same : (births : List Birth) (w v : World) (entry : Entry) → Brings (deed_of entry) → Same known w v → Same known (next births w entry) (next births v entry)
  next_same births w v entry k like =
      queue_same w v (happened births w (deed_of entry)) (happened births v (deed_of entry)) (deed_of entry) like (happened_same births w v (deed_of entry) k like)
