-- Alike worlds stay alike by the rules that end nobody: answers, mail, waits, ticks and links.
use Rattle.std.specs.Prelude.{◌≡◌, ℕ, ◌+◌, ◌-◌, ◌^◌, List, [], ◌∷◌, ◌++◌, filter, min, max, Option, Some, None, Bool, true, false, not, ◌&&◌, nat_eq, nat_lt, nat_le, if◌then◌else◌, refl}
use Rattle.std.specs.Option.{option_map_or}
use Rattle.std.proofs.Common.{subst, sym, ◌∙◌, ap, inr}
use Rattle.std.proofs.lemmas.List.Elements.{filter_agree}
use Rattle.host_port.specs.declared.request.Request.{Request}
use Rattle.host_port.specs.declared.reply.Reply.{Reply}
use Rattle.world_rules.specs.Calls.{HostCall, call_of, arg}
use Rattle.world_rules.specs.Calls as CallIs
use Rattle.world_rules.specs.Answers.{empty_reply, number_reply}
use Rattle.world_rules.specs.Arrivals.{What, arrival_of}
use Rattle.world_rules.specs.Arrivals as Came
use Rattle.world_rules.specs.Part.{Scratch}
use Rattle.world_rules.specs.Mail.{MailItem, Letter, tags_in, pick, unpicked, message_count, most_messages}
use Rattle.world_rules.specs.Settled.{settled, SentOff, Delivered}
use Rattle.world_rules.specs.World.{World, Process, Stage, Unborn, Ready, Out, Waiting, Doomed, Ended, is_live, is_waiting, up_to, with_process}
use Rattle.world_rules.specs.Changes.{replied, pended, waiting, posted}
use Rattle.world_rules.specs.Receive.{held, delivery_reply, delivered, wanted_item, without_wanted, delivered_or, unmet, receive_performed, woken_from, woken, arrived, unless_refused, send_answer, sent_off, sent, send_performed}
use Rattle.world_rules.specs.Time.{at_time, is_positive, deadline_after, sleep_performed, late_reply, is_due, due_processes, timed_processes, timed_out, all_timed_out, ticked}
use Rattle.world_rules.specs.Links.{die_performed, with_link}
use Rattle.kept_world.proofs.Alike.{Seen, Hand, seen_of, Alike, Rest, rest_of, Same, put_like, alike_by, either_same, part_same, answered_same}

-- the list of those whose test agrees
pub tested_same : (known : ℕ → Type 0) (w v : World) (test : Seen → Bool) → Same known w v
    → filter (λ pid. test (seen_of (w.process pid))) (up_to w.numbers_drawn) ≡ filter (λ pid. test (seen_of (v.process pid))) (up_to v.numbers_drawn)
tested_same known w v test like =
    filter_agree (λ pid. test (seen_of (w.process pid))) (λ pid. test (seen_of (v.process pid))) (λ pid. ap test (like.process pid).seen) (up_to w.numbers_drawn)
    ∙ ap (λ (r : Rest). filter (λ pid. test (seen_of (v.process pid))) (up_to r.numbers)) like.rest

module _ (known : ℕ → Type 0) where
  pub replied_same : (w v : World) (pid : ℕ) (request request' : Request) (reply reply' : Reply) → Same known w v
      → Same known (replied w pid request reply) (replied v pid request' reply')
  replied_same w v pid request request' reply reply' like =
      answered_same known w v pid request request' reply reply' (Came.Answered reply) (Came.Answered reply') like

  -- the rest changes so
  pub rest_same : (w v w' v' : World) (change : Rest → Rest) → Same known w v → ((q : ℕ) → w'.process q ≡ w.process q) → ((q : ℕ) → v'.process q ≡ v.process q)
      → rest_of w' ≡ change (rest_of w) → rest_of v' ≡ change (rest_of v) → Same known w' v'
  rest_same w v w' v' change like pw pv rw rv = record {
    rest = rw ∙ ap change like.rest ∙ sym rv;
    process = λ q. subst (λ (p : Process). Alike (known q) p (v'.process q)) (sym (pw q))
        (subst (λ (p : Process). Alike (known q) (w.process q) p) (sym (pv q)) (like.process q));
  }

  -- MAIL

  pub posted_same : (w v : World) (to : ℕ) (item : MailItem) → Same known w v → Same known (posted w to item) (posted v to item)
  posted_same w v to item like =
      put_like known w v to (record (w.process to) { mail = (w.process to).mail ++ item ∷ [] }) (record (v.process to) { mail = (v.process to).mail ++ item ∷ [] }) like
      (alike_by (known to) (w.process to) (v.process to) (record (w.process to) { mail = (w.process to).mail ++ item ∷ [] }) (record (v.process to) { mail = (v.process to).mail ++ item ∷ [] })
      (λ s. record s { mail = s.mail ++ item ∷ [] }) (λ h. h) (like.process to) refl refl refl refl (λ k. k))

  pub held_same : (w v : World) (pid : ℕ) (item : MailItem) → Same known w v → Same known (held w pid item) (held v pid item)
  held_same w v pid item like =
      let near = part_same known w v pid (λ part. settled part (Delivered item)) like in record { rest = near.rest; process = near.process }

  pub delivered_same : (w v : World) (pid : ℕ) (request : Request) (item : MailItem) → Same known w v
      → Same known (delivered w pid request item) (delivered v pid request item)
  delivered_same w v pid request item like =
      answered_same known (held w pid item) (held v pid item) pid request request (delivery_reply item) (delivery_reply item) (arrival_of item) (arrival_of item)
      (held_same w v pid item like)

  without_same : (w v : World) (pid : ℕ) (request : Request) → Same known w v → Same known (without_wanted w pid request) (without_wanted v pid request)
  without_same w v pid request like =
      let tags : List ℕ = tags_in request.first in
      put_like known w v pid (record (w.process pid) { mail = unpicked tags (w.process pid).mail }) (record (v.process pid) { mail = unpicked tags (v.process pid).mail }) like
      (alike_by (known pid) (w.process pid) (v.process pid) (record (w.process pid) { mail = unpicked tags (w.process pid).mail }) (record (v.process pid) { mail = unpicked tags (v.process pid).mail })
      (λ s. record s { mail = unpicked tags s.mail }) (λ h. h) (like.process pid) refl refl refl refl (λ k. k))

  found_same : (other other' w v : World) (pid : ℕ) (request : Request) (found : Option MailItem) → Same known other other' → Same known w v
      → Same known (delivered_or other w pid request found) (delivered_or other' v pid request found)
  found_same other other' w v pid request None first like = first
  found_same other other' w v pid request (Some item) first like =
      delivered_same (without_wanted w pid request) (without_wanted v pid request) pid request item (without_same w v pid request like)

  pub wanted_same : (w v : World) (pid : ℕ) (request : Request) → Same known w v → wanted_item w pid request ≡ wanted_item v pid request
  wanted_same w v pid request like = ap (λ (s : Seen). pick (tags_in request.first) s.mail) (like.process pid).seen

  pub looked_same : (other other' w v : World) (pid : ℕ) (request : Request) → Same known other other' → Same known w v
      → Same known (delivered_or other w pid request (wanted_item w pid request)) (delivered_or other' v pid request (wanted_item v pid request))
  looked_same other other' w v pid request first like =
      subst (λ (found : Option MailItem). Same known (delivered_or other w pid request (wanted_item w pid request)) (delivered_or other' v pid request found))
      (wanted_same w v pid request like)
      (found_same other other' w v pid request (wanted_item w pid request) first like)

  woken_from_same : (call : Option HostCall) (w v : World) (pid : ℕ) (request : Request) → Same known w v
      → Same known (woken_from call w pid request) (woken_from call v pid request)
  woken_from_same (Some CallIs.Receive) w v pid request like = looked_same w v w v pid request like like
  woken_from_same _ w v pid request like = like

  woken_same : (stage : Stage) (w v : World) (pid : ℕ) → Same known w v → Same known (woken stage w pid) (woken stage v pid)
  woken_same Unborn w v pid like = like
  woken_same Ready w v pid like = like
  woken_same (Out worker) w v pid like = like
  woken_same (Waiting request) w v pid like = woken_from_same (call_of request) w v pid request like
  woken_same (Doomed worker end) w v pid like = like
  woken_same (Ended end) w v pid like = like

  pub arrived_same : (w v : World) (to : ℕ) (item : MailItem) → Same known w v → Same known (arrived w to item) (arrived v to item)
  arrived_same w v to item like =
      subst (λ (s : Seen). Same known (arrived w to item) (woken s.stage (posted v to item) to)) (like.process to).seen
      (woken_same (w.process to).stage (posted w to item) (posted v to item) to (posted_same w v to item like))

  -- TICKS

  pub time_same : (w v : World) (now : ℕ) → Same known w v → Same known (at_time now w) (at_time now v)
  time_same w v now like = rest_same w v (at_time now w) (at_time now v) (λ r. record r { time = max r.time now }) like (λ q. refl) (λ q. refl) refl refl

  timed_out_same : (stage : Stage) (w v : World) (pid : ℕ) → Same known w v → Same known (timed_out stage w pid) (timed_out stage v pid)
  timed_out_same Unborn w v pid like = like
  timed_out_same Ready w v pid like = like
  timed_out_same (Out worker) w v pid like = like
  timed_out_same (Waiting request) w v pid like =
      replied_same w v pid request request (late_reply (call_of request)) (late_reply (call_of request)) like
  timed_out_same (Doomed worker end) w v pid like = like
  timed_out_same (Ended end) w v pid like = like

  all_timed_out_same : (w v : World) (pids : List ℕ) → Same known w v → Same known (all_timed_out w pids) (all_timed_out v pids)
  all_timed_out_same w v [] like = like
  all_timed_out_same w v (pid ∷ pids) like =
      all_timed_out_same (timed_out (w.process pid).stage w pid) (timed_out (v.process pid).stage v pid) pids
      (subst (λ (s : Seen). Same known (timed_out (w.process pid).stage w pid) (timed_out s.stage v pid)) (like.process pid).seen
      (timed_out_same (w.process pid).stage w v pid like))

  pub due_same : (w v : World) → Same known w v → due_processes w ≡ due_processes v
  due_same w v like =
      tested_same known w v (λ s. is_waiting s.stage && option_map_or (λ (d : ℕ). nat_le d w.time) s.deadline false) like
      ∙ ap (λ (r : Rest). filter (λ pid. is_due r.time (v.process pid)) (up_to v.numbers_drawn)) like.rest

  pub timed_same : (w v : World) → Same known w v → timed_processes w ≡ timed_processes v
  timed_same w v like = tested_same known w v (λ s. is_waiting s.stage && option_map_or (λ (d : ℕ). true) s.deadline false) like

  pub ticked_same : (w v : World) (now : ℕ) → Same known w v → Same known (ticked w now) (ticked v now)
  ticked_same w v now like =
      subst (λ (pids : List ℕ). Same known (ticked w now) (all_timed_out (at_time now v) pids)) (due_same (at_time now w) (at_time now v) (time_same w v now like))
      (all_timed_out_same (at_time now w) (at_time now v) (due_processes (at_time now w)) (time_same w v now like))

  -- LINKS

  pub linked_same : (w v : World) (a b : ℕ) (tag : Option ℕ) → Same known w v → Same known (with_link w a b tag) (with_link v a b tag)
  linked_same w v a b tag like =
      rest_same w v (with_link w a b tag) (with_link v a b tag)
      (λ r. record r { links = λ c d. if nat_eq c (min a b) && nat_eq d (max a b) then tag else r.links c d }) like (λ q. refl) (λ q. refl) refl refl

  -- THE GIVER'S CALLS

  module _ (pid : ℕ) (k : known pid) where
    pub pended_same : (w v : World) (request : Request) → Same known w v → Same known (pended w pid request) (pended v pid request)
    pended_same w v request like =
        put_like known w v pid (record (w.process pid) { stage = Ready; owed = Some request }) (record (v.process pid) { stage = Ready; owed = Some request }) like
        (alike_by (known pid) (w.process pid) (v.process pid) (record (w.process pid) { stage = Ready; owed = Some request }) (record (v.process pid) { stage = Ready; owed = Some request })
        (λ s. record s { stage = Ready }) (λ h. record h { owed = Some request }) (like.process pid) refl refl refl refl (λ any. inr k))

    pub waiting_same : (w v : World) (request : Request) (deadline : Option ℕ) → Same known w v → Same known (waiting w pid request deadline) (waiting v pid request deadline)
    waiting_same w v request deadline like =
        put_like known w v pid (record (w.process pid) { stage = Waiting request; deadline = deadline }) (record (v.process pid) { stage = Waiting request; deadline = deadline }) like
        (alike_by (known pid) (w.process pid) (v.process pid) (record (w.process pid) { stage = Waiting request; deadline = deadline })
        (record (v.process pid) { stage = Waiting request; deadline = deadline })
        (λ s. record s { stage = Waiting request; deadline = deadline }) (λ h. h) (like.process pid) refl refl refl refl (λ any. inr k))

    late_same : (w v : World) (request : Request) (deadline : World → Option ℕ) → deadline w ≡ deadline v → Same known w v
        → Same known (waiting w pid request (deadline w)) (waiting v pid request (deadline v))
    late_same w v request deadline same like =
        subst (λ (d : Option ℕ). Same known (waiting w pid request (deadline w)) (waiting v pid request d)) same (waiting_same w v request (deadline w) like)

    pub sleep_same : (w v : World) (request : Request) → Same known w v → Same known (sleep_performed w pid request) (sleep_performed v pid request)
    sleep_same w v request like =
        either_same known (is_positive (arg request 0)) (is_positive (arg request 0)) (waiting w pid request (Some (deadline_after w (arg request 0)))) (replied w pid request empty_reply)
        (waiting v pid request (Some (deadline_after v (arg request 0)))) (replied v pid request empty_reply) refl
        (λ more. late_same w v request (λ x. Some (deadline_after x (arg request 0))) (ap (λ (r : Rest). Some (min (r.time + arg request 0) (2 ^ 64 - 1))) like.rest) like)
        (λ zero. replied_same w v pid request request empty_reply empty_reply like)

    unmet_same : (w v : World) (request : Request) → Same known w v → Same known (unmet w pid request) (unmet v pid request)
    unmet_same w v request like =
        let ms : ℕ = arg request 2 in
        either_same known (nat_eq ms 0) (nat_eq ms 0) (replied w pid request (number_reply 9027)) (waiting w pid request (if is_positive ms then Some (deadline_after w ms) else None))
        (replied v pid request (number_reply 9027)) (waiting v pid request (if is_positive ms then Some (deadline_after v ms) else None)) refl
        (λ zero. replied_same w v pid request request (number_reply 9027) (number_reply 9027) like)
        (λ more. late_same w v request (λ x. if is_positive ms then Some (deadline_after x ms) else None)
        (ap (λ (r : Rest). if is_positive ms then Some (min (r.time + ms) (2 ^ 64 - 1)) else None) like.rest) like)

    pub receive_same : (w v : World) (request : Request) → Same known w v → Same known (receive_performed w pid request) (receive_performed v pid request)
    receive_same w v request like = looked_same (unmet w pid request) (unmet v pid request) w v pid request (unmet_same w v request like) like

    pub die_same : (w v : World) (request : Request) → Same known w v → Same known (die_performed w pid request) (die_performed v pid request)
    die_same w v request like =
        let dies : Bool = not (nat_eq (arg request 0) 0) in
        replied_same (with_process w pid (record (w.process pid) { dies = dies })) (with_process v pid (record (v.process pid) { dies = dies })) pid request request empty_reply empty_reply
        (put_like known w v pid (record (w.process pid) { dies = dies }) (record (v.process pid) { dies = dies }) like
        (alike_by (known pid) (w.process pid) (v.process pid) (record (w.process pid) { dies = dies }) (record (v.process pid) { dies = dies })
        (λ s. record s { dies = dies }) (λ h. h) (like.process pid) refl refl refl refl (λ any. any)))

    sent_off_same : (w v : World) (to : ℕ) → Same known w v → Same known (sent_off w pid to) (sent_off v pid to)
    sent_off_same w v to like =
        let near = part_same known w v pid (λ part. settled part SentOff) like in
        record { rest = ap (λ (r : Rest). record r { sends = r.sends + 1 }) like.rest; process = near.process }

    sent_same : (w v : World) (to : ℕ) (request : Request) (scratch : Option Scratch) → Same known w v → Same known (sent w pid to request scratch) (sent v pid to request scratch)
    sent_same w v to request None like = like
    sent_same w v to request (Some scratch) like =
        let a : World = replied (sent_off w pid to) pid request (number_reply 0) in
        let b : World = replied (sent_off v pid to) pid request (number_reply 0) in
        subst (λ (r : Rest). Same known (arrived a to (Letter w.sends scratch.message)) (arrived b to (Letter r.sends scratch.message))) like.rest
        (arrived_same a b to (Letter w.sends scratch.message)
        (replied_same (sent_off w pid to) (sent_off v pid to) pid request request (number_reply 0) (number_reply 0) (sent_off_same w v to like)))

    pub send_answer_same : (w v : World) (to : ℕ) (refused : Bool) → Same known w v → send_answer (w.process to) refused ≡ send_answer (v.process to) refused
    send_answer_same w v to refused like =
        ap (λ (s : Seen). if is_live s.stage then (if nat_lt (message_count s.mail) most_messages then unless_refused refused 0 else 2) else 1) (like.process to).seen

    pub send_same : (w v : World) (request : Request) (refused : Bool) → Same known w v → Same known (send_performed w pid request refused) (send_performed v pid request refused)
    send_same w v request refused like =
        let to : ℕ = arg request 0 in
        either_same known (nat_eq (send_answer (w.process to) refused) 0) (nat_eq (send_answer (v.process to) refused) 0)
        (sent w pid to request (w.process pid).part.scratch) (replied w pid request (number_reply (send_answer (w.process to) refused)))
        (sent v pid to request (v.process pid).part.scratch) (replied v pid request (number_reply (send_answer (v.process to) refused)))
        (ap (λ (n : ℕ). nat_eq n 0) (send_answer_same w v to refused like))
        (λ zero. subst (λ (h : Hand). Same known (sent w pid to request (w.process pid).part.scratch) (sent v pid to request h.part.scratch)) ((like.process pid).hand (inr k))
        (sent_same w v to request (w.process pid).part.scratch like))
        (λ other. replied_same w v pid request request (number_reply (send_answer (w.process to) refused)) (number_reply (send_answer (v.process to) refused)) like)
