-- The walk over the rules that end nobody: answers, mail, waits, the outside, takes, what is recorded, and ticks.
use Rattle.std.specs.Prelude.{◌≡◌, ◌≢◌, ◌⊎◌, ℕ, suc, ◌<◌, ◌≤◌, List, [], ◌∷◌, ◌++◌, length, Option, Some, None, Bool, true, false, not, nat_eq, nat_lt, if◌then◌else◌, refl}
use Rattle.std.specs.Option.{option_map_or}
use Rattle.std.proofs.Common.{subst, sym, ◌∙◌, ap, inl, inr, arith}
use Rattle.std.proofs.lemmas.Bool.Decides.{eqb_tells, leb_tells}
use Rattle.host_port.specs.declared.request.Request.{Request}
use Rattle.host_port.specs.declared.reply.Reply.{Reply}
use Rattle.world_rules.specs.declared.entry.Side.{Side}
use Rattle.world_rules.specs.Views.{Given, is_starved, is_opened, clock_in, answer_in}
use Rattle.world_rules.specs.Calls.{HostCall, call_of, arg}
use Rattle.world_rules.specs.Calls as CallIs
use Rattle.world_rules.specs.Answers.{empty_reply, number_reply, written_reply}
use Rattle.world_rules.specs.Arrivals.{What, arrival_of}
use Rattle.world_rules.specs.Arrivals as Came
use Rattle.world_rules.specs.Part.{Scratch}
use Rattle.world_rules.specs.Mail.{MailItem, Letter, Signal, tags_in, unpicked, message_count, most_messages}
use Rattle.world_rules.specs.Settled.{settled, Delivered, SentOff, StreamOpened, ListenerBound}
use Rattle.world_rules.specs.Streams.{has_result}
use Rattle.world_rules.specs.World.{World, Process, Stage, Unborn, Ready, Out, Waiting, Doomed, Ended, is_away, is_home, is_live, with_process, with_moves, with_closed}
use Rattle.world_rules.specs.Changes.{reached, with_arrival, with_part, readied, answered, replied, waiting, posted}
use Rattle.world_rules.specs.Time.{clocked, is_positive, deadline_after, sleep_performed, late_reply, timed_out, all_timed_out, due_processes, at_time, ticked}
use Rattle.world_rules.specs.Receive.{held, delivery_reply, delivered, wanted_item, without_wanted, delivered_or, unmet, receive_performed, woken_from, woken, arrived, unless_refused, send_answer, sent_off, sent, send_performed}
use Rattle.world_rules.specs.Moves.{Move, Opened}
use Rattle.world_rules.specs.Handles.{moves_of, closings_of}
use Rattle.world_rules.specs.Links.{die_performed}
use Rattle.world_rules.specs.Outside.{id_address, stream_drawn, opened, opened_and_shut, bound, outside_performed}
use Rattle.world_rules.specs.Allowed.{is_out}
use Rattle.world_rules.specs.Rules.{turned, streamed_in, recorded, home, taken}
use Rattle.world_rules.specs.Touches.{Change, Takes, Arrives, Turns, Returns, Answers, Pends, Waits, Posts, Picks, Settles, Minds, Dooms, Finishes, Begins, changed, MayCome, TurnStands, PostStands, counts_of, is_there}
use Rattle.world_rules.specs.laws.BirthLaws.{put_here, counted, process_counted, wanted_by}
use Rattle.world_rules.specs.laws.KeepingLaws.{false_is_true}
use Rattle.world_rules.proofs.Walk.{One, Mild, Calm, Posting, Steps, is_mild, is_quiet, same_counts, more_time, more_streams, more_sends}

-- ONE PROCESS REPLACED

put_field_at : {X : Type 0} (f : Process → X) (w : World) (pid : ℕ) (p : Process) → f p ≡ f (w.process pid) → (q : ℕ)
    → ((nat_eq q pid ≡ true) × (q ≡ pid)) ⊎ ((nat_eq q pid ≡ false) × (q ≢ pid))
    → f (if nat_eq q pid then p else w.process q) ≡ f (w.process q)
put_field_at f w pid p same q (inl here) =
    ap (λ (b : Bool). f (if b then p else w.process q)) here.0 ∙ same ∙ ap (λ (n : ℕ). f (w.process n)) (sym here.1)
put_field_at f w pid p same q (inr other) = ap (λ (b : Bool). f (if b then p else w.process q)) other.0

-- what the new process has as the old one had it, each process has as before
pub put_field : {X : Type 0} (f : Process → X) (w : World) (pid : ℕ) (p : Process) → f p ≡ f (w.process pid) → (q : ℕ)
    → f ((with_process w pid p).process q) ≡ f (w.process q)
put_field f w pid p same q = put_field_at f w pid p same q (eqb_tells q pid)

pub stage_put : (w : World) (pid : ℕ) (p : Process) → ((with_process w pid p).process pid).stage ≡ p.stage
stage_put w pid p = ap (λ (r : Process). r.stage) (put_here w.process pid p)

-- STAGES

pub home_live : (s : Stage) → is_home s ≡ true → is_live s ≡ true
home_live Unborn e = false_is_true e
home_live Ready e = refl
home_live (Out worker) e = false_is_true e
home_live (Waiting request) e = refl
home_live (Doomed worker end) e = false_is_true e
home_live (Ended end) e = false_is_true e

pub out_live : (s : Stage) → is_out s ≡ true → is_live s ≡ true
out_live Unborn e = false_is_true e
out_live Ready e = false_is_true e
out_live (Out worker) e = refl
out_live (Waiting request) e = false_is_true e
out_live (Doomed worker end) e = false_is_true e
out_live (Ended end) e = false_is_true e

pub away_there : (s : Stage) → is_away s ≡ true → is_there s ≡ true
away_there Unborn e = false_is_true e
away_there Ready e = false_is_true e
away_there (Out worker) e = refl
away_there (Waiting request) e = false_is_true e
away_there (Doomed worker end) e = refl
away_there (Ended end) e = false_is_true e

pub mild_live : (pid : ℕ) (change : Change) (p : Process) → MayCome pid change p → is_mild change ≡ true →
    is_live (changed change p).stage ≡ is_live p.stage
mild_live pid (Takes worker) p may mild = sym (ap (λ (s : Stage). is_live s) may)
mild_live pid (Arrives what) p may mild = refl
mild_live pid (Turns give) p may mild = refl
mild_live pid Returns p may mild = sym (out_live p.stage may)
mild_live pid (Answers request reply) p may mild = sym (home_live p.stage may)
mild_live pid (Pends request) p may mild = sym (ap (λ (s : Stage). is_live s) may)
mild_live pid (Waits request deadline) p may mild = sym (ap (λ (s : Stage). is_live s) may)
mild_live pid (Posts item) p may mild = refl
mild_live pid (Picks tags) p may mild = refl
mild_live pid (Settles outcome) p may mild = refl
mild_live pid (Minds dies) p may mild = refl
mild_live pid (Dooms worker end) p may mild = false_is_true mild
mild_live pid (Finishes end) p may mild = false_is_true mild
mild_live pid (Begins start) p may mild = false_is_true mild

-- the same processes are live
abbrev pub LiveSame : World → World → Type 0
LiveSame w after = (q : ℕ) → is_live (after.process q).stage ≡ is_live (w.process q).stage

pub one_live : (w after : World) (pid : ℕ) (change : Change) → One w after pid change → LiveSame w after
one_live w after pid change one q =
    ap (λ (p : Process). is_live p.stage) (one.process q)
    ∙ put_field (λ (p : Process). is_live p.stage) w pid (changed change (w.process pid)) (mild_live pid change
    (w.process pid) one.may one.mild) q

pub live_mild : Mild LiveSame
live_mild = record {
  self = λ w q. refl;
  next = λ a b c first second q. second q ∙ first q;
  still = λ w after still q. ap (λ (p : Process). is_live p.stage) (still.process q);
  one = one_live;
}

-- ANSWERED 0

zero_answer : (live room refused : Bool) →
    nat_eq (if live then (if room then unless_refused refused 0 else 2) else 1) 0 ≡ true → (live ≡ true) × (room ≡ true)
zero_answer true true refused e = (refl, refl)
zero_answer true false refused e = false_is_true e
zero_answer false room refused e = false_is_true e

below : (a b : ℕ) → nat_lt a b ≡ true → a < b
below a b e = by (leb_tells (suc a) b) e
  where
    by : ((nat_lt a b ≡ true) × (suc a ≤ b)) ⊎ ((nat_lt a b ≡ false) × (b < suc a)) → nat_lt a b ≡ true → a < b
    by (inl h) e = let x = h.1 in omega (arith, x)
    by (inr h) e = false_is_true (sym h.0 ∙ e)

pub send_stands : (to : Process) (refused : Bool) (item : MailItem) → nat_eq (send_answer to refused) 0 ≡ true →
    PostStands to item
send_stands to refused item e =
    let both = zero_answer (is_live to.stage) (nat_lt (message_count to.mail) most_messages) refused e in
    record { live = both.0; room = λ letter. below (message_count to.mail) most_messages both.1 }

answered_mail : (w : World) (pid : ℕ) (request : Request) (reply : Reply) (what : What) (b : Bool) (q : ℕ)
    → ((if b then with_arrival (with_process w pid (readied (w.process pid) request reply)) pid what
    else w).process q).mail ≡ (w.process q).mail
answered_mail w pid request reply what true q =
    let mid : World = with_process w pid (readied (w.process pid) request reply) in
    put_field (λ (p : Process). p.mail) mid pid (reached (mid.process pid) what) refl q
    ∙ put_field (λ (p : Process). p.mail) w pid (readied (w.process pid) request reply) refl q
answered_mail w pid request reply what false q = refl

answered_live : (w : World) (pid : ℕ) (request : Request) (reply : Reply) (what : What) (b : Bool) → is_home (w.process pid).stage ≡ b → (q : ℕ)
    → is_live ((if b then with_arrival (with_process w pid (readied (w.process pid) request reply)) pid what
    else w).process q).stage ≡ is_live (w.process q).stage
answered_live w pid request reply what true there q =
    let mid : World = with_process w pid (readied (w.process pid) request reply) in
    put_field (λ (p : Process). is_live p.stage) mid pid (reached (mid.process pid) what) refl q
    ∙ put_field (λ (p : Process). is_live p.stage) w pid (readied (w.process pid) request reply) (sym (home_live (w.process pid).stage there)) q
answered_live w pid request reply what false there q = refl

pub replied_live : (w : World) (pid : ℕ) (request : Request) (reply : Reply) → LiveSame w (replied w pid request reply)
replied_live w pid request reply q = answered_live w pid request reply (Came.Answered reply) (is_home (w.process pid).stage) refl q

-- THE WALK, FOR STEPS THAT END NOBODY

module _ (R : World → World → Type 0) (k : Calm R) where
  pub put_walk : (w : World) (pid : ℕ) (change : Change) → MayCome pid change (w.process pid) → is_mild change ≡ true →
      is_quiet change ≡ true → R w (with_process w pid (changed change (w.process pid)))
  put_walk w pid change may mild quiet =
      k.one w (with_process w pid (changed change (w.process pid))) pid change
      (record { may = may; mild = mild; process = λ q. refl; rest = refl; counts = same_counts (counts_of w) }) quiet refl

  pub if_walk : (b : Bool) (w x y : World) → (b ≡ true → R w x) → (b ≡ false → R w y) → R w (if b then x else y)
  if_walk true w x y first second = first refl
  if_walk false w x y first second = second refl

  pub arrival_walk : (w : World) (pid : ℕ) (what : What) → is_there (w.process pid).stage ≡ true →
      R w (with_arrival w pid what)
  arrival_walk w pid what there = put_walk w pid (Arrives what) there refl refl

  pub answered_walk : (w : World) (pid : ℕ) (request : Request) (reply : Reply) (what : What) →
      R w (answered w pid request reply what)
  answered_walk w pid request reply what =
      let mid : World = with_process w pid (readied (w.process pid) request reply) in
      if_walk (is_home (w.process pid).stage) w (with_arrival mid pid what) w
      (λ there. k.next w mid (with_arrival mid pid what) (put_walk w pid (Answers request reply) there refl refl)
      (arrival_walk mid pid what (ap (λ (s : Stage). is_there s) (stage_put w pid (readied (w.process pid) request reply)))))
      (λ other. k.self w)

  pub replied_walk : (w : World) (pid : ℕ) (request : Request) (reply : Reply) → R w (replied w pid request reply)
  replied_walk w pid request reply = answered_walk w pid request reply (Came.Answered reply)

  pub then_replied : (w mid : World) (pid : ℕ) (request : Request) (reply : Reply) → R w mid →
      R w (replied mid pid request reply)
  then_replied w mid pid request reply first =
      k.next w mid (replied mid pid request reply) first (replied_walk mid pid request reply)

-- STREAMS, WHATEVER BECOMES OF THEM

-- of a relation that holds wherever one process is changed mildly, the steps with streams hold too
pub fine : (R : World → World → Type 0) → Mild R → Posting R
fine R k = record {
  calm = calm;
  waits = λ w pid request deadline there. k.one w (waiting w pid request deadline) pid (Waits request deadline)
      (record { may = there; mild = refl; process = λ q. refl; rest = refl; counts = same_counts (counts_of w) });
  signals = λ w to tag live. k.one w (posted w to (Signal tag)) to (Posts (Signal tag))
      (record { may = record { live = live; room = λ e. false_is_true e }; mild = refl; process = λ q. refl; rest = refl; counts = same_counts (counts_of w) });
  turns = λ w give moves closings stands same closes. k.one w (with_closed (with_moves (with_process w give.pid (turned (w.process give.pid) give)) moves) closings) give.pid (Turns give)
      (record { may = stands; mild = refl; process = λ q. refl; rest = refl; counts = same_counts (counts_of w) });
  opens = λ w pid there. k.one w
      (with_moves (with_part (stream_drawn w) pid (settled (w.process pid).part (StreamOpened w.streams))) (Opened w.streams pid ∷ [])) pid (Settles (StreamOpened w.streams))
      (record { may = there; mild = refl; process = λ q. refl; rest = refl; counts = more_streams w });
  shuts = λ w pid. k.still w (opened_and_shut w pid) (record { process = λ q. refl; rest = refl; counts = more_streams w });
  sends = sends;
  delivers = λ w pid tags item there found.
      let p : Process = record (w.process pid) { mail = unpicked tags (w.process pid).mail } in
      let mid : World = with_process w pid p in
      k.next w mid (held mid pid item)
      (k.one w mid pid (Picks tags) (record { may = there; mild = refl; process = λ q. refl; rest = refl; counts = same_counts (counts_of w) }))
      (k.one mid (held mid pid item) pid (Settles (Delivered item)) (record {
        may = ap (λ (s : Stage). is_home s) (stage_put w pid p) ∙ there;
        mild = refl;
        process = λ q. refl;
        rest = refl;
        counts = same_counts (counts_of w);
      }));
}
  where
    calm : Calm R
    calm = record {
      self = k.self;
      next = k.next;
      still = λ w after still books. k.still w after still;
      one = λ w after pid change one quiet books. k.one w after pid change one;
    }

    sends : (w : World) (pid to : ℕ) (request : Request) (scratch : Scratch) → (w.process pid).stage ≡ Ready
        → (w.process pid).part.scratch ≡ Some scratch → PostStands (w.process to) (Letter w.sends scratch.message)
        → R w (posted (replied (sent_off w pid to) pid request (number_reply 0)) to (Letter w.sends scratch.message))
    sends w pid to request scratch there at stands =
        let off : World = sent_off w pid to in
        let told : World = replied off pid request (number_reply 0) in
        let letter : MailItem = Letter w.sends scratch.message in
        let p : Process = record (w.process pid) { part = settled (w.process pid).part SentOff } in
        let at_home : is_home (w.process pid).stage ≡ true = ap (λ (s : Stage). is_home s) there in
        let live : is_live (told.process to).stage ≡ is_live (w.process to).stage =
        replied_live off pid request (number_reply 0) to ∙ put_field (λ (r : Process). is_live r.stage) w pid p refl to in
        let mail : (told.process to).mail ≡ (w.process to).mail =
        answered_mail off pid request (number_reply 0) (Came.Answered (number_reply 0)) (is_home (off.process pid).stage) to
        ∙ put_field (λ (r : Process). r.mail) w pid p refl to in
        k.next w told (posted told to letter)
        (then_replied R calm w off pid request (number_reply 0)
        (k.one w off pid (Settles SentOff) (record { may = at_home; mild = refl; process = λ q. refl; rest = refl; counts = more_sends w })))
        (k.one told (posted told to letter) to (Posts letter) (record {
          may = record {
            live = live ∙ stands.live;
            room = λ is. subst (λ (m : List MailItem). message_count m < most_messages) (sym mail) (stands.room is);
          };
          mild = refl;
          process = λ q. refl;
          rest = refl;
          counts = same_counts (counts_of told);
        }))

-- WHO WAKES

module _ (R : World → World → Type 0) (k : Posting R) where
  found_walk : (w : World) (pid : ℕ) (request : Request) (found : Option MailItem) → wanted_item w pid request ≡ found →
      is_home (w.process pid).stage ≡ true → R w (delivered_or w w pid request found)
  found_walk w pid request None at there = k.calm.self w
  found_walk w pid request (Some item) at there =
      let mid : World = without_wanted w pid request in
      k.calm.next w (held mid pid item) (delivered mid pid request item) (k.delivers w pid (tags_in request.first) item there at)
      (answered_walk R k.calm (held mid pid item) pid request (delivery_reply item) (arrival_of item))

  woken_from_walk : (call : Option HostCall) (w : World) (pid : ℕ) (request : Request) →
      is_home (w.process pid).stage ≡ true → R w (woken_from call w pid request)
  woken_from_walk (Some CallIs.Receive) w pid request there = found_walk w pid request (wanted_item w pid request) refl there
  woken_from_walk _ w pid request there = k.calm.self w

  woken_walk : (stage : Stage) (w : World) (pid : ℕ) → (w.process pid).stage ≡ stage → R w (woken stage w pid)
  woken_walk Unborn w pid at = k.calm.self w
  woken_walk Ready w pid at = k.calm.self w
  woken_walk (Out worker) w pid at = k.calm.self w
  woken_walk (Waiting request) w pid at =
      woken_from_walk (call_of request) w pid request (ap (λ (s : Stage). is_home s) at)
  woken_walk (Doomed worker end) w pid at = k.calm.self w
  woken_walk (Ended end) w pid at = k.calm.self w

  -- who gets an item wakes where it waits for it
  then_woken : (w mid : World) (to : ℕ) (item : MailItem) → R w (posted mid to item) → R w (arrived mid to item)
  then_woken w mid to item first =
      let p : Process = record (mid.process to) { mail = (mid.process to).mail ++ item ∷ [] } in
      k.calm.next w (posted mid to item) (arrived mid to item) first
      (woken_walk (mid.process to).stage (posted mid to item) to (stage_put mid to p))

  pub steps : Steps R
  steps = record {
    calm = k.calm;
    waits = λ w pid request deadline there none. k.waits w pid request deadline there;
    signals = λ w to tag live. then_woken w w to (Signal tag) (k.signals w to tag live);
    turns = k.turns;
    opens = k.opens;
    shuts = k.shuts;
    sends = λ w pid to request scratch there at stands.
        then_woken w (replied (sent_off w pid to) pid request (number_reply 0)) to (Letter w.sends scratch.message) (k.sends w pid to request scratch there at stands);
    delivers = λ w pid tags item there found. k.delivers w pid tags item (ap (λ (s : Stage). is_home s) there) found;
  }

-- THE WALK

module _ (R : World → World → Type 0) (k : Steps R) where
  step : (a b c : World) → R a b → R b c → R a c
  step a b c first second = k.calm.next a b c first second

  self : (w : World) → R w w
  self w = k.calm.self w

  reply_walk : (w : World) (pid : ℕ) (request : Request) (reply : Reply) → R w (replied w pid request reply)
  reply_walk w pid request reply = replied_walk R k.calm w pid request reply

  choose_walk : (b : Bool) (w x y : World) → (b ≡ true → R w x) → (b ≡ false → R w y) → R w (if b then x else y)
  choose_walk b w x y first second = if_walk R k.calm b w x y first second

  -- MAIL

  pub sent_walk : (w : World) (pid to : ℕ) (request : Request) (scratch : Option Scratch) → (w.process pid).part.scratch ≡ scratch →
      (w.process pid).stage ≡ Ready → ((item : MailItem) → PostStands (w.process to) item) →
      R w (sent w pid to request scratch)
  sent_walk w pid to request None at there stands = self w
  sent_walk w pid to request (Some scratch) at there stands =
      k.sends w pid to request scratch there at (stands (Letter w.sends scratch.message))

  pub send_walk : (w : World) (pid : ℕ) (request : Request) (refused : Bool) → (w.process pid).stage ≡ Ready →
      R w (send_performed w pid request refused)
  send_walk w pid request refused there =
      let to : ℕ = arg request 0 in
      let answer : ℕ = send_answer (w.process to) refused in
      choose_walk (nat_eq answer 0) w (sent w pid to request (w.process pid).part.scratch) (replied w pid request (number_reply answer))
      (λ zero. sent_walk w pid to request (w.process pid).part.scratch refl there (λ item. send_stands (w.process to) refused item zero))
      (λ other. reply_walk w pid request (number_reply answer))

  received_walk : (w : World) (pid : ℕ) (request : Request) (found : Option MailItem) → wanted_item w pid request ≡ found → (w.process pid).stage ≡ Ready →
      R w (delivered_or (unmet w pid request) w pid request found)
  received_walk w pid request None at there =
      let deadline : Option ℕ = if is_positive (arg request 2) then Some (deadline_after w (arg request 2)) else None in
      choose_walk (nat_eq (arg request 2) 0) w (replied w pid request (number_reply 9027)) (waiting w pid request deadline)
      (λ zero. reply_walk w pid request (number_reply 9027)) (λ more. k.waits w pid request deadline there (λ is. at))
  received_walk w pid request (Some item) at there =
      let mid : World = without_wanted w pid request in
      step w (held mid pid item) (delivered mid pid request item) (k.delivers w pid (tags_in request.first) item there at)
      (answered_walk R k.calm (held mid pid item) pid request (delivery_reply item) (arrival_of item))

  pub receive_walk : (w : World) (pid : ℕ) (request : Request) → (w.process pid).stage ≡ Ready →
      R w (receive_performed w pid request)
  receive_walk w pid request there = received_walk w pid request (wanted_item w pid request) refl there

  pub sleep_walk : (w : World) (pid : ℕ) (request : Request) → call_of request ≡ Some CallIs.SleepMs → (w.process pid).stage ≡ Ready →
      R w (sleep_performed w pid request)
  sleep_walk w pid request named there =
      let deadline : Option ℕ = Some (deadline_after w (arg request 0)) in
      choose_walk (is_positive (arg request 0)) w (waiting w pid request deadline) (replied w pid request empty_reply)
      (λ more. k.waits w pid request deadline there other) (λ zero. reply_walk w pid request empty_reply)
    where
      other : call_of request ≡ Some CallIs.Receive → wanted_item w pid request ≡ None
      other is = let first = named in cc

  pub die_walk : (w : World) (pid : ℕ) (request : Request) → (w.process pid).stage ≡ Ready →
      R w (die_performed w pid request)
  die_walk w pid request there =
      let dies : Bool = not (nat_eq (arg request 0) 0) in
      then_replied R k.calm w (with_process w pid (record (w.process pid) { dies = dies })) pid request empty_reply (put_walk R k.calm w pid (Minds dies) there refl refl)

  -- THE OUTSIDE

  pub opened_walk : (call : HostCall) (w : World) (pid : ℕ) (request : Request) → (w.process pid).stage ≡ Ready →
      R w (opened call w pid request)
  opened_walk call w pid request there =
      let drawn : World =
      with_moves (with_part (stream_drawn w) pid (settled (w.process pid).part (StreamOpened w.streams))) (Opened w.streams pid ∷ []) in
      let reply : Reply = written_reply 0 (id_address call request) w.streams in
      step w drawn (opened call w pid request) (k.opens w pid (ap (λ (s : Stage). is_home s) there))
      (answered_walk R k.calm drawn pid request reply (Came.Opened reply))

  pub bound_walk : (call : HostCall) (w : World) (pid : ℕ) (reply : Reply) → (w.process pid).stage ≡ Ready →
      R w (bound call w pid reply)
  bound_walk CallIs.Bind w pid reply there =
      choose_walk (has_result 0 reply) w (with_part w pid (settled (w.process pid).part ListenerBound)) w
      (λ zero. put_walk R k.calm w pid (Settles ListenerBound) (ap (λ (s : Stage). is_home s) there) refl refl) (λ other. self w)
  bound_walk _ w pid reply there = self w

  pub answer_walk : (call : HostCall) (w : World) (pid : ℕ) (request : Request) (answer : Option Reply) → (w.process pid).stage ≡ Ready
      → R w (option_map_or (λ (reply : Reply). replied (bound call w pid reply) pid request reply) answer w)
  answer_walk call w pid request None there = self w
  answer_walk call w pid request (Some reply) there =
      then_replied R k.calm w (bound call w pid reply) pid request reply (bound_walk call w pid reply there)

  pub outside_walk : (call : HostCall) (w : World) (pid : ℕ) (request : Request) (side : Side) → (w.process pid).stage ≡ Ready →
      R w (outside_performed call w pid request side)
  outside_walk call w pid request side there =
      choose_walk (is_opened side) w (opened call w pid request)
      (option_map_or (λ (reply : Reply). replied (bound call w pid reply) pid request reply) (answer_in side) w)
      (λ is. opened_walk call w pid request there) (λ other. answer_walk call w pid request (answer_in side) there)

  -- TAKES, RECORDS AND TICKS

  pub taken_walk : (w : World) (worker pid : ℕ) → (w.process pid).stage ≡ Ready → R w (taken w worker pid)
  taken_walk w worker pid there = put_walk R k.calm w pid (Takes worker) there refl refl

  pub time_walk : (w : World) (now : ℕ) → R w (at_time now w)
  time_walk w now = k.calm.still w (at_time now w) (record { process = λ q. refl; rest = refl; counts = more_time w now }) refl

  pub clocked_walk : (clock : Option ℕ) (w : World) → R w (option_map_or (λ now. at_time now w) clock w)
  clocked_walk None w = self w
  clocked_walk (Some now) w = time_walk w now

  pub streamed_walk : (request : Option Request) (give : Given) (w : World) → R w (streamed_in request give w)
  streamed_walk None give w = self w
  streamed_walk (Some request) give w =
      k.calm.still w (streamed_in (Some request) give w) (record { process = λ q. refl; rest = refl; counts = same_counts (counts_of w) }) refl

  turn_walk : (w : World) (give : Given) (moves : List Move) (closings : List ℕ) (starved : Bool) → TurnStands (w.process give.pid) give
      → moves ≡ moves_of give.pid (w.process give.pid).start (w.process give.pid).part give.calls
      → closings ≡ closings_of (w.process give.pid).start (w.process give.pid).part give.calls
      → R w (with_closed (with_moves
      (with_process (if starved then with_arrival w give.pid (Came.Starved (length give.calls)) else w) give.pid
      (turned ((if starved then with_arrival w give.pid (Came.Starved (length give.calls)) else w).process give.pid) give)) moves) closings)
  turn_walk w give moves closings true stands same closes =
      let p : Process = reached (w.process give.pid) (Came.Starved (length give.calls)) in
      let there : World = with_process w give.pid p in
      let after : World = with_closed (with_moves (with_process there give.pid (turned (there.process give.pid) give)) moves) closings in
      step w there after (arrival_walk R k.calm w give.pid (Came.Starved (length give.calls)) (away_there (w.process give.pid).stage stands.away))
      (k.turns there give moves closings
      (subst (λ (r : Process). TurnStands r give) (sym (put_here w.process give.pid p)) (record { away = stands.away; grown = stands.grown; local = stands.local }))
      (same ∙ ap (λ (r : Process). moves_of give.pid r.start r.part give.calls) (sym (put_here w.process give.pid p)))
      (closes ∙ ap (λ (r : Process). closings_of r.start r.part give.calls) (sym (put_here w.process give.pid p))))
  turn_walk w give moves closings false stands same closes = k.turns w give moves closings stands same closes

  pub recorded_walk : (w : World) (give : Given) → TurnStands (w.process give.pid) give → R w (recorded w give)
  recorded_walk w give stands =
      let p : Process = w.process give.pid in
      let mid : World = counted w give in
      let there : TurnStands (mid.process give.pid) give =
      subst (λ (ps : ℕ → Process). TurnStands (ps give.pid) give) (sym (process_counted w give)) stands in
      step w mid (recorded w give)
      (step w (clocked give.side w) mid (clocked_walk (clock_in give.side) w) (streamed_walk (wanted_by w give) give (clocked give.side w)))
      (turn_walk mid give (moves_of give.pid p.start p.part give.calls) (closings_of p.start p.part give.calls) (is_starved give.halt) there
      (ap (λ (ps : ℕ → Process). moves_of give.pid (ps give.pid).start (ps give.pid).part give.calls) (sym (process_counted w give)))
      (ap (λ (ps : ℕ → Process). closings_of (ps give.pid).start (ps give.pid).part give.calls) (sym (process_counted w give))))

  pub home_walk : (w : World) (pid : ℕ) → is_out (w.process pid).stage ≡ true → R w (home w pid)
  home_walk w pid out = put_walk R k.calm w pid Returns out refl refl

  pub shut_walk : (opening : Bool) (w : World) (pid : ℕ) → R w (if opening then opened_and_shut w pid else w)
  shut_walk true w pid = k.shuts w pid
  shut_walk false w pid = self w

  pub all_timed_out_walk : (w : World) (pids : List ℕ) → R w (all_timed_out w pids)
  all_timed_out_walk w [] = self w
  all_timed_out_walk w (pid ∷ pids) =
      let mid : World = timed_out (w.process pid).stage w pid in
      step w mid (all_timed_out mid pids) (one_timed_out (w.process pid).stage w pid) (all_timed_out_walk mid pids)
    where
      one_timed_out : (stage : Stage) (w : World) (pid : ℕ) → R w (timed_out stage w pid)
      one_timed_out Unborn w pid = self w
      one_timed_out Ready w pid = self w
      one_timed_out (Out worker) w pid = self w
      one_timed_out (Waiting request) w pid = reply_walk w pid request (late_reply (call_of request))
      one_timed_out (Doomed worker end) w pid = self w
      one_timed_out (Ended end) w pid = self w

  pub ticked_walk : (w : World) (now : ℕ) → R w (ticked w now)
  ticked_walk w now =
      step w (at_time now w) (ticked w now) (time_walk w now) (all_timed_out_walk (at_time now w) (due_processes (at_time now w)))
