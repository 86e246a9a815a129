use Rattle.std.proofs.Common.{◌≡◌, ◌≢◌, ◌<◌, ◌≤◌, ℕ, ◌+◌, List, length, Contains, nat_eq, nat_lt, Option, Some, None, Bool, true, false, cond, refl, arith, sym, ◌∙◌, ap, subst, ◌⊎◌, inl, inr}
use Rattle.std.proofs.lemmas.Bool.Decides.{nat_tests}
use Rattle.host_port.specs.declared.ask.Ask.{Ask}
use Rattle.host_port.specs.declared.reply.Reply.{Reply}
use Rattle.host_port.specs.declared.request.Request.{Request}
use Rattle.host_port.specs.Areas.{request_of}
use Rattle.world_rules.specs.declared.life.Ended.{Ended as EndMemory}
use Rattle.world_rules.specs.Answers.{empty_reply, number_reply}
use Rattle.world_rules.specs.Calls.{arg, call_of}
use Rattle.world_rules.specs.Calls as CallIs
use Rattle.world_rules.specs.Changes.{replied, waiting}
use Rattle.world_rules.specs.Lives.{Setting}
use Rattle.world_rules.specs.Mail.{MailItem, Letter, message_count, most_messages, pick, tags_in, unpicked}
use Rattle.world_rules.specs.Part.{Part, Scratch, scratch_handles}
use Rattle.world_rules.specs.Receive.{arrived, delivery_reply, receive_performed, send_answer, send_performed, sent, sent_off, unless_refused, unmet}
use Rattle.world_rules.specs.Settled.{settled, Delivered, SentOff}
use Rattle.world_rules.specs.Time.{sleep_performed}
use Rattle.world_rules.specs.World.{World, Process, is_live}
use Rattle.node_state.specs.declared.outcome.Post.{Post}
use Rattle.node_state.specs.declared.outcome.Post.TheVariants as PostIs
use Rattle.node_state.specs.Fits.{IsAnswered}
use Rattle.node_state.specs.Posts.{code_of, deadline_of}
use Rattle.node_state.specs.Seats.{Meaning, Seat}
use Rattle.node_mirror.specs.Slots.{Slot, Home, Giving, IsGiving, SlotFits}
use Rattle.node_mirror.specs.Held.{Held, Mirrors}
use Rattle.node_mirror.specs.Steps.{asleep, closing, home, with_one}
use Rattle.node_mirror.proofs.Homes.{giving_at, giving_there, reply_mirrors, sleep_wants_nothing, wait_mirrors}
use Rattle.node_mirror.proofs.Mailboxes.{delivery_mirrors, live_at, sending_mirrors}
use Rattle.node_mirror.proofs.Struck.{slot_unlive}
use Rattle.node_mirror.specs.Replies.{told_numbers}
use Rattle.process_store.specs.declared.store.Store.{Store}
use Rattle.process_store.specs.Holds.{held_of, place_at}
use Rattle.process_store.specs.Performing.{IsRefusedSend}
use Rattle.process_store.specs.Telling.{IsPost}
use Rattle.process_store.proofs.Performed.{sleep_is_over, sleep_waits, unmet_at_once, unmet_is, unmet_waits}

-- What the rules make of a world, where a call is performed: the mirror goes along.

module _ {E P : Type 0} {engines : Meaning E P} {setting : Setting P} (w : World) (held : Held E) (ends : List EndMemory) (pid : ℕ) (seat : Seat E) (ask : Ask) (request : Request)
    (m : Mirrors engines setting w held ends) (at : held.slots pid ≡ Giving seat ask) (is : request_of (engines.memory seat.engine) ask ≡ request) where
  -- the process is told this
  pub told_mirrors : (reply : Reply) (engine : E) → IsAnswered engines seat.engine reply engine
      → Mirrors engines setting (replied w pid request reply) (home held pid (record seat { engine = engine })) ends
  told_mirrors reply engine after =
      subst (λ (r : Request). Mirrors engines setting (replied w pid r reply) (home held pid (record seat { engine = engine })) ends) is
      (reply_mirrors w held ends pid seat ask reply engine m (giving_there (w.process pid) seat ask (giving_at w held ends pid seat ask m at)) after)

  -- SLEEP
  pub sleeping_mirrors : (due : ℕ) → ask.call ≡ 17 → deadline_of held.time (arg request 0) ≡ Some due
      → Mirrors engines setting (sleep_performed w pid request) (asleep held pid seat ask (Some due)) ends
  sleeping_mirrors due call later =
      subst (λ (v : World). Mirrors engines setting v (asleep held pid seat ask (Some due)) ends) (sym (sleep_waits w pid request due (ap (λ t. deadline_of t (arg request 0)) m.time ∙ later)))
      (subst (λ (r : Request). Mirrors engines setting (waiting w pid r (Some due)) (asleep held pid seat ask (Some due)) ends) is
      (wait_mirrors w held ends pid seat ask (Some due) m at (inr call) (sleep_wants_nothing (request_of (engines.memory seat.engine) ask) (w.process pid).mail call)))

  pub slept_mirrors : (engine : E) → deadline_of held.time (arg request 0) ≡ None → IsAnswered engines seat.engine empty_reply engine
      → Mirrors engines setting (sleep_performed w pid request) (home held pid (record seat { engine = engine })) ends
  slept_mirrors engine none after =
      subst (λ (v : World). Mirrors engines setting v (home held pid (record seat { engine = engine })) ends)
      (sym (sleep_is_over w pid request (ap (λ t. deadline_of t (arg request 0)) m.time ∙ none))) (told_mirrors empty_reply engine after)

  -- RECEIVE
  pub received_mirrors : (item : MailItem) (engine : E) → pick (tags_in request.first) (held.mail pid) ≡ Some item → IsAnswered engines seat.engine (delivery_reply item) engine
      → Mirrors engines setting (receive_performed w pid request)
      (closing (with_one held pid (Home (record seat { engine = engine; part = settled seat.part (Delivered item) })) (unpicked (tags_in request.first) (held.mail pid)) None)
      (scratch_handles seat.part)) ends
  received_mirrors item engine found after =
      subst (λ (r : Request). Mirrors engines setting (receive_performed w pid r)
      (closing (with_one held pid (Home (record seat { engine = engine; part = settled seat.part (Delivered item) })) (unpicked (tags_in r.first) (held.mail pid)) None)
      (scratch_handles seat.part)) ends) is
      (delivery_mirrors w held ends pid seat ask item engine m at (subst (λ (r : Request). pick (tags_in r.first) (held.mail pid) ≡ Some item) (sym is) found) after)

  not_wanted : pick (tags_in request.first) (held.mail pid) ≡ None → pick (tags_in request.first) (w.process pid).mail ≡ None
  not_wanted none = ap (λ (items : List MailItem). pick (tags_in request.first) items) (m.mail pid) ∙ none

  pub late_mirrors : (engine : E) → pick (tags_in request.first) (held.mail pid) ≡ None → arg request 2 ≡ 0 → IsAnswered engines seat.engine (number_reply 9027) engine
      → Mirrors engines setting (receive_performed w pid request) (home held pid (record seat { engine = engine })) ends
  late_mirrors engine none over after =
      subst (λ (v : World). Mirrors engines setting v (home held pid (record seat { engine = engine })) ends)
      (sym (unmet_is w pid request (not_wanted none) ∙ unmet_at_once w pid request over)) (told_mirrors (number_reply 9027) engine after)

  pub receiving_mirrors : (deadline : Option ℕ) → ask.call ≡ 9 → pick (tags_in request.first) (held.mail pid) ≡ None → arg request 2 ≢ 0 → deadline_of held.time (arg request 2) ≡ deadline
      → Mirrors engines setting (receive_performed w pid request) (asleep held pid seat ask deadline) ends
  receiving_mirrors deadline call none some later =
      subst (λ (v : World). Mirrors engines setting v (asleep held pid seat ask deadline) ends)
      (sym (unmet_is w pid request (not_wanted none) ∙ unmet_waits w pid request deadline some (ap (λ t. deadline_of t (arg request 2)) m.time ∙ later)))
      (subst (λ (r : Request). Mirrors engines setting (waiting w pid r deadline) (asleep held pid seat ask deadline) ends) is
      (wait_mirrors w held ends pid seat ask deadline m at (inl call)
      (λ called. subst (λ (r : Request). pick (tags_in r.first) (w.process pid).mail ≡ None) (sym is) (not_wanted none))))

-- SEND

-- a send is refused for want of memory
abbrev pub is_refusal : Post → Bool
is_refusal PostIs.Put = false
is_refusal PostIs.Nobody = false
is_refusal PostIs.Full = false
is_refusal PostIs.Refused = true

has_room : (a b : ℕ) → a < b → nat_lt a b ≡ true
has_room a b less = grind (arith, nat_tests, less)

has_none : (a b : ℕ) → b ≤ a → nat_lt a b ≡ false
has_none a b most = grind (arith, nat_tests, most)

answer_by : (to : Process) (refused live room so : Bool) → is_live to.stage ≡ live → nat_lt (message_count to.mail) most_messages ≡ room → refused ≡ so
    → send_answer to refused ≡ cond live (cond room (unless_refused so 0) 2) 1
answer_by to refused live room so a b e = rw (a, b, e) refl

-- the rules answer what becomes of the message
pub send_code : {E P : Type 0} (engines : Meaning E P) (programs : List P) (to : Process) (slot : Slot E) (mail : List MailItem) (post : Post) (refused : Bool) → SlotFits engines programs to slot
    → to.mail ≡ mail → IsPost slot mail post → refused ≡ is_refusal post → send_answer to refused ≡ code_of post
send_code engines programs to slot mail PostIs.Put refused fits same post is =
    answer_by to refused true true false (live_at engines programs to slot post.0 fits) (ap (λ items. nat_lt (message_count items) most_messages) same ∙ has_room (message_count mail) most_messages post.1) is
send_code engines programs to slot mail PostIs.Nobody refused fits same post is =
    answer_by to refused false (nat_lt (message_count to.mail) most_messages) false (slot_unlive engines programs to slot fits post) refl is
send_code engines programs to slot mail PostIs.Full refused fits same post is =
    answer_by to refused true false false (live_at engines programs to slot post.0 fits) (ap (λ items. nat_lt (message_count items) most_messages) same ∙ has_none (message_count mail) most_messages post.1) is
send_code engines programs to slot mail PostIs.Refused refused fits same post is =
    answer_by to refused true true true (live_at engines programs to slot post.0 fits) (ap (λ items. nat_lt (message_count items) most_messages) same ∙ has_room (message_count mail) most_messages post.1) is

send_stays : (w : World) (pid : ℕ) (request : Request) (refused : Bool) (code : ℕ) → send_answer (w.process (arg request 0)) refused ≡ code → nat_eq code 0 ≡ false
    → send_performed w pid request refused ≡ replied w pid request (number_reply code)
send_stays w pid request refused code is some =
    ap (λ a. cond (nat_eq a 0) (sent w pid (arg request 0) request (w.process pid).part.scratch) (replied w pid request (number_reply a))) is
    ∙ ap (λ b. cond b (sent w pid (arg request 0) request (w.process pid).part.scratch) (replied w pid request (number_reply code))) some

send_goes : (w : World) (pid : ℕ) (request : Request) (refused : Bool) (scratch : Scratch) → send_answer (w.process (arg request 0)) refused ≡ 0 → (w.process pid).part.scratch ≡ Some scratch
    → send_performed w pid request refused
    ≡ arrived (replied (sent_off w pid (arg request 0)) pid request (number_reply 0)) (arg request 0) (Letter w.sends scratch.message)
send_goes w pid request refused scratch is has =
    ap (λ a. cond (nat_eq a 0) (sent w pid (arg request 0) request (w.process pid).part.scratch) (replied w pid request (number_reply a))) is
    ∙ ap (λ (o : Option Scratch). sent w pid (arg request 0) request o) has

module _ {E P : Type 0} {engines : Meaning E P} {setting : Setting P} (w : World) (held : Held E) (ends : List EndMemory) (pid : ℕ) (seat : Seat E) (ask : Ask) (request : Request)
    (m : Mirrors engines setting w held ends) (at : held.slots pid ≡ Giving seat ask) (is : request_of (engines.memory seat.engine) ask ≡ request) (refused : Bool) where
  -- the message stays with its sender
  pub unsent_mirrors : (post : Post) (engine : E) → IsPost (held.slots (arg request 0)) (held.mail (arg request 0)) post → refused ≡ is_refusal post → nat_eq (code_of post) 0 ≡ false
      → IsAnswered engines seat.engine (number_reply (code_of post)) engine
      → Mirrors engines setting (send_performed w pid request refused) (home held pid (record seat { engine = engine })) ends
  unsent_mirrors post engine posts refusal some after =
      subst (λ (v : World). Mirrors engines setting v (home held pid (record seat { engine = engine })) ends)
      (sym (send_stays w pid request refused (code_of post) (send_code engines setting.programs (w.process (arg request 0)) (held.slots (arg request 0)) (held.mail (arg request 0)) post refused
      (m.slots (arg request 0)) (m.mail (arg request 0)) posts refusal) some))
      (told_mirrors w held ends pid seat ask request m at is (number_reply (code_of post)) engine after)

  -- the message leaves its sender, and is to arrive
  pub leaving_mirrors : (engine : E) → IsAnswered engines seat.engine (number_reply 0) engine
      → Mirrors engines setting (replied (sent_off w pid (arg request 0)) pid request (number_reply 0))
      (record (home held pid (record seat { engine = engine; part = settled seat.part SentOff })) { sends = held.sends + 1 }) ends
  leaving_mirrors engine after =
      subst (λ (r : Request). Mirrors engines setting (replied (sent_off w pid (arg request 0)) pid r (number_reply 0))
      (record (home held pid (record seat { engine = engine; part = settled seat.part SentOff })) { sends = held.sends + 1 }) ends) is
      (sending_mirrors w held ends pid (arg request 0) seat ask engine m at after)

  -- so the rules say
  pub sent_is : (scratch : Scratch) → IsPost (held.slots (arg request 0)) (held.mail (arg request 0)) PostIs.Put → refused ≡ false → seat.part.scratch ≡ Some scratch
      → arrived (replied (sent_off w pid (arg request 0)) pid request (number_reply 0)) (arg request 0) (Letter held.sends scratch.message) ≡ send_performed w pid request refused
  sent_is scratch posts refusal has =
      let g : IsGiving engines setting.programs (w.process pid) seat ask = giving_at w held ends pid seat ask m at in
      ap (λ n. arrived (replied (sent_off w pid (arg request 0)) pid request (number_reply 0)) (arg request 0) (Letter n scratch.message)) (sym m.sends)
      ∙ sym (send_goes w pid request refused scratch
      (send_code engines setting.programs (w.process (arg request 0)) (held.slots (arg request 0)) (held.mail (arg request 0)) PostIs.Put refused (m.slots (arg request 0)) (m.mail (arg request 0)) posts
      refusal)
      (ap (λ (p : Part). p.scratch) (sym g.seated.part) ∙ has))

-- WHAT A SENDER IS TOLD

pub code_told : (post : Post) → Contains (told_numbers (Some CallIs.Send)) (code_of post)
code_told PostIs.Put = (0, omega arith, refl)
code_told PostIs.Nobody = (1, omega arith, refl)
code_told PostIs.Full = (2, omega arith, refl)
code_told PostIs.Refused = (3, omega arith, refl)

pub code_stays : (post : Post) → (post ≡ PostIs.Put → ⊥) → nat_eq (code_of post) 0 ≡ false
code_stays PostIs.Put other = absurd (other refl)
code_stays PostIs.Nobody other = refl
code_stays PostIs.Full other = refl
code_stays PostIs.Refused other = refl

pub code_refusal : (post : Post) → nat_eq (code_of post) 12 ≡ is_refusal post
code_refusal PostIs.Put = refl
code_refusal PostIs.Nobody = refl
code_refusal PostIs.Full = refl
code_refusal PostIs.Refused = refl

-- only where the message could be put a send is refused
pub refused_send : {E O P S L : Type 0} (store : Store E O P S L) (request : Request) (post : Post) → call_of request ≡ Some CallIs.Send
    → IsPost (place_at store (arg request 0)) ((held_of store).mail (arg request 0)) post → is_refusal post ≡ true → IsRefusedSend store request
refused_send store request PostIs.Put call posts refused = let h : ⊥ = cc in absurd h
refused_send store request PostIs.Nobody call posts refused = let h : ⊥ = cc in absurd h
refused_send store request PostIs.Full call posts refused = let h : ⊥ = cc in absurd h
refused_send store request PostIs.Refused call posts refused = record { call = call; live = posts.0; count = posts.1 }

-- a number that is the one code of refusal
pub told_refusal : (code : ℕ) (post : Post) → code ≡ code_of post → nat_eq code 12 ≡ is_refusal post
told_refusal code post is = ap (λ n. nat_eq n 12) is ∙ code_refusal post
