use Rattle.std.proofs.Common.{◌≡◌, ◌<◌, ◌≤◌, ℕ, ◌+◌, List, [], length, Contains, slice_get, nat_eq, Option, Some, None, Bool, true, false, refl, arith, sym, ◌∙◌, ap, subst, ◌⊎◌, inl, inr}
use Rattle.host_port.specs.declared.ask.Ask.{Ask}
use Rattle.host_port.specs.declared.request.Request.{Request}
use Rattle.host_port.specs.Areas.{request_of}
use Rattle.host_port.specs.Standing.{Phase}
use Rattle.resource_table.specs.Handles.{Handle}
use Rattle.resource_table.specs.Steps.{Told}
use Rattle.world_rules.specs.declared.life.Ended.{Ended as EndMemory}
use Rattle.world_rules.specs.Answers.{number_reply}
use Rattle.world_rules.specs.Calls.{HostCall, arg, call_of}
use Rattle.world_rules.specs.Calls as CallIs
use Rattle.world_rules.specs.Changes.{replied}
use Rattle.world_rules.specs.Lives.{Setting}
use Rattle.world_rules.specs.Mail.{MailItem, Letter, message_count, most_messages, tag_of}
use Rattle.world_rules.specs.Part.{Scratch}
use Rattle.world_rules.specs.Receive.{arrived, sent_off}
use Rattle.world_rules.specs.Rules.{performed}
use Rattle.world_rules.specs.Settled.{settled, SentOff}
use Rattle.world_rules.specs.Views.{is_refused}
use Rattle.world_rules.specs.World.{World}
use Rattle.node_state.specs.declared.outcome.Post.{Post}
use Rattle.node_state.specs.declared.outcome.Post.TheVariants as PostIs
use Rattle.node_state.specs.Fits.{IsAnswered}
use Rattle.node_state.specs.Posts.{code_of}
use Rattle.node_state.specs.Seats.{Meaning, Seat}
use Rattle.node_state.specs.Streaming.{Kept}
use Rattle.node_mirror.specs.Slots.{Slot, Home, Giving, Gone, is_giving, is_live_slot}
use Rattle.node_mirror.specs.Held.{Held, Mirrors}
use Rattle.node_mirror.specs.Steps.{home}
use Rattle.process_store.specs.declared.store.Store.{Store}
use Rattle.process_store.specs.Holds.{Becomes, held_of, items_in, kept_of, place_at}
use Rattle.process_store.specs.PassOn.{PassesOn}
use Rattle.process_store.specs.Performing.{GivesStay, IsRefusedSend, MayBeWoken, Performs, StayGone, StaysBeside}
use Rattle.process_store.specs.Telling.{HasPlace, IsPost}
use Rattle.process_store.proofs.Passing.{passes_on_trans, stood_hand}
use Rattle.process_store.proofs.Performed.{each_slot, gives_stay, here_now, passes_within, performs_by, stay_gone}
use Rattle.process_store.proofs.PerformedCalls.{is_refusal, code_stays, code_refusal, leaving_mirrors, refused_send, sent_is, unsent_mirrors}
use Rattle.process_store.proofs.StrikingAll.{mirrors_becomes}

-- A send that is performed on a store.

-- what is held after the message has left its sender
abbrev pub sent_held : {E : Type 0} → Held E → (pid : ℕ) → Seat E → E → Held E
sent_held held pid seat engine = record (home held pid (record seat { engine = engine; part = settled seat.part SentOff })) { sends = held.sends + 1 }

-- the place for the message stays
pub place_stays : {E O P S L : Type 0} (mid off : Store E O P S L) (to tag of : ℕ) → off.links ≡ mid.links → off.mail ≡ mid.mail → of ≡ tag → HasPlace mid to tag → HasPlace off to of
place_stays mid off to tag of links mail same has = rw (links, mail, same) has

pub count_stays : {E O P S L : Type 0} (old mid off : Store E O P S L) (to : ℕ) → held_of mid ≡ held_of old → off.mail ≡ mid.mail → message_count ((held_of old).mail to) < most_messages
    → message_count ((held_of off).mail to) < most_messages
count_stays {E} {O} {P} {S} {L} old mid off to held mail less =
    subst (λ box. message_count (items_in (slice_get box.items to)) < most_messages) (sym mail) (subst (λ (h : Held E). message_count (h.mail to) < most_messages) (sym held) less)

-- the tag of the item is that of the message in hand
pub same_tag : (o : Option Scratch) (hand sent : Scratch) (item : MailItem) (number tag : ℕ) → o ≡ Some hand → hand.message.tag ≡ tag → o ≡ Some sent → item ≡ Letter number sent.message
    → tag_of item ≡ tag
same_tag o hand sent item number tag one is two letter =
    let same : sent ≡ hand = cc in
    ap tag_of letter ∙ ap (λ (s : Scratch). s.message.tag) same ∙ is

module _ {E O P S L : Type 0} (engines : Meaning E P) (old off : Store E O P S L) (pid : ℕ) (seat : Seat E) (ask : Ask) (engine : E) (at : place_at old pid ≡ Giving seat ask)
    (becomes : Becomes off (sent_held (held_of old) pid seat engine)) where
  -- who was live is
  pub still_live : (to : ℕ) → is_live_slot (place_at old to) ≡ true → is_live_slot (place_at off to) ≡ true
  still_live = each_slot old off pid (Home (record seat { engine = engine; part = settled seat.part SentOff })) seat ask at (ap (λ (h : Held E). h.slots) becomes)
      (λ q s. is_live_slot (place_at old q) ≡ true → is_live_slot s ≡ true) (λ live. refl) (λ q differs live. live)

  -- who may be woken, may be still
  pub still_waits : (phase : E → Phase) (memory : E → List ℕ) → ((other : ℕ) → MayBeWoken phase memory (place_at old other)) → (to : ℕ) → MayBeWoken phase memory (place_at off to)
  still_waits phase memory others = each_slot old off pid (Home (record seat { engine = engine; part = settled seat.part SentOff })) seat ask at (ap (λ (h : Held E). h.slots) becomes)
      (λ q s. MayBeWoken phase memory s) tt (λ q differs. others q)

  -- the message has arrived
  pub sent_performs : (new : Store E O P S L) (request : Request) (scratch : Scratch) (item : MailItem) → request_of (engines.memory seat.engine) ask ≡ request → call_of request ≡ Some CallIs.Send
      → IsPost (place_at old (arg request 0)) ((held_of old).mail (arg request 0)) PostIs.Put → IsAnswered engines seat.engine (number_reply 0) engine → seat.part.scratch ≡ Some scratch
      → item ≡ Letter old.sends scratch.message
      → ((setting : Setting P) (w : World) (ends : List EndMemory) → Mirrors engines setting w (held_of off) ends → Mirrors engines setting (arrived w (arg request 0) item) (held_of new) ends)
      → GivesStay off new → StayGone off new → StaysBeside old new → new.giver ≡ Some pid → Performs engines old new pid request false
  sent_performs new request scratch item asked call posts after has letter arrives gives gone beside giver =
      let slots = ap (λ (h : Held E). h.slots) becomes in
      let slot = Home (record seat { engine = engine; part = settled seat.part SentOff }) in
      record {
        mirrors = λ setting w ends births side is m.
            let v = replied (sent_off w pid (arg request 0)) pid request (number_reply 0) in
            let now = arrives setting v ends (mirrors_becomes engines setting v off (sent_held (held_of old) pid seat engine) ends becomes
            (leaving_mirrors w (held_of old) ends pid seat ask request m at asked (is_refused side) engine after)) in
            subst (λ (c : Option HostCall). Mirrors engines setting (performed births c w pid request side) (held_of new) ends) (sym call)
            (subst (λ (u : World). Mirrors engines setting u (held_of new) ends)
            (ap (λ (i : MailItem). arrived v (arg request 0) i) letter ∙ sent_is w (held_of old) ends pid seat ask request m at asked (is_refused side) scratch posts is has) now);
        refusable = λ refused. let h : ⊥ = cc in absurd h;
        performed_is = not_giving (is_giving (place_at new pid)) refl (λ giving. sym (ap is_giving (here_now old off pid slot seat ask at slots)) ∙ gives pid giving);
        gives_stay = λ q giving. gives_stay old off pid slot seat ask at slots q (gives q giving);
        stay_gone = λ q was. gone q (stay_gone old off pid slot seat ask at slots q was);
        beside = beside;
        giver = ∣ inl giver ∣₁;
      }
    where
      not_giving : (b : Bool) → is_giving (place_at new pid) ≡ b → (is_giving (place_at new pid) ≡ true → false ≡ true) → is_giving (place_at new pid) ≡ false
      not_giving false e f = e
      not_giving true e f = let g = f e in let h : ⊥ = cc in absurd h

-- the message stays with its sender
pub unsent_performs : {E O P S L : Type 0} (engines : Meaning E P) (old new : Store E O P S L) (pid : ℕ) (seat : Seat E) (ask : Ask) (engine : E) (request : Request) (post : Post) (refused : Bool)
    → place_at old pid ≡ Giving seat ask → Becomes new (home (held_of old) pid (record seat { engine = engine })) → request_of (engines.memory seat.engine) ask ≡ request
    → call_of request ≡ Some CallIs.Send → IsPost (place_at old (arg request 0)) ((held_of old).mail (arg request 0)) post → (post ≡ PostIs.Put → ⊥) → refused ≡ is_refusal post
    → IsAnswered engines seat.engine (number_reply (code_of post)) engine → StaysBeside old new → new.giver ≡ Some pid → Performs engines old new pid request refused
unsent_performs engines old new pid seat ask engine request post refused at becomes asked call posts other refusal after beside giver =
    performs_by engines old new pid request refused (home (held_of old) pid (record seat { engine = engine })) (Home (record seat { engine = engine })) seat ask at becomes refl refl
    (λ setting w ends births side is m.
    subst (λ (c : Option HostCall). Mirrors engines setting (performed births c w pid request side) (home (held_of old) pid (record seat { engine = engine })) ends) (sym call)
    (unsent_mirrors w (held_of old) ends pid seat ask request m at asked (is_refused side) post engine posts (is ∙ refusal) (code_stays post other) after))
    (λ so. refused_send old request post call posts (sym refusal ∙ so)) beside ∣ inl giver ∣₁

-- the streams of the message were in the sender's hand
pub passes_sent : {E O P S L : Type 0} (tells : Told S) (old mid off new : Store E O P S L) (pid : ℕ) (streams : List (Handle S)) → kept_of mid ≡ kept_of old
    → PassesOn tells (kept_of mid) (kept_of off) [] [] → PassesOn tells (kept_of off) (kept_of new) streams []
    → ((handle : Handle S) → Contains streams handle → Contains ((kept_of mid).hands pid) handle) → PassesOn tells (kept_of old) (kept_of new) [] []
passes_sent tells old mid off new pid streams kept first second from =
    subst (λ k. PassesOn tells k (kept_of new) [] []) kept
    (passes_within tells (kept_of mid) (kept_of new) streams [] (passes_on_trans tells (kept_of mid) (kept_of off) (kept_of new) [] streams [] [] first second)
    (λ handle has. stood_hand (kept_of mid) [] pid handle (from handle has)))

pub passes_kept : {S : Type 0} (tells : Told S) (was mid is : Kept S) → mid ≡ was → PassesOn tells mid is [] [] → PassesOn tells was is [] []
passes_kept tells was mid is same passes = subst (λ k. PassesOn tells k is [] []) same passes
