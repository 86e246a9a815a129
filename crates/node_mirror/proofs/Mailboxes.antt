use Rattle.std.proofs.Common.{◌≡◌, ℕ, ◌+◌, ◌<◌, ◌≤◌, List, [], ◌∷◌, ◌++◌, length, filter, Option, Some, None, Bool, true, false, cond, refl, sym, ◌∙◌, ap, subst, arith, length-append}
use Rattle.std.proofs.lemmas.List.Elements.{filter-append}
use Rattle.host_port.specs.declared.ask.Ask.{Ask}
use Rattle.host_port.specs.declared.request.Request.{Request}
use Rattle.host_port.specs.Areas.{request_of}
use Rattle.world_rules.specs.declared.life.Ended.{Ended as EndMemory}
use Rattle.world_rules.specs.Answers.{number_reply}
use Rattle.world_rules.specs.Arrivals.{arrival_of}
use Rattle.world_rules.specs.Arrivals as Came
use Rattle.world_rules.specs.Calls.{HostCall, call_of}
use Rattle.world_rules.specs.Calls as CallIs
use Rattle.world_rules.specs.Mail.{MailItem, Letter, Signal, tags_in, tag_of, is_wanted, pick, unpicked, is_message, message_count, most_messages}
use Rattle.world_rules.specs.Part.{Part, scratch_handles}
use Rattle.world_rules.specs.Settled.{settled, Delivered, SentOff}
use Rattle.world_rules.specs.World.{World, Process, Stage, Ready, Out, Waiting, is_live, is_ended}
use Rattle.world_rules.specs.Changes.{replied, posted}
use Rattle.world_rules.specs.Receive.{receive_performed, unmet, delivered, delivered_or, without_wanted, held as taken_out, delivery_reply, wanted_item, woken_from, woken as woken_in, arrived, sent_off}
use Rattle.world_rules.specs.Sound.{IsInOrder, is_born}
use Rattle.world_rules.specs.Lives.{Setting}
use Rattle.world_rules.specs.Unmet.{NothingWanted}
use Rattle.world_rules.specs.laws.KeepingLaws.{false_is_true}
use Rattle.node_state.specs.Seats.{Meaning, Seat, IsSeatOf}
use Rattle.node_state.specs.Fits.{IsAnswered}
use Rattle.node_laws.proofs.HostRows.{receive-called, sleep-called}
use Rattle.node_laws.proofs.Tallies.{Tally, tally_of}
use Rattle.node_laws.proofs.Worlds.{Becomes, becomes-change, becomes-held, becomes-sent_off, sending}
use Rattle.node_laws.proofs.Worlds.{closing as closing_more}
use Rattle.node_mirror.specs.Slots.{Slot, SlotFits, Nobody, Home, Asleep, Giving, Away, Fated, Gone, IsAsleep, IsGiving, is_live_slot, is_asleep}
use Rattle.node_mirror.specs.Held.{Held, Mirrors}
use Rattle.node_mirror.specs.Steps.{with_one, home, closing, posted as posted_held, woken}
use Rattle.node_mirror.proofs.One.{RestStays, program_stays, counted_of, counted_same, mirrors_one}
use Rattle.node_mirror.proofs.Homes.{IsThere, giving_at, giving_there, asleep_at, asleep_there, becomes_self, becomes_told, rest_answered, rest_self, holding, sleep_wants_nothing, answers_mirror}

-- What is put into a mailbox, and what comes out of it.

-- HOW MANY MESSAGES

count_behind : (mail : List MailItem) (item : MailItem) → message_count (mail ++ item ∷ []) ≡ message_count mail + message_count (item ∷ [])
count_behind mail item = ap (λ (xs : List MailItem). length xs) (filter-append is_message mail (item ∷ [])) ∙ length-append (filter is_message mail) (filter is_message (item ∷ []))

one_more : (a b : ℕ) → a ≡ b + 1 → b < most_messages → a ≤ most_messages
one_more a b is less = omega (arith, is, less)

none_more : (a b : ℕ) → a ≡ b + 0 → b ≤ most_messages → a ≤ most_messages
none_more a b is few = omega (arith, is, few)

-- a message is put into a mailbox with room
posted_few : (mail : List MailItem) (item : MailItem) → message_count mail ≤ most_messages → (is_message item ≡ true → message_count mail < most_messages)
    → message_count (mail ++ item ∷ []) ≤ most_messages
posted_few mail (Letter number message) few room = one_more _ (message_count mail) (count_behind mail (Letter number message)) (room refl)
posted_few mail (Signal tag) few room = none_more _ (message_count mail) (count_behind mail (Signal tag)) few

fewer_counted : (b c : Bool) (item : MailItem) (rest left : List MailItem) → is_message item ≡ c → message_count left ≤ message_count rest
    → message_count (cond b rest (item ∷ left)) ≤ message_count (item ∷ rest)
fewer_counted true true item rest left is less = rw is (omega arith)
fewer_counted true false item rest left is less = rw is (omega arith)
fewer_counted false true item rest left is less = rw is (omega (arith, less))
fewer_counted false false item rest left is less = rw is less

picked_fewer : (tags : List ℕ) (mail : List MailItem) → message_count (unpicked tags mail) ≤ message_count mail
picked_fewer tags [] = omega arith
picked_fewer tags (item ∷ mail) = fewer_counted (is_wanted tags (tag_of item)) (is_message item) item mail (unpicked tags mail) refl (picked_fewer tags mail)

still_few : (a b : ℕ) → a ≤ b → b ≤ most_messages → a ≤ most_messages
still_few a b less few = omega (arith, less, few)

-- DELIVERIES

-- an item that a process at home wants of its mailbox, as it is in this world, comes into its scratch area
module _ {E P : Type 0} {engines : Meaning E P} {setting : Setting P} (w v : World) (held : Held E) (ends : List EndMemory) (pid : ℕ) (seat : Seat E) (ask : Ask) (item : MailItem) (engine : E)
    (mail left : List MailItem) where
  delivers : Mirrors engines setting w held ends → IsThere engines setting.programs (w.process pid) seat ask
      → Becomes w v pid (record (w.process pid) { mail = mail }) (tally_of w) → RestStays w v
      → unpicked (tags_in (request_of (engines.memory seat.engine) ask).first) mail ≡ left
      → message_count (unpicked (tags_in (request_of (engines.memory seat.engine) ask).first) mail) ≤ most_messages
      → IsAnswered engines seat.engine (delivery_reply item) engine
      → Mirrors engines setting (delivered (without_wanted v pid (request_of (engines.memory seat.engine) ask)) pid (request_of (engines.memory seat.engine) ask) item)
      (closing (with_one held pid (Home (record seat { engine = engine; part = settled seat.part (Delivered item) })) left None) (scratch_handles seat.part)) ends
  delivers m there b rest left_is few after =
      let p : Process = w.process pid in
      let request : Request = request_of (engines.memory seat.engine) ask in
      let u : World = taken_out (without_wanted v pid request) pid item in
      let now : Part = settled p.part (Delivered item) in
      let stay : List MailItem = unpicked (tags_in request.first) mail in
      let n : Tally = closing_more (tally_of w) (scratch_handles p.part) in
      let count : Tally = counted_of (closing held (scratch_handles seat.part)) in
      let counted : n ≡ count = λ i. closing_more (counted_same w held ends m i) (scratch_handles (sym there.part i)) in
      answers_mirror w (delivered (without_wanted v pid request) pid request item) held ends pid seat ask (delivery_reply item) (arrival_of item) engine (settled seat.part (Delivered item)) now
      stay left n count m there after
      (becomes_told w u pid (holding p now stay) n request (delivery_reply item) (arrival_of item) (becomes-held w v pid (record p { mail = mail }) (tally_of w) request item b) there.home)
      (rest_answered w u pid request (delivery_reply item) (arrival_of item) (record { names = rest.names; links = rest.links; over = rest.over; numbers = rest.numbers }))
      (ap (λ (x : Part). settled x (Delivered item)) there.part) left_is counted few (m.order.each pid).handles

-- DELIVERY. A receive that finds a wanted item.
pub delivery_mirrors : {E P : Type 0} {engines : Meaning E P} {setting : Setting P} (w : World) (held : Held E) (ends : List EndMemory) (pid : ℕ) (seat : Seat E) (ask : Ask) (item : MailItem)
    (engine : E) → Mirrors engines setting w held ends → held.slots pid ≡ Giving seat ask
    → pick (tags_in (request_of (engines.memory seat.engine) ask).first) (held.mail pid) ≡ Some item
    → IsAnswered engines seat.engine (delivery_reply item) engine
    → Mirrors engines setting (receive_performed w pid (request_of (engines.memory seat.engine) ask))
    (closing (with_one held pid (Home (record seat { engine = engine; part = settled seat.part (Delivered item) }))
    (unpicked (tags_in (request_of (engines.memory seat.engine) ask).first) (held.mail pid)) None) (scratch_handles seat.part)) ends
delivery_mirrors {engines = engines} {setting = setting} w held ends pid seat ask item engine m at found after =
    let p : Process = w.process pid in
    let request : Request = request_of (engines.memory seat.engine) ask in
    let tags : List ℕ = tags_in request.first in
    let g : IsGiving engines setting.programs p seat ask = giving_at w held ends pid seat ask m at in
    let is : wanted_item w pid request ≡ Some item = ap (λ (items : List MailItem). pick tags items) (m.mail pid) ∙ found in
    let now : Slot _ = Home (record seat { engine = engine; part = settled seat.part (Delivered item) }) in
    subst (λ (v : World). Mirrors engines setting v (closing (with_one held pid now (unpicked tags (held.mail pid)) None) (scratch_handles seat.part)) ends)
    (sym (ap (λ (o : Option MailItem). delivered_or (unmet w pid request) w pid request o) is))
    (delivers w w held ends pid seat ask item engine p.mail (unpicked tags (held.mail pid)) m (giving_there p seat ask g) (becomes_self w pid) (rest_self w)
    (ap (λ (items : List MailItem). unpicked tags items) (m.mail pid))
    (still_few (message_count (unpicked tags p.mail)) (message_count p.mail) (picked_fewer tags p.mail) (m.order.each pid).mail) after)

-- SENDING. The scratch message leaves the sender, who is told 0.
pub sending_mirrors : {E P : Type 0} {engines : Meaning E P} {setting : Setting P} (w : World) (held : Held E) (ends : List EndMemory) (pid to : ℕ) (seat : Seat E) (ask : Ask) (engine : E)
    → Mirrors engines setting w held ends → held.slots pid ≡ Giving seat ask → IsAnswered engines seat.engine (number_reply 0) engine
    → Mirrors engines setting (replied (sent_off w pid to) pid (request_of (engines.memory seat.engine) ask) (number_reply 0))
    (record (home held pid (record seat { engine = engine; part = settled seat.part SentOff })) { sends = held.sends + 1 }) ends
sending_mirrors {engines = engines} {setting = setting} w held ends pid to seat ask engine m at after =
    let p : Process = w.process pid in
    let request : Request = request_of (engines.memory seat.engine) ask in
    let there : IsThere engines setting.programs p seat ask = giving_there p seat ask (giving_at w held ends pid seat ask m at) in
    let off : World = sent_off w pid to in
    let now : Part = settled p.part SentOff in
    let n : Tally = sending (tally_of w) in
    let counted : n ≡ sending (counted_of held) = ap sending (counted_same w held ends m) in
    let what = Came.Answered (number_reply 0) in
    answers_mirror w (replied off pid request (number_reply 0)) held ends pid seat ask (number_reply 0) what engine (settled seat.part SentOff) now p.mail (held.mail pid) n (sending (counted_of held))
    m there after (becomes_told w off pid (holding p now p.mail) n request (number_reply 0) what (becomes-sent_off w w pid to p (tally_of w) (becomes_self w pid)) there.home)
    (rest_answered w off pid request (number_reply 0) what (record { names = λ name. refl; links = λ a b. refl; over = refl; numbers = refl }))
    (ap (λ (x : Part). settled x SentOff) there.part) (m.mail pid) counted (m.order.each pid).mail (m.order.each pid).handles

-- ARRIVALS

-- a live slot has a live process, which keeps what it has where an item more lies in its mailbox
pub live_at : {E P : Type 0} (engines : Meaning E P) (programs : List P) (p : Process) (slot : Slot E) → is_live_slot slot ≡ true → SlotFits engines programs p slot → is_live p.stage ≡ true
live_at engines programs p Nobody live fits = false_is_true live
live_at engines programs p (Home seat) live fits = ap (λ (s : Stage). is_live s) fits.stage
live_at engines programs p (Asleep seat ask) live fits = ap (λ (s : Stage). is_live s) fits.stage
live_at engines programs p (Giving seat ask) live fits = ap (λ (s : Stage). is_live s) fits.stage
live_at engines programs p (Away worker) live fits = ap (λ (s : Stage). is_live s) fits
live_at engines programs p (Fated worker end) live fits = false_is_true live
live_at engines programs p Gone live fits = false_is_true live

mail_seat : {E P : Type 0} {engines : Meaning E P} {programs : List P} {expected : _} (p : Process) (mail : List MailItem) (seat : Seat E) → IsSeatOf engines programs p expected seat
    → IsSeatOf engines programs (record p { mail = mail }) expected seat
mail_seat p mail seat s = record { stands = s.stands; start = s.start; part = s.part; fuel = s.fuel; owed = s.owed; phase = s.phase }

mail_slot : {E P : Type 0} (engines : Meaning E P) (programs : List P) (p : Process) (mail : List MailItem) (slot : Slot E) → is_live_slot slot ≡ true → SlotFits engines programs p slot
    → SlotFits engines programs (record p { mail = mail }) slot
mail_slot engines programs p mail Nobody live fits = false_is_true live
mail_slot engines programs p mail (Home seat) live fits = record { stage = fits.stage; seated = mail_seat p mail seat fits.seated; tries = fits.tries }
mail_slot engines programs p mail (Asleep seat ask) live fits =
    record { stage = fits.stage; owed = fits.owed; seated = mail_seat p mail seat fits.seated; fitting = fits.fitting; call = fits.call }
mail_slot engines programs p mail (Giving seat ask) live fits = record { stage = fits.stage; owed = fits.owed; seated = mail_seat p mail seat fits.seated; fitting = fits.fitting }
mail_slot engines programs p mail (Away worker) live fits = fits
mail_slot engines programs p mail (Fated worker end) live fits = false_is_true live
mail_slot engines programs p mail Gone live fits = false_is_true live

live_born : (s : Stage) → is_live s ≡ true → is_born s ≡ true
live_born Ready e = refl
live_born (Out worker) e = refl
live_born (Waiting request) e = refl
live_born _ e = false_is_true e

live_goes : (s : Stage) → is_live s ≡ true → is_ended s ≡ false
live_goes Ready e = refl
live_goes (Out worker) e = refl
live_goes (Waiting request) e = refl
live_goes _ e = false_is_true e

-- POST. An item goes behind the others of the mailbox of a live process, which doesn't wait for it.
post_mirrors : {E P : Type 0} {engines : Meaning E P} {setting : Setting P} (w : World) (held : Held E) (ends : List EndMemory) (to : ℕ) (item : MailItem)
    → Mirrors engines setting w held ends → is_live_slot (held.slots to) ≡ true → (is_message item ≡ true → message_count (held.mail to) < most_messages)
    → NothingWanted (w.process to).stage ((w.process to).mail ++ item ∷ [])
    → Mirrors engines setting (posted w to item) (posted_held held to item) ends
post_mirrors {engines = engines} {setting = setting} w held ends to item m live room none =
    let p : Process = w.process to in
    let mail : List MailItem = p.mail ++ item ∷ [] in
    let q : Process = record p { mail = mail } in
    let order : IsInOrder to p = m.order.each to in
    let lives : is_live p.stage ≡ true = live_at engines setting.programs p (held.slots to) live (m.slots to) in
    let was : is_born p.stage ≡ true = live_born p.stage lives in
    let goes : is_ended p.stage ≡ false = live_goes p.stage lives in
    let few : message_count mail ≤ most_messages =
    posted_few p.mail item order.mail (λ is. subst (λ (items : List MailItem). message_count items < most_messages) (sym (m.mail to)) (room is)) in
    mirrors_one w (posted w to item) held ends to q (held.slots to) (held.mail to ++ item ∷ []) (held.deadlines to) (tally_of w) (counted_of held) m
    (becomes-change w w to p (tally_of w) (λ x. record x { mail = x.mail ++ item ∷ [] }) (becomes_self w to)) (counted_same w held ends m)
    (record {
      rest = record { names = λ name. refl; links = λ a b. refl; over = refl; numbers = refl };
      was = was;
      born = was;
      lives = refl;
      before = goes;
      after = goes;
      order = record { own = order.own; deadline = order.deadline; mail = few; handles = order.handles };
    })
    refl
    (record {
      program = program_stays to q m was refl;
      unmet = none;
      slot_fits = mail_slot engines setting.programs p mail (held.slots to) live (m.slots to);
      mail_is = ap (λ (items : List MailItem). items ++ item ∷ []) (m.mail to);
      deadline_is = m.deadlines to;
    })

-- so it does where it doesn't wake
arrival_posts : {E P : Type 0} {engines : Meaning E P} {setting : Setting P} (w : World) (held : Held E) (ends : List EndMemory) (to : ℕ) (item : MailItem) (stage : Stage)
    → Mirrors engines setting w held ends → is_live_slot (held.slots to) ≡ true → (is_message item ≡ true → message_count (held.mail to) < most_messages)
    → (w.process to).stage ≡ stage → NothingWanted stage ((w.process to).mail ++ item ∷ []) → woken_in stage (posted w to item) to ≡ posted w to item
    → Mirrors engines setting (arrived w to item) (posted_held held to item) ends
arrival_posts {engines = engines} {setting = setting} w held ends to item stage m live room at none stays =
    subst (λ (v : World). Mirrors engines setting v (posted_held held to item) ends) (sym (ap (λ (s : Stage). woken_in s (posted w to item) to) at ∙ stays))
    (post_mirrors w held ends to item m live room (subst (λ (s : Stage). NothingWanted s ((w.process to).mail ++ item ∷ [])) (sym at) none))

-- AWAKE. An item arrives at one that doesn't wait.
pub awake_mirrors : {E P : Type 0} {engines : Meaning E P} {setting : Setting P} (w : World) (held : Held E) (ends : List EndMemory) (to : ℕ) (item : MailItem)
    → Mirrors engines setting w held ends → is_live_slot (held.slots to) ≡ true → is_asleep (held.slots to) ≡ false
    → (is_message item ≡ true → message_count (held.mail to) < most_messages)
    → Mirrors engines setting (arrived w to item) (posted_held held to item) ends
awake_mirrors {E} {engines = engines} {setting = setting} w held ends to item m live awake room = by (held.slots to) live awake (m.slots to)
  where
    by : (slot : Slot E) → is_live_slot slot ≡ true → is_asleep slot ≡ false → SlotFits engines setting.programs (w.process to) slot
        → Mirrors engines setting (arrived w to item) (posted_held held to item) ends
    by Nobody lives wakes fits = false_is_true lives
    by (Home seat) lives wakes fits = arrival_posts w held ends to item Ready m live room fits.stage tt refl
    by (Asleep seat ask) lives wakes fits = false_is_true (sym wakes)
    by (Giving seat ask) lives wakes fits = arrival_posts w held ends to item Ready m live room fits.stage tt refl
    by (Away worker) lives wakes fits = arrival_posts w held ends to item (Out worker) m live room fits tt refl
    by (Fated worker end) lives wakes fits = false_is_true lives
    by Gone lives wakes fits = false_is_true lives

-- what waits in a receive, and in a sleep

woken_receives : (call : Option HostCall) (v : World) (to : ℕ) (request : Request) (found : Option MailItem) → call ≡ Some CallIs.Receive → wanted_item v to request ≡ found
    → woken_from call v to request ≡ delivered_or v v to request found
woken_receives call v to request found is picks = ap (λ (c : Option HostCall). woken_from c v to request) is ∙ ap (λ (o : Option MailItem). delivered_or v v to request o) picks

-- the mailbox that an item has come into
posted_mail : (w : World) (to : ℕ) (item : MailItem) → ((posted w to item).process to).mail ≡ (w.process to).mail ++ item ∷ []
posted_mail w to item = ap (λ (x : Process). x.mail) (becomes-change w w to (w.process to) (tally_of w) (λ x. record x { mail = x.mail ++ item ∷ [] }) (becomes_self w to)).alters.at

live_asleep : {E : Type 0} (slot : Slot E) (seat : Seat E) (ask : Ask) → slot ≡ Asleep seat ask → is_live_slot slot ≡ true
live_asleep {E} slot seat ask at = ap (λ (s : Slot E). is_live_slot s) at

-- UNWANTED. An item arrives at one that waits in a receive, and doesn't want it.
pub unwanted_mirrors : {E P : Type 0} {engines : Meaning E P} {setting : Setting P} (w : World) (held : Held E) (ends : List EndMemory) (to : ℕ) (seat : Seat E) (ask : Ask) (item : MailItem)
    → Mirrors engines setting w held ends → held.slots to ≡ Asleep seat ask → ask.call ≡ 9
    → (pick (tags_in (request_of (engines.memory seat.engine) ask).first) (w.process to).mail ≡ None
    → pick (tags_in (request_of (engines.memory seat.engine) ask).first) ((w.process to).mail ++ item ∷ []) ≡ None)
    → (is_message item ≡ true → message_count (held.mail to) < most_messages)
    → Mirrors engines setting (arrived w to item) (posted_held held to item) ends
unwanted_mirrors {engines = engines} {setting = setting} w held ends to seat ask item m at call still room =
    let request : Request = request_of (engines.memory seat.engine) ask in
    let a : IsAsleep engines setting.programs (w.process to) seat ask = asleep_at w held ends to seat ask m at in
    let receives : call_of request ≡ Some CallIs.Receive = receive-called request call in
    let none : pick (tags_in request.first) ((w.process to).mail ++ item ∷ []) ≡ None =
    still (subst (λ (s : Stage). NothingWanted s (w.process to).mail) a.stage (m.unmet to) receives) in
    arrival_posts w held ends to item (Waiting request) m (live_asleep (held.slots to) seat ask at) room a.stage (λ is. none)
    (woken_receives (call_of request) (posted w to item) to request None receives (ap (λ (items : List MailItem). pick (tags_in request.first) items) (posted_mail w to item) ∙ none))

-- SLEEPS. An item arrives at one that sleeps.
pub asleep_mirrors : {E P : Type 0} {engines : Meaning E P} {setting : Setting P} (w : World) (held : Held E) (ends : List EndMemory) (to : ℕ) (seat : Seat E) (ask : Ask) (item : MailItem)
    → Mirrors engines setting w held ends → held.slots to ≡ Asleep seat ask → ask.call ≡ 17
    → (is_message item ≡ true → message_count (held.mail to) < most_messages)
    → Mirrors engines setting (arrived w to item) (posted_held held to item) ends
asleep_mirrors {engines = engines} {setting = setting} w held ends to seat ask item m at call room =
    let request : Request = request_of (engines.memory seat.engine) ask in
    let a : IsAsleep engines setting.programs (w.process to) seat ask = asleep_at w held ends to seat ask m at in
    let sleeps : call_of request ≡ Some CallIs.SleepMs = sleep-called request call in
    arrival_posts w held ends to item (Waiting request) m (live_asleep (held.slots to) seat ask at) room a.stage (sleep_wants_nothing request ((w.process to).mail ++ item ∷ []) call)
    (ap (λ (c : Option HostCall). woken_from c (posted w to item) to request) sleeps)

-- WAKES. An item arrives at one that waits in a receive, and wants it.
pub wakes_mirror : {E P : Type 0} {engines : Meaning E P} {setting : Setting P} (w : World) (held : Held E) (ends : List EndMemory) (to : ℕ) (seat : Seat E) (ask : Ask) (item : MailItem) (engine : E)
    → Mirrors engines setting w held ends → held.slots to ≡ Asleep seat ask → ask.call ≡ 9
    → (pick (tags_in (request_of (engines.memory seat.engine) ask).first) (w.process to).mail ≡ None
    → (pick (tags_in (request_of (engines.memory seat.engine) ask).first) ((w.process to).mail ++ item ∷ []) ≡ Some item)
    × (unpicked (tags_in (request_of (engines.memory seat.engine) ask).first) ((w.process to).mail ++ item ∷ []) ≡ (w.process to).mail))
    → IsAnswered engines seat.engine (delivery_reply item) engine
    → Mirrors engines setting (arrived w to item) (woken held to (record seat { engine = engine; part = settled seat.part (Delivered item) }) seat.part) ends
wakes_mirror {engines = engines} {setting = setting} w held ends to seat ask item engine m at call new after =
    let p : Process = w.process to in
    let request : Request = request_of (engines.memory seat.engine) ask in
    let tags : List ℕ = tags_in request.first in
    let mail : List MailItem = p.mail ++ item ∷ [] in
    let v : World = posted w to item in
    let a : IsAsleep engines setting.programs p seat ask = asleep_at w held ends to seat ask m at in
    let receives : call_of request ≡ Some CallIs.Receive = receive-called request call in
    let both = new (subst (λ (s : Stage). NothingWanted s p.mail) a.stage (m.unmet to) receives) in
    let found : wanted_item v to request ≡ Some item = ap (λ (items : List MailItem). pick tags items) (posted_mail w to item) ∙ both.0 in
    let wakes : arrived w to item ≡ delivered (without_wanted v to request) to request item =
    ap (λ (s : Stage). woken_in s v to) a.stage ∙ woken_receives (call_of request) v to request (Some item) receives found in
    subst (λ (u : World). Mirrors engines setting u (woken held to (record seat { engine = engine; part = settled seat.part (Delivered item) }) seat.part) ends) (sym wakes)
    (delivers w v held ends to seat ask item engine mail (held.mail to) m (asleep_there p seat ask a)
    (becomes-change w w to p (tally_of w) (λ x. record x { mail = x.mail ++ item ∷ [] }) (becomes_self w to))
    (record { names = λ name. refl; links = λ a b. refl; over = refl; numbers = refl })
    (both.1 ∙ m.mail to)
    (subst (λ (items : List MailItem). message_count items ≤ most_messages) (sym both.1) (m.order.each to).mail) after)
