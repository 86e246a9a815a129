use Rattle.std.proofs.Common.{◌≡◌, ◌≢◌, ◌≤◌, ℕ, ◌+◌, ◌-◌, ◌^◌, min, List, [], ◌++◌, length, Contains, Option, Some, None, Bool, true, false, cond, slice_index, slice_get, get_or}
use Rattle.std.proofs.Common.{refl, arith, sym, ◌∙◌, ap, subst, ◌⊎◌, inl, inr, append-nil, length-append}
use Rattle.std.proofs.lemmas.List.{map-append}
use Rattle.std.proofs.lemmas.List.Elements.{Contains-append_left, Contains-append_right, Contains-append_cases}
use Rattle.std.specs.Ordering.{nat_cmp}
use Rattle.std.specs.FinMap.{FinMap, get}
use Rattle.tagged_mailbox.specs.Mail.{Mail}
use Rattle.message_scratch.specs.Messages as Kept
use Rattle.resource_table.specs.Handles.{Handle, numbers_of}
use Rattle.resource_table.specs.Steps.{Told, AreShut}
use Rattle.host_port.specs.declared.call.Call.{Call}
use Rattle.host_port.specs.declared.request.Request.{Request}
use Rattle.world_rules.specs.declared.entry.Side.TheVariants as SideIs
use Rattle.world_rules.specs.declared.halt.Halt.TheVariants.{Asks}
use Rattle.world_rules.specs.Answers.{empty_reply, number_reply}
use Rattle.world_rules.specs.Book.{Book, AddsEntry}
use Rattle.world_rules.specs.Lives.{Setting}
use Rattle.world_rules.specs.Mail.{MailItem, tags_in}
use Rattle.world_rules.specs.Part.{Part}
use Rattle.world_rules.specs.Time.{is_positive}
use Rattle.world_rules.specs.World.{Out}
use Rattle.world_rules.specs.Told.{told}
use Rattle.node_state.specs.declared.outcome.Post.{Post}
use Rattle.node_state.specs.declared.outcome.Post.TheVariants as PostIs
use Rattle.node_state.specs.declared.outcome.Receipt.{Receipt}
use Rattle.node_state.specs.declared.outcome.Receipt.TheVariants as ReceiptIs
use Rattle.node_state.specs.Seats.{Meaning}
use Rattle.node_state.specs.Slots.{Home, Asleep, Away}
use Rattle.node_state.specs.Held.{Held, StandsFor}
use Rattle.node_state.specs.Fits.{Brought, TurnFits, IsAnswered, entry_of}
use Rattle.node_state.specs.Changes.{Records, Counts, Closes, GivesBack}
use Rattle.node_state.specs.Posts.{Posts, Receives, code_of, side_of, sends_after, receipt_code, receipt_closings, time_at, deadline_of}
use Rattle.host_calls.specs.declared.proc.Proc.{Proc}
use Rattle.host_calls.specs.Shown.{seat_of, hands_of, shown_part, brought_by, streams_by}
use Rattle.process_table.specs.Letters.{Letter}
use Rattle.process_table.specs.declared.place.Place.TheVariants as PlaceIs
use Rattle.process_table.specs.Gives.{MovesOut}
use Rattle.process_table.specs.Holds.{Fields, NodeKeeps, SetsDeadline, held_of, letters_in, streams_at, streams_of}
use Rattle.process_table.proofs.Holding.{DeadlineIs, mail-read, streams-read, deadline-same, deadline-set}
use Rattle.process_table.proofs.Owning.{numbers-scratch}
use Rattle.process_table.proofs.Shutting.{numbers-shut, closed-more, IsClosedFrom}
use Rattle.process_table.proofs.Giving.{Comes, Fitting, HasRoom, StreamsLaw, ToldIsSound, is-given, gives-back, closes, hands-on, comes-keeps, records-alone}
use Rattle.resource_table.proofs.Closings.{sheds_length}
use Rattle.process_table.proofs.GivingNetwork.{hands-stay}

-- A process is given back with a request of the world.

pub deadline_is : (old new : FinMap nat_cmp ℕ) (pid : ℕ) (deadline : Option ℕ) → get old pid ≡ None → SetsDeadline old new pid deadline → DeadlineIs old new pid deadline
deadline_is old new pid None none sets = deadline-same old new pid None sets none
deadline_is old new pid (Some at) none sets = deadline-set old new pid at sets

pub side_free : (outcome : Post) → ∥ (side_of outcome ≡ SideIs.Nothing) ⊎ ((SideIs.Nothing ≡ SideIs.Nothing) × (side_of outcome ≡ SideIs.NoMemory)) ∥₁
side_free PostIs.Put = ∣ inl refl ∣₁
side_free PostIs.Nobody = ∣ inl refl ∣₁
side_free PostIs.Full = ∣ inl refl ∣₁
side_free PostIs.Refused = ∣ inr (refl, refl) ∣₁

-- SLEEP
pub sleeps_not : (time ms : ℕ) → deadline_of time ms ≡ None → is_positive ms ≡ false
sleeps_not time ms none = by (is_positive ms) none
  where
    by : (b : Bool) → cond b (Some (min (time + ms) (2 ^ 64 - 1))) None ≡ None → b ≡ false
    by true e = let h : ⊥ = cc in absurd h
    by false e = refl

pub sleeps : (time ms due : ℕ) → deadline_of time ms ≡ Some due → is_positive ms ≡ true
sleeps time ms due some = by (is_positive ms) some
  where
    by : (b : Bool) → cond b (Some (min (time + ms) (2 ^ 64 - 1))) None ≡ Some due → b ≡ true
    by true e = refl
    by false e = let h : ⊥ = cc in absurd h

-- STREAMS

-- what went from the scratch message into the mailbox
pub moved-in : {X : Type 0} (table scratch scratch_after mail mail_after : List X) → mail_after ++ scratch_after ≡ mail ++ scratch → (x : X)
    → Contains ((table ++ scratch_after) ++ mail_after) x → Contains ((table ++ scratch) ++ mail ++ []) x
moved-in table scratch scratch_after mail mail_after same x has = hands-stay (table ++ scratch) mail x (by (Contains-append_cases (table ++ scratch_after) mail_after x has))
  where
    both : Contains mail x ⊎ Contains scratch x → Contains ((table ++ scratch) ++ mail) x
    both (inl here) = Contains-append_right (table ++ scratch) mail x here
    both (inr there) = Contains-append_left (table ++ scratch) mail x (Contains-append_right table scratch x there)

    moved : Contains (mail_after ++ scratch_after) x → Contains ((table ++ scratch) ++ mail) x
    moved c = both (Contains-append_cases mail scratch x (subst (λ xs. Contains xs x) same c))

    in_hand : Contains table x ⊎ Contains scratch_after x → Contains ((table ++ scratch) ++ mail) x
    in_hand (inl here) = Contains-append_left (table ++ scratch) mail x (Contains-append_left table scratch x here)
    in_hand (inr there) = moved (Contains-append_right mail_after scratch_after x there)

    by : Contains (table ++ scratch_after) x ⊎ Contains mail_after x → Contains ((table ++ scratch) ++ mail) x
    by (inl hands) = in_hand (Contains-append_cases table scratch_after x hands)
    by (inr here) = moved (Contains-append_left mail_after scratch_after x here)

-- what came out of the mailbox
pub moved-out : {X : Type 0} (table scratch scratch_after mail mail_after : List X) → ((x : X) → Contains (scratch_after ++ mail_after) x → Contains mail x) → (x : X)
    → Contains ((table ++ scratch_after) ++ mail_after) x → Contains ((table ++ scratch) ++ mail ++ []) x
moved-out table scratch scratch_after mail mail_after from x has = hands-stay (table ++ scratch) mail x (by (Contains-append_cases (table ++ scratch_after) mail_after x has))
  where
    in_hand : Contains table x ⊎ Contains scratch_after x → Contains ((table ++ scratch) ++ mail) x
    in_hand (inl here) = Contains-append_left (table ++ scratch) mail x (Contains-append_left table scratch x here)
    in_hand (inr there) = Contains-append_right (table ++ scratch) mail x (from x (Contains-append_left scratch_after mail_after x there))

    by : Contains (table ++ scratch_after) x ⊎ Contains mail_after x → Contains ((table ++ scratch) ++ mail) x
    by (inl hands) = in_hand (Contains-append_cases table scratch_after x hands)
    by (inr here) = Contains-append_right (table ++ scratch) mail x (from x (Contains-append_right scratch_after mail_after x here))

-- the same by what became of the receive

stay_hands : {X : Type 0} (table scratch scratch_after mail mail_after : List X) → mail_after ≡ mail → scratch_after ≡ scratch → (x : X)
    → Contains ((table ++ scratch_after) ++ mail_after) x → Contains ((table ++ scratch) ++ mail ++ []) x
stay_hands table scratch scratch_after mail mail_after m s = moved-in table scratch scratch_after mail mail_after (ap (λ ms. ms ++ scratch_after) m ∙ ap (λ ss. mail ++ ss) s)

pub moved_hands : {S : Type 0} (tells : Told S) (table scratch scratch_after mail mail_after shut : List (Handle S)) (receipt : Receipt) → MovesOut tells mail scratch [] mail_after scratch_after shut receipt
    → (x : Handle S) → Contains ((table ++ scratch_after) ++ mail_after) x → Contains ((table ++ scratch) ++ mail ++ []) x
moved_hands tells table scratch scratch_after mail mail_after shut ReceiptIs.Delivered moves = moved-out table scratch scratch_after mail mail_after moves.0
moved_hands tells table scratch scratch_after mail mail_after shut ReceiptIs.TimedOut moves = stay_hands table scratch scratch_after mail mail_after moves.0 moves.1
moved_hands tells table scratch scratch_after mail mail_after shut ReceiptIs.Waits moves = stay_hands table scratch scratch_after mail mail_after moves.0 moves.1

in_scratch : {X : Type 0} (table scratch mail : List X) (x : X) → Contains scratch x → Contains ((table ++ scratch) ++ mail ++ []) x
in_scratch table scratch mail x has = hands-stay (table ++ scratch) mail x (Contains-append_left (table ++ scratch) mail x (Contains-append_right table scratch x has))

none_more : {S : Type 0} (tells : Told S) (pool shed shut : List (Handle S)) → shut ≡ [] → (x : Handle S) → Contains (shed ++ shut) x → IsClosedFrom tells pool shed x
none_more tells pool shed shut none x has = ∣ inl (subst (λ hs. Contains hs x) (ap (λ hs. shed ++ hs) none ∙ append-nil shed) has) ∣₁

pub moved_closed : {S : Type 0} (tells : Told S) (table scratch scratch_after in_mail mail mail_after shed shut : List (Handle S)) (receipt : Receipt)
    → MovesOut tells mail scratch [] mail_after scratch_after shut receipt
    → (x : Handle S) → Contains (shed ++ shut) x → IsClosedFrom tells ((table ++ scratch) ++ in_mail ++ []) shed x
moved_closed tells table scratch scratch_after in_mail mail mail_after shed shut ReceiptIs.Delivered moves =
    closed-more tells ((table ++ scratch) ++ in_mail ++ []) shed scratch shut (subst (λ hs. AreShut tells scratch hs) (sym moves.1.behind) moves.1.shut) (in_scratch table scratch in_mail)
moved_closed tells table scratch scratch_after in_mail mail mail_after shed shut ReceiptIs.TimedOut moves = none_more tells ((table ++ scratch) ++ in_mail ++ []) shed shut moves.2
moved_closed tells table scratch scratch_after in_mail mail mail_after shed shut ReceiptIs.Waits moves = none_more tells ((table ++ scratch) ++ in_mail ++ []) shed shut moves.2

numbers_moved : {E O P S L : Type 0} (tells : Told S) (proc : Proc E O P S L) (mail mail_after scratch_after shut : List (Handle S)) (receipt : Receipt)
    → MovesOut tells mail (Kept.handles_in (Kept.slots_of proc.scratch)) [] mail_after scratch_after shut receipt → numbers_of shut ≡ receipt_closings receipt (shown_part proc)
numbers_moved tells proc mail mail_after scratch_after shut ReceiptIs.Delivered moves =
    numbers-shut tells (Kept.handles_in (Kept.slots_of proc.scratch)) shut (subst (λ hs. AreShut tells (Kept.handles_in (Kept.slots_of proc.scratch)) hs) (sym moves.1.behind) moves.1.shut)
    ∙ numbers-scratch proc.scratch
numbers_moved tells proc mail mail_after scratch_after shut ReceiptIs.TimedOut moves = ap (λ hs. numbers_of hs) moves.2
numbers_moved tells proc mail mail_after scratch_after shut ReceiptIs.Waits moves = ap (λ hs. numbers_of hs) moves.2

-- and for them there is room
few_moved : {S : Type 0} (tells : Told S) (mail scratch mail_after scratch_after shut : List (Handle S)) (receipt : Receipt) → MovesOut tells mail scratch [] mail_after scratch_after shut receipt
    → length shut ≤ length scratch
few_moved tells mail scratch mail_after scratch_after shut ReceiptIs.Delivered moves = let same = sheds_length tells scratch [] shut moves.1 in omega (arith, same)
few_moved tells mail scratch mail_after scratch_after shut ReceiptIs.TimedOut moves = let none = ap (λ hs. length hs) moves.2 in omega (arith, none)
few_moved tells mail scratch mail_after scratch_after shut ReceiptIs.Waits moves = let none = ap (λ hs. length hs) moves.2 in omega (arith, none)

pub room-moved : {E O P S L : Type 0} (tells : Told S) (f : Fields E O P S L) (pid : ℕ) (proc : Proc E O P S L) (mail mail_after scratch_after shut one : List (Handle S))
    (receipt : Receipt) (len cap : ℕ) → HasRoom f pid proc → one ≡ f.closed ++ proc.shed → MovesOut tells mail (Kept.handles_in (Kept.slots_of proc.scratch)) [] mail_after scratch_after shut receipt
    → len ≡ length one → cap ≡ f.closed_room → len + length shut ≤ cap
room-moved tells f pid proc mail mail_after scratch_after shut one receipt len cap has is moves len_is cap_is =
    let scratch : List (Handle _) = Kept.handles_in (Kept.slots_of proc.scratch) in
    let room = has.room in
    let closed = has.closed_room in
    let whole = ap (λ hs. length hs) is ∙ length-append f.closed proc.shed in
    let hands = length-append proc.table scratch in
    let few = few_moved tells mail scratch mail_after scratch_after shut receipt moves in
    omega (arith, room, closed, whole, hands, few, len_is, cap_is)

-- LAWS

abbrev pub SendLaw : {E P : Type 0} → Meaning E P → Type 0
SendLaw {E = E} {P = P} engines =
    (setting : Setting P) (old new : Book) (was is : Held E) (pid worker : ℕ) (brought : Brought E) (request : Request) (engine : E) (mail : List MailItem) (part : Part) (outcome : Post) →
    StandsFor engines setting old (told old) was → was.over ≡ false → was.slots pid ≡ Away worker → request.ask.call ≡ 8 →
    TurnFits engines setting old.births (told old) worker pid brought → brought.halt ≡ Asks request → brought.side ≡ SideIs.Nothing →
    Posts (slice_index request.ask.args 0) pid was.sends (was.mail pid) brought.seat.part mail part outcome →
    IsAnswered engines brought.seat.engine (number_reply (code_of outcome)) engine →
    GivesBack was is pid (Home (record brought.seat { engine = engine; part = part })) true mail None →
    Counts was is (sends_after outcome was.sends) was.time 0 → Closes was is was.streams brought.shed →
    Records old new (entry_of worker pid brought (side_of outcome)) [] →
    StandsFor engines setting new (told new) is

abbrev pub ReceiveLaw : {E P : Type 0} → Meaning E P → Type 0
ReceiveLaw {E = E} {P = P} engines =
    (setting : Setting P) (old new : Book) (was is : Held E) (pid worker : ℕ) (brought : Brought E) (request : Request) (now : ℕ) (engine : E) (mail : List MailItem) (part : Part) (receipt : Receipt) →
    StandsFor engines setting old (told old) was → was.over ≡ false → was.slots pid ≡ Away worker → request.ask.call ≡ 9 → receipt ≢ ReceiptIs.Waits →
    TurnFits engines setting old.births (told old) worker pid brought → brought.halt ≡ Asks request → brought.side ≡ SideIs.Clock now →
    Receives (tags_in request.first) (slice_index request.ask.args 2) (was.mail pid) brought.seat.part mail part receipt →
    IsAnswered engines brought.seat.engine (number_reply (receipt_code receipt)) engine →
    GivesBack was is pid (Home (record brought.seat { engine = engine; part = part })) true mail None →
    Counts was is was.sends (time_at was.time now) 0 → Closes was is was.streams (brought.shed ++ receipt_closings receipt brought.seat.part) →
    Records old new (entry_of worker pid brought (SideIs.Clock now)) [] →
    StandsFor engines setting new (told new) is

abbrev pub WaitLaw : {E P : Type 0} → Meaning E P → Type 0
WaitLaw {E = E} {P = P} engines =
    (setting : Setting P) (old new : Book) (was is : Held E) (pid worker : ℕ) (brought : Brought E) (request : Request) (now : ℕ) (mail : List MailItem) (part : Part) →
    StandsFor engines setting old (told old) was → was.over ≡ false → was.slots pid ≡ Away worker → request.ask.call ≡ 9 →
    TurnFits engines setting old.births (told old) worker pid brought → brought.halt ≡ Asks request → brought.side ≡ SideIs.Clock now →
    Receives (tags_in request.first) (slice_index request.ask.args 2) (was.mail pid) brought.seat.part mail part ReceiptIs.Waits →
    GivesBack was is pid (Asleep (record brought.seat { part = part }) request.ask) false mail (deadline_of (time_at was.time now) (slice_index request.ask.args 2)) →
    Counts was is was.sends (time_at was.time now) 0 → Closes was is was.streams brought.shed →
    Records old new (entry_of worker pid brought (SideIs.Clock now)) [] →
    StandsFor engines setting new (told new) is

abbrev pub SleepLaw : {E P : Type 0} → Meaning E P → Type 0
SleepLaw {E = E} {P = P} engines =
    (setting : Setting P) (old new : Book) (was is : Held E) (pid worker : ℕ) (brought : Brought E) (request : Request) (now : ℕ) (engine : E) →
    StandsFor engines setting old (told old) was → was.over ≡ false → was.slots pid ≡ Away worker → request.ask.call ≡ 17 → is_positive (slice_index request.ask.args 0) ≡ false →
    TurnFits engines setting old.births (told old) worker pid brought → brought.halt ≡ Asks request → brought.side ≡ SideIs.Clock now →
    IsAnswered engines brought.seat.engine empty_reply engine →
    GivesBack was is pid (Home (record brought.seat { engine = engine })) true (was.mail pid) None →
    Counts was is was.sends (time_at was.time now) 0 → Closes was is was.streams brought.shed →
    Records old new (entry_of worker pid brought (SideIs.Clock now)) [] →
    StandsFor engines setting new (told new) is

abbrev pub SleepWaitsLaw : {E P : Type 0} → Meaning E P → Type 0
SleepWaitsLaw {E = E} {P = P} engines =
    (setting : Setting P) (old new : Book) (was is : Held E) (pid worker : ℕ) (brought : Brought E) (request : Request) (now : ℕ) →
    StandsFor engines setting old (told old) was → was.over ≡ false → was.slots pid ≡ Away worker → request.ask.call ≡ 17 → is_positive (slice_index request.ask.args 0) ≡ true →
    TurnFits engines setting old.births (told old) worker pid brought → brought.halt ≡ Asks request → brought.side ≡ SideIs.Clock now →
    GivesBack was is pid (Asleep brought.seat request.ask) false (was.mail pid) (deadline_of (time_at was.time now) (slice_index request.ask.args 0)) →
    Counts was is was.sends (time_at was.time now) 0 → Closes was is was.streams brought.shed →
    Records old new (entry_of worker pid brought (SideIs.Clock now)) [] →
    StandsFor engines setting new (told new) is

module _ {E O P S L : Type 0} {engines : Meaning E P} {may_ask : P → ℕ → Type 0} {tells : Told S} {setting : Setting P} (streams_law : StreamsLaw engines tells) (sounds : ToldIsSound) where
  -- SEND
  pub node-send : SendLaw engines → (old new : Book) (f g : Fields E O P S L) (worker : ℕ) (proc : Proc E O P S L) (shed : List (Handle S)) (scratch : Option (Kept.Scratch S)) (engine : E) (calls : List Call)
      (request : Request) (box box_after : Mail (Letter S)) (outcome : Post)
      → NodeKeeps engines may_ask tells setting old f → ((told old).process proc.start.pid).stage ≡ Out worker → request.ask.call ≡ 8
      → Fitting engines tells setting old worker proc.start.pid (brought_by proc calls (Asks request) SideIs.Nothing) (streams_by proc None)
      → box ≡ get_or f.mail proc.start.pid box
      → Posts (slice_index request.ask.args 0) proc.start.pid f.sends (letters_in box) (shown_part proc) (letters_in box_after) (shown_part (record proc { shed = shed; scratch = scratch; engine = engine })) outcome
      → streams_of box_after ++ Kept.handles_in (Kept.slots_of scratch) ≡ streams_of box ++ Kept.handles_in (Kept.slots_of proc.scratch)
      → IsAnswered engines proc.engine (number_reply (code_of outcome)) engine
      → (get f.queue.deadlines proc.start.pid ≡ None → Comes f g proc.start.pid (PlaceIs.Home (record proc { shed = shed; scratch = scratch; engine = engine })) true (letters_in box_after) (streams_of box_after) None
      f.streams proc.shed)
      → Counts (held_of f) (held_of g) (sends_after outcome f.sends) f.time 0
      → AddsEntry old new (entry_of worker proc.start.pid (brought_by proc calls (Asks request) SideIs.Nothing) (side_of outcome))
      → NodeKeeps engines may_ask tells setting new g
  node-send law old new f g worker proc shed scratch engine calls request box box_after outcome keeps out call fitting reads posts moved answered comes' counts adds =
      let pid : ℕ = proc.start.pid in
      let brought : Brought E = brought_by proc calls (Asks request) SideIs.Nothing in
      let given = is-given sounds old f pid worker keeps out in
      let comes = comes' (given.untimed pid) in
      let records = records-alone old new (entry_of worker pid brought (side_of outcome)) adds in
      let box_is : (held_of f).mail pid ≡ letters_in box = mail-read f.mail pid box given.out.boxed reads in
      let streams_is : streams_at (slice_get f.mail pid) ≡ streams_of box = streams-read f.mail pid box given.out.boxed reads in
      comes-keeps streams_law old new worker brought (streams_by proc None) (side_of outcome) [] keeps given.out comes fitting (side_free outcome) records
      (law setting old new (held_of f) (held_of g) pid worker brought request engine (letters_in box_after) (shown_part (record proc { shed = shed; scratch = scratch; engine = engine })) outcome keeps.stands
      given.going given.away call fitting.fits refl refl
      (subst (λ ms. Posts (slice_index request.ask.args 0) pid f.sends ms (shown_part proc) (letters_in box_after) (shown_part (record proc { shed = shed; scratch = scratch; engine = engine })) outcome)
      (sym box_is) posts)
      answered (gives-back given.out comes) counts (closes comes) records)
      (hands-on tells (hands_of proc ++ streams_at (slice_get f.mail pid) ++ []) proc.shed given.out comes
      (subst (λ hs. (x : Handle S) → Contains ((proc.table ++ Kept.handles_in (Kept.slots_of scratch)) ++ streams_of box_after) x → Contains (hands_of proc ++ hs ++ []) x) (sym streams_is)
      (moved-in proc.table (Kept.handles_in (Kept.slots_of proc.scratch)) (Kept.handles_in (Kept.slots_of scratch)) (streams_of box) (streams_of box_after) moved))
      (λ handle has. ∣ inl has ∣₁))

  -- SLEEP
  pub node-slept : SleepLaw engines → (old new : Book) (f g : Fields E O P S L) (worker : ℕ) (proc : Proc E O P S L) (shed : List (Handle S)) (engine : E) (calls : List Call) (request : Request) (now : ℕ)
      → NodeKeeps engines may_ask tells setting old f → ((told old).process proc.start.pid).stage ≡ Out worker → request.ask.call ≡ 17
      → deadline_of (time_at f.time now) (slice_index request.ask.args 0) ≡ None
      → Fitting engines tells setting old worker proc.start.pid (brought_by proc calls (Asks request) (SideIs.Clock now)) (streams_by proc None)
      → IsAnswered engines proc.engine empty_reply engine
      → (get f.queue.deadlines proc.start.pid ≡ None → Comes f g proc.start.pid (PlaceIs.Home (record proc { shed = shed; engine = engine })) true ((held_of f).mail proc.start.pid)
      (streams_at (slice_get f.mail proc.start.pid)) None f.streams proc.shed)
      → Counts (held_of f) (held_of g) f.sends (time_at f.time now) 0
      → AddsEntry old new (entry_of worker proc.start.pid (brought_by proc calls (Asks request) (SideIs.Clock now)) (SideIs.Clock now))
      → NodeKeeps engines may_ask tells setting new g
  node-slept law old new f g worker proc shed engine calls request now keeps out call none fitting answered comes' counts adds =
      let pid : ℕ = proc.start.pid in
      let brought : Brought E = brought_by proc calls (Asks request) (SideIs.Clock now) in
      let given = is-given sounds old f pid worker keeps out in
      let comes = comes' (given.untimed pid) in
      let records = records-alone old new (entry_of worker pid brought (SideIs.Clock now)) adds in
      comes-keeps streams_law old new worker brought (streams_by proc None) (SideIs.Clock now) [] keeps given.out comes fitting ∣ inl refl ∣₁ records
      (law setting old new (held_of f) (held_of g) pid worker brought request now engine keeps.stands given.going given.away call
      (sleeps_not (time_at f.time now) (slice_index request.ask.args 0) none) fitting.fits refl refl answered (gives-back given.out comes) counts (closes comes) records)
      (hands-on tells (hands_of proc ++ streams_at (slice_get f.mail pid) ++ []) proc.shed given.out comes (hands-stay (hands_of proc) (streams_at (slice_get f.mail pid))) (λ handle has. ∣ inl has ∣₁))

  pub node-sleeping : SleepWaitsLaw engines → (old new : Book) (f g : Fields E O P S L) (worker : ℕ) (proc : Proc E O P S L) (shed : List (Handle S)) (calls : List Call) (request : Request) (now due : ℕ)
      → NodeKeeps engines may_ask tells setting old f → ((told old).process proc.start.pid).stage ≡ Out worker → request.ask.call ≡ 17
      → deadline_of (time_at f.time now) (slice_index request.ask.args 0) ≡ Some due
      → Fitting engines tells setting old worker proc.start.pid (brought_by proc calls (Asks request) (SideIs.Clock now)) (streams_by proc None)
      → Comes f g proc.start.pid (PlaceIs.Asleep (record proc { shed = shed }) request.ask) false ((held_of f).mail proc.start.pid) (streams_at (slice_get f.mail proc.start.pid)) (Some due) f.streams proc.shed
      → Counts (held_of f) (held_of g) f.sends (time_at f.time now) 0
      → AddsEntry old new (entry_of worker proc.start.pid (brought_by proc calls (Asks request) (SideIs.Clock now)) (SideIs.Clock now))
      → NodeKeeps engines may_ask tells setting new g
  node-sleeping law old new f g worker proc shed calls request now due keeps out call some fitting comes counts adds =
      let pid : ℕ = proc.start.pid in
      let brought : Brought E = brought_by proc calls (Asks request) (SideIs.Clock now) in
      let given = is-given sounds old f pid worker keeps out in
      let records = records-alone old new (entry_of worker pid brought (SideIs.Clock now)) adds in
      let gives : GivesBack (held_of f) (held_of g) pid (Asleep (seat_of proc) request.ask) false ((held_of f).mail pid) (deadline_of (time_at f.time now) (slice_index request.ask.args 0)) =
      subst (λ d. GivesBack (held_of f) (held_of g) pid (Asleep (seat_of proc) request.ask) false ((held_of f).mail pid) d) (sym some) (gives-back given.out comes) in
      comes-keeps streams_law old new worker brought (streams_by proc None) (SideIs.Clock now) [] keeps given.out comes fitting ∣ inl refl ∣₁ records
      (law setting old new (held_of f) (held_of g) pid worker brought request now keeps.stands given.going given.away call
      (sleeps (time_at f.time now) (slice_index request.ask.args 0) due some) fitting.fits refl refl gives counts (closes comes) records)
      (hands-on tells (hands_of proc ++ streams_at (slice_get f.mail pid) ++ []) proc.shed given.out comes (hands-stay (hands_of proc) (streams_at (slice_get f.mail pid))) (λ handle has. ∣ inl has ∣₁))

  -- RECEIVE
  pub node-received : ReceiveLaw engines → (old new : Book) (f g : Fields E O P S L) (worker : ℕ) (proc : Proc E O P S L) (shed shut : List (Handle S)) (scratch : Option (Kept.Scratch S)) (engine : E)
      (calls : List Call) (request : Request) (now : ℕ) (box box_after : Mail (Letter S)) (receipt : Receipt)
      → NodeKeeps engines may_ask tells setting old f → ((told old).process proc.start.pid).stage ≡ Out worker → request.ask.call ≡ 9 → receipt ≢ ReceiptIs.Waits
      → Fitting engines tells setting old worker proc.start.pid (brought_by proc calls (Asks request) (SideIs.Clock now)) (streams_by proc None)
      → box ≡ get_or f.mail proc.start.pid box
      → Receives (tags_in request.first) (slice_index request.ask.args 2) (letters_in box) (shown_part proc) (letters_in box_after) (shown_part (record proc { shed = shed; scratch = scratch; engine = engine })) receipt
      → MovesOut tells (streams_of box) (Kept.handles_in (Kept.slots_of proc.scratch)) [] (streams_of box_after) (Kept.handles_in (Kept.slots_of scratch)) shut receipt
      → IsAnswered engines proc.engine (number_reply (receipt_code receipt)) engine
      → (get f.queue.deadlines proc.start.pid ≡ None → Comes f g proc.start.pid (PlaceIs.Home (record proc { shed = shed; scratch = scratch; engine = engine })) true (letters_in box_after) (streams_of box_after) None
      f.streams (proc.shed ++ shut))
      → Counts (held_of f) (held_of g) f.sends (time_at f.time now) 0
      → AddsEntry old new (entry_of worker proc.start.pid (brought_by proc calls (Asks request) (SideIs.Clock now)) (SideIs.Clock now))
      → NodeKeeps engines may_ask tells setting new g
  node-received law old new f g worker proc shed shut scratch engine calls request now box box_after receipt keeps out call answered_now fitting reads receives moves answered comes' counts adds =
      let pid : ℕ = proc.start.pid in
      let brought : Brought E = brought_by proc calls (Asks request) (SideIs.Clock now) in
      let given = is-given sounds old f pid worker keeps out in
      let comes = comes' (given.untimed pid) in
      let records = records-alone old new (entry_of worker pid brought (SideIs.Clock now)) adds in
      let box_is : (held_of f).mail pid ≡ letters_in box = mail-read f.mail pid box given.out.boxed reads in
      let streams_is : streams_at (slice_get f.mail pid) ≡ streams_of box = streams-read f.mail pid box given.out.boxed reads in
      let numbers = map-append (λ h. h.number) proc.shed shut ∙ ap (λ ns. numbers_of proc.shed ++ ns) (numbers_moved tells proc (streams_of box) (streams_of box_after) (Kept.handles_in (Kept.slots_of scratch)) shut receipt moves) in
      comes-keeps streams_law old new worker brought (streams_by proc None) (SideIs.Clock now) [] keeps given.out comes fitting ∣ inl refl ∣₁ records
      (law setting old new (held_of f) (held_of g) pid worker brought request now engine (letters_in box_after) (shown_part (record proc { shed = shed; scratch = scratch; engine = engine })) receipt keeps.stands
      given.going given.away call answered_now fitting.fits refl refl
      (subst (λ ms. Receives (tags_in request.first) (slice_index request.ask.args 2) ms (shown_part proc) (letters_in box_after) (shown_part (record proc { shed = shed; scratch = scratch; engine = engine })) receipt)
      (sym box_is) receives)
      answered (gives-back given.out comes) counts (subst (λ ns. Closes (held_of f) (held_of g) f.streams ns) numbers (closes comes)) records)
      (hands-on tells (hands_of proc ++ streams_at (slice_get f.mail pid) ++ []) proc.shed given.out comes
      (subst (λ hs. (x : Handle S) → Contains ((proc.table ++ Kept.handles_in (Kept.slots_of scratch)) ++ streams_of box_after) x → Contains (hands_of proc ++ hs ++ []) x) (sym streams_is)
      (moved_hands tells proc.table (Kept.handles_in (Kept.slots_of proc.scratch)) (Kept.handles_in (Kept.slots_of scratch)) (streams_of box) (streams_of box_after) shut receipt moves))
      (moved_closed tells proc.table (Kept.handles_in (Kept.slots_of proc.scratch)) (Kept.handles_in (Kept.slots_of scratch)) (streams_at (slice_get f.mail pid)) (streams_of box) (streams_of box_after) proc.shed shut receipt
      moves))

  pub node-waits : WaitLaw engines → (old new : Book) (f g : Fields E O P S L) (worker : ℕ) (proc : Proc E O P S L) (shed shut : List (Handle S)) (scratch : Option (Kept.Scratch S)) (calls : List Call)
      (request : Request) (now : ℕ) (box box_after : Mail (Letter S))
      → NodeKeeps engines may_ask tells setting old f → ((told old).process proc.start.pid).stage ≡ Out worker → request.ask.call ≡ 9
      → Fitting engines tells setting old worker proc.start.pid (brought_by proc calls (Asks request) (SideIs.Clock now)) (streams_by proc None)
      → box ≡ get_or f.mail proc.start.pid box
      → Receives (tags_in request.first) (slice_index request.ask.args 2) (letters_in box) (shown_part proc) (letters_in box_after) (shown_part (record proc { shed = shed; scratch = scratch })) ReceiptIs.Waits
      → MovesOut tells (streams_of box) (Kept.handles_in (Kept.slots_of proc.scratch)) [] (streams_of box_after) (Kept.handles_in (Kept.slots_of scratch)) shut ReceiptIs.Waits
      → (get f.queue.deadlines proc.start.pid ≡ None → ((q : ℕ) → get f.queue.deadlines q ≡ None) → Comes f g proc.start.pid (PlaceIs.Asleep (record proc { shed = shed; scratch = scratch }) request.ask) false (letters_in box_after) (streams_of box_after)
      (deadline_of (time_at f.time now) (slice_index request.ask.args 2)) f.streams (proc.shed ++ shut))
      → Counts (held_of f) (held_of g) f.sends (time_at f.time now) 0
      → AddsEntry old new (entry_of worker proc.start.pid (brought_by proc calls (Asks request) (SideIs.Clock now)) (SideIs.Clock now))
      → NodeKeeps engines may_ask tells setting new g
  node-waits law old new f g worker proc shed shut scratch calls request now box box_after keeps out call fitting reads receives moves comes' counts adds =
      let pid : ℕ = proc.start.pid in
      let brought : Brought E = brought_by proc calls (Asks request) (SideIs.Clock now) in
      let given = is-given sounds old f pid worker keeps out in
      let comes = comes' (given.untimed pid) given.untimed in
      let records = records-alone old new (entry_of worker pid brought (SideIs.Clock now)) adds in
      let box_is : (held_of f).mail pid ≡ letters_in box = mail-read f.mail pid box given.out.boxed reads in
      let streams_is : streams_at (slice_get f.mail pid) ≡ streams_of box = streams-read f.mail pid box given.out.boxed reads in
      let numbers : numbers_of (proc.shed ++ shut) ≡ numbers_of proc.shed = ap (λ hs. numbers_of (proc.shed ++ hs)) moves.2 ∙ ap (λ hs. numbers_of hs) (append-nil proc.shed) in
      comes-keeps streams_law old new worker brought (streams_by proc None) (SideIs.Clock now) [] keeps given.out comes fitting ∣ inl refl ∣₁ records
      (law setting old new (held_of f) (held_of g) pid worker brought request now (letters_in box_after) (shown_part (record proc { shed = shed; scratch = scratch })) keeps.stands
      given.going given.away call fitting.fits refl refl
      (subst (λ ms. Receives (tags_in request.first) (slice_index request.ask.args 2) ms (shown_part proc) (letters_in box_after) (shown_part (record proc { shed = shed; scratch = scratch })) ReceiptIs.Waits)
      (sym box_is) receives)
      (gives-back given.out comes) counts (subst (λ ns. Closes (held_of f) (held_of g) f.streams ns) numbers (closes comes)) records)
      (hands-on tells (hands_of proc ++ streams_at (slice_get f.mail pid) ++ []) proc.shed given.out comes
      (subst (λ hs. (x : Handle S) → Contains ((proc.table ++ Kept.handles_in (Kept.slots_of scratch)) ++ streams_of box_after) x → Contains (hands_of proc ++ hs ++ []) x) (sym streams_is)
      (moved_hands tells proc.table (Kept.handles_in (Kept.slots_of proc.scratch)) (Kept.handles_in (Kept.slots_of scratch)) (streams_of box) (streams_of box_after) shut ReceiptIs.Waits moves))
      (moved_closed tells proc.table (Kept.handles_in (Kept.slots_of proc.scratch)) (Kept.handles_in (Kept.slots_of scratch)) (streams_at (slice_get f.mail pid)) (streams_of box) (streams_of box_after) proc.shed shut
      ReceiptIs.Waits moves))
