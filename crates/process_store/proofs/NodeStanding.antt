use Rattle.std.proofs.Common.{◌≡◌, ◌⊎◌, ◌≤◌, ◌<◌, ℕ, zero, suc, ◌+◌, ◌-◌, List, [], ◌∷◌, ◌++◌, All, Option, Some, None, Bool, true, false, cond, IfSome, length, slice_get, map, option_map, append-nil, vec_capacity, refl, arith, sym, ◌∙◌, ap, subst, inl, inr}
use Rattle.std.proofs.lemmas.Option.{slice_get-map}
use Rattle.host_port.specs.declared.call.Call.{Call}
use Rattle.host_port.specs.declared.start.Start.{Start}
use Rattle.host_port.specs.declared.start.StartRefusal.{StartRefusal}
use Rattle.host_port.specs.Standing.{Standing}
use Rattle.resource_table.specs.Handles.{Handle, numbers_of}
use Rattle.resource_table.specs.Steps.{Told}
use Rattle.tagged_mailbox.specs.Mail.{Mail}
use Rattle.world_rules.specs.declared.entry.Entry.{Entry}
use Rattle.world_rules.specs.declared.entry.Side.{Side}
use Rattle.world_rules.specs.declared.entry.Side.TheVariants as SideIs
use Rattle.world_rules.specs.declared.halt.End.{End}
use Rattle.world_rules.specs.declared.life.Birth.{Birth}
use Rattle.world_rules.specs.declared.life.Ended.{Ended as EndMemory}
use Rattle.world_rules.specs.Allowed.{Allowed}
use Rattle.world_rules.specs.Book.{Book, AddsEntry}
use Rattle.world_rules.specs.Lives.{Setting, TurnIsRun, terms_of}
use Rattle.world_rules.specs.Mail.{mail_handles}
use Rattle.world_rules.specs.Rules.{happened, giver_of, row_after}
use Rattle.world_rules.specs.Told.{told}
use Rattle.world_rules.specs.Views.{deed_of}
use Rattle.world_rules.specs.World.{World, Process, Stage, Unborn, Ready, Out, Waiting, Doomed, is_away, is_ended, first_start}
use Rattle.node_state.specs.Changes.{Records as RecordsAlone}
use Rattle.node_state.specs.Fits.{Brought, give_of, entry_of}
use Rattle.node_state.specs.Seats.{Meaning, part_handles}
use Rattle.node_state.specs.Streaming.{AreOwned, IsOpen, StreamsStand}
use Rattle.node_mirror.specs.Slots.{Slot, SlotFits, Nobody, Home, Asleep, Giving, Away, Fated, Gone, is_giving}
use Rattle.node_mirror.specs.Held.{Held, Mirrors, StandsFor, kept_places}
use Rattle.node_mirror.specs.Steps.{Requeued}
use Rattle.node_mirror.specs.Fits.{Records, TurnFits, HasBirth}
use Rattle.process_store.specs.declared.place.Place.{Place}
use Rattle.process_store.specs.declared.place.Place.TheVariants as PlaceIs
use Rattle.process_store.specs.declared.store.Store.{Store}
use Rattle.process_store.specs.Letters.{ItemShown}
use Rattle.process_store.specs.Holds.{Becomes, held_of, hands_at, hands_in, items_in, kept_of, place_at, ready_of, slot_in, streams_in, streams_of}
use Rattle.process_store.specs.Keeps.{StoreKeeps}
use Rattle.process_store.specs.NodeKeeps.{NodeKeeps}
use Rattle.process_store.specs.Seen.{KeepsStreams, Seen, seen, at_number}
use Rattle.process_store.specs.Takes.{RecordsGive, RecordsEntry}
use Rattle.process_store.specs.Gives.{IsGivenBack}
use Rattle.process_store.specs.Telling.{HasEndRoom}
use Rattle.process_store.proofs.Emptying.{numbers_hands, numbers_mail}
use Rattle.process_store.proofs.StrikingAll.{mirrors_becomes}

-- What the calls of a node have in common: its streams are those of its world; what it keeps after an entry; a Give.

-- WHERE STREAMS STAND

not_away : (stage other : Stage) → stage ≡ other → is_away other ≡ true → is_away stage ≡ false → ⊥
not_away stage other is away home = let h : true ≡ false = sym away ∙ ap is_away (sym is) ∙ home in cc

away_not : (stage other : Stage) → stage ≡ other → is_away other ≡ false → is_away stage ≡ true → ⊥
away_not stage other is home away = let h : false ≡ true = sym home ∙ ap is_away (sym is) ∙ away in cc

hands_owned : {E O P S L : Type 0} (engines : Meaning E P) (programs : List P) (p : Process) (place : Option (Place E O P S L)) → SlotFits engines programs p (slot_in place) → is_away p.stage ≡ false
    → numbers_of (hands_in place) ≡ part_handles p.part
hands_owned engines programs p None fits home = ap (λ q. part_handles q.part) (sym fits)
hands_owned engines programs p (Some PlaceIs.Nobody) fits home = ap (λ q. part_handles q.part) (sym fits)
hands_owned engines programs p (Some (PlaceIs.Home proc)) fits home = numbers_hands proc ∙ ap part_handles fits.seated.part
hands_owned engines programs p (Some (PlaceIs.Asleep proc ask)) fits home = numbers_hands proc ∙ ap part_handles fits.seated.part
hands_owned engines programs p (Some (PlaceIs.Giving proc ask)) fits home = numbers_hands proc ∙ ap part_handles fits.seated.part
hands_owned engines programs p (Some (PlaceIs.Away worker)) fits home = absurd (not_away p.stage (Out worker) fits refl home)
hands_owned engines programs p (Some (PlaceIs.Fated worker end)) fits home = absurd (not_away p.stage (Doomed worker end) fits refl home)
hands_owned engines programs p (Some PlaceIs.Gone) fits home = ap part_handles (sym fits.left)

hands_gone : {E O P S L : Type 0} (engines : Meaning E P) (programs : List P) (p : Process) (place : Option (Place E O P S L)) → SlotFits engines programs p (slot_in place) → is_away p.stage ≡ true
    → hands_in place ≡ []
hands_gone engines programs p None fits away = refl
hands_gone engines programs p (Some PlaceIs.Nobody) fits away = refl
hands_gone engines programs p (Some (PlaceIs.Home proc)) fits away = absurd (away_not p.stage Ready fits.stage refl away)
hands_gone engines programs p (Some (PlaceIs.Asleep proc ask)) fits away = absurd (away_not p.stage _ fits.stage refl away)
hands_gone engines programs p (Some (PlaceIs.Giving proc ask)) fits away = absurd (away_not p.stage Ready fits.stage refl away)
hands_gone engines programs p (Some (PlaceIs.Away worker)) fits away = refl
hands_gone engines programs p (Some (PlaceIs.Fated worker end)) fits away = refl
hands_gone engines programs p (Some PlaceIs.Gone) fits away = refl

numbers_mail_at : {S : Type 0} (mail : Option (Mail (ItemShown S))) → numbers_of (streams_in mail) ≡ mail_handles (items_in mail)
numbers_mail_at None = refl
numbers_mail_at (Some mail) = numbers_mail mail

-- the very streams of a store are those of the world that it mirrors, each where it has it
pub mirrors_owned : {E O P S L : Type 0} (engines : Meaning E P) (setting : Setting P) (w : World) (store : Store E O P S L) (ends : List EndMemory) → Mirrors engines setting w (held_of store) ends
    → AreOwned w (kept_of store)
mirrors_owned engines setting w store ends m = record {
  hands = λ pid home. hands_owned engines setting.programs (w.process pid) (slice_get store.places.items pid) (m.slots pid) home;
  away = λ pid away. hands_gone engines setting.programs (w.process pid) (slice_get store.places.items pid) (m.slots pid) away;
  mail = λ pid. numbers_mail_at (slice_get store.mail.items pid) ∙ ap mail_handles (sym (m.mail pid));
  closed = sym m.closed;
}

-- BY NUMBER

at_hands : {E O P S L : Type 0} (place : Option (Place E O P S L)) → at_number (option_map hands_at place) ≡ hands_in place
at_hands None = refl
at_hands (Some place) = refl

at_mail : {S : Type 0} (mail : Option (Mail (ItemShown S))) → at_number (option_map streams_of mail) ≡ streams_in mail
at_mail None = refl
at_mail (Some mail) = refl

pub hands_number : {E O P S L : Type 0} (places : List (Place E O P S L)) (pid : ℕ) → at_number (slice_get (map hands_at places) pid) ≡ hands_in (slice_get places pid)
hands_number places pid = ap at_number (slice_get-map hands_at places pid) ∙ at_hands (slice_get places pid)

pub mail_number : {S : Type 0} (mail : List (Mail (ItemShown S))) (pid : ℕ) → at_number (slice_get (map streams_of mail) pid) ≡ streams_in (slice_get mail pid)
mail_number mail pid = ap at_number (slice_get-map streams_of mail pid) ∙ at_mail (slice_get mail pid)

-- what a contract sees of a node's streams
pub keeps_streams : {E O P S L : Type 0} {engines : Meaning E P} {setting : Setting P} (tells : Told S) (programs : List P) (book : Book) (live idle spare : ℕ) (store : Store E O P S L)
    → StandsFor engines setting book (told book) (held_of store) → StreamsStand tells (told book) (kept_of store)
    → KeepsStreams tells (seen programs book live idle spare (map hands_at store.places.items) (map streams_of store.mail.items) store.closed.items)
keeps_streams {engines = engines} {setting = setting} tells programs book live idle spare store stands streams =
    let owned = mirrors_owned engines setting (told book) store book.ends stands.mirrors in
    record {
      stand = record {
        hands = λ pid. subst (λ hs. All (IsOpen tells (told book).streamed) hs) (sym (hands_number store.places.items pid)) (streams.hands pid);
        mail = λ pid. subst (λ hs. All (IsOpen tells (told book).streamed) hs) (sym (mail_number store.mail.items pid)) (streams.mail pid);
        closed = streams.closed;
        undrawn = streams.undrawn;
      };
      owned = record {
        hands = λ pid home. ap numbers_of (hands_number store.places.items pid) ∙ owned.hands pid home;
        away = λ pid away. hands_number store.places.items pid ∙ owned.away pid away;
        mail = λ pid. ap numbers_of (mail_number store.mail.items pid) ∙ owned.mail pid;
        closed = owned.closed;
      };
    }

-- THE SETTING

-- what a run is over, its births being these
abbrev pub setting_with : {P : Type 0} → (P → Start → Option StartRefusal) → (P → Start → List Call → ℕ → Option Standing) → List P → List Birth → (live idle : ℕ) → Setting P
setting_with begin at programs births live idle = record { programs = programs; begin = begin; at = at; first = first_start births; live = live; idle = idle }

-- what a node keeps, its setting being that of other births that are the same
pub keeps_at : {E O P S L : Type 0} {engines : Meaning E P} {may_ask : P → ℕ → Type 0} {tells : Told S} (begin : P → Start → Option StartRefusal)
    (at : P → Start → List Call → ℕ → Option Standing) (programs : List P) (old new : List Birth) (live idle : ℕ) (book : Book) (store : Store E O P S L) (spare : ℕ) → new ≡ old
    → NodeKeeps engines may_ask tells (setting_with begin at programs old live idle) book store spare → NodeKeeps engines may_ask tells (setting_with begin at programs new live idle) book store spare
keeps_at {engines = engines} {may_ask = may_ask} {tells = tells} begin at programs old new live idle book store spare same keeps =
    subst (λ births. NodeKeeps engines may_ask tells (setting_with begin at programs births live idle) book store spare) (sym same) keeps

-- THE JOURNAL

-- an entry that brings neither a birth nor an end
pub records_one : (old new : Book) (entry : Entry) → AddsEntry old new entry → Records old new entry [] []
records_one old new entry adds = record {
  entries = adds.entries;
  births_are = adds.births ∙ sym (append-nil old.births);
  ends_are = adds.ends ∙ sym (append-nil old.ends);
  entry_room = adds.entry_room;
}

pub births_stay : (old new : Book) (entry : Entry) (ends : List EndMemory) → Records old new entry [] ends → new.births ≡ old.births
births_stay old new entry ends records = records.births_are ∙ append-nil old.births

-- the same as contracts show it
pub records_shown : (old new : Book) (entry : Entry) (ends : List EndMemory) → Records old new entry [] ends → RecordsAlone old new entry ends
records_shown old new entry ends records = record {
  entries = records.entries;
  births = births_stay old new entry ends records;
  ends_are = records.ends_are;
  entry_room = records.entry_room;
}

-- AFTER AN ENTRY

-- what a node keeps after an entry, by parts
pub keeps_after : {E O P S L : Type 0} {engines : Meaning E P} {may_ask : P → ℕ → Type 0} {tells : Told S} (begin : P → Start → Option StartRefusal)
    (at : P → Start → List Call → ℕ → Option Standing) (programs : List P) (old new : Book) (live idle : ℕ) (was is : Store E O P S L) (spare spare_after : ℕ)
    → NodeKeeps engines may_ask tells (setting_with begin at programs old.births live idle) old was spare → new.births ≡ old.births
    → StandsFor engines (setting_with begin at programs old.births live idle) new (told new) (held_of is) → StreamsStand tells (told new) (kept_of is) → StoreKeeps is
    → is.came.items ≡ [] → is.giver ≡ None → length is.places.items ≡ length was.places.items
    → spare_after + kept_places is.out is.over ≤ new.entry_room → spare_after ≤ 3 → (2 ≤ spare_after → is.streams + is.out + 1 ≤ vec_capacity is.closed)
    → NodeKeeps engines may_ask tells (setting_with begin at programs new.births live idle) new is spare_after
keeps_after begin at programs old new live idle was is spare spare_after keeps births stands streams store came giver places room few turn =
    keeps_at begin at programs old.births new.births live idle new is spare_after births (record {
      stands = stands;
      streams = streams;
      keeps = store;
      came = came;
      giver = giver;
      rows = keeps.rows;
      spare_room = room;
      spare_bound = few;
      turn_room = turn;
      alone = places ∙ keeps.alone;
    })

-- WHO IS WITH A WORKER

-- a process that a worker has stands so, and one that is doomed too
pub away_slot : {E P : Type 0} (engines : Meaning E P) (programs : List P) (p : Process) (slot : Slot E) (worker : ℕ) → SlotFits engines programs p slot → p.stage ≡ Out worker → slot ≡ Away worker
away_slot engines programs p Nobody worker fits out = let h : Unborn ≡ Out worker = ap (λ q. q.stage) (sym fits) ∙ out in let none : ⊥ = cc in absurd none
away_slot engines programs p (Home seat) worker fits out = let h : Ready ≡ Out worker = sym fits.stage ∙ out in let none : ⊥ = cc in absurd none
away_slot engines programs p (Asleep seat ask) worker fits out = let h = sym fits.stage ∙ out in let none : ⊥ = cc in absurd none
away_slot engines programs p (Giving seat ask) worker fits out = let h : Ready ≡ Out worker = sym fits.stage ∙ out in let none : ⊥ = cc in absurd none
away_slot engines programs p (Away other) worker fits out = let h : Out other ≡ Out worker = sym fits ∙ out in cc
away_slot engines programs p (Fated other end) worker fits out = let h : Doomed other end ≡ Out worker = sym fits ∙ out in let none : ⊥ = cc in absurd none
away_slot engines programs p Gone worker fits out = let h = ap is_ended (sym out) ∙ fits.ended in let none : ⊥ = cc in absurd none

-- ROOM

-- a Give and an entry have a place
pub entry_place : {E P : Type 0} {engines : Meaning E P} {setting : Setting P} (book : Book) (held : Held E) → StandsFor engines setting book (told book) held → 1 ≤ held.out → 0 < book.entry_room
entry_place book held stands out = let r = stands.room in omega (arith, out, r)

-- each process that hasn't ended has room for its end
pub end_room : {E O P S L : Type 0} {engines : Meaning E P} {setting : Setting P} (book : Book) (store : Store E O P S L) → StandsFor engines setting book (told book) (held_of store) → HasEndRoom store book
end_room book store stands =
    let room = stands.mirrors.room in
    let drawn = stands.mirrors.drawn in
    let numbers = stands.mirrors.numbers in
    let births = stands.run.legal.births in
    omega (arith, room, drawn, numbers, births)

pub end_room_added : {E O P S L : Type 0} (old added : Book) (store : Store E O P S L) (entry : Entry) → HasEndRoom store old → AddsEntry old added entry → HasEndRoom store added
end_room_added old added store entry room adds = rw (adds.ends, adds.births) room

-- A GIVE

-- what a Give makes allowed, and what makes a node stand again
abbrev pub AllowedLaw : {E P : Type 0} → Meaning E P → Type 0
AllowedLaw {E = E} {P = P} engines =
    (setting : Setting P) (old : Book) (more : List Birth) (pid worker : ℕ) (brought : Brought E) →
    TurnFits engines setting old.births (told old) worker pid brought → HasBirth (Some (terms_of setting)) (old.births ++ more) (told old) (give_of worker pid brought) →
    Allowed (Some (terms_of setting)) (old.births ++ more) (told old) (entry_of worker pid brought brought.side)
    × TurnIsRun setting (told old) (deed_of (entry_of worker pid brought brought.side))

abbrev pub EntryLaw : {E P : Type 0} → Meaning E P → Type 0
EntryLaw {E = E} {P = P} engines =
    (setting : Setting P) (old new : Book) (was is : Held E) (v : World) (entry : Entry) (births : List Birth) (more : List EndMemory) →
    StandsFor engines setting old (told old) was → Records old new entry births more → Allowed (Some (terms_of setting)) new.births (told old) entry →
    TurnIsRun setting (told old) (deed_of entry) → happened new.births (told old) (deed_of entry) ≡ v → Mirrors engines setting v is new.ends → is.births ≡ length new.births →
    Requeued was.ready (giver_of (deed_of entry)) is → is.row ≡ row_after (told old) (deed_of entry) → ((pid : ℕ) → is_giving (is.slots pid) ≡ false) →
    kept_places is.out is.over ≤ new.entry_room → StandsFor engines setting new (told new) is

-- a node that has made the steps of a Give, recorded as it came, stands for its journal
pub give_stands : {E P : Type 0} {engines : Meaning E P} {setting : Setting P} → AllowedLaw engines → EntryLaw engines → (old new : Book) (was is : Held E) (worker pid : ℕ) (brought : Brought E)
    (ends : List EndMemory) → StandsFor engines setting old (told old) was → TurnFits engines setting old.births (told old) worker pid brought
    → HasBirth (Some (terms_of setting)) old.births (told old) (give_of worker pid brought) → Records old new (entry_of worker pid brought brought.side) [] ends
    → Mirrors engines setting (happened new.births (told old) (deed_of (entry_of worker pid brought brought.side))) is new.ends → is.births ≡ was.births
    → Requeued was.ready (giver_of (deed_of (entry_of worker pid brought brought.side))) is → is.row ≡ row_after (told old) (deed_of (entry_of worker pid brought brought.side))
    → ((q : ℕ) → is_giving (is.slots q) ≡ false) → kept_places is.out is.over ≤ new.entry_room → StandsFor engines setting new (told new) is
give_stands {setting = setting} allowed_law entry_law old new was is worker pid brought ends stands fits birth records mirrors births queue row idle room =
    let entry = entry_of worker pid brought brought.side in
    let same : new.births ≡ old.births = births_stay old new entry ends records in
    let allowed = allowed_law setting old [] pid worker brought fits
    (subst (λ (bs : List Birth). HasBirth (Some (terms_of setting)) bs (told old) (give_of worker pid brought)) (sym (append-nil old.births)) birth) in
    let counted : is.births ≡ length new.births = births ∙ sym stands.mirrors.births ∙ sym stands.run.legal.births ∙ ap (λ (bs : List Birth). length bs) (sym same) in
    entry_law setting old new was is (happened new.births (told old) (deed_of entry)) entry [] ends stands records
    (subst (λ (bs : List Birth). Allowed (Some (terms_of setting)) bs (told old) entry) (append-nil old.births ∙ sym same) allowed.0)
    allowed.1 refl mirrors counted queue row idle room

-- the row changes nothing of what is mirrored, nor does the ready list
pub mirrors_settled : {E O P S L : Type 0} (engines : Meaning E P) (setting : Setting P) (w : World) (mid rowed is : Store E O P S L) (held : Held E) (row : ℕ) (ends : List EndMemory)
    → Becomes mid held → rowed ≡ record mid { row = row } → Becomes is (held_of rowed) → Mirrors engines setting w held ends → Mirrors engines setting w (held_of is) ends
mirrors_settled {E = E} engines setting w mid rowed is held row ends becomes rows settles m =
    mirrors_becomes engines setting w is (held_of rowed) ends settles
    (subst (λ (s : Store _ _ _ _ _). Mirrors engines setting w (held_of s) ends) (sym rows) (with_row (held_of mid) row (mirrors_becomes engines setting w mid held ends becomes m)))
  where
    with_row : {E P : Type 0} {engines : Meaning E P} {setting : Setting P} {w : World} {ends : List EndMemory} (h : Held E) (row : ℕ) → Mirrors engines setting w h ends
        → Mirrors engines setting w (record h { row = row }) ends
    with_row h row m = record {
      order = m.order;
      unmet = m.unmet;
      programs = m.programs;
      slots = m.slots;
      mail = m.mail;
      deadlines = m.deadlines;
      names = m.names;
      numbers = m.numbers;
      births = m.births;
      drawn = m.drawn;
      unended = m.unended;
      out = m.out;
      sends = m.sends;
      time = m.time;
      over = m.over;
      streams = m.streams;
      closed = m.closed;
      ended = m.ended;
      memories = m.memories;
      room = m.room;
    }

-- it was taken back, as contracts show it
pub given_back : {E O P S L : Type 0} {engines : Meaning E P} {may_ask : P → ℕ → Type 0} {tells : Told S} (begin : P → Start → Option StartRefusal)
    (at : P → Start → List Call → ℕ → Option Standing) (programs : List P) (old new : Book) (live idle : ℕ) (was is : Store E O P S L) (spare : ℕ) (worker pid : ℕ) (brought : Brought E)
    (side : Side) (ends : List EndMemory)
    → NodeKeeps engines may_ask tells (setting_with begin at programs new.births live idle) new is spare
    → ∥ (side ≡ brought.side) ⊎ ((brought.side ≡ SideIs.Nothing) × (side ≡ SideIs.NoMemory)) ∥₁ → Records old new (entry_of worker pid brought side) [] ends
    → IsGivenBack (setting_with begin at programs new.births live idle) tells
    (seen programs old live idle spare (map hands_at was.places.items) (map streams_of was.mail.items) was.closed.items)
    (seen programs new live idle spare (map hands_at is.places.items) (map streams_of is.mail.items) is.closed.items) worker pid brought
given_back {tells = tells} begin at programs old new live idle was is spare worker pid brought side ends keeps how records = record {
  same = record { programs = refl; live = refl; idle = refl; births = births_stay old new (entry_of worker pid brought side) ends records };
  given = (side, how, (ends, records_shown old new (entry_of worker pid brought side) ends records));
  spare = omega arith;
  streams = keeps_streams tells programs new live idle spare is keeps.stands keeps.streams;
  run = keeps.stands.run;
}
