use Rattle.std.proofs.Common.{◌≡◌, ◌≢◌, ◌<◌, ◌≤◌, ℕ, ◌+◌, List, [], ◌∷◌, ◌++◌, length, All, Contains, Option, Some, None, IfSome, Bool, true, false, cond, slice_get, slice_set, map, length-set, length-append, append-nil}
use Rattle.std.proofs.Common.{refl, arith, sym, ◌∙◌, ap, subst, ◌⊎◌, inl, inr}
use Rattle.std.proofs.lemmas.List.{map-append, length-map}
use Rattle.std.proofs.lemmas.List.Elements.{All-set}
use Rattle.std.specs.FinMap.{get, len}
use Rattle.tagged_mailbox.specs.Mail.{Mail}
use Rattle.resource_table.specs.Handles.{Handle, numbers_of}
use Rattle.resource_table.specs.Steps.{Told, IsShut, Sheds}
use Rattle.resource_table.proofs.Closings.{sheds_length}
use Rattle.message_scratch.specs.Messages.{handles_in}
use Rattle.std.specs.List.{flat_map}
use Rattle.host_port.specs.declared.ask.Ask.{Ask}
use Rattle.host_port.specs.declared.call.Call.{Call}
use Rattle.host_port.specs.declared.start.Start.{Start}
use Rattle.host_port.specs.declared.start.StartRefusal.{StartRefusal}
use Rattle.host_port.specs.Standing.{Standing}
use Rattle.world_rules.specs.declared.entry.Entry.{Entry}
use Rattle.world_rules.specs.declared.entry.Side.{Side}
use Rattle.world_rules.specs.declared.entry.Side.TheVariants as SideIs
use Rattle.world_rules.specs.declared.halt.End.{End}
use Rattle.world_rules.specs.declared.halt.Halt.{Halt}
use Rattle.world_rules.specs.declared.life.Ended.{Ended as EndMemory}
use Rattle.world_rules.specs.Book.{Book, AddsEntry, AddsEnd}
use Rattle.world_rules.specs.Mail.{MailItem, mail_handles}
use Rattle.world_rules.specs.Sound.{IsSound}
use Rattle.world_rules.specs.World.{World, Process, Out, Doomed}
use Rattle.world_rules.specs.Told.{told, IsTold}
use Rattle.world_rules.specs.Allowed.{IsWith}
use Rattle.world_rules.specs.Lives.{Setting}
use Rattle.node_state.specs.Seats.{Meaning, Seat, part_handles}
use Rattle.node_state.specs.Slots.{Slot, Home, Asleep, Away, Fated, Gone}
use Rattle.node_state.specs.Held.{Held, StandsFor, kept_places}
use Rattle.node_state.specs.Fits.{Brought, TurnFits, ShowMemory, IsLastOf, give_of, entry_of}
use Rattle.node_state.specs.Streaming.{BroughtStreams, Kept, StreamsFit, StreamsStand, AreOwned, HandsOn, streamed_after, arrived_as}
use Rattle.node_state.specs.Changes.{Records, GivesBack, Counts, Closes, ChangesOne}
use Rattle.node_laws.proofs.Backs.{one-out, slot-with, going-out, over-doomed}
use Rattle.node_laws.proofs.Rooms.{ends-room-with}
use Rattle.node_laws.proofs.Programs.{run-told}
use Rattle.node_laws.proofs.Ticks.{first-timed, timed-asleep}
use Rattle.host_calls.specs.declared.proc.Proc.{Proc}
use Rattle.host_calls.specs.Shown.{seat_of, hands_of, shown_part, brought_by}
use Rattle.process_table.specs.Letters.{Letter}
use Rattle.process_table.specs.declared.place.Place.{Place}
use Rattle.process_table.specs.declared.place.Place.TheVariants as PlaceIs
use Rattle.process_table.specs.Seen.{Seen, seen}
use Rattle.process_table.specs.Holds.{Fields, NodeKeeps, HasShedAll, IsVacant, held_of, kept_of, slot_of, slot_in, mail_in, letter_of, letters_in, hands_at, streams_of, streams_at}
use Rattle.process_table.specs.Gives.{ComesBack, IsGivenBack}
use Rattle.process_table.specs.Takes.{RecordsGive, IsFatedSlot}
use Rattle.process_table.proofs.Holding.{MailIs, DeadlineIs, changes, hands-set, hands-other, mail-same, mail-set, deadline-same, no-deadlines, setting_with, keeps-at}
use Rattle.process_table.proofs.Owning.{keeps-owned, keeps-streams, numbers-hands, numbers-mail-at}

-- A process is given back.

-- an entry that brings no end
pub records-alone : (old new : Book) (entry : Entry) → AddsEntry old new entry → Records old new entry []
records-alone old new entry adds = record {
  entries = adds.entries;
  births = adds.births;
  ends_are = adds.ends ∙ sym (append-nil old.ends);
  entry_room = adds.entry_room;
}

-- the Give and the end that it brought
pub records-end : (old added new : Book) (entry : Entry) (memory : EndMemory) → AddsEntry old added entry → AddsEnd added new memory → Records old new entry (memory ∷ [])
records-end old added new entry memory adds ends = record {
  entries = ends.entries ∙ adds.entries;
  births = ends.births ∙ adds.births;
  ends_are = ends.ends ∙ ap (λ (xs : List EndMemory). xs ++ memory ∷ []) adds.ends;
  entry_room = ap (λ (n : ℕ). n + 1) ends.entry_room ∙ adds.entry_room;
}

-- WHO IS OUT

-- what is known of a process that a worker has: it is process 1, it alone is out, and it has a place and a mailbox
pub record IsOut {E O P S L : Type 0} (f : Fields E O P S L) (pid : ℕ) : Type 0 where
  pub one : pid ≡ 1
  pub out : f.out ≡ 1
  pub within : pid < length f.places
  pub boxed : pid < length f.mail
  pub ready : length f.queue.ready < f.queue.room

pub is-out : {E O P S L : Type 0} {engines : Meaning E P} {may_ask : P → ℕ → Type 0} {tells : Told S} {setting : Setting P} (book : Book) (f : Fields E O P S L) (pid worker : ℕ)
    → NodeKeeps engines may_ask tells setting book f → IsWith ((told book).process pid).stage worker → IsOut f pid
is-out book f pid worker keeps is_with =
    let one = one-out book (held_of f) pid worker keeps.stands is_with in
    let p = one.0 in
    let o = one.1 in
    let h = keeps.places in
    let m = keeps.mail in
    let r = keeps.ready_room in
    record { one = p; out = o; within = omega (arith, p, h); boxed = omega (arith, p, m); ready = omega (arith, o) }

-- its Give has a place that was kept for it
pub give-room : {E O P S L : Type 0} {engines : Meaning E P} {may_ask : P → ℕ → Type 0} {tells : Told S} {setting : Setting P} (book : Book) (f : Fields E O P S L) (pid worker : ℕ)
    → NodeKeeps engines may_ask tells setting book f → IsWith ((told book).process pid).stage worker → 0 < book.entry_room
give-room book f pid worker keeps is_with =
    let o = (is-out book f pid worker keeps is_with).out in
    let r = keeps.stands.room in
    omega (arith, o)

-- and so has its end
pub end-room : {E O P S L : Type 0} {engines : Meaning E P} {may_ask : P → ℕ → Type 0} {tells : Told S} {setting : Setting P} (book added : Book) (f : Fields E O P S L) (pid worker : ℕ) (entry : Entry)
    → NodeKeeps engines may_ask tells setting book f → IsWith ((told book).process pid).stage worker → AddsEntry book added entry → length added.ends < length added.births
end-room book added f pid worker entry keeps is_with adds = rw (adds.ends, adds.births) (ends-room-with book (held_of f) pid worker keeps.stands is_with)

-- DEADLINES

none-unless : (o : Option ℕ) → ((d : ℕ) → o ≡ Some d → ⊥) → o ≡ None
none-unless None h = refl
none-unless (Some d) h = absurd (h d refl)

away_asleep : {E : Type 0} (worker : ℕ) (seat : Seat E) (ask : Ask) (slot : Slot E) → slot ≡ Away worker → slot ≡ Asleep seat ask → ⊥
away_asleep worker seat ask slot away asleep = let e : Away worker ≡ Asleep seat ask = sym away ∙ asleep in cc

fated_asleep : {E : Type 0} (worker : ℕ) (end : End) (seat : Seat E) (ask : Ask) (slot : Slot E) → slot ≡ Fated worker end → slot ≡ Asleep seat ask → ⊥
fated_asleep worker end seat ask slot fated asleep = let e : Fated worker end ≡ Asleep seat ask = sym fated ∙ asleep in cc

-- each world that a journal tells is sound
abbrev pub ToldIsSound : Type 0
ToldIsSound = (book : Book) → IsTold book → IsSound (told book)

-- while process 1 isn't asleep nobody has a deadline
pub none-timed : {E P : Type 0} {engines : Meaning E P} {setting : Setting P} → ToldIsSound → (book : Book) (held : Held E) → StandsFor engines setting book (told book) held
    → ((seat : Seat E) (ask : Ask) → held.slots 1 ≡ Asleep seat ask → ⊥) → (q : ℕ) → held.deadlines q ≡ None
none-timed {setting = setting} sounds book held stands awake q =
    let sound : IsSound (told book) = sounds book (run-told setting book stands.run) in
    none-unless (held.deadlines q) (λ d is.
    let one : q ≡ 1 = first-timed book held q d sound stands is in
    let asleep = timed-asleep book held d sound stands (subst (λ (n : ℕ). held.deadlines n ≡ Some d) one is) in
    awake asleep.0 asleep.1 asleep.2)

-- what is known of a process that is out and not doomed
pub record IsGiven {E O P S L : Type 0} (f : Fields E O P S L) (pid worker : ℕ) : Type 0 where
  pub out : IsOut f pid
  pub going : f.over ≡ false
  pub away : (held_of f).slots pid ≡ Away worker
  pub untimed : (q : ℕ) → get f.queue.deadlines q ≡ None
  pub no_deadlines : len f.queue.deadlines ≡ 0

by-slot : {E : Type 0} (slot : Slot E) (p : Process) (worker : ℕ) → p.stage ≡ Out worker
    → ((slot ≡ Away worker) × (p.stage ≡ Out worker)) ⊎ ((end : End) × (slot ≡ Fated worker end) × (p.stage ≡ Doomed worker end)) → slot ≡ Away worker
by-slot slot p worker out (inl away) = away.0
by-slot slot p worker out (inr doomed) = let e : Out worker ≡ Doomed worker doomed.0 = sym out ∙ doomed.2 in let h : ⊥ = cc in absurd h

pub is-given : {E O P S L : Type 0} {engines : Meaning E P} {may_ask : P → ℕ → Type 0} {tells : Told S} {setting : Setting P} → ToldIsSound → (book : Book) (f : Fields E O P S L) (pid worker : ℕ)
    → NodeKeeps engines may_ask tells setting book f → ((told book).process pid).stage ≡ Out worker → IsGiven f pid worker
is-given {engines = engines} {setting = setting} sounds book f pid worker keeps out =
    let is_with : IsWith ((told book).process pid).stage worker = rw out refl in
    let o = is-out book f pid worker keeps is_with in
    let away = by-slot ((held_of f).slots pid) ((told book).process pid) worker out
    (slot-with engines setting.programs ((told book).process pid) ((held_of f).slots pid) worker (keeps.stands.mirrors.slots pid) is_with) in
    let first : (held_of f).slots 1 ≡ Away worker = subst (λ (n : ℕ). (held_of f).slots n ≡ Away worker) o.one away in
    let untimed = none-timed sounds book (held_of f) keeps.stands (λ seat ask asleep. away_asleep worker seat ask ((held_of f).slots 1) first asleep) in
    record { out = o; going = going-out book (held_of f) pid worker keeps.stands out; away = away; untimed = untimed; no_deadlines = no-deadlines f.queue.deadlines untimed }

-- the place of a process that a worker has is vacant
vacant_slot : {E O P S L : Type 0} (place : Option (Place E O P S L)) (p : Process) (worker : ℕ)
    → ((slot_in place ≡ Away worker) × (p.stage ≡ Out worker)) ⊎ ((end : End) × (slot_in place ≡ Fated worker end) × (p.stage ≡ Doomed worker end)) → IfSome place IsVacant
vacant_slot None p worker with_it = tt
vacant_slot (Some PlaceIs.Nobody) p worker with_it = tt
vacant_slot (Some (PlaceIs.Home proc)) p worker (inl away) = let e = away.0 in let h : ⊥ = cc in absurd h
vacant_slot (Some (PlaceIs.Home proc)) p worker (inr doomed) = let e = doomed.1 in let h : ⊥ = cc in absurd h
vacant_slot (Some (PlaceIs.Asleep proc ask)) p worker (inl away) = let e = away.0 in let h : ⊥ = cc in absurd h
vacant_slot (Some (PlaceIs.Asleep proc ask)) p worker (inr doomed) = let e = doomed.1 in let h : ⊥ = cc in absurd h
vacant_slot (Some (PlaceIs.Away other)) p worker with_it = tt
vacant_slot (Some (PlaceIs.Fated other end)) p worker with_it = tt
vacant_slot (Some PlaceIs.Gone) p worker with_it = tt

pub is-vacant : {E O P S L : Type 0} {engines : Meaning E P} {may_ask : P → ℕ → Type 0} {tells : Told S} {setting : Setting P} (book : Book) (f : Fields E O P S L) (pid worker : ℕ)
    → NodeKeeps engines may_ask tells setting book f → IsWith ((told book).process pid).stage worker → IfSome (slice_get f.places pid) IsVacant
is-vacant {engines = engines} {setting = setting} book f pid worker keeps is_with =
    vacant_slot (slice_get f.places pid) ((told book).process pid) worker
    (slot-with engines setting.programs ((told book).process pid) ((held_of f).slots pid) worker (keeps.stands.mirrors.slots pid) is_with)

-- ROOM AMONG THE CLOSED

-- what the law says of the streams that a process brings back, and of those of its mailbox
abbrev pub RoomLaw : {E P : Type 0} → Meaning E P → Type 0
RoomLaw {E = E} {P = P} engines =
    (setting : Setting P) (book : Book) (held : Held E) (worker pid : ℕ) (brought : Brought E) →
    StandsFor engines setting book (told book) held → TurnFits engines setting book.births (told book) worker pid brought →
    length (told book).closed + (length brought.shed + (length (part_handles brought.seat.part) + length (mail_handles ((told book).process pid).mail))) ≤ (told book).streams

pub record HasRoom {E O P S L : Type 0} (f : Fields E O P S L) (pid : ℕ) (proc : Proc E O P S L) : Type 0 where
  pub room : length f.closed + (length proc.shed + (length (hands_of proc) + length (streams_at (slice_get f.mail pid)))) ≤ f.streams
  pub closed_room : f.streams + f.out ≤ f.closed_room

pub has-room : {E O P S L : Type 0} {engines : Meaning E P} {may_ask : P → ℕ → Type 0} {tells : Told S} {setting : Setting P} → RoomLaw engines → (book : Book) (f : Fields E O P S L) (worker pid : ℕ)
    (proc : Proc E O P S L) (calls : List Call) (halt : Halt) (side : Side)
    → NodeKeeps engines may_ask tells setting book f → TurnFits engines setting book.births (told book) worker pid (brought_by proc calls halt side) → HasRoom f pid proc
has-room {setting = setting} law book f worker pid proc calls halt side keeps fits =
    let l = law setting book (held_of f) worker pid (brought_by proc calls halt side) keeps.stands fits in
    let closed : length (told book).closed ≡ length f.closed = ap (λ ns. length ns) keeps.stands.mirrors.closed ∙ length-map f.closed (λ h. h.number) in
    let shed : length (numbers_of proc.shed) ≡ length proc.shed = length-map proc.shed (λ h. h.number) in
    let hands : length (part_handles (shown_part proc)) ≡ length (hands_of proc) = ap (λ ns. length ns) (sym (numbers-hands proc)) ∙ length-map (hands_of proc) (λ h. h.number) in
    let mail : length (mail_handles ((told book).process pid).mail) ≡ length (streams_at (slice_get f.mail pid)) =
    ap (λ ns. length ns) (ap mail_handles (keeps.stands.mirrors.mail pid) ∙ sym (numbers-mail-at (slice_get f.mail pid))) ∙ length-map (streams_at (slice_get f.mail pid)) (λ h. h.number) in
    let drawn = keeps.stands.mirrors.streams in
    record {
      room = room_is (length (told book).closed) (length f.closed) (length (numbers_of proc.shed)) (length proc.shed) (length (part_handles (shown_part proc))) (length (hands_of proc))
          (length (mail_handles ((told book).process pid).mail)) (length (streams_at (slice_get f.mail pid))) (told book).streams f.streams closed shed hands mail drawn l;
      closed_room = keeps.closed_room;
    }
  where
    room_is : (a a' b b' c c' d d' n n' : ℕ) → a ≡ a' → b ≡ b' → c ≡ c' → d ≡ d' → n ≡ n' → a + (b + (c + d)) ≤ n → a' + (b' + (c' + d')) ≤ n'
    room_is a a' b b' c c' d d' n n' ea eb ec ed en h = omega (arith, ea, eb, ec, ed, en, h)

-- the room for what a process has in hand, for its mailbox, and for one stream that was opened
pub room-proc : {E O P S L : Type 0} (f : Fields E O P S L) (pid : ℕ) (proc : Proc E O P S L) (one : List (Handle S)) (len cap : ℕ) → HasRoom f pid proc → one ≡ f.closed ++ proc.shed → len ≡ length one
    → cap ≡ f.closed_room → len + length (hands_of proc) ≤ cap
room-proc f pid proc one len cap has is len_is cap_is =
    let room = has.room in
    let closed = has.closed_room in
    let whole = ap (λ hs. length hs) is ∙ length-append f.closed proc.shed in
    omega (arith, room, closed, whole, len_is, cap_is)

pub room-mail : {E O P S L : Type 0} (tells : Told S) (f : Fields E O P S L) (pid : ℕ) (proc : Proc E O P S L) (box : Mail (Letter S)) (one two : List (Handle S)) (len cap : ℕ) → HasRoom f pid proc
    → streams_at (slice_get f.mail pid) ≡ streams_of box → one ≡ f.closed ++ proc.shed → Sheds tells (hands_of proc) one two → len ≡ length two → cap ≡ f.closed_room → len + length (streams_of box) ≤ cap
room-mail tells f pid proc box one two len cap has box_is is sheds len_is cap_is =
    let room = has.room in
    let closed = has.closed_room in
    let whole = ap (λ hs. length hs) is ∙ length-append f.closed proc.shed in
    let more = sheds_length tells (hands_of proc) one two sheds in
    let mail = ap (λ hs. length hs) box_is in
    omega (arith, room, closed, whole, more, mail, len_is, cap_is)

pub room-arrived : {E O P S L : Type 0} (f : Fields E O P S L) (pid : ℕ) (proc : Proc E O P S L) (one : List (Handle S)) (len cap : ℕ) → HasRoom f pid proc → f.out ≡ 1 → one ≡ f.closed ++ proc.shed
    → len ≡ length one → cap ≡ f.closed_room → len + 1 ≤ cap
room-arrived f pid proc one len cap has out is len_is cap_is =
    let room = has.room in
    let closed = has.closed_room in
    let whole = ap (λ hs. length hs) is ∙ length-append f.closed proc.shed in
    omega (arith, room, closed, out, whole, len_is, cap_is)

-- after an opened one there is still the room for what the process has in hand
pub room-doomed : {E O P S L : Type 0} (tells : Told S) (f : Fields E O P S L) (pid : ℕ) (proc : Proc E O P S L) (number : ℕ) (arrived : Option S) (one two : List (Handle S)) (len cap : ℕ) → HasRoom f pid proc
    → f.out ≡ 1 → one ≡ f.closed ++ proc.shed → Sheds tells (arrived_as number arrived) one two → len ≡ length two → cap ≡ f.closed_room → len + length (hands_of proc) ≤ cap
room-doomed tells f pid proc number arrived one two len cap has out is sheds len_is cap_is =
    let room = has.room in
    let closed = has.closed_room in
    let whole = ap (λ hs. length hs) is ∙ length-append f.closed proc.shed in
    let more = sheds_length tells (arrived_as number arrived) one two sheds in
    let few = at_most_one number arrived in
    omega (arith, room, closed, out, whole, more, few, len_is, cap_is)
  where
    at_most_one : {S : Type 0} (n : ℕ) (o : Option S) → length (arrived_as n o) ≤ 1
    at_most_one n None = omega arith
    at_most_one n (Some s) = omega arith

-- the mailbox of one number is empty
pub emptied : {S : Type 0} (mail : List (Mail (Letter S))) (pid : ℕ) (box : Mail (Letter S)) → pid < length mail → box.items ≡ [] → MailIs mail (slice_set mail pid box) pid [] []
emptied mail pid box within empty =
    let set = mail-set mail (slice_set mail pid box) pid box within refl in
    record {
      here = set.here ∙ ap (λ xs. map letter_of xs) empty;
      streams_here = set.streams_here ∙ ap (λ xs. flat_map (λ letter. handles_in letter.message.slots) xs) empty;
      others = set.others;
      other_streams = set.other_streams;
    }

-- GIVEN BACK, by any law: the process's place is this, its mailbox and its deadline are these, it is ready or not, so many stream numbers were drawn, and these streams were closed besides
pub record Comes {E O P S L : Type 0} (f g : Fields E O P S L) (pid : ℕ) (place : Place E O P S L) (is_ready : Bool) (mail : List MailItem) (in_mail : List (Handle S)) (deadline : Option ℕ)
    (streams : ℕ) (more : List (Handle S)) : Type 0 where
  pub placed : g.places ≡ slice_set f.places pid place
  pub mails : MailIs f.mail g.mail pid mail in_mail
  pub mail_length : length g.mail ≡ length f.mail
  pub deadlines : DeadlineIs f.queue.deadlines g.queue.deadlines pid deadline
  pub behind : g.queue.ready ≡ f.queue.ready ++ cond is_ready (pid ∷ []) []
  pub room : g.queue.room ≡ f.queue.room
  pub out : f.out ≡ 1 → g.out ≡ 0
  pub streams_are : g.streams ≡ streams
  pub streams_few : streams ≤ f.streams + 1
  pub closed : g.closed ≡ f.closed ++ more
  pub closed_room : g.closed_room ≡ f.closed_room
  pub shed : g.shed ≡ []
  pub no_shed : HasShedAll place
  pub spare : g.spare ≡ f.spare
  pub over : cond g.over 0 1 ≤ cond f.over 0 1

-- so few are ready and out after it
behind-fits : {E O P S L : Type 0} (f g : Fields E O P S L) (pid : ℕ) (is_ready : Bool) → g.queue.ready ≡ f.queue.ready ++ cond is_ready (pid ∷ []) [] → f.out ≡ 1 → g.out ≡ 0
    → length g.queue.ready + g.out ≤ length f.queue.ready + f.out
behind-fits f g pid true behind one none = let l = ap (λ (xs : List ℕ). length xs) behind ∙ length-append f.queue.ready (pid ∷ []) in omega (arith, l, one, none)
behind-fits f g pid false behind one none = let l = ap (λ (xs : List ℕ). length xs) (behind ∙ append-nil f.queue.ready) in omega (arith, l, one, none)

module _ {E O P S L : Type 0} {f g : Fields E O P S L} {pid : ℕ} {place : Place E O P S L} {is_ready : Bool} {mail : List MailItem} {in_mail : List (Handle S)} {deadline : Option ℕ} {streams : ℕ}
    {more : List (Handle S)} where
  pub gives-back : IsOut f pid → Comes f g pid place is_ready mail in_mail deadline streams more → GivesBack (held_of f) (held_of g) pid (slot_of place) is_ready mail deadline
  gives-back out comes =
      let gone = out.out in
      let none = comes.out gone in
      record {
        change = changes f g pid place mail in_mail deadline out.within comes.placed comes.mails comes.deadlines;
        ready = comes.behind;
        out = omega (arith, gone, none);
      }

  pub closes : Comes f g pid place is_ready mail in_mail deadline streams more → Closes (held_of f) (held_of g) streams (numbers_of more)
  closes comes = record { streams_are = comes.streams_are; closed_are = ap (λ hs. numbers_of hs) comes.closed ∙ map-append (λ h. h.number) f.closed more }

  -- the streams are handed on, where those of the place and of the mailbox are from the pool, and what is closed besides is from the shed, or from the pool and shut
  pub hands-on : (tells : Told S) (pool shed : List (Handle S)) → IsOut f pid → Comes f g pid place is_ready mail in_mail deadline streams more
      → ((handle : Handle S) → Contains (hands_at place ++ in_mail) handle → Contains pool handle)
      → ((handle : Handle S) → Contains more handle → ∥ (Contains shed handle) ⊎ ((before : Handle S) × Contains pool before × IsShut tells before handle) ∥₁)
      → HandsOn tells (kept_of f.places f.mail f.closed) (kept_of g.places g.mail g.closed) pid pool shed
  hands-on tells pool shed out comes from_pool shut =
      let here = hands-set f.places g.places pid place out.within comes.placed in
      record {
        in_hand = λ handle has. from_pool handle (subst (λ hs. Contains hs handle) (ap (λ hs. hs ++ (kept_of g.places g.mail g.closed).mail pid) here ∙ ap (λ hs. hands_at place ++ hs) comes.mails.streams_here) has);
        more = more;
        closed = comes.closed;
        shut = shut;
        other_hands = λ q different. hands-other f.places g.places pid place q different comes.placed;
        other_mail = comes.mails.other_streams;
      }

-- what the law says of streams at a Give
abbrev pub StreamsLaw : {E P S : Type 0} → Meaning E P → Told S → Type 0
StreamsLaw {E = E} {P = P} {S = S} engines tells =
    (setting : Setting P) (old new : Book) (held after : Held E) (was is : Kept S) (worker pid : ℕ) (brought : Brought E) (streams : BroughtStreams S) (side : Side) (ends : List EndMemory) →
    StandsFor engines setting old (told old) held → TurnFits engines setting old.births (told old) worker pid brought →
    ∥ (side ≡ brought.side) ⊎ ((brought.side ≡ SideIs.Nothing) × (side ≡ SideIs.NoMemory)) ∥₁ →
    Records old new (entry_of worker pid brought side) ends →
    StandsFor engines setting new (told new) after →
    StreamsStand tells (told old) was → AreOwned (told old) was →
    StreamsFit tells (streamed_after ((told old).process pid) (give_of worker pid brought) (told old).streamed) brought.side streams →
    HandsOn tells was is pid (streams.hands ++ was.mail pid ++ arrived_as (told old).streams streams.arrived) streams.shed →
    StreamsStand tells (told new) is

-- what comes back fits
pub record Fitting {E P S : Type 0} (engines : Meaning E P) (tells : Told S) (setting : Setting P) (old : Book) (worker pid : ℕ) (brought : Brought E) (came : BroughtStreams S) : Type 0 where
  pub fits : TurnFits engines setting old.births (told old) worker pid brought
  pub streams : StreamsFit tells (streamed_after ((told old).process pid) (give_of worker pid brought) (told old).streamed) brought.side came

pub fitting-of : {E P S : Type 0} {engines : Meaning E P} {tells : Told S} {setting : Setting P} (node : Seen P S) (worker pid : ℕ) (brought : Brought E) (streams : BroughtStreams S)
    → ComesBack engines setting tells node worker pid brought streams → Fitting engines tells setting node.book worker pid brought streams
fitting-of node worker pid brought streams comes = record { fits = comes.fits; streams = comes.came }

spare_fits : (s s' o o' v v' old new : ℕ) → s' ≡ s → o ≡ 1 → o' ≡ 0 → v' ≤ v → new + 1 ≡ old → s + (o + v) ≤ old → s' + (o' + v') ≤ new
spare_fits s s' o o' v v' old new same one none over room h = omega (arith, same, one, none, over, room, h)

-- what a node then keeps
pub comes-keeps : {E O P S L : Type 0} {engines : Meaning E P} {may_ask : P → ℕ → Type 0} {tells : Told S} {setting : Setting P} → StreamsLaw engines tells → (old new : Book) {f g : Fields E O P S L}
    {pid : ℕ} {place : Place E O P S L} {is_ready : Bool} {mail : List MailItem} {in_mail : List (Handle S)} {deadline : Option ℕ} {streams : ℕ} {more : List (Handle S)} (worker : ℕ)
    (brought : Brought E) (came : BroughtStreams S) (side : Side) (ends : List EndMemory)
    → NodeKeeps engines may_ask tells setting old f → IsOut f pid → Comes f g pid place is_ready mail in_mail deadline streams more
    → Fitting engines tells setting old worker pid brought came
    → ∥ (side ≡ brought.side) ⊎ ((brought.side ≡ SideIs.Nothing) × (side ≡ SideIs.NoMemory)) ∥₁
    → Records old new (entry_of worker pid brought side) ends
    → StandsFor engines setting new (told new) (held_of g)
    → HandsOn tells (kept_of f.places f.mail f.closed) (kept_of g.places g.mail g.closed) pid
    (came.hands ++ streams_at (slice_get f.mail pid) ++ arrived_as (told old).streams came.arrived) came.shed
    → NodeKeeps engines may_ask tells setting new g
comes-keeps {tells = tells} {setting = setting} law old new {f = f} {g = g} {pid = pid} {place = place} {is_ready = is_ready} worker brought came side ends keeps out comes fitting beside records
    stands handed = record {
      stands = stands;
      streams = law setting old new (held_of f) (held_of g) (kept_of f.places f.mail f.closed) (kept_of g.places g.mail g.closed) worker pid brought came side ends keeps.stands fitting.fits beside records
          stands keeps.streams (keeps-owned old f keeps) fitting.streams handed;
      places = ap (λ xs. length xs) comes.placed ∙ length-set f.places pid place ∙ keeps.places;
      mail = comes.mail_length ∙ keeps.mail;
      room = let r = keeps.room in let same = comes.room in omega (arith, same, r);
      ready_room = let r = keeps.ready_room in let same = comes.room in let few = behind-fits f g pid is_ready comes.behind out.out (comes.out out.out) in omega (arith, r, same, few);
      closed_room = let r = keeps.closed_room in let same = comes.closed_room in let few = comes.streams_few in let are = comes.streams_are in let one = out.out in let none = comes.out out.out in
          omega (arith, r, same, few, are, one, none);
      sheds = subst (λ xs. All HasShedAll xs) (sym comes.placed) (All-set HasShedAll f.places pid place comes.no_shed keeps.sheds);
      shed = comes.shed;
      rows = keeps.rows;
      spare_room = spare_fits f.spare g.spare f.out g.out (cond f.over 0 1) (cond g.over 0 1) old.entry_room new.entry_room comes.spare out.out (comes.out out.out) comes.over records.entry_room keeps.spare_room;
      spare_bound = let b = keeps.spare_bound in let same = comes.spare in omega (arith, b, same);
      turn_room = λ enough. let t = keeps.turn_room (let same = comes.spare in omega (arith, enough, same)) in let same = comes.closed_room in let few = comes.streams_few in let are = comes.streams_are in
          let one = out.out in let none = comes.out out.out in omega (arith, t, same, few, are, one, none);
    }

-- THE CONTRACT

pub given-back : {E O P S L : Type 0} {engines : Meaning E P} {may_ask : P → ℕ → Type 0} {tells : Told S} (begin : P → Start → Option StartRefusal) (at : P → Start → List Call → ℕ → Option Standing)
    (programs : List P) (old new : Book) (live idle : ℕ) (f g : Fields E O P S L) (worker pid : ℕ) (brought : Brought E) (side : Side) (ends : List EndMemory) {setting : Setting P}
    → NodeKeeps engines may_ask tells setting old f
    → NodeKeeps engines may_ask tells (setting_with begin at programs new.births live idle) new g → g.spare ≡ f.spare
    → ∥ (side ≡ brought.side) ⊎ ((brought.side ≡ SideIs.Nothing) × (side ≡ SideIs.NoMemory)) ∥₁
    → Records old new (entry_of worker pid brought side) ends
    → IsGivenBack (setting_with begin at programs new.births live idle) tells
    (seen programs old live idle f.spare (map hands_at f.places) (map streams_of f.mail) f.closed)
    (seen programs new live idle g.spare (map hands_at g.places) (map streams_of g.mail) g.closed) worker pid brought
given-back begin at programs old new live idle f g worker pid brought side ends was keeps spare beside records = record {
  same = record { programs = refl; live = refl; idle = refl; births = records.births };
  given = (side, beside, (ends, records));
  spare = omega (arith, spare);
  streams = keeps-streams programs new live idle g.spare g keeps;
  run = keeps.stands.run;
}

-- what is known of a process that is doomed
pub record IsDoomed {E O P S L : Type 0} (f : Fields E O P S L) (pid worker : ℕ) : Type 0 where
  pub out : IsOut f pid
  pub over : f.over ≡ true
  pub end : End
  pub fated : (held_of f).slots pid ≡ Fated worker end
  pub untimed : (q : ℕ) → get f.queue.deadlines q ≡ None

by-doom : {E : Type 0} (slot : Slot E) (p : Process) (worker other : ℕ) (end : End) → p.stage ≡ Doomed other end
    → ((slot ≡ Away worker) × (p.stage ≡ Out worker)) ⊎ ((end : End) × (slot ≡ Fated worker end) × (p.stage ≡ Doomed worker end)) → (end : End) × (slot ≡ Fated worker end)
by-doom slot p worker other end doomed (inl away) = let e : Doomed other end ≡ Out worker = sym doomed ∙ away.1 in let h : ⊥ = cc in absurd h
by-doom slot p worker other end doomed (inr fated) = (fated.0, fated.1)

pub is-doomed : {E O P S L : Type 0} {engines : Meaning E P} {may_ask : P → ℕ → Type 0} {tells : Told S} {setting : Setting P} → ToldIsSound → (book : Book) (f : Fields E O P S L) (pid worker : ℕ) (end : End)
    → NodeKeeps engines may_ask tells setting book f → ((told book).process pid).stage ≡ Doomed worker end → IsDoomed f pid worker
is-doomed {engines = engines} {setting = setting} sounds book f pid worker end keeps doomed =
    let is_with : IsWith ((told book).process pid).stage worker = rw doomed refl in
    let o = is-out book f pid worker keeps is_with in
    let fated = by-doom ((held_of f).slots pid) ((told book).process pid) worker worker end doomed
    (slot-with engines setting.programs ((told book).process pid) ((held_of f).slots pid) worker (keeps.stands.mirrors.slots pid) is_with) in
    let first : (held_of f).slots 1 ≡ Fated worker fated.0 = subst (λ (n : ℕ). (held_of f).slots n ≡ Fated worker fated.0) o.one fated.1 in
    record {
      out = o;
      over = over-doomed book (held_of f) pid worker end keeps.stands doomed;
      end = fated.0;
      fated = fated.1;
      untimed = none-timed sounds book (held_of f) keeps.stands (λ seat ask asleep. fated_asleep worker fated.0 seat ask ((held_of f).slots 1) first asleep);
    }

-- which of the two it is, its place says
pub fated-is : {E O P S L : Type 0} {engines : Meaning E P} {may_ask : P → ℕ → Type 0} {tells : Told S} {setting : Setting P} (book : Book) (f : Fields E O P S L) (pid worker : ℕ)
    → NodeKeeps engines may_ask tells setting book f → IsWith ((told book).process pid).stage worker
    → IsFatedSlot ((held_of f).slots pid) → (end : End) × (((told book).process pid).stage ≡ Doomed worker end)
fated-is {E = E} {engines = engines} {setting = setting} book f pid worker keeps is_with fated =
    by ((held_of f).slots pid) fated (slot-with engines setting.programs ((told book).process pid) ((held_of f).slots pid) worker (keeps.stands.mirrors.slots pid) is_with)
  where
    by : (slot : Slot E) → IsFatedSlot slot → ((slot ≡ Away worker) × (((told book).process pid).stage ≡ Out worker)) ⊎
        ((end : End) × (slot ≡ Fated worker end) × (((told book).process pid).stage ≡ Doomed worker end))
        → (end : End) × (((told book).process pid).stage ≡ Doomed worker end)
    by slot is (inl away) = absurd (rw away.0 at is)
    by slot is (inr doom) = (doom.0, doom.2)

pub unfated-is : {E O P S L : Type 0} {engines : Meaning E P} {may_ask : P → ℕ → Type 0} {tells : Told S} {setting : Setting P} (book : Book) (f : Fields E O P S L) (pid worker : ℕ)
    → NodeKeeps engines may_ask tells setting book f → IsWith ((told book).process pid).stage worker
    → (IsFatedSlot ((held_of f).slots pid) → ⊥) → ((told book).process pid).stage ≡ Out worker
unfated-is {E = E} {engines = engines} {setting = setting} book f pid worker keeps is_with unfated =
    by ((held_of f).slots pid) unfated (slot-with engines setting.programs ((told book).process pid) ((held_of f).slots pid) worker (keeps.stands.mirrors.slots pid) is_with)
  where
    by : (slot : Slot E) → (IsFatedSlot slot → ⊥) → ((slot ≡ Away worker) × (((told book).process pid).stage ≡ Out worker)) ⊎
        ((end : End) × (slot ≡ Fated worker end) × (((told book).process pid).stage ≡ Doomed worker end))
        → ((told book).process pid).stage ≡ Out worker
    by slot not (inl away) = away.1
    by slot not (inr doom) = absurd (not (rw doom.1 tt))
