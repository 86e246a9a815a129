use Rattle.std.proofs.Common.{◌≡◌, ℕ, ◌+◌, ◌-◌, ◌≤◌, List, [], ◌∷◌, ◌++◌, length, Option, Some, None, slice_get, vec_capacity, Contains}
use Rattle.std.proofs.Common.{refl, arith, sym, ◌∙◌, ap, subst, append_assoc, length-append, ◌⊎◌, inl, inr}
use Rattle.std.proofs.lemmas.List.{map-append}
use Rattle.std.proofs.lemmas.List.Elements.{Contains-append_cases, Contains-append_left, Contains-append_right}
use Rattle.std.specs.FinMap.{get}
use Rattle.link_signals.specs.Links.{Net}
use Rattle.name_registry.specs.Names.{unless}
use Rattle.resource_table.specs.Handles.{Handle, numbers_of}
use Rattle.resource_table.specs.Steps.{Told, Sheds}
use Rattle.resource_table.proofs.Closings.{sheds_more}
use Rattle.run_queue.specs.Schedule.{Schedule}
use Rattle.tagged_mailbox.specs.Mail.{Mail}
use Rattle.world_rules.specs.declared.halt.End.{End}
use Rattle.world_rules.specs.declared.life.Ended.{Ended as EndMemory}
use Rattle.world_rules.specs.Book.{Book, AddsEnd}
use Rattle.world_rules.specs.Mail.{mail_handles}
use Rattle.node_state.specs.Seats.{part_handles}
use Rattle.node_state.specs.Streaming.{Kept, arrived_as}
use Rattle.node_mirror.specs.Slots.{Slot, Nobody, Home, Asleep, Giving, Away, Fated, Gone}
use Rattle.node_mirror.specs.Steps.{back, gone}
use Rattle.host_calls.specs.Shown.{hands_of, shown_part}
use Rattle.host_calls.specs.declared.proc.Proc.{Proc}
use Rattle.process_store.specs.Letters.{ItemShown}
use Rattle.process_store.specs.declared.place.Place.{Place}
use Rattle.process_store.specs.declared.place.Place.TheVariants as PlaceIs
use Rattle.process_store.specs.declared.store.Store.{Store}
use Rattle.process_store.specs.Holds.{hands_at, held_of, place_at, slot_in, slot_of, streams_of}
use Rattle.process_store.specs.Keeps.{StoreKeeps, IsWaiting, is_absent, is_out, is_present, listed_of, stream_count}
use Rattle.process_store.specs.PassOn.{Stood}
use Rattle.process_store.specs.Telling.{HasEndRoom}
use Rattle.process_store.proofs.Sets.{length_set, sum_has}
use Rattle.process_store.proofs.Showing.{Shows, numbers_set, replaced_same, slots_set, undated}
use Rattle.process_store.proofs.Keeping.{lists_stay, settled_keeps}
use Rattle.process_store.proofs.Passing.{stood_pool}
use Rattle.process_store.proofs.Emptying.{Empties, closed_numbers, links_emptied, mail_emptied, numbers_hands, replaced_twice, stream_sum, unnamed}

-- A process that comes back from its worker, and has ended.

-- a place at which a worker's process stands that is doomed
pub fated_place : {E O P S L : Type 0} (o : Option (Place E O P S L)) (worker : ℕ) (end : End) → slot_in o ≡ Fated worker end → o ≡ Some (PlaceIs.Fated worker end)
fated_place None worker end e = let h : ⊥ = cc in absurd h
fated_place (Some PlaceIs.Nobody) worker end e = let h : ⊥ = cc in absurd h
fated_place (Some (PlaceIs.Home proc)) worker end e = let h : ⊥ = cc in absurd h
fated_place (Some (PlaceIs.Asleep proc ask)) worker end e = let h : ⊥ = cc in absurd h
fated_place (Some (PlaceIs.Giving proc ask)) worker end e = let h : ⊥ = cc in absurd h
fated_place (Some (PlaceIs.Away other)) worker end e = let h : ⊥ = cc in absurd h
fated_place (Some (PlaceIs.Fated other earlier)) worker end e =
    let same : other ≡ worker = cc in
    let ends : earlier ≡ end = cc in
    ap (λ w. Some (PlaceIs.Fated w earlier)) same ∙ ap (λ x. Some (PlaceIs.Fated worker x)) ends
fated_place (Some PlaceIs.Gone) worker end e = let h : ⊥ = cc in absurd h

-- a worker has the process of this place
pub record WasOut {E O P S L : Type 0} (was : Place E O P S L) : Type 0 where
  pub present : is_present was ≡ 1
  pub out : is_out was ≡ 1
  pub hands : hands_at was ≡ []
  pub awake : IsWaiting (slot_of was) → ⊥

pub away_out : {E O P S L : Type 0} (worker : ℕ) → WasOut {E = E} {O = O} {P = P} {S = S} {L = L} (PlaceIs.Away worker)
away_out worker = record { present = refl; out = refl; hands = refl; awake = λ waits. waits }

pub fated_out : {E O P S L : Type 0} (worker : ℕ) (end : End) → WasOut {E = E} {O = O} {P = P} {S = S} {L = L} (PlaceIs.Fated worker end)
fated_out worker end = record { present = refl; out = refl; hands = refl; awake = λ waits. waits }

-- RETURNED. The process of one number has come back and ended: its place and its mailbox are emptied, what it shed is
-- closed, and what it had in hand; no name names it; all else stays, but for the time and the streams that were drawn.
pub record Returns {E O P S L : Type 0} (tells : Told S) (old new : Store E O P S L) (pid : ℕ) (was : Place E O P S L) (from to : Mail (ItemShown S)) (shed hs : List (Handle S)) : Type 0 where
  pub emptied : Empties tells old new pid was PlaceIs.Gone from to shed hs
  pub was_out : WasOut was
  pub unended : new.unended ≡ old.unended - 1
  pub out : new.out ≡ old.out - 1
  pub shed_is : new.shed ≡ []
  pub queue : new.queue ≡ old.queue
  pub came : new.came ≡ old.came
  pub giver : new.giver ≡ old.giver
  pub names : (name : List ℕ) → get new.names name ≡ unless pid (get old.names name)
  pub capacity : vec_capacity new.closed ≡ vec_capacity old.closed
  pub links : new.links ≡ old.links
  pub births : new.births ≡ old.births
  pub sends : new.sends ≡ old.sends
  pub row : new.row ≡ old.row
  pub over : new.over ≡ old.over
  pub drawn : new.streams ≤ old.streams + 1
  pub few : stream_count old + length hs + length shed ≤ new.streams

listed_same : {E O P S L : Type 0} (old new : Store E O P S L) → new.queue ≡ old.queue → new.came ≡ old.came → new.giver ≡ old.giver → listed_of new ≡ listed_of old
listed_same old new queue came giver = rw (queue, came, giver) refl

module _ {E O P S L : Type 0} (tells : Told S) (old new : Store E O P S L) (pid : ℕ) (was : Place E O P S L) (from to : Mail (ItemShown S)) (shed hs : List (Handle S)) (k : StoreKeeps old)
    (r : Returns tells old new pid was from to shed hs) where
  pub some_out : 1 ≤ old.out
  some_out = let a = sum_has r.emptied.placed is_out in let b = r.was_out.out in let c = k.out in omega (arith, a, b, c)

  pub some_unended : 1 ≤ old.unended
  some_unended = let a = sum_has r.emptied.placed is_present in let b = r.was_out.present in let c = k.unended in omega (arith, a, b, c)

  pub returned_keeps : StoreKeeps new
  returned_keeps =
      let e = r.emptied in
      let listed = listed_same old new r.queue r.came r.giver in
      settled_keeps old new pid was PlaceIs.Gone k (record {
        placed = e.placed;
        mail = length_set e.mailed;
        shed = r.shed_is;
        sheds = tt;
        unended = let a = some_unended in let b = r.unended in let c = r.was_out.present in omega (arith, a, b, c);
        out = let a = some_out in let b = r.out in let c = r.was_out.out in omega (arith, a, b, c);
        listed = lists_stay old new pid was PlaceIs.Gone k e.placed.there listed (λ is. tt) (λ here. let h : ⊥ = cc in absurd h);
        long = let a = ap length listed in omega (arith, a);
        room = let a = ap (λ (q : Schedule). q.room) r.queue in omega (arith, a);
        came_room = let a = ap (λ came. vec_capacity came) r.came in omega (arith, a);
        dates = λ q differs. ap (λ (s : Schedule). get s.deadlines q) r.queue;
        dated = λ deadline at.
            let none = ap (λ (s : Schedule). get s.deadlines pid) r.queue ∙ undated old pid was k e.placed.there r.was_out.awake in
            let h : ⊥ = cc in absurd h;
        closed_room =
            let a = r.drawn in
            let b = r.out in
            let c = some_out in
            let d = r.capacity in
            let room = k.closed_room in
            omega (arith, a, b, c, d, room);
        links_room = links_emptied e k r.links refl;
        links_of = λ a b tag at. ap (λ (net : Net). get net.tags (a, b)) (sym r.links) ∙ at;
      }) (let a = stream_sum e in let b = r.few in omega (arith, a, b))

  -- what the store holds then
  pub returned_shows : (handles sheds : List ℕ) (time streams : ℕ) → new.time ≡ time → new.streams ≡ streams
      → numbers_of new.closed.items ≡ (numbers_of old.closed.items ++ sheds) ++ (handles ++ mail_handles ((held_of old).mail pid))
      → Shows new (record (gone (back (held_of old) pid Gone time sheds) pid handles) { streams = streams })
  returned_shows handles sheds time streams at drawn closed = record {
    slots = λ q. slots_set old new pid was PlaceIs.Gone r.emptied.placed q ∙ replaced_twice (place_at old) pid Gone Gone q;
    mail = mail_emptied r.emptied;
    deadlines = λ q. ap (λ (s : Schedule). get s.deadlines q) r.queue
        ∙ replaced_same (held_of old).deadlines pid None (undated old pid was k r.emptied.placed.there r.was_out.awake) q;
    names = λ name. r.names name ∙ unnamed pid (get old.names name);
    numbers = numbers_set old new pid was PlaceIs.Gone r.emptied.placed;
    births = r.births;
    unended = r.unended;
    out = r.out;
    sends = r.sends;
    time = at;
    row = r.row;
    over = r.over;
    streams = drawn;
    closed = closed;
  }

  pub returned_room : (book next : Book) (memory : EndMemory) → AddsEnd book next memory → HasEndRoom old book → HasEndRoom new next
  returned_room book next memory adds room =
      let a = ap length adds.ends ∙ length-append book.ends (memory ∷ []) in
      let b = ap length adds.births in
      let c = r.unended in
      let d = some_unended in
      omega (arith, a, b, c, d, room)

  -- the closed ones by number, where a stream had arrived and where none had
  pub returned_numbers : (proc : Proc E O P S L) → hs ≡ hands_of proc
      → numbers_of new.closed.items ≡ (numbers_of old.closed.items ++ numbers_of shed) ++ (part_handles (shown_part proc) ++ mail_handles ((held_of old).mail pid))
  returned_numbers proc is =
      closed_numbers r.emptied
      ∙ ap (λ ns. (numbers_of old.closed.items ++ numbers_of shed) ++ (ns ++ mail_handles ((held_of old).mail pid))) (ap numbers_of is ∙ numbers_hands proc)

  pub arrived_numbers : (proc : Proc E O P S L) (arrived : List (Handle S)) → hs ≡ arrived ++ hands_of proc
      → numbers_of new.closed.items ≡ (numbers_of old.closed.items ++ (numbers_of shed ++ numbers_of arrived)) ++ (part_handles (shown_part proc) ++ mail_handles ((held_of old).mail pid))
  arrived_numbers proc arrived is =
      closed_numbers r.emptied
      ∙ ap (λ ns. (numbers_of old.closed.items ++ numbers_of shed) ++ (ns ++ mail_handles ((held_of old).mail pid)))
      (ap numbers_of is ∙ map-append (λ h. h.number) arrived (hands_of proc) ∙ ap (λ ns. numbers_of arrived ++ ns) (numbers_hands proc))
      ∙ moved (numbers_of old.closed.items) (numbers_of shed) (numbers_of arrived) (part_handles (shown_part proc)) (mail_handles ((held_of old).mail pid))
    where
      moved : (a b c d e : List ℕ) → (a ++ b) ++ ((c ++ d) ++ e) ≡ (a ++ (b ++ c)) ++ (d ++ e)
      moved a b c d e =
          ap (λ xs. (a ++ b) ++ xs) (append_assoc c d e) ∙ sym (append_assoc (a ++ b) c (d ++ e)) ∙ ap (λ xs. xs ++ (d ++ e)) (append_assoc a b c)

-- what was shed is closed, and the others are shut one after the other
pub sheds_behind : {S : Type 0} (tells : Told S) (hs ms closed mid next : List (Handle S)) (shed_then : List (Handle S)) → mid ≡ closed → Sheds tells hs mid next → Sheds tells ms next shed_then
    → Sheds tells (hs ++ ms) closed shed_then
sheds_behind tells hs ms closed mid next shed_then is first second = sheds_more tells hs ms closed next shed_then (subst (λ cs. Sheds tells hs cs next) is first) second

-- a stream that arrived and those in hand come from the pool
pub stood_arrived : {S : Type 0} (was : Kept S) (hands arrived : List (Handle S)) (h : Handle S) → Contains (arrived ++ hands) h → Stood was (hands ++ arrived) h
stood_arrived was hands arrived h has = by (Contains-append_cases arrived hands h has)
  where
    by : Contains arrived h ⊎ Contains hands h → Stood was (hands ++ arrived) h
    by (inl came) = stood_pool was (hands ++ arrived) h (Contains-append_right hands arrived h came)
    by (inr hand) = stood_pool was (hands ++ arrived) h (Contains-append_left hands arrived h hand)

-- at most one stream arrives
pub few_arrived : {S : Type 0} (number : ℕ) (arrived : Option S) → length (arrived_as number arrived) ≤ 1
few_arrived number None = omega arith
few_arrived number (Some stream) = omega arith
