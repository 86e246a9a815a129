use Rattle.std.proofs.Common.{◌≡◌, ◌≢◌, ◌≤◌, ℕ, zero, suc, ◌+◌, List, [], ◌∷◌, ◌++◌, length, All, sum, sum_by, filter, Option, Some, None, Bool, true, false, nat_eq, option_map}
use Rattle.std.proofs.Common.{map, slice_get, vec_capacity, refl}
use Rattle.std.proofs.Common.{arith, sym, ◌∙◌, ap, subst, ◌⊎◌, inl, inr}
use Rattle.std.proofs.lemmas.List.{length-map}
use Rattle.std.proofs.lemmas.List.Elements.{All-nil, All-cons}
use Rattle.std.proofs.lemmas.List.Sums.{sum-map}
use Rattle.std.proofs.lemmas.Option.{slice_get-map, slice_get_past}
use Rattle.std.proofs.lemmas.Bool.Decides.{eqb_tells}
use Rattle.std.specs.FinMap.{FinMap, get, empty, insert, keys, get-empty}
use Rattle.std.specs.List.{flat_map}
use Rattle.std.specs.Option.{option_map_or}
use Rattle.std.specs.Ordering.{nat_cmp}
use Rattle.tagged_mailbox.specs.Mail.{Mail}
use Rattle.link_signals.specs.Links.{ends, pair_cmp}
use Rattle.host_port.specs.declared.start.Start.{Start}
use Rattle.message_scratch.specs.Messages.{handles_in, slots_of}
use Rattle.resource_table.specs.Handles.{numbers_of}
use Rattle.world_rules.specs.Part.{is_among, no_part}
use Rattle.world_rules.specs.Sound.{times}
use Rattle.world_rules.specs.Streams.{one_if}
use Rattle.node_mirror.specs.Slots.{Nobody, Home}
use Rattle.node_mirror.specs.Steps.{born}
use Rattle.host_calls.specs.declared.proc.Proc.{Proc}
use Rattle.host_calls.specs.Shown.{seat_of, shown_part, part_with, hands_of}
use Rattle.process_store.specs.declared.place.Place.{Place}
use Rattle.process_store.specs.declared.place.Place.TheVariants as PlaceIs
use Rattle.process_store.specs.declared.store.Store.{Store}
use Rattle.process_store.specs.Begins.{HasNothing, StoreBegins, born_seat, nothing_held}
use Rattle.process_store.specs.Holds.{hands_at, hands_in, held_of, item_of, item_streams, items_in, place_at, ready_of, slot_in, streams_in, streams_of}
use Rattle.process_store.specs.Keeps.{HasShedAll, IsListed, StoreKeeps, is_absent, is_here, is_out, is_present, link_count, listed_of, signal_count, stream_count}
use Rattle.process_store.specs.Letters.{ItemShown}
use Rattle.process_store.proofs.Listing.{none_among}
use Rattle.process_store.proofs.Showing.{becomes, replaced_by, replaced_same}

-- How a store begins.

-- LISTS

-- the places of the numbers 0 and 1
abbrev first_places : {E O P S L : Type 0} → Proc E O P S L → List (Place E O P S L)
first_places proc = PlaceIs.Nobody ∷ PlaceIs.Home proc ∷ []

-- what holds of no number past 1
place_of : {E O P S L : Type 0} (proc : Proc E O P S L) (Is : ℕ → Option (Place E O P S L) → Type 0) → Is 0 (Some PlaceIs.Nobody) → Is 1 (Some (PlaceIs.Home proc)) → ((q : ℕ) → q ≢ 1 → Is q None)
    → (q : ℕ) → Is q (slice_get (first_places proc) q)
place_of proc Is nobody home none zero = nobody
place_of proc Is nobody home none (suc zero) = home
place_of proc Is nobody home none (suc (suc q)) = subst (Is (suc (suc q))) (sym (slice_get_past (first_places proc) (suc (suc q)) (omega arith))) (none (suc (suc q)) (omega arith))

one_among : (q : ℕ) → is_among (1 ∷ []) q ≡ true → q ≡ 1
one_among q among = by (eqb_tells q 1)
  where
    by : ((nat_eq q 1 ≡ true) × (q ≡ 1)) ⊎ ((nat_eq q 1 ≡ false) × (q ≢ 1)) → q ≡ 1
    by (inl same) = same.1
    by (inr differs) = absurd (none_among q (1 ∷ []) (ap (λ (b : Bool). one_if b 0) differs.0) among)

once_one : (q : ℕ) → times q (1 ∷ []) ≤ 1
once_one q = by (nat_eq q 1) refl
  where
    by : (b : Bool) → nat_eq q 1 ≡ b → one_if (nat_eq q 1) 0 ≤ 1
    by true e = rw e (omega arith)
    by false e = rw e (omega arith)

-- EMPTY MAILBOXES

pub no_items : {S : Type 0} → Option (Mail (ItemShown S)) → List (ItemShown S)
no_items None = []
no_items (Some mail) = mail.items

mail_items : {S : Type 0} (box : Option (Mail (ItemShown S))) → items_in box ≡ map item_of (no_items box)
unfolding no_items
mail_items None = refl
mail_items (Some box) = refl

streams_items : {S : Type 0} (box : Option (Mail (ItemShown S))) → streams_in box ≡ flat_map item_streams (no_items box)
unfolding no_items
streams_items None = refl
streams_items (Some box) = refl

those_in : {S : Type 0} → Option (List (ItemShown S)) → List (ItemShown S)
those_in None = []
those_in (Some items) = items

items_those : {S : Type 0} (box : Option (Mail (ItemShown S))) → no_items box ≡ those_in (option_map (λ m. m.items) box)
unfolding no_items those_in
items_those None = refl
items_those (Some box) = refl

both_empty : {S : Type 0} (q : ℕ) → those_in {S = S} (slice_get ([] ∷ [] ∷ []) q) ≡ []
unfolding those_in
both_empty zero = refl
both_empty (suc zero) = refl
both_empty {S = S} (suc (suc q)) = let none : List (List (ItemShown S)) = [] ∷ [] ∷ [] in ap those_in (slice_get_past none (suc (suc q)) (omega arith))

items_none : {S : Type 0} (mail : List (Mail (ItemShown S))) → map (λ m. m.items) mail ≡ [] ∷ [] ∷ [] → (q : ℕ) → no_items (slice_get mail q) ≡ []
items_none mail is q = items_those (slice_get mail q) ∙ ap those_in (sym (slice_get-map (λ m. m.items) mail q) ∙ ap (λ xs. slice_get xs q) is) ∙ both_empty q

letters_none : {S : Type 0} (mail : List (Mail (ItemShown S))) → map (λ m. m.items) mail ≡ [] ∷ [] ∷ [] → (q : ℕ) → items_in (slice_get mail q) ≡ []
letters_none mail is q = mail_items (slice_get mail q) ∙ ap (map item_of) (items_none mail is q)

streams_none : {S : Type 0} (mail : List (Mail (ItemShown S))) → map (λ m. m.items) mail ≡ [] ∷ [] ∷ [] → (q : ℕ) → streams_in (slice_get mail q) ≡ []
streams_none mail is q = streams_items (slice_get mail q) ∙ ap (λ items. flat_map item_streams items) (items_none mail is q)

lengths_again : {S : Type 0} (mail : List (Mail (ItemShown S))) → map (λ m. length (streams_of m)) mail ≡ map (λ items. length (flat_map item_streams items)) (map (λ m. m.items) mail)
lengths_again [] = refl
lengths_again (m ∷ mail) = ap (λ (ns : List ℕ). length (streams_of m) ∷ ns) (lengths_again mail)

streams_sum : {S : Type 0} (mail : List (Mail (ItemShown S))) → sum_by (λ m. length (streams_of m)) mail ≡ sum_by (λ items. length (flat_map item_streams items)) (map (λ m. m.items) mail)
streams_sum mail = sym (sum-map (λ m. length (streams_of m)) mail) ∙ ap sum (lengths_again mail) ∙ sum-map (λ items. length (flat_map item_streams items)) (map (λ m. m.items) mail)

no_streams : {S : Type 0} (mail : List (Mail (ItemShown S))) → map (λ m. m.items) mail ≡ [] ∷ [] ∷ [] → sum_by (λ m. length (streams_of m)) mail ≡ 0
no_streams mail is = streams_sum mail ∙ ap (sum_by (λ items. length (flat_map item_streams items))) is

-- NO LINKS

filter_false : {X : Type 0} (p : X → Bool) → ((x : X) → p x ≡ false) → (xs : List X) → filter p xs ≡ []
filter_false p all [] = refl
filter_false p all (x ∷ xs) = rw (all x) (filter_false p all xs)

-- A NEW PROCESS

part_none : {E O P S L : Type 0} (proc : Proc E O P S L) → HasNothing proc → shown_part proc ≡ no_part
part_none proc has = λ i. part_with (has.scratch i) (has.table i) (has.listeners i) (has.traffic i)

seat_first : {E O P S L : Type 0} (proc : Proc E O P S L) → HasNothing proc → seat_of proc ≡ record { engine = proc.engine; start = proc.start; part = no_part; fuel = 0; owed = None }
seat_first proc has = λ i. record { engine = proc.engine; start = proc.start; part = part_none proc has i; fuel = has.fuel i; owed = has.owed i }

seat_born : {E O P S L : Type 0} (proc : Proc E O P S L) (engine : E) (start : Start) → proc.engine ≡ engine → proc.start ≡ start → HasNothing proc → seat_of proc ≡ born_seat engine start
seat_born proc engine start engine_is start_is has = seat_first proc has ∙ ap (λ (e : _). born_seat e proc.start) engine_is ∙ ap (born_seat engine) start_is

hands_none : {E O P S L : Type 0} (proc : Proc E O P S L) → HasNothing proc → hands_of proc ≡ []
hands_none proc has = λ i. has.table i ++ handles_in (slots_of (has.scratch i))

-- A NEW STORE

-- what a store holds at its begin
pub record Begun {E O P S L : Type 0} (store : Store E O P S L) (proc : Proc E O P S L) : Type 0 where
  pub places : store.places.items ≡ PlaceIs.Nobody ∷ PlaceIs.Home proc ∷ []
  pub mail : map (λ m. m.items) store.mail.items ≡ [] ∷ [] ∷ []
  pub ready : store.queue.ready ≡ 1 ∷ []
  pub deadlines : store.queue.deadlines ≡ empty
  pub room : 2 ≤ store.queue.room
  pub came : store.came.items ≡ []
  pub came_room : 2 ≤ vec_capacity store.came
  pub giver : store.giver ≡ None
  pub names : store.names ≡ empty
  pub minded : store.links.processes ≡ insert empty 1 true
  pub tags : store.links.tags ≡ empty
  pub signals : store.links.signals ≡ []
  pub births : store.births ≡ 1
  pub unended : store.unended ≡ 1
  pub out : store.out ≡ 0
  pub sends : store.sends ≡ 0
  pub time : store.time ≡ 0
  pub row : store.row ≡ 0
  pub over : store.over ≡ false
  pub streams : store.streams ≡ 0
  pub closed : store.closed.items ≡ []
  pub shed : store.shed ≡ []

module _ {E O P S L : Type 0} (store : Store E O P S L) (proc : Proc E O P S L) (b : Begun store proc) where
  listed_one : listed_of store ≡ 1 ∷ []
  listed_one = rw (b.ready, b.came, b.giver) refl

  no_links : (pid tag : ℕ) → link_count store.links pid tag ≡ 0
  no_links pid tag = rw b.tags (ap length (filter_false (λ other. option_map_or (nat_eq tag) (get empty (ends pid other)) false)
      (λ other. ap (λ (o : Option ℕ). option_map_or (nat_eq tag) o false) (get-empty pair_cmp (ends pid other))) (keys store.links.processes)))

  no_signals : (pid tag : ℕ) → signal_count store.links pid tag ≡ 0
  no_signals pid tag = rw b.signals refl

  placed : (Is : ℕ → Option (Place E O P S L) → Type 0) → Is 0 (Some PlaceIs.Nobody) → Is 1 (Some (PlaceIs.Home proc)) → ((q : ℕ) → q ≢ 1 → Is q None) → (q : ℕ) → Is q (slice_get store.places.items q)
  placed Is nobody home none q = subst (λ (xs : List (Place E O P S L)). Is q (slice_get xs q)) (sym b.places) (place_of proc Is nobody home none q)

  few_streams : HasNothing proc → stream_count store ≡ 0
  few_streams has =
      let c = ap length b.closed in
      let h : sum_by (λ place. length (hands_at place)) store.places.items ≡ 0 + length (hands_of proc) = ap (sum_by (λ place. length (hands_at place))) b.places in
      let n = ap length (hands_none proc has) in
      let m = no_streams store.mail.items b.mail in
      omega (arith, c, h, n, m)

  first_ready : ready_of store ≡ 1 ∷ []
  first_ready = rw (b.ready, b.places) refl

  pub begun_keeps : HasNothing proc → StoreKeeps store
  begun_keeps has =
      let long : length store.places.items ≡ 2 = ap length b.places in
      let listed : length (listed_of store) ≡ 1 = ap length listed_one in
      let absent : sum_by is_absent store.places.items ≡ 0 = ap (sum_by is_absent) b.places in
      let room = b.room in
      let came_room = b.came_room in
      record {
        some = omega (arith, long);
        mail = sym (length-map store.mail.items (λ m. m.items)) ∙ ap length b.mail ∙ sym long;
        shed = b.shed;
        sheds = subst (All HasShedAll) (sym b.places)
            (All-cons HasShedAll PlaceIs.Nobody (PlaceIs.Home proc ∷ []) tt (All-cons HasShedAll (PlaceIs.Home proc) [] has.shed (All-nil HasShedAll)));
        unended = ap (sum_by is_present) b.places ∙ sym b.unended;
        out = ap (sum_by is_out) b.places ∙ sym b.out;
        listed = placed (λ q place. is_among (listed_of store) q ≡ true → IsListed (slot_in place))
            (λ among. let h = one_among 0 (ap (λ xs. is_among xs 0) (sym listed_one) ∙ among) in let no_one : ⊥ = omega (arith, h) in no_one) (λ among. tt)
            (λ q other among. other (one_among q (ap (λ xs. is_among xs q) (sym listed_one) ∙ among)));
        once = λ q. let e = ap (times q) listed_one in let o = once_one q in omega (arith, e, o);
        all = placed (λ q place. is_here (slot_in place) ≡ true → is_among (listed_of store) q ≡ true)
            (λ here. let h : ⊥ = cc in absurd h) (λ here. ap (λ xs. is_among xs 1) listed_one) (λ q other here. let h : ⊥ = cc in absurd h);
        room = omega (arith, listed, absent, room);
        came_room = omega (arith, listed, absent, came_room);
        dated = λ q deadline at. let none : get store.queue.deadlines q ≡ None = ap (λ (m : FinMap nat_cmp ℕ). get m q) b.deadlines ∙ get-empty nat_cmp q in let h : ⊥ = cc in absurd h;
        numbered = omega (arith, long, room);
        few = let s = few_streams has in omega (arith, s);
        closed_room = let s = b.streams in let o = b.out in omega (arith, s, o);
        links_room = λ q tag live. let l = no_links q tag in let s = no_signals q tag in omega (arith, l, s);
        links_of = λ x y tag at. let none : get store.links.tags (x, y) ≡ None = rw b.tags (get-empty pair_cmp (x, y)) in let h : ⊥ = cc in absurd h;
      }

  begun_held : (engine : E) (start : Start) → proc.engine ≡ engine → proc.start ≡ start → HasNothing proc → held_of store ≡ born nothing_held 1 (born_seat engine start)
  begun_held engine start engine_is start_is has =
      becomes store (born nothing_held 1 (born_seat engine start)) (record {
        slots = replaced_by (λ q. Nobody) (place_at store) 1 (Home (born_seat engine start))
            (ap (λ (xs : List (Place E O P S L)). slot_in (slice_get xs 1)) b.places ∙ ap Home (seat_born proc engine start engine_is start_is has))
            (placed (λ q place. q ≢ 1 → slot_in place ≡ Nobody) (λ other. refl) (λ other. absurd (other refl)) (λ q differs other. refl));
        mail = λ q. letters_none store.mail.items b.mail q ∙ replaced_same (λ q. []) 1 [] refl q;
        deadlines = λ q. ap (λ (m : FinMap nat_cmp ℕ). get m q) b.deadlines ∙ get-empty nat_cmp q ∙ replaced_same (λ q. None) 1 None refl q;
        names = λ name. rw b.names (get-empty _ name);
        numbers = rw b.places refl;
        births = b.births;
        unended = b.unended;
        out = b.out;
        sends = b.sends;
        time = b.time;
        row = b.row;
        over = b.over;
        streams = b.streams;
        closed = ap numbers_of b.closed;
      }) ∙ ap (λ (ready : List ℕ). record (born nothing_held 1 (born_seat engine start)) { ready = ready }) first_ready

  pub store_begins : (engine : E) (start : Start) → proc.engine ≡ engine → proc.start ≡ start → HasNothing proc → StoreBegins engine start store
  store_begins engine start engine_is start_is has = record {
    keeps = begun_keeps has;
    held = begun_held engine start engine_is start_is has;
    hands = placed (λ q place. hands_in place ≡ []) refl (hands_none proc has) (λ q other. refl);
    mail = streams_none store.mail.items b.mail;
    closed = b.closed;
    came = b.came;
    giver = b.giver;
    minded = b.minded;
    unlinked = b.tags;
    signals = b.signals;
  }
