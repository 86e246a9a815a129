use Rattle.std.proofs.Common.{◌≡◌, ◌≢◌, ℕ, ◌-◌, List, [], length, Option, Some, None, Bool, true, false, nat_eq, if◌then◌else◌, slice_get, refl, sym, ◌∙◌, ap, subst, ◌⊎◌, inl, inr}
use Rattle.std.proofs.lemmas.Bool.Decides.{eqb_tells}
use Rattle.std.proofs.Math.Path.{fun_ext}
use Rattle.std.specs.FinMap.{get}
use Rattle.resource_table.specs.Handles.{numbers_of}
use Rattle.world_rules.specs.Mail.{MailItem}
use Rattle.node_mirror.specs.Slots.{Slot}
use Rattle.node_mirror.specs.Held.{Held}
use Rattle.node_mirror.specs.Steps.{replaced}
use Rattle.process_store.specs.declared.place.Place.{Place}
use Rattle.process_store.specs.declared.store.Store.{Store}
use Rattle.process_store.specs.Holds.{Becomes, held_of, items_in, place_at, ready_of, slot_in, slot_of}
use Rattle.process_store.specs.Keeps.{StoreKeeps, IsWaiting}
use Rattle.process_store.proofs.Sets.{IsSet, length_set, read_set}

-- What a store holds, field by field.

-- what the store holds is this, but for the ready list
pub record Shows {E O P S L : Type 0} (store : Store E O P S L) (held : Held E) : Type 0 where
  pub slots : (pid : ℕ) → place_at store pid ≡ held.slots pid
  pub mail : (pid : ℕ) → items_in (slice_get store.mail.items pid) ≡ held.mail pid
  pub deadlines : (pid : ℕ) → get store.queue.deadlines pid ≡ held.deadlines pid
  pub names : (name : List ℕ) → get store.names name ≡ held.names name
  pub numbers : length store.places.items - 1 ≡ held.numbers
  pub births : store.births ≡ held.births
  pub unended : store.unended ≡ held.unended
  pub out : store.out ≡ held.out
  pub sends : store.sends ≡ held.sends
  pub time : store.time ≡ held.time
  pub row : store.row ≡ held.row
  pub over : store.over ≡ held.over
  pub streams : store.streams ≡ held.streams
  pub closed : numbers_of store.closed.items ≡ held.closed

held_is : {E : Type 0} (held : Held E) (slots : ℕ → Slot E) (mail : ℕ → List MailItem) (deadlines : ℕ → Option ℕ) (names : List ℕ → Option ℕ) (ready : List ℕ)
    (numbers births unended out sends time row : ℕ) (over : Bool) (streams : ℕ) (closed : List ℕ)
    → slots ≡ held.slots → mail ≡ held.mail → deadlines ≡ held.deadlines → names ≡ held.names → numbers ≡ held.numbers → births ≡ held.births → unended ≡ held.unended → out ≡ held.out
    → sends ≡ held.sends → time ≡ held.time → row ≡ held.row → over ≡ held.over → streams ≡ held.streams → closed ≡ held.closed
    → ◌≡◌ {A = Held E} (record {
      slots = slots;
      mail = mail;
      deadlines = deadlines;
      names = names;
      ready = ready;
      numbers = numbers;
      births = births;
      unended = unended;
      out = out;
      sends = sends;
      time = time;
      row = row;
      over = over;
      streams = streams;
      closed = closed;
    }) (record held { ready = ready })
held_is held slots mail deadlines names ready numbers births unended out sends time row over streams closed a b c d e f g h i j k l m n = rw (a, b, c, d, e, f, g, h, i, j, k, l, m, n) refl

pub becomes : {E O P S L : Type 0} (store : Store E O P S L) (held : Held E) → Shows store held → Becomes store held
becomes store held s =
    held_is held (place_at store) (λ pid. items_in (slice_get store.mail.items pid)) (λ pid. get store.queue.deadlines pid) (λ name. get store.names name) (ready_of store)
    (length store.places.items - 1) store.births store.unended store.out store.sends store.time store.row store.over store.streams (numbers_of store.closed.items)
    (fun_ext s.slots) (fun_ext s.mail) (fun_ext s.deadlines) (fun_ext s.names) s.numbers s.births s.unended s.out s.sends s.time s.row s.over s.streams s.closed

-- PARTS OF IT

-- a function of numbers with the value that it has there already
pub replaced_same : {X : Type 0} (f : ℕ → X) (pid : ℕ) (x : X) → f pid ≡ x → (q : ℕ) → f q ≡ replaced f pid x q
replaced_same {X = X} f pid x is q = by (eqb_tells q pid)
  where
    yes : (b : Bool) (y z : X) → b ≡ true → y ≡ (if b then y else z)
    yes true y z e = refl
    yes false y z e = let h : ⊥ = cc in absurd h

    no_one : (b : Bool) (y z : X) → b ≡ false → z ≡ (if b then y else z)
    no_one false y z e = refl
    no_one true y z e = let h : ⊥ = cc in absurd h

    by : ((nat_eq q pid ≡ true) × (q ≡ pid)) ⊎ ((nat_eq q pid ≡ false) × (q ≢ pid)) → f q ≡ replaced f pid x q
    by (inl same) = ap f same.1 ∙ is ∙ yes (nat_eq q pid) x (f q) same.0
    by (inr differs) = no_one (nat_eq q pid) x (f q) differs.0

-- with another value, where it is known at this number and at all others
pub replaced_by : {X : Type 0} (f h : ℕ → X) (pid : ℕ) (x : X) → h pid ≡ x → ((q : ℕ) → q ≢ pid → h q ≡ f q) → (q : ℕ) → h q ≡ replaced f pid x q
replaced_by {X = X} f h pid x is others q = by (eqb_tells q pid)
  where
    yes : (b : Bool) (y z : X) → b ≡ true → y ≡ (if b then y else z)
    yes true y z e = refl
    yes false y z e = let h : ⊥ = cc in absurd h

    no_one : (b : Bool) (y z : X) → b ≡ false → z ≡ (if b then y else z)
    no_one false y z e = refl
    no_one true y z e = let h : ⊥ = cc in absurd h

    by : ((nat_eq q pid ≡ true) × (q ≡ pid)) ⊎ ((nat_eq q pid ≡ false) × (q ≢ pid)) → h q ≡ replaced f pid x q
    by (inl same) = ap h same.1 ∙ is ∙ yes (nat_eq q pid) x (f q) same.0
    by (inr differs) = others q differs.1 ∙ no_one (nat_eq q pid) x (f q) differs.0

-- the slots, where the place of one number was replaced
pub slots_set : {E O P S L : Type 0} (old new : Store E O P S L) (pid : ℕ) (was is : Place E O P S L) → IsSet old.places.items new.places.items pid was is
    → (q : ℕ) → place_at new q ≡ replaced (place_at old) pid (slot_of is) q
slots_set old new pid was is placed q = read_set placed slot_in q

pub numbers_set : {E O P S L : Type 0} (old new : Store E O P S L) (pid : ℕ) (was is : Place E O P S L) → IsSet old.places.items new.places.items pid was is
    → length new.places.items - 1 ≡ length old.places.items - 1
numbers_set old new pid was is placed = ap (λ n. n - 1) (length_set placed)

-- who doesn't wait has no deadline
pub undated : {E O P S L : Type 0} (store : Store E O P S L) (pid : ℕ) (place : Place E O P S L) → StoreKeeps store → slice_get store.places.items pid ≡ Some place → (IsWaiting (slot_of place) → ⊥)
    → get store.queue.deadlines pid ≡ None
undated store pid place k there awake = by (get store.queue.deadlines pid) refl
  where
    by : (o : Option ℕ) → get store.queue.deadlines pid ≡ o → get store.queue.deadlines pid ≡ None
    by None e = e
    by (Some deadline) e = absurd (awake (subst (λ o. IsWaiting (slot_in o)) there (k.dated pid deadline e)))
