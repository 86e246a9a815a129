use Rattle.std.proofs.Common.{◌≡◌, ℕ, zero, suc, ◌+◌, ◌-◌, ◌≤◌, List, [], ◌∷◌, ◌++◌, length, append_assoc, vec_capacity, refl, arith, sym, ◌∙◌, ap, subst}
use Rattle.resource_table.specs.Steps.{Told}
use Rattle.world_rules.specs.declared.halt.End.{End}
use Rattle.world_rules.specs.declared.life.Ended.{Ended as EndMemory}
use Rattle.world_rules.specs.Book.{Book}
use Rattle.world_rules.specs.Ends.{all_struck, struck as strike_world}
use Rattle.world_rules.specs.Lives.{Setting}
use Rattle.world_rules.specs.World.{World, up_to}
use Rattle.node_state.specs.Fits.{ShowMemory}
use Rattle.node_state.specs.Seats.{Meaning}
use Rattle.node_mirror.specs.Slots.{Slot, Nobody, Home, Asleep, Giving, Away, Fated, Gone}
use Rattle.node_mirror.specs.Held.{Held, Mirrors}
use Rattle.node_mirror.specs.Steps.{struck, struck_at}
use Rattle.node_mirror.proofs.Struck.{struck_mirrors}
use Rattle.node_mirror.proofs.Strikes.{struck_last}
use Rattle.process_store.specs.declared.store.Store.{Store}
use Rattle.process_store.specs.Holds.{Becomes, held_of, kept_of, place_at}
use Rattle.process_store.specs.Keeps.{StoreKeeps}
use Rattle.process_store.specs.PassOn.{PassesOn}
use Rattle.process_store.specs.Telling.{AddsLast, HasEndRoom, StaysButEnds}

-- An end that comes to all.

-- what a store holds now mirrors the same world
pub mirrors_becomes : {E O P S L : Type 0} (engines : Meaning E P) (setting : Setting P) (w : World) (store : Store E O P S L) (held : Held E) (ends : List EndMemory)
    → Becomes store held → Mirrors engines setting w held ends → Mirrors engines setting w (held_of store) ends
mirrors_becomes {E = E} engines setting w store held ends becomes m = subst (λ (h : Held E). Mirrors engines setting w h ends) (sym becomes) (record {
  order = m.order;
  unmet = m.unmet;
  programs = m.programs;
  slots = m.slots;
  mail = m.mail;
  deadlines = m.deadlines;
  names = m.names;
  numbers = m.numbers;
  births = m.births;
  drawn = m.drawn;
  unended = m.unended;
  out = m.out;
  sends = m.sends;
  time = m.time;
  over = m.over;
  streams = m.streams;
  closed = m.closed;
  ended = m.ended;
  memories = m.memories;
  room = m.room;
})

-- the end has come to the processes below this number
abbrev pub AreStruck : {E O P S L : Type 0} → Meaning E P → Store E O P S L → Book → End → (pid : ℕ) → Store E O P S L → Book → Type 0
AreStruck {P = P} engines old book end pid store next =
    (n : ℕ) → pid ≡ suc n → (setting : Setting P) (w : World) → ShowMemory engines setting → Mirrors engines setting w (held_of old) book.ends →
    Mirrors engines setting (all_struck w (up_to n) end) (held_of store) next.ends

pub strikes_begin : {E O P S L : Type 0} (engines : Meaning E P) (old : Store E O P S L) (book : Book) (end : End) → AreStruck engines old book end 1 old book
strikes_begin engines old book end zero is setting w show m = m
strikes_begin engines old book end (suc n) is setting w show m = absurd (omega (arith, is))

pub strikes_go_on : {E O P S L : Type 0} (engines : Meaning E P) (old mid new : Store E O P S L) (book then next : Book) (end : End) (pid : ℕ) → 1 ≤ pid
    → AreStruck engines old book end pid mid then → Becomes new (struck (held_of mid) pid end) → AddsLast engines pid (place_at mid pid) then next
    → AreStruck engines old book end (pid + 1) new next
strikes_go_on {P = P} engines old mid new book then next end pid some before becomes last zero is setting w show m = absurd (omega (arith, some, is))
strikes_go_on {P = P} engines old mid new book then next end pid some before becomes last (suc n) is setting w show m =
    let at : pid ≡ suc n = omega (arith, is) in
    let v = strike_world ((all_struck w (up_to n) end).process pid).stage (all_struck w (up_to n) end) pid end in
    let now = struck_mirrors engines setting (all_struck w (up_to n) end) (held_of mid) then.ends last.more pid end show (before n at setting w show m) last.last in
    subst (λ (u : World). Mirrors engines setting u (held_of new) next.ends) (ap (λ (q : ℕ). all_struck w (up_to n ++ q ∷ []) end) at)
    (subst (λ (u : World). Mirrors engines setting u (held_of new) next.ends) (sym (struck_last w (up_to n) pid end))
    (mirrors_becomes engines setting v new (struck (held_of mid) pid end) next.ends becomes (subst (λ (ends : List EndMemory). Mirrors engines setting v (struck (held_of mid) pid end) ends)
    (sym last.ends) now)))

pub strikes_end : {E O P S L : Type 0} (engines : Meaning E P) (old new : Store E O P S L) (book next : Book) (end : End) (pid : ℕ) → AreStruck engines old book end pid new next
    → 1 ≤ pid → length old.places.items ≡ pid
    → (setting : Setting P) (w : World) → ShowMemory engines setting → Mirrors engines setting w (held_of old) book.ends
    → Mirrors engines setting (all_struck w (up_to w.numbers_drawn) end) (held_of new) next.ends
strikes_end engines old new book next end pid struck some whole setting w show m =
    struck w.numbers_drawn (let drawn = m.numbers in omega (arith, drawn, some, whole)) setting w show m

pub stays_same : (book : Book) → StaysButEnds book book
stays_same book = record { entries = refl; births = refl; entry_room = refl }

pub stays_more : {E P : Type 0} (engines : Meaning E P) (book then next : Book) (pid : ℕ) (slot : Slot E) → StaysButEnds book then → AddsLast engines pid slot then next → StaysButEnds book next
stays_more engines book then next pid slot stays last = record { entries = last.entries ∙ stays.entries; births = last.births ∙ stays.births; entry_room = last.entry_room ∙ stays.entry_room }

-- what a strike counts stays: who is out, the streams that were drawn, and the births
pub record SameCounts {E : Type 0} (was is : Held E) : Type 0 where
  pub out : is.out ≡ was.out
  pub drawn : is.streams ≡ was.streams
  pub births : is.births ≡ was.births

counts_at : {E : Type 0} (slot : Slot E) (held : Held E) (pid : ℕ) (end : End) → SameCounts held (struck_at slot held pid end)
counts_at Nobody held pid end = record { out = refl; drawn = refl; births = refl }
counts_at (Home seat) held pid end = record { out = refl; drawn = refl; births = refl }
counts_at (Asleep seat ask) held pid end = record { out = refl; drawn = refl; births = refl }
counts_at (Giving seat ask) held pid end = record { out = refl; drawn = refl; births = refl }
counts_at (Away worker) held pid end = record { out = refl; drawn = refl; births = refl }
counts_at (Fated worker earlier) held pid end = record { out = refl; drawn = refl; births = refl }
counts_at Gone held pid end = record { out = refl; drawn = refl; births = refl }

pub counts_struck : {E O P S L : Type 0} (old new : Store E O P S L) (pid : ℕ) (end : End) → Becomes new (struck (held_of old) pid end) → SameCounts (held_of old) (held_of new)
counts_struck {E = E} old new pid end becomes =
    let same = counts_at (place_at old pid) (held_of old) pid end in
    record {
      out = ap (λ (h : Held E). h.out) becomes ∙ same.out;
      drawn = ap (λ (h : Held E). h.streams) becomes ∙ same.drawn;
      births = ap (λ (h : Held E). h.births) becomes ∙ same.births;
    }

pub ends_more : (first : List EndMemory) {E P : Type 0} (engines : Meaning E P) (then next : Book) (pid : ℕ) (slot : Slot E) → ((more : List EndMemory) × (then.ends ≡ first ++ more))
    → AddsLast engines pid slot then next → (more : List EndMemory) × (next.ends ≡ first ++ more)
ends_more first engines then next pid slot ends last =
    (ends.0 ++ last.more, last.ends ∙ ap (λ (xs : List EndMemory). xs ++ last.more) ends.1 ∙ append_assoc first ends.0 last.more)

-- STRIKING ALL. The end has come to those below this number; all else is as a strike leaves it.
pub record StrikesAll {E O P S L : Type 0} (engines : Meaning E P) (tells : Told S) (old new : Store E O P S L) (book next : Book) (end : End) (pid : ℕ) : Type 0 where
  pub some : 1 ≤ pid
  pub most : pid ≤ length old.places.items
  pub keeps : StoreKeeps new
  pub room : HasEndRoom new next
  pub struck_are : AreStruck engines old book end pid new next
  pub stays : StaysButEnds book next
  pub numbers : length new.places.items ≡ length old.places.items
  pub giver : new.giver ≡ old.giver
  pub came : new.came ≡ old.came
  pub links : new.links ≡ old.links
  pub ready : new.queue.ready ≡ old.queue.ready
  pub out : new.out ≡ old.out
  pub drawn : new.streams ≡ old.streams
  pub births : new.births ≡ old.births
  pub ends : (more : List EndMemory) × (next.ends ≡ book.ends ++ more)
  pub rooms : vec_capacity new.closed ≡ vec_capacity old.closed
  pub streams : PassesOn tells (kept_of old) (kept_of new) [] []
