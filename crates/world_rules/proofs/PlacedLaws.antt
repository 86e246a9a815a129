-- Each world that a journal tells has its streams where the moves have them, each once.
use Rattle.std.specs.Prelude.{◌≡◌, ℕ, zero, suc, ◌+◌, ◌≤◌, List, [], ◌∷◌, ◌++◌, flat_map, Option, Some, None, Bool, true, false, nat_eq, if◌then◌else◌, refl}
use Rattle.std.proofs.Common.{subst, sym, ◌∙◌, ap, arith, append-nil}
use Rattle.std.proofs.lemmas.Grind.{flat_map-append}
use Rattle.world_rules.specs.declared.entry.Entry.{Entry}
use Rattle.world_rules.specs.declared.life.Birth.{Birth}
use Rattle.world_rules.specs.Views.{deed_of}
use Rattle.world_rules.specs.Part.{slots_of}
use Rattle.world_rules.specs.Moves.{Place, Table, Scratch, Mail, Closed, handled}
use Rattle.world_rules.specs.Streams.{one_if}
use Rattle.world_rules.specs.World.{World, Process, Ready, first_world, first_start, fresh_process, up_to}
use Rattle.world_rules.specs.Ends.{held_handles}
use Rattle.world_rules.specs.Rules.{next}
use Rattle.world_rules.specs.Births.{Terms}
use Rattle.world_rules.specs.Allowed.{Allowed}
use Rattle.world_rules.specs.Book.{Book}
use Rattle.world_rules.specs.Told.{told, all_after, AllAllowed, IsTold}
use Rattle.world_rules.specs.Sound.{times, IsSound}
use Rattle.world_rules.specs.Placed.{is_found, all_streams, IsPlaced}
use Rattle.world_rules.specs.laws.BirthLaws.{none_is_some, same_some}
use Rattle.world_rules.specs.laws.KeepingLaws.{false_is_true}
use Rattle.world_rules.specs.laws.ToldLaws.{told_all, entries_allowed_all}
use Rattle.world_rules.proofs.WholeWalk.{deed_walk}
use Rattle.world_rules.proofs.ReadyList.{front_ready}
use Rattle.world_rules.proofs.SoundLaws.{first_sound, entry_sound}
use Rattle.world_rules.specs.Touches.{nobody}
use Rattle.world_rules.proofs.Listing.{lt_false, times_append, holds_of, of_holds}
use Rattle.world_rules.proofs.Standing.{Holds, total, Where, in_table, in_scratch, in_mail, in_closed, in_flight, is_somewhere, stands_drawn}
use Rattle.world_rules.proofs.PlacedWalk.{Stands, Places, whole_placed}

-- HOW OFTEN A STREAM IS HELD

total_is : (k : ℕ) (process : ℕ → Process) (n : ℕ) → times k (flat_map (λ pid. held_handles (process pid)) (up_to n)) ≡ total k process n
total_is k process zero = refl
total_is k process (suc n) =
    ap (λ (xs : List ℕ). times k xs) (flat_map-append (λ (pid : ℕ). held_handles (process pid)) (up_to n) (suc n ∷ []))
    ∙ times_append k (flat_map (λ pid. held_handles (process pid)) (up_to n)) (held_handles (process (suc n)) ++ [])
    ∙ ap (λ (xs : List ℕ). times k (flat_map (λ pid. held_handles (process pid)) (up_to n)) + times k xs) (append-nil (held_handles (process (suc n))))
    ∙ ap (λ (t : ℕ). t + times k (held_handles (process (suc n)))) (total_is k process n)

all_times : (k : ℕ) (w : World) → times k (all_streams w) ≡ total k w.process w.numbers_drawn + times k w.closed + 0
all_times k w =
    times_append k (flat_map (λ pid. held_handles (w.process pid)) (up_to w.numbers_drawn)) w.closed
    ∙ ap (λ (t : ℕ). t + times k w.closed) (total_is k w.process w.numbers_drawn)
    ∙ none (total k w.process w.numbers_drawn + times k w.closed)
  where
    none : (n : ℕ) → n ≡ n + 0
    none n = omega arith

-- FROM WHAT IS SAID, AND BACK

stands_of : (w : World) → IsSound w → IsPlaced w → Stands w
stands_of w sound placed = record {
  each = λ pid. record {
    table = λ k there. (placed.found k (Table pid)).0 there;
    scratch = λ slot k there. (placed.found k (Scratch pid slot)).0 (holds_of (slots_of (w.process pid).part.scratch) slot k there);
    mail = λ k n slot there. (placed.found k (Mail pid n slot)).0 there;
    rise = (sound.processes.each pid).handles;
    letters = placed.letters pid;
    sent = λ n there. placed.sent pid n there;
  };
  shut = λ k there. (placed.found k Closed).0 there;
  flying = λ k there. false_is_true there;
  none = λ k e. (placed.undrawn k).0 e;
  some = λ k more. (placed.undrawn k).1 more;
  drawn = placed.drawn;
  order = placed.closed;
  once = λ k. sym (all_times k w) ∙ placed.once k;
}

owner_of : (w : World) → Stands w → (k : ℕ) (place : Place) → is_found w k place ≡ true → (handled w.moves).owner k ≡ Some place
owner_of w stands k (Table pid) there = (stands.each pid).table k there
owner_of w stands k (Scratch pid slot) there =
    (stands.each pid).scratch slot k (of_holds (slots_of (w.process pid).part.scratch) slot k there)
owner_of w stands k (Mail pid n slot) there = (stands.each pid).mail k n slot there
owner_of w stands k Closed there = stands.shut k there

-- a stream that is somewhere is found at a place
place_of : (w : World) (k : ℕ) → Where w.process w.closed [] k → (place : Place) × (is_found w k place ≡ true)
place_of w k (in_table q there) = (Table q, there)
place_of w k (in_scratch q slot there) = (Scratch q slot, holds_of (slots_of (w.process q).part.scratch) slot k there)
place_of w k (in_mail q n slot there) = (Mail q n slot, there)
place_of w k (in_closed there) = (Closed, there)
place_of w k (in_flight there) = false_is_true there

found_at : (w : World) → Stands w → (k : ℕ) (place : Place) → (handled w.moves).owner k ≡ Some place → is_found w k place ≡ true
found_at w stands k place at =
    let drawn = stands_drawn (handled w.moves) w.process w.numbers_drawn w.closed w.streams w.sends [] stands k place at in
    let found = place_of w k (is_somewhere (handled w.moves) w.process w.numbers_drawn w.closed w.streams w.sends [] stands k drawn) in
    subst (λ (p : Place). is_found w k p ≡ true) (same_some found.0 place (sym (owner_of w stands k found.0 found.1) ∙ at)) found.1

placed_of : (w : World) → Stands w → IsPlaced w
placed_of w stands = record {
  found = λ k place. (owner_of w stands k place, found_at w stands k place);
  undrawn = λ k. (stands.none k, stands.some k);
  drawn = stands.drawn;
  closed = stands.order;
  once = λ k. all_times k w ∙ stands.once k;
  letters = λ pid. (stands.each pid).letters;
  sent = λ pid n there. (stands.each pid).sent n there;
}

-- ENTRIES

pub entry_placed : (terms : Option Terms) (births : List Birth) (w : World) (entry : Entry) → IsSound w → IsPlaced w → Allowed terms births w entry →
    IsPlaced (next births w entry)
entry_placed terms births w entry sound placed allowed =
    placed_of (next births w entry)
    (deed_walk Places whole_placed terms births w (deed_of entry) allowed (λ pid front. front_ready w pid sound.ready front) sound.processes (stands_of w sound placed)).1

-- THE FIRST WORLD

first_stands : (births : List Birth) → Stands (first_world births)
first_stands births = record {
  each = λ pid. each pid (nat_eq pid 1);
  shut = λ k there. false_is_true there;
  flying = λ k there. false_is_true there;
  none = λ k e. least k;
  some = λ k more. refl;
  drawn = refl;
  order = refl;
  once = λ k. sym (ap (λ (b : Bool). one_if b 0) (lt_false k 0 (least k)));
}
  where
    least : (k : ℕ) → 0 ≤ k
    least k = omega arith

    each : (pid : ℕ) (b : Bool) → Holds (λ _. None) 0 pid (if b then fresh_process (first_start births) Ready else nobody)
    each pid true = record {
      table = λ k there. false_is_true there;
      scratch = λ slot k there. absurd (none_is_some there);
      mail = λ k n slot there. false_is_true there;
      rise = tt;
      letters = tt;
      sent = λ n there. false_is_true there;
    }
    each pid false = record {
      table = λ k there. false_is_true there;
      scratch = λ slot k there. absurd (none_is_some there);
      mail = λ k n slot there. false_is_true there;
      rise = tt;
      letters = tt;
      sent = λ n there. false_is_true there;
    }

pub first_placed : (births : List Birth) → IsPlaced (first_world births)
first_placed births = placed_of (first_world births) (first_stands births)

-- WHAT IS TOLD

all_placed : (terms : Option Terms) (births : List Birth) (w : World) (entries : List Entry) → IsSound w → IsPlaced w → AllAllowed terms births w entries →
    IsPlaced (all_after births w entries)
all_placed terms births w [] sound placed allowed = placed
all_placed terms births w (entry ∷ entries) sound placed allowed =
    all_placed terms births (next births w entry) entries (entry_sound terms births w entry sound allowed.0) (entry_placed terms births w entry sound placed allowed.0) allowed.1

pub told_placed : (book : Book) → IsTold book → IsPlaced (told book)
told_placed book is =
    subst (λ (w : World). IsPlaced w) (sym (told_all book))
    (all_placed None book.births (first_world book.births) book.entries (first_sound book.births is.start) (first_placed book.births) (entries_allowed_all None book is.entries))
