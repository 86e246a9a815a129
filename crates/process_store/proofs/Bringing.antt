use Rattle.std.proofs.Common.{◌≡◌, ◌<◌, ◌≤◌, ℕ, ◌+◌, List, [], ◌∷◌, ◌++◌, length, length-append, slice_get, Option, Some, None, append-nil, refl, arith, sym, ◌∙◌, ap}
use Rattle.std.specs.Option.{option_to_list}
use Rattle.world_rules.specs.declared.halt.End.{End}
use Rattle.node_mirror.specs.Slots.{Slot, Nobody, Home, Asleep, Giving, Away, Fated, Gone}
use Rattle.process_store.specs.declared.place.Place.{Place}
use Rattle.process_store.specs.declared.place.Place.TheVariants as PlaceIs
use Rattle.process_store.specs.declared.store.Store.{Store}
use Rattle.process_store.specs.Holds.{slot_of, slot_in}
use Rattle.process_store.specs.Keeps.{StoreKeeps, IsListed, listed_of}
use Rattle.process_store.proofs.Sets.{IsSet}
use Rattle.process_store.proofs.Listing.{IsBut, but_more, came_more}
use Rattle.process_store.proofs.Keeping.{Lists, lists_more}

-- A process that comes back from its worker.

-- a place at which a worker's process stands
pub away_place : {E O P S L : Type 0} (o : Option (Place E O P S L)) (worker : ℕ) → slot_in o ≡ Away worker → o ≡ Some (PlaceIs.Away worker)
away_place None worker e = let h : ⊥ = cc in absurd h
away_place (Some PlaceIs.Nobody) worker e = let h : ⊥ = cc in absurd h
away_place (Some (PlaceIs.Home proc)) worker e = let h : ⊥ = cc in absurd h
away_place (Some (PlaceIs.Asleep proc ask)) worker e = let h : ⊥ = cc in absurd h
away_place (Some (PlaceIs.Giving proc ask)) worker e = let h : ⊥ = cc in absurd h
away_place (Some (PlaceIs.Away other)) worker e = let same : other ≡ worker = cc in ap (λ w. Some (PlaceIs.Away w)) same
away_place (Some (PlaceIs.Fated other end)) worker e = let h : ⊥ = cc in absurd h
away_place (Some PlaceIs.Gone) worker e = let h : ⊥ = cc in absurd h

-- who gives joins those of the queue
joined : (xs : List ℕ) (old : Option ℕ) (pid : ℕ) → old ≡ None → xs ++ option_to_list old ≡ xs ++ []
joined xs old pid none = ap (λ o. xs ++ option_to_list o) none

pub giver-but : {E O P S L : Type 0} (old new : Store E O P S L) (pid : ℕ) → old.giver ≡ None → listed_of new ≡ (old.queue.ready ++ old.came.items) ++ pid ∷ [] → IsBut (listed_of old) (listed_of new) pid
giver-but old new pid none is = but_more pid (old.queue.ready ++ old.came.items) [] (listed_of old) (listed_of new) (joined (old.queue.ready ++ old.came.items) old.giver pid none) is

pub giver-lists : {E O P S L : Type 0} (old new : Store E O P S L) (pid : ℕ) (was is : Place E O P S L) → StoreKeeps old → slice_get old.places.items pid ≡ Some was → old.giver ≡ None
    → listed_of new ≡ (old.queue.ready ++ old.came.items) ++ pid ∷ [] → (IsListed (slot_of was) → ⊥) → IsListed (slot_of is) → Lists (listed_of old) (listed_of new) pid (slot_of was) (slot_of is)
giver-lists old new pid was is k there none listed absent here =
    lists_more old new pid was is k there (giver-but old new pid none listed)
    (came_more pid (old.queue.ready ++ old.came.items) [] (listed_of old) (listed_of new) (joined (old.queue.ready ++ old.came.items) old.giver pid none) listed) absent here

pub giver-length : {E O P S L : Type 0} (old new : Store E O P S L) (pid : ℕ) → old.giver ≡ None → listed_of new ≡ (old.queue.ready ++ old.came.items) ++ pid ∷ []
    → length (listed_of new) ≡ length (listed_of old) + 1
giver-length old new pid none listed =
    let a = ap length listed in
    let b = length-append (old.queue.ready ++ old.came.items) (pid ∷ []) in
    let c = ap length (joined (old.queue.ready ++ old.came.items) old.giver pid none) in
    let d = ap length (append-nil (old.queue.ready ++ old.came.items)) in
    omega (arith, a, b, c, d)
