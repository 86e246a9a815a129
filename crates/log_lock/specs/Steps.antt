-- What each kind of step does to the seat that makes it, and what it tells. A seat is its view and the slots that it has.
use Rattle.std.specs.Prelude.{◌≡◌, ◌≢◌, ℕ, ◌-◌, ◌%◌, ◌^◌, ◌<◌, List, [], ◌∷◌, length, Option, Some}
use Rattle.atomic_table.specs.Table.{Me, Step}
use Rattle.log_lock.specs.declared.knowledge.View.{View}
use Rattle.log_lock.specs.declared.knowledge.Turn.{Turn}
use Rattle.log_lock.specs.declared.knowledge.Turn.TheVariants.{Idle, Waiting, Served}
use Rattle.log_lock.specs.Knowledge.{ExtendsByOthers, numbers_below, with_seen}
use Rattle.log_lock.specs.Rule.{ExtendsEach, ticket_of}

module _ {I B : Type 0} where
  -- The view at another turn.
  abbrev pub at_turn : Turn → View I B → View I B
  at_turn turn v = record v { turn = turn }

  -- The view at another turn, once the whole log was seen.
  abbrev pub after_seeing : List I → Turn → View I B → View I B
  after_seeing log turn v = record { knows = with_seen log v.knows; turn = turn; sources = [] }

  -- A ticket was drawn: the number found is the ticket modulo 2 ^ 64.
  abbrev pub DrawsTicket : {S : Type 0} → Step S → Me S (View I B) → ℕ → Me S (View I B) → Type 0
  DrawsTicket st me found me' = (t : ℕ) × (t % 2 ^ 64 ≡ found) × (me' ≡ (at_turn (Waiting t) me.0, me.1))

  -- The seat has a ticket, which is this number modulo 2 ^ 64, and no slot.
  abbrev pub IsWaiting : {T : Type 0} → ℕ → Me (Option T) (View I B) → Type 0
  IsWaiting ticket me = (me.1 ≡ []) × (me.0.turn ≡ Waiting (ticket_of me.0.turn)) × (ticket_of me.0.turn % 2 ^ 64 ≡ ticket) × (0 < length me.0.knows.numbers)

  -- The seat is served and has the value, of which it now has seen all entries.
  -- They begin with what it had seen, the further ones are of none of its numbers, and the value has the base that it knows.
  abbrev pub TakesValue : {T : Type 0} → (T → List I) → (I → ℕ) → (T → B) → Me (Option T) (View I B) → Me (Option T) (View I B) → Type 0
  TakesValue {T} entries maker base_of me me' =
      (value : T) × (me' ≡ (after_seeing (entries value) (Served (ticket_of me.0.turn)) me.0, (0, Some value) ∷ me.1))
      × ExtendsByOthers maker me.0.knows (entries value) × (me.0.knows.base ≡ Some (base_of value))

  -- The serving number was found. Where it is the seat's ticket, the seat takes the value; else nothing changes.
  abbrev pub LooksForTurn : {T : Type 0} → (T → List I) → (I → ℕ) → (T → B) → Step (Option T) → Me (Option T) (View I B) → ℕ → Me (Option T) (View I B) → Type 0
  LooksForTurn entries maker base_of st me found me' =
      (ticket_of me.0.turn % 2 ^ 64 ≡ found → TakesValue entries maker base_of me me') × (ticket_of me.0.turn % 2 ^ 64 ≢ found → me' ≡ me)

  -- The value that the seat had is back in its slot. The seat has no ticket any more, and has seen all of the value's entries.
  abbrev pub GivesBack : {T : Type 0} → (T → List I) → Step (Option T) → Me (Option T) (View I B) → ℕ → Me (Option T) (View I B) → Type 0
  GivesBack {T} entries st me found me' = (value : T) → me.1 ≡ (0, Some value) ∷ [] → me' ≡ (after_seeing (entries value) Idle me.0, [])

  -- After a join: what each of the joined passes had seen begins what is seen now, and the rest is of none of its numbers.
  abbrev pub ComparesSources : {S : Type 0} → (I → ℕ) → Step S → Me S (View I B) → ℕ → Me S (View I B) → Type 0
  ComparesSources maker st me found me' = (me' ≡ (record me.0 { sources = [] }, me.1)) × ExtendsEach maker me.0.knows.seen me.0.sources

  -- The view is the first one of a lock whose numbers from n on were split off.
  abbrev pub HasFirstNumbers : View I B → ℕ → Type 0
  HasFirstNumbers v n = (v.turn ≡ Idle) × (v.knows.number ≡ 0) × (v.knows.numbers ≡ numbers_below n)

  -- A split of the first view: the greatest number leaves it.
  abbrev pub without_last : View I B → View I B
  without_last v = record v { knows = record v.knows { numbers = numbers_below (length v.knows.numbers - 1) } }

  -- The view with the number k, which alone stands in it.
  abbrev pub alone : ℕ → View I B → View I B
  alone k v = record v { knows = record v.knows { number = k; numbers = k ∷ [] } }

  -- The new view of a split: the greatest number alone.
  abbrev pub last_alone : View I B → View I B
  last_alone v = alone (length v.knows.numbers - 1) v
