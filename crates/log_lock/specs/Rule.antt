-- The rule of the lock's table, which holds between any two steps.
-- Word 0 is the next ticket and word 1 the serving number, both modulo 2 ^ 64; slot 0 has the value.
-- A view is what the rule knows of a seat. A seat whose pass was joined into another is spent: no number stands in it.
use Rattle.std.specs.Prelude.{◌≡◌, ℕ, ◌+◌, ◌%◌, ◌^◌, ◌<◌, ◌≤◌, Bool, true, false, List, [], ◌∷◌, length, Option, Some, None}
use Rattle.std.specs.List.{All, AllByRecursion, Contains, sum_by}
use mathlib.Core.Option.{some, none}
use mathlib.Core.Option as maybe
use lib.ListN.{get_elem?}
use Rattle.atomic_table.specs.Table.{State}
use Rattle.log_lock.specs.declared.knowledge.Knowledge.{Knowledge}
use Rattle.log_lock.specs.declared.knowledge.View.{View}
use Rattle.log_lock.specs.declared.knowledge.Turn.{Turn}
use Rattle.log_lock.specs.declared.knowledge.Turn.TheVariants.{Idle, Waiting, Served}
use Rattle.log_lock.specs.Knowledge.{ExtendsByOthers, joined, numbers_below}

-- How many tickets a seat at this turn has.
abbrev pub tickets_at : Turn → ℕ
tickets_at Idle = 0
tickets_at (Waiting t) = 1
tickets_at (Served t) = 1

-- The ticket; 0 where there is none.
abbrev pub ticket_of : Turn → ℕ
ticket_of Idle = 0
ticket_of (Waiting t) = t
ticket_of (Served t) = t

-- Whether a seat at this turn is served.
abbrev pub is_served : Turn → Bool
is_served Idle = false
is_served (Waiting t) = false
is_served (Served t) = true

module _ {I B : Type 0} where
  -- How many tickets the seat has.
  abbrev pub ticket_count : View I B → ℕ
  ticket_count v = tickets_at v.turn

  -- How many numbers stand in the seat's pass.
  abbrev pub number_count : View I B → ℕ
  number_count v = length v.knows.numbers

  -- The view of the one seat at the start: all n numbers stand in it.
  abbrev pub first_view : B → ℕ → View I B
  first_view b n = record { knows = record { base = Some b; count = n; number = 0; numbers = numbers_below n; seen = [] }; turn = Idle; sources = [] }

  -- The view of a seat into which another was joined. What the two knew is kept until the seat looks at the table again.
  abbrev pub joined_view : View I B → View I B → View I B
  joined_view v w = record v { knows = joined v.knows w.knows; sources = v.knows ∷ w.knows ∷ [] }

  -- The view of the seat that was joined into another.
  abbrev pub spent_view : View I B
  spent_view = record { knows = record { base = None; count = 0; number = 0; numbers = []; seen = [] }; turn = Idle; sources = [] }

  -- A pass that isn't spent has the lock's base and count, and its own number stands in it.
  abbrev pub IsOfLock : B → ℕ → Knowledge I B → Type 0
  IsOfLock b n k = 0 < length k.numbers → (k.base ≡ Some b) × (k.count ≡ n) × Contains k.numbers k.number

  -- Each number that stands in the seat's pass is below n and stands in no other: `owner` tells of each number in which seat it stands.
  abbrev pub OwnsItsNumbers : ℕ → (ℕ → ℕ) → ℕ → Knowledge I B → Type 0
  OwnsItsNumbers n owner seat k = (x : ℕ) → Contains k.numbers x → (owner x ≡ seat) × (x < n)

  -- What each of the joined passes had seen begins what is seen now, and the rest is of none of its numbers.
  abbrev pub ExtendsEach : (I → ℕ) → List I → List (Knowledge I B) → Type 0
  ExtendsEach maker seen sources = AllByRecursion (λ k. ExtendsByOthers maker k seen) sources

-- The seat's ticket lies from the serving number up to the next ticket, and is no other seat's: `holder` tells of each ticket which seat drew it.
-- A served seat's ticket is the serving number, and then the value is out.
abbrev pub TurnFits : ℕ → ℕ → (ℕ → ℕ) → Bool → ℕ → Turn → Type 0
TurnFits next serving holder out seat Idle = Unit {0}
TurnFits next serving holder out seat (Waiting t) = (serving ≤ t) × (t < next) × (holder t ≡ seat)
TurnFits next serving holder out seat (Served t) = (t ≡ serving) × (t < next) × (holder t ≡ seat) × (out ≡ true)

-- What holds of the view of each seat.
pub record ViewFits {I B : Type 0} (maker : I → ℕ) (b : B) (n : ℕ) (log : List I) (owner : ℕ → ℕ) (seat : ℕ) (v : View I B) : Type 0 where
  pub of_lock : IsOfLock b n v.knows
  -- a spent seat has no ticket
  pub ticket : ticket_count v ≤ number_count v
  -- what it has seen begins the log, and all entries of its numbers are among them
  pub seen : ExtendsByOthers maker v.knows log
  pub numbers : OwnsItsNumbers n owner seat v.knows
  pub sources : ExtendsEach maker v.knows.seen v.sources

-- The value is at home: its entries are the log, and it has the lock's base.
abbrev pub IsHome : {T I B : Type 0} → (T → List I) → (T → B) → B → List I → List (maybe.Option (Option T)) → Type 0
IsHome {T} entries base_of b log homes = (value : T) × (homes ≡ some (Some value) ∷ []) × (entries value ≡ log) × (base_of value ≡ b)

-- The value is out: the seat that drew the serving number is served, and what it has seen is the log.
abbrev pub IsOut : {T I B : Type 0} → List I → ℕ → (ℕ → ℕ) → List (maybe.Option (Option T)) → List (View I B) → Type 0
IsOut {T} {I} {B} log serving holder homes views =
    (homes ≡ none ∷ []) × ((v : View I B) × (get_elem? views (holder serving) ≡ some v) × (v.turn ≡ Served serving) × (v.knows.seen ≡ log))

-- The value is at home, or out.
abbrev pub ValueFits : {T I B : Type 0} → (T → List I) → (T → B) → B → List I → ℕ → (ℕ → ℕ) → List (maybe.Option (Option T)) → List (View I B) → Bool → Type 0
ValueFits entries base_of b log serving holder homes views false = IsHome entries base_of b log homes
ValueFits entries base_of b log serving holder homes views true = IsOut log serving holder homes views

-- The rule. There are a log, a next ticket and a serving number (counted without end), the seat of each number and of each ticket,
-- and the answer whether the value is out, for which all this holds.
pub record IsKept {T I B : Type 0} (entries : T → List I) (maker : I → ℕ) (base_of : T → B) (b : B) (n : ℕ) (s : State (Option T) (View I B)) : Type 0 where
  pub log : List I
  pub next : ℕ
  pub serving : ℕ
  pub owner : ℕ → ℕ
  pub holder : ℕ → ℕ
  pub out : Bool
  -- the words have them modulo 2 ^ 64
  pub words : s.words ≡ next % 2 ^ 64 ∷ serving % 2 ^ 64 ∷ []
  -- the numbers of all seats are n, at most 64, and as many tickets are out as there are from serving to next
  pub few : n ≤ 64
  pub all_numbers : sum_by number_count s.views ≡ n
  pub all_tickets : serving + sum_by ticket_count s.views ≡ next
  -- each entry of the log is by a number below n
  pub makers : All (λ e. maker e < n) log
  pub value : ValueFits entries base_of b log serving holder s.homes s.views out
  pub turns : (j : ℕ) (v : View I B) → get_elem? s.views j ≡ some v → TurnFits next serving holder out j v.turn
  pub views : (j : ℕ) (v : View I B) → get_elem? s.views j ≡ some v → ViewFits maker b n log owner j v
