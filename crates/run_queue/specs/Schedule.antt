use Rattle.std.specs.Prelude.{◌≡◌, ◌≤◌, ℕ, min, not, List, [], map, filter, Contains, All, ◌==◌, nat_le, Option, Some}
use Rattle.std.specs.Prelude.{None, IsSomeAnd, refl}
use Rattle.std.specs.Ordering.{nat_cmp}
use Rattle.std.specs.FinMap.{FinMap, get, code}
use Rattle.std.specs.Coded.{Coded, code_by, coded×, coded_ℕ, coded_list}

-- who may run: the ready processes in their order, the deadline of each process that waits with one,
-- and how many processes the list and the deadlines each have room for
pub record Schedule : Type 0 where
  pub ready : List ℕ
  pub deadlines : FinMap nat_cmp ℕ
  pub room : ℕ

-- it is stored as its fields in their order
abbrev pub schedule_code : Coded Schedule
schedule_code =
    code_by (List ℕ × (FinMap nat_cmp ℕ × ℕ)) (coded× (coded_list coded_ℕ) (coded× (code coded_ℕ coded_ℕ) coded_ℕ))
    (λ s. (s.ready, (s.deadlines, s.room))) (λ p. record { ready = p.0; deadlines = p.1.0; room = p.1.1 }) (λ _. refl)

-- a list without a process, wherever it stands
abbrev pub without : List ℕ → ℕ → List ℕ
without ready pid = filter (λ other. not (other == pid)) ready

-- a process waits with a deadline that is at most `now`
abbrev pub IsDue : FinMap nat_cmp ℕ → ℕ → ℕ → Type 0
IsDue deadlines now pid = IsSomeAnd (get deadlines pid) (λ at. at ≤ now)

-- of the processes that are due, the one with the least number
pub record IsLeastDue (deadlines : FinMap nat_cmp ℕ) (now pid : ℕ) : Type 0 where
  pub due : IsDue deadlines now pid
  pub least : (other : ℕ) → IsDue deadlines now other → pid ≤ other

-- the numbers of a list of deadlines that are at most `now`, in the order of the list
abbrev pub due_numbers : ℕ → List (ℕ × ℕ) → List ℕ
due_numbers now entries = map (λ entry. entry.0) (filter (λ entry. nat_le entry.1 now) entries)

-- the lesser of two numbers, of which the first may be missing
abbrev pub lesser_of : Option ℕ → ℕ → ℕ
lesser_of None pid = pid
lesser_of (Some other) pid = min other pid

-- the least number of a list, and none where the list is empty
abbrev pub IsLeastOf : Option ℕ → List ℕ → Type 0
IsLeastOf None numbers = numbers ≡ []
IsLeastOf (Some least) numbers = Contains numbers least × All (λ other. least ≤ other) numbers

-- no deadline of a list is before a time
abbrev pub NoneBefore : ℕ → List (ℕ × ℕ) → Type 0
NoneBefore earliest entries = All (λ entry. earliest ≤ entry.1) entries

-- the deadlines, and how many there is room for
pub record Places : Type 0 where
  pub deadlines : FinMap nat_cmp ℕ
  pub room : ℕ

-- they are stored as the pair of the fields
abbrev pub places_code : Coded Places
places_code =
    code_by (FinMap nat_cmp ℕ × ℕ) (coded× (code coded_ℕ coded_ℕ) coded_ℕ)
    (λ p. (p.deadlines, p.room)) (λ p. record { deadlines = p.0; room = p.1 }) (λ _. refl)
