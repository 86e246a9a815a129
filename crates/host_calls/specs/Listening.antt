use Rattle.std.specs.Prelude.{ℕ, ◌+◌, ◌<◌, List, [], ◌∷◌, ◌++◌, All, map, filter, find, not, nat_eq, Option}

-- The listeners of a process, by their numbers.

-- a listener with its number
pub record Bound (L : Type 0) : Type 0 where
  pub number : ℕ
  pub listener : L

-- the listeners that are there, by rising number, and the number of the next
pub record Listening (L : Type 0) : Type 0 where
  pub bound : List (Bound L)
  pub next : ℕ

abbrev pub no_listeners : {L : Type 0} → Listening L
no_listeners = record { bound = []; next = 0 }

abbrev pub listener_numbers : {L : Type 0} → Listening L → List ℕ
listener_numbers listening = map (λ b. b.number) listening.bound

-- the listener of a number, if it is there
abbrev pub listener_of : {L : Type 0} → ℕ → Listening L → Option (Bound L)
listener_of number listening = find (λ b. nat_eq b.number number) listening.bound

-- one more, with the next number
abbrev pub with_listener : {L : Type 0} → L → Listening L → Listening L
with_listener listener listening = record {
  bound = listening.bound ++ record { number = listening.next; listener = listener } ∷ [];
  next = listening.next + 1;
}

-- without the one of this number
abbrev pub without_listener : {L : Type 0} → ℕ → Listening L → Listening L
without_listener number listening =
    record listening { bound = filter (λ b. not (nat_eq b.number number)) listening.bound }

-- the numbers rise, and each is below the next
abbrev pub AreRising : {L : Type 0} → (next : ℕ) → List (Bound L) → Type 0
AreRising next [] = Unit {0}
AreRising next (b ∷ bs) = (b.number < next) × All (λ c. b.number < c.number) bs × AreRising next bs
