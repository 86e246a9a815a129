-- What a pass knows, and how the log of the value grows past it.
use Rattle.std.specs.Prelude.{◌≡◌, ℕ, ◌<◌, ◌++◌, nat_le, if◌then◌else◌, List, [], ◌∷◌, length, Some}
use Rattle.std.specs.List.{All, Contains, range_with_len}
use Rattle.log_lock.specs.declared.knowledge.Knowledge.{Knowledge}

-- The log is what the pass has seen and then further entries, none of which is by a number that stands in it.
abbrev pub ExtendsByOthers : {I B : Type 0} → (I → ℕ) → Knowledge I B → List I → Type 0
ExtendsByOthers {I} maker k log = (more : List I) × (log ≡ k.seen ++ more) × All (λ e. ¬ Contains k.numbers (maker e)) more

-- The log is what the pass has seen and then further entries, all by its own number.
abbrev pub ExtendsByOwn : {I B : Type 0} → (I → ℕ) → Knowledge I B → List I → Type 0
ExtendsByOwn {I} maker k log = (added : List I) × (log ≡ k.seen ++ added) × All (λ e. maker e ≡ k.number) added

-- The numbers from 0 to n - 1.
abbrev pub numbers_below : ℕ → List ℕ
numbers_below n = range_with_len 0 n

-- The longer list, and the first where they are as long.
abbrev pub longer : {X : Type 0} → List X → List X → List X
longer xs ys = if nat_le (length ys) (length xs) then xs else ys

module _ {I B : Type 0} where
  -- What the pass of the number k knows when the lock is made: it has seen nothing, and its own number alone stands in it.
  abbrev pub first_knowledge : B → ℕ → ℕ → Knowledge I B
  first_knowledge b n k = record { base = Some b; count = n; number = k; numbers = k ∷ []; seen = [] }

  -- The same knowledge, but for what was seen.
  abbrev pub with_seen : List I → Knowledge I B → Knowledge I B
  with_seen log k = record k { seen = log }

  -- What the first pass knows once the second is joined into it.
  abbrev pub joined : Knowledge I B → Knowledge I B → Knowledge I B
  joined k l = record k { numbers = k.numbers ++ l.numbers; seen = longer k.seen l.seen }

  -- All numbers of the lock stand in the pass.
  abbrev pub HasAllNumbers : Knowledge I B → Type 0
  HasAllNumbers k = (x : ℕ) → x < k.count → Contains k.numbers x
