-- What the clauses say of a tally's entries and of the passes that add to them.
use Rattle.std.specs.Prelude.{◌≡◌, ℕ, ◌<◌, ◌≤◌, Bool, true, false, ◌==◌, List, [], ◌∷◌, ◌++◌, length, map, take, Some}
use Rattle.std.specs.List.{All, Contains, filter}
use Rattle.log_lock.specs.declared.logged.Logged.{Ghosts}
use Rattle.log_lock.specs.declared.knowledge.Knowledge.{Knowledge}
use Rattle.log_lock.specs.declared.pass.LogLock.{LogLock}
use Rattle.log_lock.specs.declared.pass.Pass.{Pass}
use Rattle.log_lock.specs.Knowledge.{with_seen}
use Rattle.log_lock.specs.Words.{IsPassOf, knowledge}
use Rattle.tally_log.specs.declared.tally.Entry.{Entry}

-- The amounts that a worker entered, in their order.
abbrev pub amounts_of : ℕ → List Entry → List ℕ
amounts_of worker entries = map (λ e. e.amount) (filter (λ e. e.by == worker) entries)

-- After what it had seen, the pass has seen entries of others and then its own entry with the amount, if that was
-- added. It knows the rest as before.
abbrev pub Adds : {B : Type 0} → Bool → ℕ → Knowledge Entry B → Knowledge Entry B → Type 0
Adds {B} false amount k l =
    (others : List Entry) × (l ≡ with_seen (k.seen ++ others) k) × All (λ e. ¬ Contains k.numbers e.by) others
Adds {B} true amount k l =
    (others : List Entry) × (l ≡ with_seen ((k.seen ++ others) ++ record { by = k.number; amount = amount } ∷ []) k)
    × All (λ e. ¬ Contains k.numbers e.by) others

-- Of the pass's own number all the amounts were added in their order, or else the first ones, up to one that wasn't.
abbrev pub AddsAll : {B : Type 0} → Bool → List ℕ → Knowledge Entry B → Knowledge Entry B → Type 0
AddsAll true amounts k l = amounts_of k.number l.seen ≡ amounts_of k.number k.seen ++ amounts
AddsAll false amounts k l = (n : ℕ) × (n < length amounts)
    × (amounts_of k.number l.seen ≡ amounts_of k.number k.seen ++ take n amounts)

-- A pass of the lock, in which its own number stands alone.
abbrev pub IsOwnPassOf : {T I B : Type 0} {g : Ghosts T I B} → LogLock T I B → Pass T I B g → Type 0
IsOwnPassOf lock p = IsPassOf lock p × ((knowledge p).numbers ≡ (knowledge p).number ∷ [])

-- What a pass knows once the workers from `from` up to `to` have ended: the plan's start, the count of passes, their
-- numbers and, where all was added, all amounts of each.
abbrev pub HasWorked : ℕ → ℕ → List ℕ → ℕ → ℕ → Bool → Knowledge Entry ℕ → Type 0
HasWorked start count amounts from to added k =
    (k.base ≡ Some start) × (k.count ≡ count)
    × ((x : ℕ) → from ≤ x → x < to → Contains k.numbers x)
    × (added ≡ true → (x : ℕ) → from ≤ x → x < to → amounts_of x k.seen ≡ amounts)
