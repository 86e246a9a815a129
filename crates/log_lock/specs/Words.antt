-- What contracts say of a lock, its passes and its holds.
use Rattle.std.specs.Prelude.{◌≡◌, ℕ, List, reverse}
use Rattle.std.specs.List.{AllByRecursion, enumerate_from}
use Rattle.log_lock.specs.declared.logged.Logged.{Ghosts}
use Rattle.log_lock.specs.declared.knowledge.Knowledge.{Knowledge}
use Rattle.log_lock.specs.declared.pass.LogLock.{LogLock}
use Rattle.log_lock.specs.declared.pass.Pass.{Pass}
use Rattle.log_lock.specs.declared.pass.Hold.{Hold}
use Rattle.log_lock.specs.declared.pass.Passes.{Passes}
use Rattle.log_lock.specs.Knowledge.{first_knowledge}

-- P holds of each element and its place, where the places are counted from k.
abbrev pub EachFrom : {A : Type 0} → (ℕ → A → Type 0) → ℕ → List A → Type 0
EachFrom P k xs = AllByRecursion (λ x. P x.0 x.1) (enumerate_from k xs)

module _ {T I B : Type 0} {g : Ghosts T I B} where
  -- What a pass knows.
  abbrev pub knowledge : Pass T I B g → Knowledge I B
  knowledge p = p.seat.me.0.knows

  -- What a hold knows: its pass, and all entries that the value had when it was taken.
  abbrev pub hold_knowledge : Hold T I B g → Knowledge I B
  hold_knowledge h = h.seat.me.0.knows

  -- The passes that are left, the least number first.
  abbrev pub passes_of : Passes T I B g → List (Pass T I B g)
  passes_of ps = reverse ps.rest.items

  -- The pass is of this lock.
  abbrev pub IsPassOf : LogLock T I B → Pass T I B g → Type 0
  IsPassOf lock p = p.seat.table_id ≡ lock.table.shared.table_id

  -- The hold is of this lock.
  abbrev pub IsHoldOf : LogLock T I B → Hold T I B g → Type 0
  IsHoldOf lock h = h.seat.table_id ≡ lock.table.shared.table_id

  -- The pass of the number k of a new lock with n passes, whose value has the base b.
  abbrev pub IsNewPass : LogLock T I B → B → ℕ → ℕ → Pass T I B g → Type 0
  IsNewPass lock b n k p = IsPassOf lock p × (knowledge p ≡ first_knowledge b n k)
