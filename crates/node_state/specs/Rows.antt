use Rattle.std.specs.Prelude.{◌≡◌, ℕ, List, Some, IsSome, slice_get}
use Rattle.host_port.specs.HostTable.{row_of}

-- What the programs of a node may ask.

-- each call that a program may ask has a row in the host table
abbrev pub HasRows : {P : Type 0} → (P → ℕ → Type 0) → P → Type 0
HasRows may_ask program = (call : ℕ) → may_ask program call → IsSome (row_of call)

-- each of these programs asks only calls that have a row
abbrev pub AllHaveRows : {P : Type 0} → (P → ℕ → Type 0) → List P → Type 0
AllHaveRows {P = P} may_ask programs =
    (k : ℕ) (program : P) → slice_get programs k ≡ Some program → HasRows may_ask program
