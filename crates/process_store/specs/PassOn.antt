use Rattle.std.specs.Prelude.{◌≡◌, ◌⊎◌, ℕ, List, ◌++◌, Contains}
use Rattle.resource_table.specs.Handles.{Handle}
use Rattle.resource_table.specs.Steps.{Told, IsShut}
use Rattle.node_state.specs.Streaming.{Kept}

-- Where the very streams of a store come from, and where they go.

-- a stream stood in hand of a process or in a mailbox, or is from this pool
abbrev pub Stood : {S : Type 0} → Kept S → (pool : List (Handle S)) → Handle S → Type 0
Stood was pool handle =
    ∥ ((pid : ℕ) × Contains (was.hands pid) handle) ⊎ ((pid : ℕ) × Contains (was.mail pid) handle)
    ⊎ (Contains pool handle) ∥₁

-- a stream was shed, or stood there and was shut
abbrev pub WasClosed : {S : Type 0} → Told S → Kept S → (pool shed : List (Handle S)) → Handle S → Type 0
WasClosed tells was pool shed handle =
    ∥ (Contains shed handle) ⊎ ((before : Handle _) × Stood was pool before × IsShut tells before handle) ∥₁

-- PASSED ON. Each stream that stands in hand or in a mailbox stood in one of these places before, or comes from this
-- pool; what was closed besides was shed, or is one of those, and was shut; and the closed ones stay.
pub record PassesOn {S : Type 0} (tells : Told S) (was is : Kept S) (pool shed : List (Handle S)) : Type 0 where
  pub in_hand : (pid : ℕ) (handle : Handle S) → Contains (is.hands pid) handle → Stood was pool handle
  pub in_mail : (pid : ℕ) (handle : Handle S) → Contains (is.mail pid) handle → Stood was pool handle
  pub more : List (Handle S)
  pub closed : is.closed ≡ was.closed ++ more
  pub shut : (handle : Handle S) → Contains more handle → WasClosed tells was pool shed handle
