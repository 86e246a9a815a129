-- The calls of the world and of the outside that the host serves.
use Rattle.std.proofs.Common.{◌≡◌, ◌⊎◌, ℕ, List, [], ◌∷◌, Bool, Some, None, Option, true, false, nat_eq, option_map, IsSome, refl, inl, inr, subst, cond}
use Rattle.std.specs.List.{list_any}
use Rattle.std.proofs.lemmas.Bool.Decides.{eqb_tells}
use Rattle.host_port.specs.declared.request.Request.{Request}
use Rattle.host_port.specs.HostTable.{Row, all_rows, served, row_of, known_row_of, is_served, is_local_kind}
use Rattle.host_port.proofs.RowLaws.{row_if_served}
use Rattle.world_rules.specs.Calls.{HostCall, call_of, call_numbered}
use Rattle.world_rules.specs.Calls as CallIs
use Rattle.world_rules.specs.Kinds.{is_local}
use Rattle.world_rules.specs.Part.{Part}
use Rattle.world_rules.specs.Allowed.{PendingFits}
use Rattle.node_laws.proofs.ReadyList.{true_is_not_false}

-- a send, a receive and a sleep; an accept, a read and a write, which may have no answer yet; and a bind, the port of a
-- listener, and a connect
abbrev IsWorldCall : ℕ → Type 0
IsWorldCall call = (call ≡ 8) ⊎ ((call ≡ 9) ⊎ (call ≡ 17))

abbrev pub IsTriable : ℕ → Type 0
IsTriable call = (call ≡ 29) ⊎ ((call ≡ 31) ⊎ (call ≡ 32))

abbrev IsPlainOutside : ℕ → Type 0
IsPlainOutside call = (call ≡ 27) ⊎ ((call ≡ 28) ⊎ (call ≡ 30))

abbrev pub IsServed : ℕ → Type 0
IsServed call = IsWorldCall call ⊎ (IsPlainOutside call ⊎ IsTriable call)

-- BY THE LIST OF WHAT IS SERVED

some_served : (b : Bool) (known : Option Row) → IsSome (cond b known None) → b ≡ true
some_served true known there = refl
some_served false known there = absurd (cc)

-- something holds of each of these numbers
abbrev AllOf : (ℕ → Type 0) → List ℕ → Type 0
AllOf G [] = Unit {0}
AllOf G (number ∷ numbers) = G number × AllOf G numbers

among : (G : ℕ → Type 0) (numbers : List ℕ) (call : ℕ) → AllOf G numbers → list_any (λ number. nat_eq number call) numbers ≡ true → G call
among G [] call each found = absurd (cc)
among G (number ∷ numbers) call each found = elim (eqb_tells number call) as (λ _. G call) [
  | inl same ↦ subst G same.1 each.0
  | inr other ↦ among G numbers call each.1 (rw other.0 at found)
]

by_served : (G : ℕ → Type 0) → AllOf G served → (call : ℕ) → IsSome (row_of call) → G call
unfolding is_served
by_served G each call there =
    among G served call each (some_served (is_served call) (known_row_of call) (subst (λ (o : Option Row). IsSome o) (row_if_served call) there))

abbrev IsFar : ℕ → Type 0
IsFar call = is_local_kind (option_map (λ (row : Row). row.kind) (known_row_of call)) ≡ false → IsServed call

far_each : AllOf IsFar served
unfolding known_row_of all_rows
far_each = (
  λ no. true_is_not_false no,
  (
    λ no. true_is_not_false no,
    (
      λ no. true_is_not_false no,
      (
        λ no. true_is_not_false no,
        (
          λ no. true_is_not_false no,
          (
            λ no. true_is_not_false no,
            (
              λ no. true_is_not_false no,
              (
                λ no. true_is_not_false no,
                (
                  λ no. inl (inl refl),
                  (
                    λ no. inl (inr (inl refl)),
                    (
                      λ no. true_is_not_false no,
                      (
                        λ no. inl (inr (inr refl)),
                        (
                          λ no. inr (inl (inl refl)),
                          (
                            λ no. inr (inl (inr (inl refl))),
                            (
                              λ no. inr (inr (inl refl)),
                              (
                                λ no. inr (inl (inr (inr refl))),
                                (
                                  λ no. inr (inr (inr (inl refl))),
                                  (
                                    λ no. inr (inr (inr (inr refl))),
                                    (
                                      λ no. true_is_not_false no,
                                      (
                                        λ no. true_is_not_false no,
                                        (λ no. true_is_not_false no, tt),
                                      ),
                                    ),
                                  ),
                                ),
                              ),
                            ),
                          ),
                        ),
                      ),
                    ),
                  ),
                ),
              ),
            ),
          ),
        ),
      ),
    ),
  ),
)

-- a request of a call that has a row, and that the turn doesn't answer
pub served-asked : (request : Request) → IsSome (row_of request.ask.call) → is_local request ≡ false → IsServed request.ask.call
served-asked request there far = by_served IsFar far_each request.ask.call there far

module _ (part : Part) (request : Request) where
  abbrev MayWait : ℕ → Type 0
  MayWait call = PendingFits (call_numbered call) part request → IsTriable call

  wait_each : AllOf MayWait served
  wait_each = (
    λ never. absurd never,
    (
      λ never. absurd never,
      (
        λ never. absurd never,
        (
          λ never. absurd never,
          (
            λ never. absurd never,
            (
              λ never. absurd never,
              (
                λ never. absurd never,
                (
                  λ never. absurd never,
                  (
                    λ never. absurd never,
                    (
                      λ never. absurd never,
                      (
                        λ never. absurd never,
                        (
                          λ never. absurd never,
                          (
                            λ never. absurd never,
                            (
                              λ never. absurd never,
                              (
                                λ _. inl refl,
                                (
                                  λ never. absurd never,
                                  (
                                    λ _. inr (inl refl),
                                    (
                                      λ _. inr (inr refl),
                                      (
                                        λ never. absurd never,
                                        (
                                          λ never. absurd never,
                                          (λ never. absurd never, tt),
                                        ),
                                      ),
                                    ),
                                  ),
                                ),
                              ),
                            ),
                          ),
                        ),
                      ),
                    ),
                  ),
                ),
              ),
            ),
          ),
        ),
      ),
    ),
  )

  -- one to which there may be no answer yet
  waits-called : (call : ℕ) → IsSome (row_of call) → PendingFits (call_numbered call) part request → IsTriable call
  waits-called call there = by_served MayWait wait_each call there

pub triable-asked : (part : Part) (request : Request) → IsSome (row_of request.ask.call) → PendingFits (call_of request) part request → IsTriable request.ask.call
triable-asked part request there pends = waits-called part request request.ask.call there pends

-- THE NAMES OF THE CALLS

pub send-called : (request : Request) → request.ask.call ≡ 8 → call_of request ≡ Some CallIs.Send
send-called request call = rw call refl

pub receive-called : (request : Request) → request.ask.call ≡ 9 → call_of request ≡ Some CallIs.Receive
receive-called request call = rw call refl

pub sleep-called : (request : Request) → request.ask.call ≡ 17 → call_of request ≡ Some CallIs.SleepMs
sleep-called request call = rw call refl

pub bind-called : (request : Request) → request.ask.call ≡ 27 → call_of request ≡ Some CallIs.Bind
bind-called request call = rw call refl

pub port-called : (request : Request) → request.ask.call ≡ 28 → call_of request ≡ Some CallIs.LocalPort
port-called request call = rw call refl

pub accept-called : (request : Request) → request.ask.call ≡ 29 → call_of request ≡ Some CallIs.Accept
accept-called request call = rw call refl

pub connect-called : (request : Request) → request.ask.call ≡ 30 → call_of request ≡ Some CallIs.Connect
connect-called request call = rw call refl

pub read-called : (request : Request) → request.ask.call ≡ 31 → call_of request ≡ Some CallIs.ReadStream
read-called request call = rw call refl

pub write-called : (request : Request) → request.ask.call ≡ 32 → call_of request ≡ Some CallIs.WriteStream
write-called request call = rw call refl
