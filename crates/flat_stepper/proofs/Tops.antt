-- The front of an array of values after a branch.
use Rattle.code_map.specs.Targets.{count_if}
use Rattle.std.proofs.Common.{◌≡◌, Bool, true, false, ℕ, zero, suc, ◌+◌, ◌-◌, ◌≤◌, List, ◌∷◌, ◌++◌, length, take, drop, refl, sym, ap, ◌∙◌, arith}
use Rattle.std.specs.Prelude.{slice_index, slice_set}
use Rattle.flat_machine.specs.Control.{lowest}
use Rattle.flat_machine.specs.Shown.{stack_of}
use Rattle.straight_code.proofs.Stacks.{length_stack, stack_push, top_of}

stack_drop : (xs : List ℕ) (k n c : ℕ) → n ≡ k + c → drop k (stack_of xs n) ≡ stack_of xs c
stack_drop xs zero n c e = ap (λ (m : ℕ). stack_of xs m) (let is : n ≡ c = omega arith in is)
stack_drop xs (suc k) zero c e = absurd (omega arith)
stack_drop xs (suc k) (suc n) c e = stack_drop xs k n c (omega arith)

pub lowest_stack : (xs : List ℕ) (n c : ℕ) → c ≤ n → lowest c (stack_of xs n) ≡ stack_of xs c
lowest_stack xs n c h =
    let count : length (stack_of xs n) ≡ n = length_stack xs n in
    stack_drop xs (length (stack_of xs n) - c) n c (omega arith)

-- the value on top is carried to the height
pub carried_stack : (xs : List ℕ) (n i c to : ℕ) → i + 1 ≡ n → c + 1 ≤ n → n ≤ length xs → c + 1 ≡ to →
    stack_of (slice_set xs c (slice_index xs i)) to ≡ take 1 (stack_of xs n) ++ lowest c (stack_of xs n)
carried_stack xs n i c to e h below to_is =
    stack_push xs (slice_index xs i) c to (omega arith) to_is
    ∙ ap (λ (s : List ℕ). slice_index xs i ∷ s) (sym (lowest_stack xs n c (omega arith)))
    ∙ ap (λ (s : List ℕ). take 1 s ++ lowest c (stack_of xs n)) (sym (top_of xs n i e))

-- what a branch leaves
pub jump_carries : (xs : List ℕ) (n c : ℕ) (carries : Bool) → carries ≡ true → c + count_if carries ≤ n → n ≤ length xs →
    stack_of (slice_set xs c (slice_index xs (n - 1))) (c + 1) ≡ take (count_if carries) (stack_of xs n) ++ lowest c (stack_of xs n)
jump_carries xs n c true e h below = carried_stack xs n (n - 1) c (c + 1) (omega arith) h below refl
jump_carries xs n c false e h below = absurd (cc)

pub jump_drops : (xs : List ℕ) (n c : ℕ) (carries : Bool) → carries ≡ false → c + count_if carries ≤ n →
    stack_of xs c ≡ take (count_if carries) (stack_of xs n) ++ lowest c (stack_of xs n)
jump_drops xs n c true e h = absurd (cc)
jump_drops xs n c false e h = sym (lowest_stack xs n c (omega arith))
