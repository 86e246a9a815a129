use Rattle.std.proofs.Common.{◌≡◌, ◌<◌, ◌+◌, ℕ, nat_eq, IsTrue, ◌⊎◌, inl, inr, arith}
use Rattle.std.proofs.Math.Bool.{Bool-set}
use Rattle.std.proofs.Math.Logic.{∥∥₁_elim}
use Rattle.std.proofs.lemmas.Bool.Decides.{nat_tests}
use Rattle.plain_world.proofs.allowed_turns.is_used_up.Goals as goal

equal : (a b : ℕ) → IsTrue (nat_eq a b) → a ≡ b
equal a b h = grind (arith, nat_tests)

tested : (a b : ℕ) → a ≡ b → IsTrue (nat_eq a b)
tested a b h = grind (arith, nat_tests)

last_answer : (executed answers : ℕ) → executed < 10000 → (10000 < executed + 1) ⊎ (answers ≡ 64) → IsTrue (nat_eq answers 64)
last_answer executed answers less (inl e) = absurd (omega arith)
last_answer executed answers less (inr e) = tested answers 64 e

pub returns-else-used-ge-TURN_FUEL : goal.returns-else-used-ge-TURN_FUEL
returns-else-used-ge-TURN_FUEL c =
    let less : c.args.used < 10000 = let below = c.if-used-ge-TURN_FUEL.false in omega arith in (
      λ h. ∣ inr (equal c.args.answers 64 h) ∣₁,
      λ used. ∥∥₁_elim used (hlevel Bool-set) (last_answer c.args.used c.args.answers less),
    )
