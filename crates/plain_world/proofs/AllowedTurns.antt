use Rattle.std.proofs.Common.{◌≡◌, ℕ, List, [], ◌∷◌, length, None, Bool, true, ◌↔◌, IsTrue, refl, sym, subst, arith}
use Rattle.std.proofs.lemmas.Bool.Decides.{nat_tests}
use Rattle.std.specs.Bool.{◌==◌}
use Rattle.host_port.specs.declared.request.Request.{Request}
use Rattle.world_rules.specs.declared.halt.Halt.{Halt}
use Rattle.world_rules.specs.declared.halt.Halt.TheVariants as HaltIs
use Rattle.world_rules.specs.declared.life.Birth.{Birth}
use Rattle.world_rules.specs.Views.{Given, want_of}
use Rattle.world_rules.specs.World.{World, Process}
use Rattle.world_rules.specs.Allowed.{BesideFits, RetryFits, RetryEndsSo}

-- What a turn and what comes beside it may be, piece by piece.

zero_of : (n : ℕ) → (n == 0) ≡ true → n ≡ 0
zero_of n e = grind (arith, nat_tests)

-- a list of no length has no items
pub empty_of : {X : Type 0} (xs : List X) → (length xs == 0) ≡ true → xs ≡ []
empty_of [] e = refl
empty_of (x ∷ xs) e = let none : length (x ∷ xs) ≡ 0 = zero_of (length (x ∷ xs)) e in absurd (omega (arith, none))

-- a turn that tries its request again fits where what comes beside it does
pub retry_again : (births : List Birth) (w : World) (p : Process) (give : Given) (request : Request) (fits : Bool) →
    give.calls ≡ [] → give.fuel ≡ p.fuel → give.halt ≡ HaltIs.Again →
    (IsTrue fits ↔ BesideFits None births w p give request) → (IsTrue fits ↔ RetryFits None births w p give request)
retry_again births w p give request fits none same again beside =
    let P : Halt → Type 0 = λ halt. RetryEndsSo None births w p give request (want_of halt) in (
      λ yes. record { calls = none; fuel = same; halted = subst P (sym again) (beside.0 yes) },
      λ retry. beside.1 (subst P again retry.halted),
    )
