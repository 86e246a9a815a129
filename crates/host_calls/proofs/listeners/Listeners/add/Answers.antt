use Rattle.std.proofs.Common.{◌≡◌, ◌+◌, ap, sym, subst, ◌∙◌, arith, length, leb, false}
use Rattle.std.proofs.lemmas.Bool.Decides.{nat_tests}
use Rattle.host_calls.specs.Listening.{Bound, AreRising}
use Rattle.host_calls.proofs.Listened.{rising-last}
use Rattle.host_calls.proofs.listeners.Listeners.add.Goals as goal

pub invariant_of-self : goal.invariant_of-self
invariant_of-self g c =
    let few : leb 16 (length c.self.inside.bound.items) ≡ false = ap (λ l. leb 16 (length l.bound)) c.self.view_is ∙ c.requires.place in (
      grind (arith, nat_tests),
      omega (arith, c.push_reserved.ensures.capacity, c.self.invariant.1),
      subst (AreRising (c.self.inside.next + 1)) (sym c.push_reserved.ensures.items)
          (rising-last c.self.inside.next c.self.inside.bound.items c.args.listener c.self.invariant.2),
    )
