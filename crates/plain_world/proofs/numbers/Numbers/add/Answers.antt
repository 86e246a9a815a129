use Rattle.std.proofs.Common.{List, ℕ, ◌∷◌, [], ◌++◌, ◌∙◌, ◌≡◌, ◌<◌, true, sym, ap, subst, refl}
use Rattle.world_rules.specs.Part.{is_among, with_number}
use Rattle.world_rules.specs.Sound.{Rise}
use Rattle.plain_world.proofs.Members.{among_with}
use Rattle.plain_world.proofs.Rising.{rise_last, with_rise}
use Rattle.plain_world.proofs.numbers.Numbers.add.Goals as goal

pub invariant_of-self-then-is_past : goal.invariant_of-self-then-is_past
invariant_of-self-then-is_past c =
    subst Rise (sym c.in_ok-push.ensures.items)
    (rise_last c.args.number c.self.inside.numbers.items c.self.invariant
    (λ other there. c.is_past.ensures c.if-is_past.true other (subst (λ (xs : List ℕ). is_among xs other ≡ true) c.self.view_is there)))

pub invariant_of-self-2 : goal.invariant_of-self-2
invariant_of-self-2 c =
    subst Rise (sym (c.in_ok-all.ensures ∙ ap (λ (xs : List ℕ). with_number c.args.number xs) c.deref.ensures.value))
    (with_rise c.args.number c.self.inside.numbers.items c.self.invariant)

pub returns-clause-added : goal.returns-clause-added
returns-clause-added c other =
    ap (λ (xs : List ℕ). is_among xs other)
    (c.in_ok-all.ensures ∙ ap (λ (xs : List ℕ). with_number c.args.number xs) (c.deref.ensures.value ∙ c.self.view_is))
    ∙ among_with c.args.number c.args.self.now other
