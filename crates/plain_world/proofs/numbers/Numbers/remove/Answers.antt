use Rattle.std.proofs.Common.{rules, List, ℕ, ◌∙◌, ap, sym, subst, not, nat_eq, ◌≡◌}
use Rattle.std.proofs.lemmas.Fn.{filter_same}
use Rattle.world_rules.specs.Part.{without_number}
use Rattle.world_rules.specs.Sound.{Rise}
use Rattle.plain_world.proofs.Rising.{rise_filter}
use Rattle.plain_world.proofs.numbers.Numbers.remove.Goals as goal

pub returns : goal.returns
returns c =
    filter_same _ (λ other. not (nat_eq other c.args.number)) _ (λ x b f' k. search rules) _ _ c.retain.ensures.filtered
    ∙ ap (λ (xs : List ℕ). without_number c.args.number xs) c.self.view_is

pub invariant_of-self : goal.invariant_of-self
invariant_of-self c =
    subst Rise (sym (returns c ∙ ap (λ (xs : List ℕ). without_number c.args.number xs) (sym c.self.view_is)))
    (rise_filter (λ other. not (nat_eq other c.args.number)) c.self.inside.numbers.items c.self.invariant)
