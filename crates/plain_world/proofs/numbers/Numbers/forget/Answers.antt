use Rattle.std.proofs.Common.{rules, List, ℕ, Bool, ◌∙◌, ap, sym, subst, not, nat_lt, nat_le, ◌&&◌, filter}
use Rattle.std.proofs.lemmas.Fn.{filter_same}
use Rattle.world_rules.specs.Sound.{Rise}
use Rattle.plain_world.proofs.Rising.{rise_filter}
use Rattle.plain_world.proofs.numbers.Numbers.forget.Goals as goal

pub returns : goal.returns
returns c =
    let test : ℕ → Bool = λ number. not (nat_lt 0 number && nat_le number c.args.most) in
    filter_same _ test _ (λ x b f' k. search rules) _ _ c.retain.ensures.filtered ∙ ap (λ (xs : List ℕ). filter test xs) c.self.view_is

pub invariant_of-self : goal.invariant_of-self
invariant_of-self c =
    let test : ℕ → Bool = λ number. not (nat_lt 0 number && nat_le number c.args.most) in
    subst Rise (sym (returns c ∙ ap (λ (xs : List ℕ). filter test xs) (sym c.self.view_is)))
    (rise_filter test c.self.inside.numbers.items c.self.invariant)
