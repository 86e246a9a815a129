use Rattle.std.proofs.Common.{◌≡◌, true, false, is_some, refl, ap, sym, ◌∙◌}
use Rattle.std.specs.FinMap.{get, insert}
use Rattle.spawn_config.specs.Held.{Held}
use Rattle.spawn_config.proofs.Maps.{get-map_of, insert_is}
use Rattle.spawn_config.proofs.configs.Configs.set.Goals as goal

pub returns-then-not-contains_key-clause-there : goal.returns-then-not-contains_key-clause-there
returns-then-not-contains_key-clause-there c =
    let there : c.contains_key.result ≡ is_some (get c.args.self.now.limits c.args.id) =
    c.contains_key.ensures ∙ ap is_some (sym (get-map_of c.self.inside.limits c.args.id)
    ∙ ap (λ (h : Held). get h.limits c.args.id) c.self.view_is) in
    let test = c.if-not-contains_key.true in (
      λ f. let clash : false ≡ true = f in absurd cc,
      λ s. let some : is_some (get c.args.self.now.limits c.args.id)
          ≡ true = s in cc,
    )

pub returns-clause-there : goal.returns-clause-there
returns-clause-there c =
    let there : c.contains_key.result ≡ is_some (get c.args.self.now.limits c.args.id) =
    c.contains_key.ensures ∙ ap is_some (sym (get-map_of c.self.inside.limits c.args.id)
    ∙ ap (λ (h : Held). get h.limits c.args.id) c.self.view_is) in
    let test = c.if-not-contains_key.false in
    (λ _. cc, λ _. refl)

pub returns-clause-limits : goal.returns-clause-limits
returns-clause-limits c =
    insert_is c.self.inside.limits c.insert.new.self c.args.id c.args.limits c.in-Ok.ensures.updates
    ∙ ap (λ (h : Held). insert h.limits c.args.id c.args.limits) c.self.view_is
