use Rattle.std.proofs.Common.{Bool, is_some, if◌then◌else◌, ap, sym, ◌∙◌}
use Rattle.std.specs.Cmp.{nat_cmp_total}
use Rattle.std.specs.FinMap.{get, insert, nat_cmp-IsAntisymmetric}
use Rattle.link_signals.specs.Links.{Net}
use Rattle.link_signals.proofs.Maps.{get-map_of, insert_is}
use Rattle.link_signals.proofs.links.Links.dies.Goals as goal
use Rattle.link_signals.proofs.links.Links.dies.Goals.{then-contains_key+in-Ok, else-contains_key}

pub returns-clause-processes : goal.returns-clause-processes
returns-clause-processes c =
    let there = c.contains_key.ensures ∙ ap is_some (sym (get-map_of nat_cmp_total nat_cmp-IsAntisymmetric c.self.inside.processes c.args.pid) ∙ ap (λ (n : Net). get n.processes c.args.pid) c.self.view_is) in
    c.drop_signals.ensures.processes
    ∙ elim c.if-contains_key.branch [
      | then-contains_key+in-Ok w ↦
          ap (λ (n : Net). n.processes) w.self-is
          ∙ insert_is nat_cmp_total nat_cmp-IsAntisymmetric c.self.inside.processes w.insert.new.self c.args.pid c.args.dies w.in-Ok.ensures.updates
          ∙ ap (λ (n : Net). insert n.processes c.args.pid c.args.dies) c.self.view_is
          ∙ ap (λ (b : Bool). if b then insert c.args.self.now.processes c.args.pid c.args.dies else c.args.self.now.processes) (sym w.if-contains_key.true ∙ there)
      | else-contains_key w ↦
          ap (λ (n : Net). n.processes) w.self-is
          ∙ ap (λ (b : Bool). if b then insert c.args.self.now.processes c.args.pid c.args.dies else c.args.self.now.processes) (sym w.if-contains_key.false ∙ there)
    ]
