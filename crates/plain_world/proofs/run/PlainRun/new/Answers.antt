use Rattle.std.proofs.Common.{◌≡◌, List, [], ◌∷◌, ◌++◌, ap, sym, ◌∙◌, subst}
use Rattle.host_port.specs.declared.start.Start.{Start}
use Rattle.world_rules.specs.declared.entry.Entry.{Entry}
use Rattle.world_rules.specs.declared.life.Birth.{Birth}
use Rattle.world_rules.specs.declared.life.Birth.TheVariants.{Born}
use Rattle.world_rules.specs.World.{World, first_world}
use Rattle.plain_world.specs.Kept.{run_of, IsRun}
use Rattle.plain_world.specs.Shown.{shown_world}
use Rattle.plain_world.proofs.RunLaws.{run_begins}
use Rattle.plain_world.proofs.run.PlainRun.new.Goals as goal

pub invariant_of-result : goal.invariant_of-result
invariant_of-result c =
    let births : List Birth = c.push.new.self.items in
    let w : World = shown_world c.in_ok-world.world in
    let first : births ≡ Born c.args.start ∷ [] =
    c.in_ok-push.ensures.items
    ∙ ap (λ (bs : List Birth). bs ++ Born c.args.start ∷ []) c.new-births.ensures.items in
    let begins : w ≡ first_world (Born c.args.start ∷ []) =
    c.in_ok-world.ensures ∙ ap (λ (start : Start). first_world (Born start ∷ [])) c.in_ok-try_clone.ensures in
    subst (λ (entries : List Entry). IsRun (run_of births entries w) w) (sym c.new-2.ensures.items)
    (run_begins c.args.start births w c.requires first begins)
