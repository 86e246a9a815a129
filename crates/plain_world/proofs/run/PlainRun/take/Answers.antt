use Rattle.std.proofs.Common.{◌≡◌, List, None, ap, ◌∙◌, subst}
use Rattle.world_rules.specs.declared.entry.Entry.{Entry}
use Rattle.world_rules.specs.declared.life.Birth.{Birth}
use Rattle.world_rules.specs.Allowed.{Allowed}
use Rattle.world_rules.specs.Book.{Book}
use Rattle.world_rules.specs.Rules.{next}
use Rattle.world_rules.specs.World.{World}
use Rattle.plain_world.specs.Kept.{run_of, IsTaken}
use Rattle.plain_world.specs.Shown.{shown_world}
use Rattle.plain_world.proofs.RunLaws.{run_takes, is_taken}
use Rattle.plain_world.proofs.run.PlainRun.take.Goals as goal

pub invariant_of-result : goal.invariant_of-result
invariant_of-result c =
    let births : List Birth = c.self.inside.births.items in
    let w : World = shown_world c.self.inside.world in
    let allowed : Allowed None births w c.args.entry =
    subst (λ (bs : List Birth). Allowed None bs w c.args.entry) c.as_slice.ensures.value
    (c.in_ok-allows.ensures.0 c.if-not-branch.false) in
    let goes : shown_world c.advance.new.self ≡ next births w c.args.entry =
    c.in_ok-advance.ensures ∙ ap (λ (bs : List Birth). next bs w c.args.entry) c.as_slice-2.ensures.value in
    run_takes births c.self.inside.entries.items c.push.new.self.items c.args.entry w (shown_world c.advance.new.self)
    c.self.invariant allowed c.in_ok-push.ensures.items goes

pub returns : goal.returns
returns c =
    let births : List Birth = c.self.inside.births.items in
    let w : World = shown_world c.self.inside.world in
    let later : World = shown_world c.advance.new.self in
    let all : List Entry = c.push.new.self.items in
    let allowed : Allowed None births w c.args.entry =
    subst (λ (bs : List Birth). Allowed None bs w c.args.entry) c.as_slice.ensures.value
    (c.in_ok-allows.ensures.0 c.if-not-branch.false) in
    let goes : later ≡ next births w c.args.entry =
    c.in_ok-advance.ensures ∙ ap (λ (bs : List Birth). next bs w c.args.entry) c.as_slice-2.ensures.value in
    subst (λ (old : Book). IsTaken old (run_of births all later) c.args.entry) c.self.view_is
    (is_taken births c.self.inside.entries.items all c.args.entry w later c.self.invariant allowed
    c.in_ok-push.ensures.items goes)
