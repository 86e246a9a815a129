use Rattle.std.proofs.Common.{List, ℕ, ◌∙◌, ap}
use Rattle.std.specs.Option.{option_to_list}
use Rattle.world_rules.specs.Rules.{giver_of, happened, queued, row_after, with_row}
use Rattle.world_rules.specs.Views.{Deed, deed_of}
use Rattle.world_rules.specs.World.{World}
use Rattle.plain_world.specs.Shown.{shown_world}
use Rattle.plain_world.proofs.SameReady.{happened_same}
use Rattle.plain_world.proofs.world.PlainWorld.advance.Goals as goal

pub returns : goal.returns
returns c =
    let w : World = shown_world c.args.self.now in
    let deed : Deed = deed_of c.args.entry.now in
    let after : World = happened c.args.births.now w deed in
    let giver : List ℕ = option_to_list c.giver_of.result in
    ap (λ (v : World). with_row c.in_ok-row.row v)
    (c.in_ok-queue.ensures
    ∙ ap (λ (v : World). queued v.ready giver v) c.in_ok-happen.ensures
    ∙ ap (λ (ready : List ℕ). queued ready giver after) (happened_same c.args.births.now w deed)
    ∙ ap (λ (pids : List ℕ). queued w.ready pids after) c.giver_of.ensures)
    ∙ ap (λ (row : ℕ). with_row row (queued w.ready (giver_of deed) after)) c.in_ok-row.ensures
