use Rattle.std.proofs.Common.{◌≡◌, ℕ, ◌+◌, List, [], ◌∷◌, drop, ap, sym, ◌∙◌, subst}
use Rattle.std.proofs.lemmas.List.{drop_more, drop_all}
use Rattle.world_rules.specs.declared.entry.Entry.{Entry}
use Rattle.world_rules.specs.World.{World}
use Rattle.plain_world.specs.Shown.{shown_world}
use Rattle.plain_world.proofs.ReportSteps.{IsReported, reported-none, reported-more, reported-all}
use Rattle.plain_world.proofs.whole_report.report.Goals as goal

pub loop-entry-init : goal.loop-entry-init
loop-entry-init c =
    reported-none c.args.births.now c.in_ok-first_start.field-0 (shown_world c.in_ok-world.world) c.new-text.result.items
    c.args.entries.now c.args.ends.now c.in_ok-first_start.ensures c.in_ok-world.ensures c.new-text.ensures.items

pub loop-entry-preserved : goal.loop-entry-preserved
loop-entry-preserved c =
    let entries : List Entry = c.args.entries.now in
    let i : ℕ = c.loop-entry.entry-index in
    let w : World = shown_world c.loop-entry.world in
    let here : drop i entries ≡ c.entry-item.result ∷ drop (i + 1) entries =
    drop_more entries i c.entry-item.result c.loop-entry-test.true
    ∙ ap (λ (x : Entry). x ∷ drop (i + 1) entries) (sym c.entry-item.is) in
    let P : List Entry → Type 0 = λ rest. IsReported c.args.births.now w c.loop-entry.text.items entries rest c.args.ends.now in
    reported-more c.args.births.now w (shown_world c.advance.new.self) c.loop-entry.text.items c.push_output.new.text.items
    c.push_ends.new.text.items entries c.entry-item.result (drop (i + 1) entries) c.args.ends.now c.end_count-told.result
    (subst P here c.loop-entry.invariant) c.end_count-told.ensures c.in_ok-advance.ensures c.in_ok-push_output.ensures
    c.in_ok-push_ends.ensures

pub returns : goal.returns
returns c =
    let entries : List Entry = c.args.entries.now in
    let w : World = shown_world c.loop-entry.world in
    let none : drop c.loop-entry.entry-index entries ≡ [] =
    drop_all c.loop-entry.entry-index entries c.loop-entry-test.false in
    let P : List Entry → Type 0 = λ rest. IsReported c.args.births.now w c.loop-entry.text.items entries rest c.args.ends.now in
    reported-all c.args.births.now w c.loop-entry.text.items c.push_total.new.text.items entries c.args.ends.now
    (subst P none c.loop-entry.invariant) c.in_ok-push_total.ensures
