use Rattle.std.proofs.Common.{◌≡◌, ℕ, List, [], ◌++◌, drop, Some, ap, sym, ◌∙◌, subst}
use Rattle.std.specs.List.{slice_get}
use Rattle.std.specs.Option.{option_copied}
use Rattle.world_rules.specs.declared.life.Ended.{Ended}
use Rattle.world_rules.specs.World.{World, Exit}
use Rattle.world_rules.specs.Report.{end_line, end_lines}
use Rattle.plain_world.specs.Shown.{shown_world}
use Rattle.plain_world.proofs.ReportSteps.{drop_none, no_memories, all_written, one_end_more}
use Rattle.plain_world.proofs.world.PlainWorld.push_ends.Goals as goal

pub returns-in_default-memory_at : goal.returns-in_default-memory_at
returns-in_default-memory_at c =
    let w : World = shown_world c.args.self.now in
    let i : ℕ = c.loop-place.place in
    let ends : List Ended = c.args.ends.now in
    let none : drop i ends ≡ [] =
    drop_none ends i (sym c.memory_at.ensures ∙ ap option_copied c.in_default-memory_at.is) in
    all_written c.loop-place.text.items (end_lines w.process (drop i w.exits) (drop i ends))
    (c.args.text.now.items ++ end_lines w.process (drop c.args.told w.exits) (drop c.args.told ends))
    c.loop-place.invariant
    (ap (λ (memories : List Ended). end_lines w.process (drop i w.exits) memories) none
    ∙ no_memories w.process (drop i w.exits))

pub loop-place-preserved : goal.loop-place-preserved
loop-place-preserved c =
    let w : World = shown_world c.args.self.now in
    let i : ℕ = c.loop-place.place in
    let ends : List Ended = c.args.ends.now in
    let exit : Exit = c.in-Some.exit.now in
    let memory : Ended = c.in-Some-memory_at.memory.now in
    let fuel : c.fuel_of.result ≡ (w.process exit.pid).fuel =
    c.fuel_of.ensures ∙ ap (λ (pid : ℕ). (w.process pid).fuel) c.pid-in-loop-place.ensures in
    let text : List ℕ = c.loop-place.text.items in
    let pid : c.pid.result ≡ exit.pid = c.pid.ensures in
    let end : c.end.result ≡ exit.end = c.end.ensures in
    let line : c.push_end_line.new.text.items ≡ text ++ end_line exit (w.process exit.pid).fuel memory =
    c.in_ok-push_end_line.ensures
    ∙ (λ k. text ++ end_line (record { pid = pid k; end = end k }) (fuel k) memory) in
    one_end_more w.process w.exits ends i exit memory text c.push_end_line.new.text.items
    (c.args.text.now.items ++ end_lines w.process (drop c.args.told w.exits) (drop c.args.told ends))
    (subst (λ (exits : List Exit). slice_get exits i ≡ Some exit) c.as_slice.ensures.value
    (sym c.exit_at.ensures ∙ ap option_copied c.in-Some.is))
    (sym c.memory_at.ensures ∙ ap option_copied c.in-Some-memory_at.is) c.loop-place.invariant line
