use Rattle.std.proofs.Common.{ℕ, Option, option_map, ap, sym, ◌∙◌}
use Rattle.std.proofs.lemmas.Result.{on_ok_weaker}
use Rattle.world_rules.specs.Calls.{HostCall}
use Rattle.world_rules.specs.Streams.{Streamed, streamed_by}
use Rattle.plain_part.specs.declared.calls.HostCall as Coded
use Rattle.plain_part.specs.Shown.{shown_call}
use Rattle.plain_world.specs.Shown.{shown_world}
use Rattle.plain_world.proofs.Streaming.{streamed-other}
use Rattle.plain_world.proofs.world.PlainWorld.stream.Goals as goal

pub returns-then-not-is_streaming : goal.returns-then-not-is_streaming
returns-then-not-is_streaming c =
    let w = shown_world c.args.self.now in
    let request = c.args.request.now in
    let side = c.args.side.now in
    ap (λ (streamed : ℕ → Streamed). record w { streamed = streamed })
    (streamed-other (shown_call c.in-Some.call) request side w.streamed (sym c.is_streaming.ensures ∙ c.if-not-is_streaming.true)
    ∙ ap (λ (call : Option HostCall). streamed_by call request side w.streamed)
    (ap (λ (o : Option Coded.HostCall). option_map shown_call o) (sym c.in-Some.is) ∙ c.call_of.ensures))

pub returns : goal.returns
returns c =
    let w = shown_world c.args.self.now in
    let request = c.args.request.now in
    let side = c.args.side.now in
    on_ok_weaker c.stream_on.result (λ one.
    ap (λ (streamed : ℕ → Streamed). record w { streamed = streamed })
    (one
    ∙ ap (λ (call : Option HostCall). streamed_by call request side w.streamed)
    (ap (λ (o : Option Coded.HostCall). option_map shown_call o) (sym c.in-Some.is) ∙ c.call_of.ensures))) c.stream_on.ensures
