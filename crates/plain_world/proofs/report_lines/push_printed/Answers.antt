use Rattle.std.proofs.Common.{◌≡◌, ℕ, ◌+◌, List, [], ◌∷◌, ◌++◌, take, append_assoc, append-nil, ap, sym, ◌∙◌}
use Rattle.std.proofs.lemmas.List.{take_more}
use Rattle.host_port.specs.declared.call.Call.{Call}
use Rattle.world_rules.specs.Report.{printed, printed_by}
use Rattle.world_rules.specs.Calls.{call_of}
use Rattle.plain_world.proofs.ReportPieces.{printed-append}
use Rattle.plain_world.proofs.report_lines.push_printed.Goals as goal

pub loop-call-preserved : goal.loop-call-preserved
loop-call-preserved c =
    let calls : List Call = c.args.calls.now in
    let i : ℕ = c.loop-call.call-index in
    let more : take (i + 1) calls ≡ take i calls ++ c.call-item.result ∷ [] =
    take_more calls i c.call-item.result c.loop-call-test.true
    ∙ ap (λ (call : Call). take i calls ++ call ∷ []) (sym c.call-item.is) in
    let told : printed (take (i + 1) calls) ≡ printed (take i calls) ++ printed_by (call_of c.call-item.result.request) c.call-item.result =
    ap printed more ∙ printed-append (take i calls) (c.call-item.result ∷ [])
    ∙ ap (λ (bytes : List ℕ). printed (take i calls) ++ bytes) (append-nil (printed_by (call_of c.call-item.result.request) c.call-item.result)) in
    rw (told, c.in_ok-push_printed_by.ensures, c.loop-call.invariant) (append_assoc c.args.text.now.items (printed (take i calls)) (printed_by (call_of c.call-item.result.request) c.call-item.result))
