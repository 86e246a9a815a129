use Rattle.std.proofs.Common.{◌≡◌, ◌∙◌, ap, sym, is_some, false}
use Rattle.script_engine.specs.declared.script.Script.{Script}
use Rattle.script_engine.proofs.Answering.{done_test}
use Rattle.script_engine.proofs.engine.ScriptEngineEngine.done.Goals as goal

pub returns : goal.returns
returns c program start calls fuel stands =
    let e = c.args.self.now in
    let same : c.deref-script.result.now ≡ program = c.deref-script.ensures ∙ stands.0 in
    let listed : c.as_slice.result.now ≡ program.asks.items =
    c.as_slice.ensures.value ∙ ap (λ (s : Script). s.asks.items) same in
    let ends : is_some program.end ≡ false =
    ap (λ (s : Script). is_some s.end) (sym same) ∙ sym c.is_some.ensures ∙ c.if-is_some.false in
    done_test program.asks.items program.end start.limits.fuel calls fuel e.answered e.executed e.fuel_left stands.1
    c.as_slice.result.now listed c.if-self.false ends
