use Rattle.script_engine.proofs.Answering.{follows-answer}
use Rattle.script_engine.proofs.engine.ScriptEngineEngine.answer.Goals as goal

pub returns-clause-stands : goal.returns-clause-stands
returns-clause-stands c program start calls fuel ask phase stands =
    let e = c.args.self.now in
    let answered = follows-answer program.asks.items program.end start.limits.fuel calls fuel e.answered e.executed e.fuel_left stands.1 in
    (stands.0, answered e.over ask c.args._reply.now (rw stands.0 at phase))
