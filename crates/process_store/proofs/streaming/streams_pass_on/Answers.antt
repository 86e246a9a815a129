use Rattle.node_laws.proofs.Programs.{run-told}
use Rattle.process_store.proofs.Streamings.{others_pass, gives_pass}
use Rattle.process_store.proofs.streaming.streams_pass_on.Goals as goal

pub returns-clause-others : goal.returns-clause-others
returns-clause-others g c = λ setting old new held after was is entry births ends keeps other records kept stands passes.
    let is_told = run-told setting old keeps.run in
    others_pass setting _ old new was is entry births ends c.touches.ensures.counts (c.sound.ensures.all_told old is_told) other records keeps.run kept.run stands passes

pub returns-clause-given : goal.returns-clause-given
returns-clause-given g c = λ setting old new held after was is worker pid brought streams side births ends keeps fits beside records kept stands owned come passes.
    let is_told = run-told setting old keeps.run in
    gives_pass _ setting _ old new was is worker pid brought streams side births ends c.touches.ensures.counts (c.sound.ensures.all_told old is_told) (c.placed.ensures.all_told old is_told) fits beside
    records keeps.run kept.run stands owned come passes
