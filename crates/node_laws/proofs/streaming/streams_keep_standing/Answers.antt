use Rattle.node_laws.proofs.Programs.{run-told}
use Rattle.node_laws.proofs.Entries.{others-keep, gives-keep}
use Rattle.node_laws.proofs.streaming.streams_keep_standing.Goals as goal

pub returns-clause-others : goal.returns-clause-others
returns-clause-others g c = λ setting old new held after was is pid entry ends keeps other records kept stands hands.
    let is_told = run-told setting old keeps.run in
    others-keep setting _ old new was is pid entry ends c.touches.ensures.counts (c.sound.ensures.all_told old is_told) other records kept.run stands hands

pub returns-clause-given : goal.returns-clause-given
returns-clause-given g c = λ setting old new held after was is worker pid brought streams side ends keeps fits beside records kept stands owned come hands.
    let is_told = run-told setting old keeps.run in
    gives-keep _ setting _ old new was is worker pid brought streams side ends c.touches.ensures.counts (c.sound.ensures.all_told old is_told) (c.placed.ensures.all_told old is_told) fits beside records
    kept.run stands owned come hands
