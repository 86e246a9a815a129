use Rattle.std.proofs.Common.{◌≡◌, ◌++◌, take}
use Rattle.process_store.proofs.store.queueing.push_all.Given as goal

abbrev pub invariant-loop-pid : goal.invariant-loop-pid
invariant-loop-pid l = record {
  ready : l.queue.ready ≡ l.fn.queue.ready ++ take l.pid-index l.came;
  deadlines : l.queue.deadlines ≡ l.fn.queue.deadlines;
  room : l.queue.room ≡ l.fn.queue.room;
}
