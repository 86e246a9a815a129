use Rattle.std.proofs.Common.{◌≡◌, ℕ, ◌+◌, ◌<◌, length, take, get_or}
use Rattle.body_validator.specs.Locals.{count_of}
use Rattle.body_validator.proofs.locals.Locals.new.Given as goal

abbrev pub invariant-loop-run : goal.invariant-loop-run
invariant-loop-run l = record {
  end_is : l.end ≡ count_of (take l.run-index l.runs);
  length_is : length l.ends.items ≡ l.run-index;
  each : (k : ℕ) → k < l.run-index → get_or l.ends.items k 0 ≡ count_of (take (k + 1) l.runs);
}
