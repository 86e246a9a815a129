use Rattle.std.proofs.Common.{length, ◌-◌, ◌≡◌, ◌≤◌, ◌++◌, take}
use Rattle.log_lock.specs.Knowledge.{with_seen}
use Rattle.log_lock.specs.Words.{knowledge}
use Rattle.tally_log.specs.Tally.{IsOwnPassOf, amounts_of}
use Rattle.tally_log.proofs.adding.add_all.Given as goal

abbrev pub invariant-loop-count : goal.invariant-loop-count
invariant-loop-count g l =
    IsOwnPassOf l.lock l.pass
    × (knowledge l.pass ≡ with_seen (knowledge l.pass).seen (knowledge l.fn.pass))
    × (l.count ≤ length l.amounts)
    × (amounts_of (knowledge l.fn.pass).number (knowledge l.pass).seen ≡ amounts_of (knowledge l.fn.pass).number
    (knowledge l.fn.pass).seen ++ take l.count l.amounts)

abbrev pub decreases-loop-count : goal.decreases-loop-count
decreases-loop-count g l = length l.amounts - l.count
