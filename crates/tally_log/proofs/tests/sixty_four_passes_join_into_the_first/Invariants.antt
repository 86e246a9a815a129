use Rattle.std.proofs.Common.{◌≡◌, ℕ, ◌<◌, ◌+◌, length}
use Rattle.std.specs.List.{Contains}
use Rattle.log_lock.specs.Words.{EachFrom, IsNewPass, IsPassOf, knowledge, passes_of}
use Rattle.tally_log.proofs.tests.sixty_four_passes_join_into_the_first.Given as goal

abbrev pub invariant-loop-pass : goal.invariant-loop-pass
invariant-loop-pass g l =
    IsPassOf l.lock l.all
    × ((knowledge l.all).count ≡ 64)
    × (l.count + length (passes_of l.passes) ≡ 64)
    × EachFrom (IsNewPass l.lock 7 64) l.count (passes_of l.passes)
    × ((k : ℕ) → k < l.count → Contains (knowledge l.all).numbers k)

abbrev pub decreases-loop-pass : goal.decreases-loop-pass
decreases-loop-pass g l = length (passes_of l.passes)
