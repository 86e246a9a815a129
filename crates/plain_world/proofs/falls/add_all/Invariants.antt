use Rattle.std.proofs.Common.{◌≡◌, ◌||◌, ℕ, true, take}
use Rattle.world_rules.specs.Part.{is_among}
use Rattle.plain_world.proofs.falls.add_all.Given as goal

abbrev pub invariant-loop-pid : goal.invariant-loop-pid
invariant-loop-pid l =
    (q : ℕ) → (is_among l.fn.numbers q || is_among (take l.pid-index l.more) q) ≡ true → is_among l.numbers q ≡ true
