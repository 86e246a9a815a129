use Rattle.std.proofs.Common.{◌≡◌, [], ◌∷◌, Bool, true, false, cond, not, filter, refl}
use Rattle.world_rules.specs.declared.halt.End.{End}
use Rattle.world_rules.specs.declared.halt.End.TheVariants as EndIs
use Rattle.world_rules.specs.Part.{is_among}
use Rattle.world_rules.specs.World.{World, Ended, is_live}
use Rattle.world_rules.specs.Ends.{closed_with_first}
use Rattle.world_rules.specs.Links.{fallen_with, signals_of, fallen}

-- The end of process 1, which is alone: nobody falls with it, nobody is told, and the run is over.

nobody_falls : (w : World) (end : End) → w.numbers_drawn ≡ 1 → fallen_with w 1 end ≡ []
nobody_falls w EndIs.Done drawn = refl
nobody_falls w (EndIs.Trap trap) drawn = rw drawn refl
nobody_falls w (EndIs.Spent spent) drawn = rw drawn refl
nobody_falls w (EndIs.Host fault) drawn = rw drawn refl
nobody_falls w EndIs.Killed drawn = rw drawn refl
nobody_falls w EndIs.Linked drawn = rw drawn refl
nobody_falls w EndIs.Closed drawn = rw drawn refl
nobody_falls w EndIs.Stalled drawn = rw drawn refl
nobody_falls w EndIs.Idle drawn = rw drawn refl
nobody_falls w EndIs.NoMemory drawn = rw drawn refl

only_one : (b : Bool) → filter (λ pid. not (is_among (1 ∷ []) pid)) (cond b (1 ∷ []) []) ≡ []
only_one true = refl
only_one false = refl

nobody_told : (w : World) (end : End) → w.numbers_drawn ≡ 1 → signals_of w (1 ∷ []) end ≡ []
nobody_told w EndIs.Done drawn = refl
nobody_told w (EndIs.Trap trap) drawn = rw (drawn, only_one (is_live (w.process 1).stage)) refl
nobody_told w (EndIs.Spent spent) drawn = rw (drawn, only_one (is_live (w.process 1).stage)) refl
nobody_told w (EndIs.Host fault) drawn = rw (drawn, only_one (is_live (w.process 1).stage)) refl
nobody_told w EndIs.Killed drawn = rw (drawn, only_one (is_live (w.process 1).stage)) refl
nobody_told w EndIs.Linked drawn = rw (drawn, only_one (is_live (w.process 1).stage)) refl
nobody_told w EndIs.Closed drawn = rw (drawn, only_one (is_live (w.process 1).stage)) refl
nobody_told w EndIs.Stalled drawn = rw (drawn, only_one (is_live (w.process 1).stage)) refl
nobody_told w EndIs.Idle drawn = rw (drawn, only_one (is_live (w.process 1).stage)) refl
nobody_told w EndIs.NoMemory drawn = rw (drawn, only_one (is_live (w.process 1).stage)) refl

-- with process 1 nobody else ends
pub fallen-alone : (before after : World) (end : End) → before.numbers_drawn ≡ 1 → fallen before after 1 end ≡ closed_with_first after
fallen-alone before after end drawn = rw (nobody_falls before end drawn, nobody_told before end drawn) refl

-- the run is over where process 1 has ended alone
pub closed-alone : (w : World) (end : End) → w.numbers_drawn ≡ 1 → (w.process 1).stage ≡ Ended end → closed_with_first w ≡ record w { over = true }
closed-alone w end drawn stage = rw (stage, drawn, stage) refl
