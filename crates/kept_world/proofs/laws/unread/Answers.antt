use Rattle.std.specs.Prelude.{◌≡◌, refl}
use Rattle.std.proofs.Common.{subst, sym}
use Rattle.world_rules.specs.Views.{Deed, Taking, Giving, Timing, EndingAll, deed_of}
use Rattle.world_rules.specs.World.{World, core_of}
use Rattle.world_rules.specs.Rules.{next}
use Rattle.kept_world.specs.Kept.{kept, brought, GivesNone}
use Rattle.kept_world.proofs.Alike.{nobody_known, kept_same, like_kept, like_brought}
use Rattle.kept_world.proofs.NextAlike.{Brings, next_same}
use Rattle.kept_world.proofs.AllowedAlike.{like_back, deed_fits}
use Rattle.kept_world.proofs.laws.unread.Goals as goal

none_brings : (deed : Deed) → GivesNone deed → Brings nobody_known deed
none_brings (Taking worker pid) none = tt
none_brings (Giving give) none = none
none_brings (Timing now) none = tt
none_brings (EndingAll cause) none = tt

pub returns-clause-others : goal.returns-clause-others
returns-clause-others c births w entry none =
    kept_same nobody_known (next births w entry) (next births (kept w) entry)
    (next_same nobody_known births w (kept w) entry (none_brings (deed_of entry) none) (like_kept w))

pub returns-clause-gives : goal.returns-clause-gives
returns-clause-gives c births w entry give is =
    kept_same (λ q. q ≡ give.pid) (next births w entry) (next births (brought give.pid (core_of (w.process give.pid)) (kept w)) entry)
    (next_same (λ q. q ≡ give.pid) births w (brought give.pid (core_of (w.process give.pid)) (kept w)) entry
    (subst (λ (deed : Deed). Brings (λ q. q ≡ give.pid) deed) (sym is) refl) (like_brought w give.pid))

pub returns-clause-others_allowed : goal.returns-clause-others_allowed
returns-clause-others_allowed c terms births w entry none = (
  λ allowed. deed_fits nobody_known w (kept w) (like_kept w) terms births (deed_of entry) (none_brings (deed_of entry) none) allowed,
  λ allowed. deed_fits nobody_known (kept w) w (like_back nobody_known w (kept w) (like_kept w)) terms births (deed_of entry) (none_brings (deed_of entry) none) allowed,
)

pub returns-clause-gives_allowed : goal.returns-clause-gives_allowed
returns-clause-gives_allowed c terms births w entry give is =
    let v : World = brought give.pid (core_of (w.process give.pid)) (kept w) in
    let brings : Brings (λ q. q ≡ give.pid) (deed_of entry) = subst (λ (deed : Deed). Brings (λ q. q ≡ give.pid) deed) (sym is) refl in (
      λ allowed. deed_fits (λ q. q ≡ give.pid) w v (like_brought w give.pid) terms births (deed_of entry) brings allowed,
      λ allowed. deed_fits (λ q. q ≡ give.pid) v w (like_back (λ q. q ≡ give.pid) w v (like_brought w give.pid)) terms births (deed_of entry) brings allowed,
    )
