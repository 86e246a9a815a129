use Rattle.std.specs.Prelude.{◌≡◌, refl}
use Rattle.std.proofs.Common.{inr}
use Rattle.world_rules.specs.Changes.{pended, waiting}
use Rattle.world_rules.specs.Ends.{ended}
use Rattle.world_rules.specs.Receive.{receive_performed, send_performed}
use Rattle.world_rules.specs.Time.{sleep_performed}
use Rattle.world_rules.specs.Links.{ended_by_halt}
use Rattle.world_rules.specs.Rules.{call_performed}
use Rattle.kept_world.specs.Kept.{kept}
use Rattle.kept_world.proofs.Alike.{kept_same, like_home}
use Rattle.kept_world.proofs.MailAlike.{pended_same, waiting_same, sleep_same, receive_same, send_same}
use Rattle.kept_world.proofs.EndsAlike.{ended_same, fallen_same}
use Rattle.kept_world.proofs.NextAlike.{call_same}
use Rattle.kept_world.proofs.changes.calls_unread.Goals as goal

pub returns-clause-ends : goal.returns-clause-ends
returns-clause-ends c pid end w home =
    kept_same (λ q. q ≡ pid) (ended w pid end) (ended (kept w) pid end)
    (ended_same (λ q. q ≡ pid) w (kept w) pid end (inr refl) (like_home w pid home))

pub returns-clause-falls : goal.returns-clause-falls
returns-clause-falls c pid end w home =
    kept_same (λ q. q ≡ pid) (ended_by_halt w pid end) (ended_by_halt (kept w) pid end)
    (fallen_same (λ q. q ≡ pid) w (kept w) (ended w pid end) (ended (kept w) pid end) pid end (like_home w pid home)
    (ended_same (λ q. q ≡ pid) w (kept w) pid end (inr refl) (like_home w pid home)))

pub returns-clause-pends : goal.returns-clause-pends
returns-clause-pends c pid request w home =
    kept_same (λ q. q ≡ pid) (pended w pid request) (pended (kept w) pid request)
    (pended_same (λ q. q ≡ pid) pid refl w (kept w) request (like_home w pid home))

pub returns-clause-waits : goal.returns-clause-waits
returns-clause-waits c pid request deadline w home =
    kept_same (λ q. q ≡ pid) (waiting w pid request deadline) (waiting (kept w) pid request deadline)
    (waiting_same (λ q. q ≡ pid) pid refl w (kept w) request deadline (like_home w pid home))

pub returns-clause-sleeps : goal.returns-clause-sleeps
returns-clause-sleeps c pid request w home =
    kept_same (λ q. q ≡ pid) (sleep_performed w pid request) (sleep_performed (kept w) pid request)
    (sleep_same (λ q. q ≡ pid) pid refl w (kept w) request (like_home w pid home))

pub returns-clause-receives : goal.returns-clause-receives
returns-clause-receives c pid request w home =
    kept_same (λ q. q ≡ pid) (receive_performed w pid request) (receive_performed (kept w) pid request)
    (receive_same (λ q. q ≡ pid) pid refl w (kept w) request (like_home w pid home))

pub returns-clause-sends : goal.returns-clause-sends
returns-clause-sends c pid request refused w home =
    kept_same (λ q. q ≡ pid) (send_performed w pid request refused) (send_performed (kept w) pid request refused)
    (send_same (λ q. q ≡ pid) pid refl w (kept w) request refused (like_home w pid home))

pub returns-clause-calls : goal.returns-clause-calls
returns-clause-calls c births call pid request side w home =
    kept_same (λ q. q ≡ pid) (call_performed births call w pid request side) (call_performed births call (kept w) pid request side)
    (call_same (λ q. q ≡ pid) pid refl births call w (kept w) request side (like_home w pid home))
