use Rattle.world_rules.specs.Changes.{with_arrival, answered, posted}
use Rattle.world_rules.specs.Ends.{doomed, struck, all_struck, all_end, closed_with_first}
use Rattle.world_rules.specs.Receive.{held, delivered, arrived}
use Rattle.world_rules.specs.Time.{ticked}
use Rattle.world_rules.specs.Links.{with_link, kill_performed}
use Rattle.world_rules.specs.Registry.{with_name}
use Rattle.world_rules.specs.Spawn.{born}
use Rattle.world_rules.specs.Outside.{opened, opened_and_shut}
use Rattle.world_rules.specs.Rules.{taken}
use Rattle.kept_world.specs.Kept.{kept}
use Rattle.kept_world.proofs.Alike.{nobody_known, kept_same, like_kept, arrival_same, answered_same}
use Rattle.kept_world.proofs.MailAlike.{posted_same, held_same, delivered_same, arrived_same, ticked_same, linked_same}
use Rattle.kept_world.proofs.EndsAlike.{doomed_same, struck_same, all_struck_same, all_end_same, closed_first_same, kill_same, named_same, born_same, shut_same, opened_same}
use Rattle.kept_world.proofs.NextAlike.{taken_same}
use Rattle.kept_world.proofs.changes.changes_unread.Goals as goal

pub returns-clause-takes : goal.returns-clause-takes
returns-clause-takes c worker pid w =
    kept_same nobody_known (taken w worker pid) (taken (kept w) worker pid)
    (taken_same nobody_known w (kept w) worker pid (like_kept w))

pub returns-clause-arrives : goal.returns-clause-arrives
returns-clause-arrives c pid what w =
    kept_same nobody_known (with_arrival w pid what) (with_arrival (kept w) pid what)
    (arrival_same nobody_known w (kept w) pid what what (like_kept w))

pub returns-clause-answers : goal.returns-clause-answers
returns-clause-answers c pid request reply what w =
    kept_same nobody_known (answered w pid request reply what) (answered (kept w) pid request reply what)
    (answered_same nobody_known w (kept w) pid request request reply reply what what (like_kept w))

pub returns-clause-posts : goal.returns-clause-posts
returns-clause-posts c to item w =
    kept_same nobody_known (posted w to item) (posted (kept w) to item)
    (posted_same nobody_known w (kept w) to item (like_kept w))

pub returns-clause-holds : goal.returns-clause-holds
returns-clause-holds c pid item w =
    kept_same nobody_known (held w pid item) (held (kept w) pid item)
    (held_same nobody_known w (kept w) pid item (like_kept w))

pub returns-clause-delivers : goal.returns-clause-delivers
returns-clause-delivers c pid request item w =
    kept_same nobody_known (delivered w pid request item) (delivered (kept w) pid request item)
    (delivered_same nobody_known w (kept w) pid request item (like_kept w))

pub returns-clause-wakes : goal.returns-clause-wakes
returns-clause-wakes c to item w =
    kept_same nobody_known (arrived w to item) (arrived (kept w) to item)
    (arrived_same nobody_known w (kept w) to item (like_kept w))

pub returns-clause-ticks : goal.returns-clause-ticks
returns-clause-ticks c now w =
    kept_same nobody_known (ticked w now) (ticked (kept w) now)
    (ticked_same nobody_known w (kept w) now (like_kept w))

pub returns-clause-dooms : goal.returns-clause-dooms
returns-clause-dooms c pid worker end w =
    kept_same nobody_known (doomed w pid worker end) (doomed (kept w) pid worker end)
    (doomed_same nobody_known w (kept w) pid worker end (like_kept w))

pub returns-clause-strikes : goal.returns-clause-strikes
returns-clause-strikes c pid end w =
    kept_same nobody_known (struck (w.process pid).stage w pid end) (struck ((kept w).process pid).stage (kept w) pid end)
    (struck_same nobody_known w (kept w) pid end (like_kept w))

pub returns-clause-strikes_all : goal.returns-clause-strikes_all
returns-clause-strikes_all c pids end w =
    kept_same nobody_known (all_struck w pids end) (all_struck (kept w) pids end)
    (all_struck_same nobody_known w (kept w) pids end (like_kept w))

pub returns-clause-ends_all : goal.returns-clause-ends_all
returns-clause-ends_all c end w =
    kept_same nobody_known (all_end w end) (all_end (kept w) end)
    (all_end_same nobody_known w (kept w) end (like_kept w))

pub returns-clause-closes : goal.returns-clause-closes
returns-clause-closes c w =
    kept_same nobody_known (closed_with_first w) (closed_with_first (kept w))
    (closed_first_same nobody_known w (kept w) (like_kept w))

pub returns-clause-kills : goal.returns-clause-kills
returns-clause-kills c pid request w =
    kept_same nobody_known (kill_performed w pid request) (kill_performed (kept w) pid request)
    (kill_same nobody_known w (kept w) pid request (like_kept w))

pub returns-clause-bears : goal.returns-clause-bears
returns-clause-bears c pid request start w =
    kept_same nobody_known (born w pid request start) (born (kept w) pid request start)
    (born_same nobody_known w (kept w) pid request start (like_kept w))

pub returns-clause-links : goal.returns-clause-links
returns-clause-links c a b tag w =
    kept_same nobody_known (with_link w a b tag) (with_link (kept w) a b tag)
    (linked_same nobody_known w (kept w) a b tag (like_kept w))

pub returns-clause-names : goal.returns-clause-names
returns-clause-names c name pid w =
    kept_same nobody_known (with_name w name pid) (with_name (kept w) name pid)
    (named_same nobody_known w (kept w) name pid (like_kept w))

pub returns-clause-opens : goal.returns-clause-opens
returns-clause-opens c call pid request w =
    kept_same nobody_known (opened call w pid request) (opened call (kept w) pid request)
    (opened_same nobody_known call w (kept w) pid request (like_kept w))

pub returns-clause-shuts : goal.returns-clause-shuts
returns-clause-shuts c pid w =
    kept_same nobody_known (opened_and_shut w pid) (opened_and_shut (kept w) pid)
    (shut_same nobody_known w (kept w) pid (like_kept w))
