use Rattle.std.specs.Prelude.{◌≡◌, ℕ, List, [], ◌∷◌, ◌++◌, Result, OnOk}
use Rattle.std.proofs.Common.{◌∙◌, ap}
use Rattle.std.proofs.lemmas.Result.{on_ok_weaker}
use Rattle.world_rules.specs.declared.halt.End.{End}
use Rattle.world_rules.specs.Mail.{mail_handles}
use Rattle.world_rules.specs.Moves.{ShutAll, ShutMail}
use Rattle.world_rules.specs.World.{World, Process, Exit, with_process, with_closed, with_moves}
use Rattle.world_rules.specs.Ends.{unnamed, unlinked_all, parted, held_handles, stripped, ended, fated, doomed}
use Rattle.plain_world.specs.ShownProcess.{nobody}
use Rattle.plain_world.proofs.ProcessList.{put_over}

-- An end, step by step as the program takes them.

-- the process that was taken out is put back changed, without names and links
parted_back : (w left middle : World) (pid : ℕ) (p : Process) → left ≡ with_process w pid nobody → middle ≡ parted left pid p →
    middle ≡ parted w pid p
parted_back w left middle pid p out back =
    back ∙ ap (λ (v : World). parted v pid p) out
    ∙ ap (λ (ps : ℕ → Process). unlinked_all (unnamed (record w { process = ps }) pid) pid) (put_over w.process pid nobody p)

-- the streams are closed then
closed_back : (w left middle closed : World) (pid : ℕ) (p : Process) (handles held : List ℕ) → left ≡ with_process w pid nobody →
    middle ≡ parted left pid p → closed ≡ with_closed middle handles → handles ≡ held →
    closed ≡ with_closed (parted w pid p) held
closed_back w left middle closed pid p handles held out back close same =
    close ∙ ap (λ (v : World). with_closed v handles) (parted_back w left middle pid p out back)
    ∙ ap (λ (hs : List ℕ). with_closed (parted w pid p) hs) same

pub ended_back : (w left middle closed moved : World) (pid : ℕ) (end : End) (taken p : Process) (handles : List ℕ)
    (exits : List Exit) → taken ≡ w.process pid → left ≡ with_process w pid nobody → p ≡ stripped taken end →
    middle ≡ parted left pid p → closed ≡ with_closed middle handles → handles ≡ held_handles taken →
    moved ≡ with_moves closed (ShutAll pid ∷ []) → exits ≡ moved.exits ++ record { pid = pid; end = end } ∷ [] →
    record moved { exits = exits } ≡ ended w pid end
ended_back w left middle closed moved pid end taken p handles exits same out strip back close held move exit =
    ap (λ (xs : List Exit). record moved { exits = xs }) exit
    ∙ ap (λ (v : World). record v { exits = v.exits ++ record { pid = pid; end = end } ∷ [] })
    (move ∙ ap (λ (v : World). with_moves v (ShutAll pid ∷ []))
    (closed_back w left middle closed pid p handles (held_handles taken) out back close held
    ∙ ap (λ (q : Process). with_closed (parted w pid q) (held_handles taken)) strip
    ∙ ap (λ (q : Process). with_closed (parted w pid (stripped q end)) (held_handles q)) same))

pub doomed_back : {T E : Type 0} (r : Result T E) (w left middle closed moved : World) (pid worker : ℕ) (end : End)
    (taken p : Process) (handles : List ℕ) → taken ≡ w.process pid → left ≡ with_process w pid nobody →
    p ≡ fated taken worker end → middle ≡ parted left pid p → closed ≡ with_closed middle handles →
    handles ≡ mail_handles taken.mail → OnOk r (moved ≡ with_moves closed (ShutMail pid ∷ [])) →
    OnOk r (moved ≡ doomed w pid worker end)
doomed_back r w left middle closed moved pid worker end taken p handles same out fate back close held move =
    on_ok_weaker r
    (λ one. one ∙ ap (λ (v : World). with_moves v (ShutMail pid ∷ []))
    (closed_back w left middle closed pid p handles (mail_handles taken.mail) out back close held
    ∙ ap (λ (q : Process). with_closed (parted w pid q) (mail_handles taken.mail)) fate
    ∙ ap (λ (q : Process). with_closed (parted w pid (fated q worker end)) (mail_handles q.mail)) same))
    move
