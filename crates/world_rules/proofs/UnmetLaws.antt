-- A process that waits in receive finds nothing that it wants in its mailbox.
use Rattle.std.specs.Prelude.{◌≡◌, ◌≢◌, ◌⊎◌, ℕ, ◌+◌, List, [], ◌∷◌, ◌++◌, cond, Option, Some, None, Bool, true, false, nat_eq, if◌then◌else◌, refl}
use Rattle.std.proofs.Common.{subst, sym, ◌∙◌, ap, inl, inr}
use Rattle.std.proofs.lemmas.Bool.Decides.{eqb_tells}
use Rattle.host_port.specs.declared.request.Request.{Request}
use Rattle.host_port.specs.declared.reply.Reply.{Reply}
use Rattle.world_rules.specs.declared.entry.Entry.{Entry}
use Rattle.world_rules.specs.declared.life.Birth.{Birth}
use Rattle.world_rules.specs.Views.{deed_of}
use Rattle.world_rules.specs.Calls.{HostCall, call_of}
use Rattle.world_rules.specs.Calls as CallIs
use Rattle.world_rules.specs.Answers.{number_reply}
use Rattle.world_rules.specs.Arrivals.{What, arrival_of}
use Rattle.world_rules.specs.Mail.{MailItem, Letter, Signal, tag_of, tags_in, is_wanted, pick, unpicked}
use Rattle.world_rules.specs.Settled.{SentOff, Delivered, StreamOpened, ListenerBound, settled}
use Rattle.world_rules.specs.World.{World, Process, Stage, Unborn, Ready, Out, Waiting, Doomed, Ended, put, with_process, is_home, first_world, first_start, fresh_process}
use Rattle.world_rules.specs.Changes.{reached, with_arrival, readied, answered, replied, posted}
use Rattle.world_rules.specs.Receive.{held, delivery_reply, wanted_item, without_wanted, delivered_or, woken_from, woken, arrived, sent_off}
use Rattle.world_rules.specs.Ends.{stripped, fated}
use Rattle.world_rules.specs.Rules.{turned, next}
use Rattle.world_rules.specs.Births.{Terms}
use Rattle.world_rules.specs.Allowed.{Allowed}
use Rattle.world_rules.specs.Book.{Book}
use Rattle.world_rules.specs.Told.{told, all_after, AllAllowed, IsTold}
use Rattle.world_rules.specs.Touches.{Change, Takes, Arrives, Turns, Returns, Answers, Pends, Waits, Posts, Picks, Settles, Minds, Dooms, Finishes, Begins, changed, nobody}
use Rattle.world_rules.specs.Sound.{IsSound}
use Rattle.world_rules.specs.Unmet.{NothingWanted, AllUnmet}
use Rattle.world_rules.specs.laws.BirthLaws.{none_is_some, put_here}
use Rattle.world_rules.specs.laws.CarryLaws.{put_other}
use Rattle.world_rules.specs.laws.KeepingLaws.{false_is_true}
use Rattle.world_rules.specs.laws.ToldLaws.{told_all, entries_allowed_all}
use Rattle.world_rules.proofs.Walk.{Calm, Whole, is_quiet}
use Rattle.world_rules.proofs.MildWalk.{stage_put, replied_walk}
use Rattle.world_rules.proofs.WholeWalk.{deed_walk}
use Rattle.world_rules.proofs.ReadyList.{front_ready}
use Rattle.world_rules.proofs.SoundLaws.{first_sound, entry_sound}

-- AN ITEM MORE

pub new_wanted : (tags : List ℕ) (mail : List MailItem) (item : MailItem) → pick tags mail ≡ None → is_wanted tags (tag_of item) ≡ true →
    (pick tags (mail ++ item ∷ []) ≡ Some item) × (unpicked tags (mail ++ item ∷ []) ≡ mail)
new_wanted tags [] item none wanted =
    (ap (λ (b : Bool). cond b (Some item) None) wanted, ap (λ (b : Bool). if b then [] else (item ∷ [])) wanted)
new_wanted tags (first ∷ mail) item none wanted = by (λ rest. new_wanted tags mail item rest wanted) (is_wanted tags (tag_of first)) none
  where
    by : (pick tags mail ≡ None → (pick tags (mail ++ item ∷ []) ≡ Some item) × (unpicked tags (mail ++ item ∷ []) ≡ mail)) → (b : Bool)
        → cond b (Some first) (pick tags mail) ≡ None
        → (cond b (Some first) (pick tags (mail ++ item ∷ [])) ≡ Some item) × ((if b then mail ++ item ∷ [] else (first ∷ unpicked tags (mail ++ item ∷ []))) ≡ first ∷ mail)
    by rest true none = absurd (none_is_some (sym none))
    by rest false none = ((rest none).0, ap (λ (m : List MailItem). first ∷ m) (rest none).1)

pub new_unwanted : (tags : List ℕ) (mail : List MailItem) (item : MailItem) → pick tags mail ≡ None → is_wanted tags (tag_of item) ≡ false →
    pick tags (mail ++ item ∷ []) ≡ None
new_unwanted tags [] item none unwanted = ap (λ (b : Bool). cond b (Some item) None) unwanted
new_unwanted tags (first ∷ mail) item none unwanted = by (λ rest. new_unwanted tags mail item rest unwanted) (is_wanted tags (tag_of first)) none
  where
    by : (pick tags mail ≡ None → pick tags (mail ++ item ∷ []) ≡ None) → (b : Bool) → cond b (Some first) (pick tags mail) ≡ None
        → cond b (Some first) (pick tags (mail ++ item ∷ [])) ≡ None
    by rest true none = none
    by rest false none = rest none

-- ONE PROCESS REPLACED

abbrev Fits : Process → Type 0
Fits p = NothingWanted p.stage p.mail

abbrev Unmets : World → World → Type 0
Unmets w after = AllUnmet w → AllUnmet after

unmet_put : (w after : World) (pid : ℕ) (p : Process) → ((q : ℕ) → after.process q ≡ put w.process pid p q) → Fits p → Unmets w after
unmet_put w after pid p process fits unmet q =
    subst (λ (r : Process). Fits r) (sym (process q)) (by (nat_eq q pid))
  where
    by : (b : Bool) → Fits (if b then p else w.process q)
    by true = fits
    by false = unmet q

-- who doesn't wait asks nothing
fits_at : (p : Process) (stage : Stage) → p.stage ≡ stage → NothingWanted stage p.mail → Fits p
fits_at p stage at fits = subst (λ (s : Stage). NothingWanted s p.mail) (sym at) fits

change_fits : (change : Change) (p : Process) → is_quiet change ≡ true → Fits p → Fits (changed change p)
change_fits (Takes worker) p quiet fits = tt
change_fits (Arrives what) p quiet fits = fits
change_fits (Turns give) p quiet fits = false_is_true quiet
change_fits Returns p quiet fits = tt
change_fits (Answers request reply) p quiet fits = tt
change_fits (Pends request) p quiet fits = tt
change_fits (Waits request deadline) p quiet fits = false_is_true quiet
change_fits (Posts item) p quiet fits = false_is_true quiet
change_fits (Picks tags) p quiet fits = false_is_true quiet
change_fits (Settles SentOff) p quiet fits = false_is_true quiet
change_fits (Settles (Delivered item)) p quiet fits = false_is_true quiet
change_fits (Settles (StreamOpened handle)) p quiet fits = false_is_true quiet
change_fits (Settles ListenerBound) p quiet fits = fits
change_fits (Minds dies) p quiet fits = fits
change_fits (Dooms worker end) p quiet fits = false_is_true quiet
change_fits (Finishes end) p quiet fits = false_is_true quiet
change_fits (Begins start) p quiet fits = false_is_true quiet

calm_unmet : Calm Unmets
calm_unmet = record {
  self = λ w unmet. unmet;
  next = λ a b c first second unmet. second (first unmet);
  still = λ w after still books unmet q. subst (λ (p : Process). Fits p) (sym (still.process q)) (unmet q);
  one = λ w after pid change one quiet books unmet.
      unmet_put w after pid (changed change (w.process pid)) one.process (change_fits change (w.process pid) quiet (unmet pid)) unmet;
}

-- ARRIVALS

answered_unmet : (w : World) (pid : ℕ) (request : Request) (reply : Reply) (what : What) → is_home (w.process pid).stage ≡ true
    → ((q : ℕ) → q ≢ pid → Fits (w.process q)) → AllUnmet (answered w pid request reply what)
answered_unmet w pid request reply what home others = by (is_home (w.process pid).stage) home
  where
    p : Process
    p = readied (w.process pid) request reply

    mid : World
    mid = with_process w pid (readied (w.process pid) request reply)

    each : (q : ℕ) → ((nat_eq q pid ≡ true) × (q ≡ pid)) ⊎ ((nat_eq q pid ≡ false) × (q ≢ pid))
        → Fits ((with_arrival (with_process w pid (readied (w.process pid) request reply)) pid what).process q)
    each q (inl same) =
        subst (λ (n : ℕ). Fits ((with_arrival mid pid what).process n)) (sym same.1)
        (fits_at ((with_arrival mid pid what).process pid) Ready (stage_put mid pid (reached (mid.process pid) what) ∙ stage_put w pid (readied (w.process pid) request reply)) tt)
    each q (inr other) =
        subst (λ (r : Process). Fits r)
        (sym (put_other mid pid (reached (mid.process pid) what) q other.1 ∙ put_other w pid (readied (w.process pid) request reply) q other.1)) (others q other.1)

    by : (b : Bool) → b ≡ true → AllUnmet (if b then with_arrival (with_process w pid (readied (w.process pid) request reply)) pid what else w)
    by true e = λ q. each q (eqb_tells q pid)
    by false e = false_is_true e

woken_other : (call : Option HostCall) (w : World) (pid : ℕ) (request : Request) → (call ≡ Some CallIs.Receive → ⊥) → woken_from call w pid request ≡ w
woken_other (Some CallIs.Receive) w pid request isnt = absurd (isnt refl)
woken_other _ w pid request isnt = refl

is_receive : (call : Option HostCall) → (call ≡ Some CallIs.Receive) ⊎ (call ≡ Some CallIs.Receive → ⊥)
is_receive None = inr (λ e. none_is_some e)
is_receive (Some CallIs.Receive) = inl refl
is_receive (Some _) = inr (λ e. cc)

module _ (w : World) (to : ℕ) (item : MailItem) (unmet : AllUnmet w) where
  post_fits : NothingWanted (w.process to).stage ((w.process to).mail ++ item ∷ []) → AllUnmet (posted w to item)
  post_fits fits =
      unmet_put w (posted w to item) to (record (w.process to) { mail = (w.process to).mail ++ item ∷ [] }) (λ q. refl) fits unmet

  found_unmet : (request : Request) → (w.process to).stage ≡ Waiting request → (found : Option MailItem) → wanted_item (posted w to item) to request ≡ found
      → AllUnmet (delivered_or (posted w to item) (posted w to item) to request found)
  found_unmet request at None none =
      post_fits (subst (λ (s : Stage). NothingWanted s ((w.process to).mail ++ item ∷ [])) (sym at) (λ is.
      sym (ap (λ (p : Process). pick (tags_in request.first) p.mail) (put_here w.process to (record (w.process to) { mail = (w.process to).mail ++ item ∷ [] }))) ∙ none))
  found_unmet request at (Some found) is =
      let there : World = posted w to item in
      let mid : World = without_wanted there to request in
      let p : Process = record (w.process to) { mail = (w.process to).mail ++ item ∷ [] } in
      let r : Process = record (there.process to) { mail = unpicked (tags_in request.first) (there.process to).mail } in
      let s : Process = record (mid.process to) { part = settled (mid.process to).part (Delivered found) } in
      answered_unmet (held mid to found) to request (delivery_reply found) (arrival_of found)
      (ap (λ (stage : Stage). is_home stage) (stage_put mid to s ∙ stage_put there to r ∙ stage_put w to p ∙ at))
      (λ q other. subst (λ (x : Process). Fits x) (sym (put_other mid to s q other ∙ put_other there to r q other ∙ put_other w to p q other)) (unmet q))

  call_unmet : (request : Request) → (w.process to).stage ≡ Waiting request → (call_of request ≡ Some CallIs.Receive) ⊎ (call_of request ≡ Some CallIs.Receive → ⊥)
      → AllUnmet (woken_from (call_of request) (posted w to item) to request)
  call_unmet request at (inl is) =
      subst (λ (call : Option HostCall). AllUnmet (woken_from call (posted w to item) to request)) (sym is)
      (found_unmet request at (wanted_item (posted w to item) to request) refl)
  call_unmet request at (inr isnt) =
      subst (λ (x : World). AllUnmet x) (sym (woken_other (call_of request) (posted w to item) to request isnt))
      (post_fits (subst (λ (s : Stage). NothingWanted s ((w.process to).mail ++ item ∷ [])) (sym at) (λ is. absurd (isnt is))))

  woken_unmet : (stage : Stage) → (w.process to).stage ≡ stage → AllUnmet (woken stage (posted w to item) to)
  woken_unmet Unborn at = post_fits (subst (λ (s : Stage). NothingWanted s ((w.process to).mail ++ item ∷ [])) (sym at) tt)
  woken_unmet Ready at = post_fits (subst (λ (s : Stage). NothingWanted s ((w.process to).mail ++ item ∷ [])) (sym at) tt)
  woken_unmet (Out worker) at = post_fits (subst (λ (s : Stage). NothingWanted s ((w.process to).mail ++ item ∷ [])) (sym at) tt)
  woken_unmet (Waiting request) at = call_unmet request at (is_receive (call_of request))
  woken_unmet (Doomed worker end) at = post_fits (subst (λ (s : Stage). NothingWanted s ((w.process to).mail ++ item ∷ [])) (sym at) tt)
  woken_unmet (Ended end) at = post_fits (subst (λ (s : Stage). NothingWanted s ((w.process to).mail ++ item ∷ [])) (sym at) tt)

  arrives_unmet : AllUnmet (arrived w to item)
  arrives_unmet = woken_unmet (w.process to).stage refl

sends_unmet : (w : World) (pid to : ℕ) (request : Request) (item : MailItem) → Unmets w (arrived (replied (sent_off w pid to) pid request (number_reply 0)) to item)
sends_unmet w pid to request item unmet =
    let off : World = sent_off w pid to in
    let gone : AllUnmet off =
    unmet_put w off pid (record (w.process pid) { part = settled (w.process pid).part SentOff }) (λ q. refl) (unmet pid) unmet in
    arrives_unmet (replied off pid request (number_reply 0)) to item (replied_walk Unmets calm_unmet off pid request (number_reply 0) gone)

delivers_unmet : (w : World) (pid : ℕ) (tags : List ℕ) (item : MailItem) → (w.process pid).stage ≡ Ready
    → Unmets w (held (with_process w pid (record (w.process pid) { mail = unpicked tags (w.process pid).mail })) pid item)
delivers_unmet w pid tags item there unmet =
    let p : Process = record (w.process pid) { mail = unpicked tags (w.process pid).mail } in
    let mid : World = with_process w pid p in
    let r : Process = record (mid.process pid) { part = settled (mid.process pid).part (Delivered item) } in
    unmet_put mid (held mid pid item) pid r (λ q. refl) (fits_at r Ready (stage_put w pid p ∙ there) tt)
    (unmet_put w mid pid p (λ q. refl) (fits_at p Ready there tt) unmet)

whole_unmet : Whole Unmets
whole_unmet = record {
  mild = record {
    calm = calm_unmet;
    waits = λ w pid request deadline there none unmet.
        unmet_put w (with_process w pid (record (w.process pid) { stage = Waiting request; deadline = deadline })) pid (record (w.process pid) { stage = Waiting request; deadline = deadline }) (λ q. refl) none unmet;
    signals = λ w to tag live unmet. arrives_unmet w to (Signal tag) unmet;
    turns = λ w give moves closings stands same closes unmet. unmet_put w (with_process w give.pid (turned (w.process give.pid) give)) give.pid (turned (w.process give.pid) give) (λ q. refl) (unmet give.pid) unmet;
    opens = λ w pid there unmet.
        unmet_put w (with_process w pid (record (w.process pid) { part = settled (w.process pid).part (StreamOpened w.streams) })) pid (record (w.process pid) { part = settled (w.process pid).part (StreamOpened w.streams) }) (λ q. refl) (unmet pid) unmet;
    shuts = λ w pid unmet. unmet;
    sends = λ w pid to request scratch there at stands unmet. sends_unmet w pid to request (Letter w.sends scratch.message) unmet;
    delivers = λ w pid tags item there found unmet. delivers_unmet w pid tags item there unmet;
  };
  ends = λ w pid end can unmet. unmet_put w (with_process w pid (stripped (w.process pid) end)) pid (stripped (w.process pid) end) (λ q. refl) tt unmet;
  dooms = λ w pid worker end at unmet. unmet_put w (with_process w pid (fated (w.process pid) worker end)) pid (fated (w.process pid) worker end) (λ q. refl) tt unmet;
  overs = λ w nobody unmet. unmet;
  linked = λ w a b tag first second unmet. unmet;
  unlinked = λ w a b unmet. unmet;
  named = λ w name pid live unmet. unmet;
  nameless = λ w name unmet. unmet;
  begins = λ w parent start live number unmet. unmet_put w (with_process w (w.numbers_drawn + 1) (fresh_process start Ready)) (w.numbers_drawn + 1) (fresh_process start Ready) (λ q. refl) tt unmet;
}

-- ENTRIES

pub entry_unmet : (terms : Option Terms) (births : List Birth) (w : World) (entry : Entry) → IsSound w → AllUnmet w → Allowed terms births w entry →
    AllUnmet (next births w entry)
entry_unmet terms births w entry sound unmet allowed =
    deed_walk Unmets whole_unmet terms births w (deed_of entry) allowed (λ pid front. front_ready w pid sound.ready front) unmet

pub first_unmet : (births : List Birth) → AllUnmet (first_world births)
first_unmet births pid = by (nat_eq pid 1)
  where
    by : (b : Bool) → Fits (if b then fresh_process (first_start births) Ready else nobody)
    by true = tt
    by false = tt

all_unmet : (terms : Option Terms) (births : List Birth) (w : World) (entries : List Entry) → IsSound w → AllUnmet w → AllAllowed terms births w entries →
    AllUnmet (all_after births w entries)
all_unmet terms births w [] sound unmet allowed = unmet
all_unmet terms births w (entry ∷ entries) sound unmet allowed =
    all_unmet terms births (next births w entry) entries (entry_sound terms births w entry sound allowed.0) (entry_unmet terms births w entry sound unmet allowed.0) allowed.1

pub told_unmet : (book : Book) → IsTold book → AllUnmet (told book)
told_unmet book is =
    subst (λ (w : World). AllUnmet w) (sym (told_all book))
    (all_unmet None book.births (first_world book.births) book.entries (first_sound book.births is.start) (first_unmet book.births) (entries_allowed_all None book is.entries))
