-- Each step of the walk keeps the processes in order, touches each by the closed list alone, and turns no count back.
use Rattle.std.specs.Prelude.{◌≡◌, ◌≢◌, ◌⊎◌, ℕ, zero, suc, ◌+◌, ◌<◌, ◌≤◌, List, [], ◌∷◌, ◌++◌, length, filter, cond, Option, Some, None, Bool, true, false, ◌&&◌, ◌||◌, nat_eq, nat_lt, nat_le, min, max, if◌then◌else◌, refl}
use Rattle.std.proofs.Common.{subst, sym, ◌∙◌, ap, inl, inr, arith, length-append}
use Rattle.std.proofs.lemmas.Bool.Decides.{eqb_tells, leb_tells, nat_tests}
use Rattle.std.proofs.lemmas.List.Elements.{filter-append}
use Rattle.host_port.specs.HostTable.{same_text}
use Rattle.host_port.specs.declared.start.Start.{Start}
use Rattle.world_rules.specs.declared.halt.End.{End}
use Rattle.world_rules.specs.Mail.{MailItem, Letter, Signal, is_message, message_count, most_messages, is_wanted, tag_of, unpicked}
use Rattle.world_rules.specs.Part.{is_among}
use Rattle.world_rules.specs.World.{World, Process, Stage, Unborn, Ready, Out, Waiting, Doomed, Ended, is_live, is_waiting, put, fresh_process, up_to}
use Rattle.world_rules.specs.Ends.{ended, doomed, unless_process}
use Rattle.world_rules.specs.Links.{with_link}
use Rattle.world_rules.specs.Registry.{with_name}
use Rattle.world_rules.specs.Spawn.{next_number}
use Rattle.world_rules.specs.Allowed.{is_out}
use Rattle.world_rules.specs.Touches.{Change, Takes, Arrives, Turns, Returns, Answers, Pends, Waits, Posts, Picks, Settles, Minds, Dooms, Finishes, Begins, changed, all_changed, MayCome, AllMayCome, Touched, BirthStands, is_there, can_end, Counts, counts_of, GoOn}
use Rattle.world_rules.specs.Sound.{is_drawn, is_born, IsInOrder, AreInOrder, Rise}
use Rattle.world_rules.proofs.Rising.{turn_rise, settled_rise}
use Rattle.world_rules.specs.laws.BirthLaws.{none_is_some, same_some, put_here}
use Rattle.world_rules.specs.laws.KeepingLaws.{false_is_true}
use Rattle.world_rules.specs.laws.CarryLaws.{put_other}
use Rattle.world_rules.proofs.Walk.{Still, One, Posting, Whole, Rest, rest_of, IsLive, NobodyLives, over, child_there, same_counts, then_counts}
use Rattle.world_rules.proofs.MildWalk.{LiveSame, one_live, fine, steps}
use Rattle.world_rules.proofs.Chains.{touched_self, touched_then, touched_same, touched_put, there_or_begun, Begun, mild_there, change_start, ends_there}

-- ONE PROCESS

there_born : (s : Stage) → is_there s ≡ true → is_born s ≡ true
there_born Unborn e = false_is_true e
there_born Ready e = refl
there_born (Out worker) e = refl
there_born (Waiting request) e = refl
there_born (Doomed worker end) e = refl
there_born (Ended end) e = false_is_true e

change_own : (pid : ℕ) (change : Change) (p : Process) → MayCome pid change p → IsInOrder pid p → (changed change p).start.pid ≡ pid
change_own pid change p may order = by (there_or_begun pid change p may)
  where
    by : (is_there p.stage ≡ true) ⊎ Begun pid change p → (changed change p).start.pid ≡ pid
    by (inl there) = ap (λ (s : Start). s.pid) (change_start pid change p may there) ∙ order.own (there_born p.stage there)
    by (inr begun) = ap (λ (c : Change). (changed c p).start.pid) begun.1.0 ∙ begun.1.1.number

out_waits_not : (s : Stage) → is_out s ≡ true → is_waiting s ≡ false
out_waits_not Unborn e = refl
out_waits_not Ready e = refl
out_waits_not (Out worker) e = refl
out_waits_not (Waiting request) e = false_is_true e
out_waits_not (Doomed worker end) e = refl
out_waits_not (Ended end) e = refl

change_deadline : (pid : ℕ) (change : Change) (p : Process) → MayCome pid change p → IsInOrder pid p →
    is_waiting (changed change p).stage ≡ false → (changed change p).deadline ≡ None
change_deadline pid (Takes worker) p may order isnt = order.deadline (ap (λ (s : Stage). is_waiting s) may)
change_deadline pid (Arrives what) p may order isnt = order.deadline isnt
change_deadline pid (Turns give) p may order isnt = order.deadline isnt
change_deadline pid Returns p may order isnt = order.deadline (out_waits_not p.stage may)
change_deadline pid (Answers request reply) p may order isnt = refl
change_deadline pid (Pends request) p may order isnt = order.deadline (ap (λ (s : Stage). is_waiting s) may)
change_deadline pid (Waits request deadline) p may order isnt = false_is_true (sym isnt)
change_deadline pid (Posts item) p may order isnt = order.deadline isnt
change_deadline pid (Picks tags) p may order isnt = order.deadline isnt
change_deadline pid (Settles outcome) p may order isnt = order.deadline isnt
change_deadline pid (Minds dies) p may order isnt = order.deadline isnt
change_deadline pid (Dooms worker end) p may order isnt = order.deadline (ap (λ (s : Stage). is_waiting s) may)
change_deadline pid (Finishes end) p may order isnt = refl
change_deadline pid (Begins start) p may order isnt = refl

count_behind : (mail : List MailItem) (item : MailItem) → message_count (mail ++ item ∷ []) ≡ message_count mail + message_count (item ∷ [])
count_behind mail item =
    ap (λ (xs : List MailItem). length xs) (filter-append is_message mail (item ∷ []))
    ∙ length-append (filter is_message mail) (filter is_message (item ∷ []))

posted_count : (mail : List MailItem) (item : MailItem) → message_count mail ≤ most_messages → (is_message item ≡ true → message_count mail < most_messages)
    → message_count (mail ++ item ∷ []) ≤ most_messages
posted_count mail (Letter number message) most room =
    let more = room refl in
    let is = count_behind mail (Letter number message) in
    subst (λ (n : ℕ). n ≤ most_messages) (sym is) (one_more (message_count mail) more)
  where
    one_more : (n : ℕ) → n < most_messages → n + 1 ≤ most_messages
    one_more n less = omega (arith, less)
posted_count mail (Signal tag) most room =
    let is = count_behind mail (Signal tag) in
    subst (λ (n : ℕ). n ≤ most_messages) (sym is) (none_more (message_count mail) most)
  where
    none_more : (n : ℕ) → n ≤ most_messages → n + 0 ≤ most_messages
    none_more n most = omega (arith, most)

one_count : (b : Bool) (item : MailItem) (mail : List MailItem) → length (cond b (item ∷ filter is_message mail) (filter is_message mail)) ≡ (if b then 1 else 0) + message_count mail
one_count true item mail = one (message_count mail)
  where
    one : (n : ℕ) → suc n ≡ 1 + n
    one n = omega arith
one_count false item mail = none (message_count mail)
  where
    none : (n : ℕ) → n ≡ 0 + n
    none n = omega arith

picked_count : (tags : List ℕ) (mail : List MailItem) → message_count (unpicked tags mail) ≤ message_count mail
picked_count tags [] = same 0
  where
    same : (n : ℕ) → n ≤ n
    same n = omega arith
picked_count tags (item ∷ mail) = by (picked_count tags mail) (is_wanted tags (tag_of item))
  where
    more : (b c : ℕ) (a : ℕ) → c ≡ a + b → b ≤ c
    more b c a is = omega (arith, is)

    both : (a b c x y : ℕ) → x ≡ a + b → y ≡ a + c → b ≤ c → x ≤ y
    both a b c x y ix iy less = omega (arith, ix, iy, less)

    by : message_count (unpicked tags mail) ≤ message_count mail → (b : Bool) → message_count (if b then mail else (item ∷ unpicked tags mail)) ≤ message_count (item ∷ mail)
    by rest true = more (message_count mail) (message_count (item ∷ mail)) (if is_message item then 1 else 0) (one_count (is_message item) item mail)
    by rest false =
        both (if is_message item then 1 else 0) (message_count (unpicked tags mail)) (message_count mail) (message_count (item ∷ unpicked tags mail)) (message_count (item ∷ mail))
        (one_count (is_message item) item (unpicked tags mail)) (one_count (is_message item) item mail) rest

no_mail : 0 ≤ most_messages
no_mail = omega arith

change_mail : (pid : ℕ) (change : Change) (p : Process) → MayCome pid change p → IsInOrder pid p → message_count (changed change p).mail ≤ most_messages
change_mail pid (Posts item) p may order = posted_count p.mail item order.mail may.room
change_mail pid (Picks tags) p may order = fewer (message_count (unpicked tags p.mail)) (message_count p.mail) (picked_count tags p.mail) order.mail
  where
    fewer : (a b : ℕ) → a ≤ b → b ≤ most_messages → a ≤ most_messages
    fewer a b x y = omega (arith, x, y)
change_mail pid (Dooms worker end) p may order = no_mail
change_mail pid (Finishes end) p may order = no_mail
change_mail pid (Begins start) p may order = no_mail
change_mail pid (Takes worker) p may order = order.mail
change_mail pid (Arrives what) p may order = order.mail
change_mail pid (Turns give) p may order = order.mail
change_mail pid Returns p may order = order.mail
change_mail pid (Answers request reply) p may order = order.mail
change_mail pid (Pends request) p may order = order.mail
change_mail pid (Waits request deadline) p may order = order.mail
change_mail pid (Settles outcome) p may order = order.mail
change_mail pid (Minds dies) p may order = order.mail

change_handles : (pid : ℕ) (change : Change) (p : Process) → IsInOrder pid p → Rise (changed change p).part.handles
change_handles pid (Turns give) p order = turn_rise p give order.handles
change_handles pid (Settles outcome) p order = settled_rise outcome p.part order.handles
change_handles pid (Finishes end) p order = tt
change_handles pid (Begins start) p order = tt
change_handles pid (Takes worker) p order = order.handles
change_handles pid (Arrives what) p order = order.handles
change_handles pid Returns p order = order.handles
change_handles pid (Answers request reply) p order = order.handles
change_handles pid (Pends request) p order = order.handles
change_handles pid (Waits request deadline) p order = order.handles
change_handles pid (Posts item) p order = order.handles
change_handles pid (Picks tags) p order = order.handles
change_handles pid (Minds dies) p order = order.handles
change_handles pid (Dooms worker end) p order = order.handles

all_in_order : (pid : ℕ) (changes : List Change) (p : Process) → AllMayCome pid changes p → IsInOrder pid p → IsInOrder pid (all_changed changes p)
all_in_order pid [] p may order = order
all_in_order pid (change ∷ changes) p may order =
    all_in_order pid changes (changed change p) may.1 (record {
      own = λ born. change_own pid change p may.0 order;
      deadline = λ isnt. change_deadline pid change p may.0 order isnt;
      mail = change_mail pid change p may.0 order;
      handles = change_handles pid change p order;
    })

touched_order : (pid : ℕ) (old new : Process) → Touched pid old new → IsInOrder pid old → IsInOrder pid new
touched_order pid old new touched order =
    subst (λ (p : Process). IsInOrder pid p) (sym touched.all) (all_in_order pid touched.changes old touched.may_come order)

change_born : (change : Change) (p : Process) → is_born p.stage ≡ true → is_born (changed change p).stage ≡ true
change_born (Takes worker) p born = refl
change_born (Arrives what) p born = born
change_born (Turns give) p born = born
change_born Returns p born = refl
change_born (Answers request reply) p born = refl
change_born (Pends request) p born = refl
change_born (Waits request deadline) p born = refl
change_born (Posts item) p born = born
change_born (Picks tags) p born = born
change_born (Settles outcome) p born = born
change_born (Minds dies) p born = born
change_born (Dooms worker end) p born = refl
change_born (Finishes end) p born = refl
change_born (Begins start) p born = refl

all_born : (changes : List Change) (p : Process) → is_born p.stage ≡ true → is_born (all_changed changes p).stage ≡ true
all_born [] p born = born
all_born (change ∷ changes) p born = all_born changes (changed change p) (change_born change p born)

touched_born : (pid : ℕ) (old new : Process) → Touched pid old new → is_born old.stage ≡ true → is_born new.stage ≡ true
touched_born pid old new touched born =
    ap (λ (p : Process). is_born p.stage) touched.all ∙ all_born touched.changes old born

-- WHAT IS DRAWN

there_drawn_at : (w : World) (pid : ℕ) → AreInOrder w → is_there (w.process pid).stage ≡ true → (b : Bool) → is_drawn w pid ≡ b → b ≡ true
there_drawn_at w pid order there true e = refl
there_drawn_at w pid order there false e =
    false_is_true (sym (ap (λ (p : Process). is_there p.stage) (order.undrawn pid e)) ∙ there)

pub there_drawn : (w : World) (pid : ℕ) → AreInOrder w → is_there (w.process pid).stage ≡ true → is_drawn w pid ≡ true
there_drawn w pid order there = by (is_drawn w pid) refl
  where
    by : (b : Bool) → is_drawn w pid ≡ b → is_drawn w pid ≡ true
    by b e = e ∙ there_drawn_at w pid order there b e

-- who isn't drawn stays, where one who is there is replaced
put_undrawn : (w : World) (pid : ℕ) (p : Process) → AreInOrder w → is_there (w.process pid).stage ≡ true → (q : ℕ) → is_drawn w q ≡ false →
    put w.process pid p q ≡ w.process q
put_undrawn w pid p order there q none =
    put_other w pid p q (λ same. false_is_true (sym none ∙ ap (λ (n : ℕ). is_drawn w n) same ∙ there_drawn w pid order there))

-- the clauses about single processes, where nobody comes and nobody who wasn't drawn changes
record Stepped (w after : World) : Type 0 where
  pub numbers : after.numbers_drawn ≡ w.numbers_drawn
  pub touched : (q : ℕ) → Touched q (w.process q) (after.process q)
  pub undrawn : (q : ℕ) → is_drawn w q ≡ false → after.process q ≡ w.process q
  pub over : after.over ≡ true → (q : ℕ) → is_live (after.process q).stage ≡ false
  pub names : (name : List ℕ) (q : ℕ) → after.names name ≡ Some q → IsLive after q
  pub links : (a b tag : ℕ) → after.links a b ≡ Some tag → IsLive after a × IsLive after b
  pub counts : GoOn (counts_of w) (counts_of after)

-- what each step keeps
pub record Kept (w after : World) : Type 0 where
  pub order : AreInOrder after
  pub touched : (q : ℕ) → Touched q (w.process q) (after.process q)
  pub counts : GoOn (counts_of w) (counts_of after)

abbrev pub Keeps : World → World → Type 0
Keeps w after = AreInOrder w → Kept w after

kept_by : (w after : World) → AreInOrder w → Stepped w after → Kept w after
kept_by w after order s = record {
  order = record {
    undrawn = λ q none. s.undrawn q (drawn_same q none) ∙ order.undrawn q (drawn_same q none);
    drawn = λ q is. touched_born q (w.process q) (after.process q) (s.touched q) (order.drawn q (ap (λ (n : ℕ). nat_lt 0 q && nat_le q n) (sym s.numbers) ∙ is));
    each = λ q. touched_order q (w.process q) (after.process q) (s.touched q) (order.each q);
    over = s.over;
    names = s.names;
    links = s.links;
  };
  touched = s.touched;
  counts = s.counts;
}
  where
    drawn_same : (q : ℕ) → is_drawn after q ≡ false → is_drawn w q ≡ false
    drawn_same q none = ap (λ (n : ℕ). nat_lt 0 q && nat_le q n) (sym s.numbers) ∙ none

-- where the same are live, names, links and the end of the run stand as before
rest_stands : (w after : World) → AreInOrder w → rest_of after ≡ rest_of w → LiveSame w after →
    ((q : ℕ) → Touched q (w.process q) (after.process q)) → ((q : ℕ) → is_drawn w q ≡ false → after.process q ≡ w.process q)
    → GoOn (counts_of w) (counts_of after) → Kept w after
rest_stands w after order rest live touched undrawn counts = kept_by w after order (record {
  numbers = ap (λ (r : Rest). r.numbers) rest;
  touched = touched;
  undrawn = undrawn;
  over = λ is q. live q ∙ order.over (sym (ap (λ (r : Rest). r.over) rest) ∙ is) q;
  names = λ name q is. live q ∙ order.names name q (sym (ap (λ (r : Rest). r.names name) rest) ∙ is);
  links = λ a b tag is. let both = order.links a b tag (sym (ap (λ (r : Rest). r.links a b) rest) ∙ is) in (live a ∙ both.0, live b ∙ both.1);
  counts = counts;
})

self_kept : (w : World) → Keeps w w
self_kept w order = record { order = order; touched = λ q. touched_self q (w.process q); counts = same_counts (counts_of w) }

next_kept : (a b c : World) → Keeps a b → Keeps b c → Keeps a c
next_kept a b c first second order =
    let x : Kept a b = first order in
    let y : Kept b c = second x.order in
    record {
      order = y.order;
      touched = λ q. touched_then q (a.process q) (b.process q) (c.process q) (x.touched q) (y.touched q);
      counts = then_counts (counts_of a) (counts_of b) (counts_of c) x.counts y.counts;
    }

still_kept : (w after : World) → Still w after → Keeps w after
still_kept w after still order =
    rest_stands w after order still.rest (λ q. ap (λ (p : Process). is_live p.stage) (still.process q))
    (λ q. touched_same q (w.process q) (after.process q) (still.process q)) (λ q none. still.process q) still.counts

one_kept : (w after : World) (pid : ℕ) (change : Change) → One w after pid change → Keeps w after
one_kept w after pid change one order =
    let there = mild_there pid change (w.process pid) one.may one.mild in
    rest_stands w after order one.rest (one_live w after pid change one)
    (λ q. subst (λ (p : Process). Touched q (w.process q) p) (sym (one.process q)) (touched_put w pid change one.may q))
    (λ q none. one.process q ∙ put_undrawn w pid (changed change (w.process pid)) order there q none) one.counts

-- ENDS AND DOOMS

-- a number that names keep when a process is taken out of them isn't its number
named_other : (pid : ℕ) (named : Option ℕ) (q : ℕ) → unless_process pid named ≡ Some q → (named ≡ Some q) × (q ≢ pid)
named_other pid None q is = absurd (none_is_some is)
named_other pid (Some other) q is = by (eqb_tells other pid) is
  where
    by : ((nat_eq other pid ≡ true) × (other ≡ pid)) ⊎ ((nat_eq other pid ≡ false) × (other ≢ pid)) → unless_process pid (Some other) ≡ Some q → (Some other ≡ Some q) × (q ≢ pid)
    by (inl same) is = absurd (none_is_some (sym (ap (λ (b : Bool). if b then None else Some other) same.0) ∙ is))
    by (inr differs) is =
        let is' : Some other ≡ Some q = sym (ap (λ (b : Bool). if b then None else Some other) differs.0) ∙ is in
        (is', λ same. differs.1 (same_some other q is' ∙ same))

linked_other : (a b pid : ℕ) (links : Option ℕ) (tag : ℕ) → (if nat_eq a pid || nat_eq b pid then None else links) ≡ Some tag →
    (links ≡ Some tag) × ((a ≢ pid) × (b ≢ pid))
linked_other a b pid links tag is = by (eqb_tells a pid) (eqb_tells b pid)
  where
    by : ((nat_eq a pid ≡ true) × (a ≡ pid)) ⊎ ((nat_eq a pid ≡ false) × (a ≢ pid)) → ((nat_eq b pid ≡ true) × (b ≡ pid)) ⊎ ((nat_eq b pid ≡ false) × (b ≢ pid))
        → (links ≡ Some tag) × ((a ≢ pid) × (b ≢ pid))
    by (inl x) y = absurd (none_is_some (sym (ap (λ (t : Bool). if t || nat_eq b pid then None else links) x.0) ∙ is))
    by (inr x) (inl y) = absurd (none_is_some (sym (ap (λ (t : Bool). if t then None else links) (ap (λ (s : Bool). s || nat_eq b pid) x.0 ∙ y.0)) ∙ is))
    by (inr x) (inr y) = (sym (ap (λ (t : Bool). if t then None else links) (ap (λ (s : Bool). s || nat_eq b pid) x.0 ∙ y.0)) ∙ is, (x.1, y.1))

-- a process that is there is put away, by a change after which it isn't live, and loses its names and links
away_kept : (w after : World) (pid : ℕ) (change : Change) → AreInOrder w → MayCome pid change (w.process pid) → is_there (w.process pid).stage ≡ true
    → is_live (changed change (w.process pid)).stage ≡ false
    → ((q : ℕ) → after.process q ≡ put w.process pid (changed change (w.process pid)) q)
    → ((name : List ℕ) → after.names name ≡ unless_process pid (w.names name))
    → ((a b : ℕ) → after.links a b ≡ (if nat_eq a pid || nat_eq b pid then None else w.links a b))
    → after.over ≡ w.over → counts_of after ≡ counts_of w → Kept w after
away_kept w after pid change order may there dead process names links over counts = kept_by w after order (record {
  numbers = ap (λ (c : Counts). c.numbers) counts;
  touched = λ q. subst (λ (p : Process). Touched q (w.process q) p) (sym (process q)) (touched_put w pid change may q);
  undrawn = λ q none. process q ∙ put_undrawn w pid (changed change (w.process pid)) order there q none;
  over = λ is q. no_life q (order.over (sym over ∙ is) q);
  names = λ name q is. let other = named_other pid (w.names name) q (sym (names name) ∙ is) in others q other.1 ∙ order.names name q other.0;
  links = λ a b tag is.
      let other = linked_other a b pid (w.links a b) tag (sym (links a b) ∙ is) in
      let both = order.links a b tag other.0 in
      (others a other.1.0 ∙ both.0, others b other.1.1 ∙ both.1);
  counts = subst (λ (c : Counts). GoOn (counts_of w) c) (sym counts) (same_counts (counts_of w));
})
  where
    others : (q : ℕ) → q ≢ pid → is_live (after.process q).stage ≡ is_live (w.process q).stage
    others q other = ap (λ (p : Process). is_live p.stage) (process q ∙ put_other w pid (changed change (w.process pid)) q other)

    no_life : (q : ℕ) → is_live (w.process q).stage ≡ false → is_live (after.process q).stage ≡ false
    no_life q isnt = by (eqb_tells q pid)
      where
        by : ((nat_eq q pid ≡ true) × (q ≡ pid)) ⊎ ((nat_eq q pid ≡ false) × (q ≢ pid)) → is_live (after.process q).stage ≡ false
        by (inl same) = ap (λ (n : ℕ). is_live (after.process n).stage) same.1 ∙ ap (λ (p : Process). is_live p.stage) (process pid ∙ put_here w.process pid (changed change (w.process pid))) ∙ dead
        by (inr differs) = others q differs.1 ∙ isnt

ends_kept : (w : World) (pid : ℕ) (end : End) → can_end (w.process pid).stage ≡ true → Keeps w (ended w pid end)
ends_kept w pid end can order =
    away_kept w (ended w pid end) pid (Finishes end) order can (ends_there (w.process pid).stage can) refl (λ q. refl) (λ name. refl) (λ a b. refl) refl refl

dooms_kept : (w : World) (pid worker : ℕ) (end : End) → (w.process pid).stage ≡ Out worker → Keeps w (doomed w pid worker end)
dooms_kept w pid worker end at order =
    away_kept w (doomed w pid worker end) pid (Dooms worker end) order at (ap (λ (s : Stage). is_there s) at) refl (λ q. refl) (λ name. refl) (λ a b. refl) refl refl

-- THE RUN IS OVER

among_last : (xs : List ℕ) (y q : ℕ) → is_among xs q ≡ true → is_among (xs ++ y ∷ []) q ≡ true
among_last [] y q is = false_is_true is
among_last (x ∷ xs) y q is = by (λ there. among_last xs y q there) (nat_eq q x) is
  where
    by : (is_among xs q ≡ true → is_among (xs ++ y ∷ []) q ≡ true) → (b : Bool) → (b || is_among xs q) ≡ true → (b || is_among (xs ++ y ∷ []) q) ≡ true
    by rest true is = refl
    by rest false is = rest is

last_among : (xs : List ℕ) (y q : ℕ) → nat_eq q y ≡ true → is_among (xs ++ y ∷ []) q ≡ true
last_among [] y q is = ap (λ (b : Bool). b || false) is
last_among (x ∷ xs) y q is = by (last_among xs y q is) (nat_eq q x)
  where
    by : is_among (xs ++ y ∷ []) q ≡ true → (b : Bool) → (b || is_among (xs ++ y ∷ []) q) ≡ true
    by rest true = refl
    by rest false = rest

pub both_true : (a b : Bool) → (a && b) ≡ true → (a ≡ true) × (b ≡ true)
both_true true b e = (refl, e)
both_true false b e = false_is_true e

pub within : (a b : ℕ) → nat_le a b ≡ true → a ≤ b
within a b e = by (leb_tells a b) e
  where
    by : ((nat_le a b ≡ true) × (a ≤ b)) ⊎ ((nat_le a b ≡ false) × (b < a)) → nat_le a b ≡ true → a ≤ b
    by (inl h) e = h.1
    by (inr h) e = false_is_true (sym h.0 ∙ e)

pub drawn_among : (n q : ℕ) → 0 < q → q ≤ n → is_among (up_to n) q ≡ true
drawn_among zero q low high = absurd (none q low high)
  where
    none : (q : ℕ) → 0 < q → q ≤ 0 → ⊥
    none q low high = omega (arith, low, high)
drawn_among (suc n) q low high = by (λ less. drawn_among n q low less) (eqb_tells q (suc n))
  where
    lower : (q n : ℕ) → q ≤ suc n → q ≢ suc n → q ≤ n
    lower q n high other = omega (arith, high, other)

    by : (q ≤ n → is_among (up_to n) q ≡ true) → ((nat_eq q (suc n) ≡ true) × (q ≡ suc n)) ⊎ ((nat_eq q (suc n) ≡ false) × (q ≢ suc n)) → is_among (up_to n ++ suc n ∷ []) q ≡ true
    by rest (inl same) = last_among (up_to n) (suc n) q same.0
    by rest (inr differs) = among_last (up_to n) (suc n) q (rest (lower q n high differs.1))

overs_kept : (w : World) → NobodyLives w → Keeps w (over w)
overs_kept w nobody_lives order = kept_by w (over w) order (record {
  numbers = refl;
  touched = λ q. touched_self q (w.process q);
  undrawn = λ q none. refl;
  over = λ is q. by q (is_drawn w q) refl;
  names = order.names;
  links = order.links;
  counts = same_counts (counts_of w);
})
  where
    by : (q : ℕ) (b : Bool) → is_drawn w q ≡ b → is_live (w.process q).stage ≡ false
    by q true e =
        let both = both_true (nat_lt 0 q) (nat_le q w.numbers_drawn) e in
        nobody_lives q (drawn_among w.numbers_drawn q (within 1 q both.0) (within q w.numbers_drawn both.1))
    by q false e = ap (λ (p : Process). is_live p.stage) (order.undrawn q e)

-- LINKS AND NAMES

links_kept : (w after : World) → AreInOrder w → ((q : ℕ) → after.process q ≡ w.process q) → after.over ≡ w.over → counts_of after ≡ counts_of w
    → ((name : List ℕ) (q : ℕ) → after.names name ≡ Some q → IsLive w q)
    → ((a b tag : ℕ) → after.links a b ≡ Some tag → IsLive w a × IsLive w b) → Kept w after
links_kept w after order process over counts names links = kept_by w after order (record {
  numbers = ap (λ (c : Counts). c.numbers) counts;
  touched = λ q. touched_same q (w.process q) (after.process q) (process q);
  undrawn = λ q none. process q;
  over = λ is q. ap (λ (p : Process). is_live p.stage) (process q) ∙ order.over (sym over ∙ is) q;
  names = λ name q is. ap (λ (p : Process). is_live p.stage) (process q) ∙ names name q is;
  links = λ a b tag is. let both = links a b tag is in (ap (λ (p : Process). is_live p.stage) (process a) ∙ both.0, ap (λ (p : Process). is_live p.stage) (process b) ∙ both.1);
  counts = subst (λ (c : Counts). GoOn (counts_of w) c) (sym counts) (same_counts (counts_of w));
})

-- of two numbers the lesser and the greater are the two
ends_live : (w : World) (a b c d : ℕ) → IsLive w a → IsLive w b → nat_eq c (min a b) ≡ true → nat_eq d (max a b) ≡ true → IsLive w c × IsLive w d
ends_live w a b c d first second low high =
    let which : ((c ≡ a) × (d ≡ b)) ⊎ ((c ≡ b) × (d ≡ a)) = of_two a b c d (equal c (min a b) low) (equal d (max a b) high) in
    by which
  where
    equal : (x y : ℕ) → nat_eq x y ≡ true → x ≡ y
    equal x y e = grind (arith, nat_tests)

    of_two : (a b c d : ℕ) → c ≡ min a b → d ≡ max a b → ((c ≡ a) × (d ≡ b)) ⊎ ((c ≡ b) × (d ≡ a))
    of_two a b c d low high = at (leb_tells a b)
      where
        at : ((nat_le a b ≡ true) × (a ≤ b)) ⊎ ((nat_le a b ≡ false) × (b < a)) → ((c ≡ a) × (d ≡ b)) ⊎ ((c ≡ b) × (d ≡ a))
        at (inl x) = inl ((let y = x.1 in omega (arith, low, y)), (let y = x.1 in omega (arith, high, y)))
        at (inr x) = inr ((let y = x.1 in omega (arith, low, y)), (let y = x.1 in omega (arith, high, y)))

    by : ((c ≡ a) × (d ≡ b)) ⊎ ((c ≡ b) × (d ≡ a)) → IsLive w c × IsLive w d
    by (inl is) = (ap (λ (n : ℕ). is_live (w.process n).stage) is.0 ∙ first, ap (λ (n : ℕ). is_live (w.process n).stage) is.1 ∙ second)
    by (inr is) = (ap (λ (n : ℕ). is_live (w.process n).stage) is.0 ∙ second, ap (λ (n : ℕ). is_live (w.process n).stage) is.1 ∙ first)

link_at : (w : World) (a b : ℕ) (tag : Option ℕ) (c d t : ℕ) → AreInOrder w → (tag ≡ None) ⊎ (IsLive w a × IsLive w b) → (x y : Bool)
    → nat_eq c (min a b) ≡ x → nat_eq d (max a b) ≡ y → (if x && y then tag else w.links c d) ≡ Some t → IsLive w c × IsLive w d
link_at w a b tag c d t order live true true low high is = by live
  where
    by : (tag ≡ None) ⊎ (IsLive w a × IsLive w b) → IsLive w c × IsLive w d
    by (inl none) = absurd (none_is_some (sym none ∙ is))
    by (inr both) = ends_live w a b c d both.0 both.1 low high
link_at w a b tag c d t order live true false low high is = order.links c d t is
link_at w a b tag c d t order live false y low high is = order.links c d t is

link_kept : (w : World) (a b : ℕ) (tag : Option ℕ) → (tag ≡ None) ⊎ (IsLive w a × IsLive w b) → Keeps w (with_link w a b tag)
link_kept w a b tag live order =
    links_kept w (with_link w a b tag) order (λ q. refl) refl refl order.names
    (λ c d t is. link_at w a b tag c d t order live (nat_eq c (min a b)) (nat_eq d (max a b)) refl refl is)

name_kept : (w : World) (name : List ℕ) (named : Option ℕ) → ((q : ℕ) → named ≡ Some q → IsLive w q) → Keeps w (with_name w name named)
name_kept w name named live order =
    links_kept w (with_name w name named) order (λ q. refl) refl refl (λ other q is. by (same_text other name) other q is) order.links
  where
    by : (b : Bool) (other : List ℕ) (q : ℕ) → (if b then named else w.names other) ≡ Some q → IsLive w q
    by true other q is = live q is
    by false other q is = order.names other q is

-- BIRTHS

begins_kept : (w : World) (parent : ℕ) (start : Start) → IsLive w parent → start.pid ≡ next_number w → Keeps w (child_there w start)
begins_kept w parent start live number order =
    let child : ℕ = next_number w in
    let none : is_drawn w child ≡ false = not_drawn w.numbers_drawn in
    let stands : BirthStands child (w.process child) start = record { before = order.undrawn child none; number = number } in
    let old : GoOn (counts_of w) (counts_of w) = same_counts (counts_of w) in
    record {
      order = record {
        undrawn = λ q isnt.
            let less : is_drawn w q ≡ false = fewer q isnt in
            put_other w child (fresh_process start Ready) q (λ same. false_is_true (sym isnt ∙ ap (λ (n : ℕ). is_drawn (child_there w start) n) same ∙ is_now w.numbers_drawn)) ∙ order.undrawn q less;
        drawn = λ q is. by_drawn q (eqb_tells q child) is;
        each = λ q. touched_order q (w.process q) ((child_there w start).process q) (touched_put w child (Begins start) stands q) (order.each q);
        over = λ is. false_is_true (sym (order.over is parent) ∙ live);
        names = λ name q is. still_live q (order.names name q is);
        links = λ a b tag is. let both = order.links a b tag is in (still_live a both.0, still_live b both.1);
      };
      touched = λ q. touched_put w child (Begins start) stands q;
      counts = record { time = old.time; numbers = more w.numbers_drawn; streams = old.streams; spawns = old.spawns; sends = old.sends };
    }
  where
    more : (n : ℕ) → n ≤ n + 1
    more n = omega arith

    not_le : (n : ℕ) → nat_le (n + 1) n ≡ false
    not_le n = grind (arith, nat_tests)

    no_right : (a b : Bool) → b ≡ false → (a && b) ≡ false
    no_right true b e = e
    no_right false b e = refl

    not_drawn : (n : ℕ) → (nat_lt 0 (n + 1) && nat_le (n + 1) n) ≡ false
    not_drawn n = no_right (nat_lt 0 (n + 1)) (nat_le (n + 1) n) (not_le n)

    yes_lt : (n : ℕ) → nat_lt 0 (n + 1) ≡ true
    yes_lt n = grind (arith, nat_tests)

    yes_le : (n : ℕ) → nat_le n n ≡ true
    yes_le n = grind (arith, nat_tests)

    and_both : (a b : Bool) → a ≡ true → b ≡ true → (a && b) ≡ true
    and_both true b x y = y
    and_both false b x y = false_is_true x

    is_now : (n : ℕ) → (nat_lt 0 (n + 1) && nat_le (n + 1) (n + 1)) ≡ true
    is_now n = and_both (nat_lt 0 (n + 1)) (nat_le (n + 1) (n + 1)) (yes_lt n) (yes_le (n + 1))

    le_less : (q n : ℕ) → nat_le q (n + 1) ≡ false → nat_le q n ≡ false
    le_less q n e = grind (arith, nat_tests)

    le_other : (q n : ℕ) → nat_le q (n + 1) ≡ true → q ≢ n + 1 → nat_le q n ≡ true
    le_other q n e other = by (leb_tells q n)
      where
        le : (q n : ℕ) → q ≤ n + 1 → q ≢ n + 1 → n < q → ⊥
        le q n high other low = omega (arith, high, other, low)

        by : ((nat_le q n ≡ true) × (q ≤ n)) ⊎ ((nat_le q n ≡ false) × (n < q)) → nat_le q n ≡ true
        by (inl h) = h.0
        by (inr h) = absurd (le q n (within q (n + 1) e) other h.1)

    fewer_at : (a : Bool) (q n : ℕ) → (a && nat_le q (n + 1)) ≡ false → (a && nat_le q n) ≡ false
    fewer_at true q n e = le_less q n e
    fewer_at false q n e = refl

    fewer : (q : ℕ) → is_drawn (child_there w start) q ≡ false → is_drawn w q ≡ false
    fewer q isnt = fewer_at (nat_lt 0 q) q w.numbers_drawn isnt

    still_live : (q : ℕ) → IsLive w q → IsLive (child_there w start) q
    still_live q is = by (nat_eq q (next_number w))
      where
        by : (b : Bool) → is_live (if b then fresh_process start Ready else w.process q).stage ≡ true
        by true = refl
        by false = is

    by_drawn : (q : ℕ) → ((nat_eq q (next_number w) ≡ true) × (q ≡ next_number w)) ⊎ ((nat_eq q (next_number w) ≡ false) × (q ≢ next_number w)) → is_drawn (child_there w start) q ≡ true
        → is_born ((child_there w start).process q).stage ≡ true
    by_drawn q (inl same) is = ap (λ (b : Bool). is_born (if b then fresh_process start Ready else w.process q).stage) same.0
    by_drawn q (inr differs) is =
        let both = both_true (nat_lt 0 q) (nat_le q (w.numbers_drawn + 1)) is in
        ap (λ (p : Process). is_born p.stage) (put_other w (next_number w) (fresh_process start Ready) q differs.1)
        ∙ order.drawn q (and_both (nat_lt 0 q) (nat_le q w.numbers_drawn) both.0 (le_other q w.numbers_drawn both.1 differs.1))

-- EACH STEP KEEPS

pub posting_kept : Posting Keeps
posting_kept = fine Keeps (record { self = self_kept; next = next_kept; still = still_kept; one = one_kept })

pub whole_kept : Whole Keeps
whole_kept = record {
  mild = steps Keeps posting_kept;
  ends = ends_kept;
  dooms = dooms_kept;
  overs = overs_kept;
  linked = λ w a b tag first second. link_kept w a b (Some tag) (inr (first, second));
  unlinked = λ w a b. link_kept w a b None (inl refl);
  named = λ w name pid live. name_kept w name (Some pid) (λ q same. ap (λ (n : ℕ). is_live (w.process n).stage) (sym (same_some pid q same)) ∙ live);
  nameless = λ w name. name_kept w name None (λ q same. absurd (none_is_some same));
  begins = begins_kept;
}
