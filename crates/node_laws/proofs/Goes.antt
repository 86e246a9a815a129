use Rattle.std.proofs.Common.{◌≡◌, ◌≢◌, ℕ, List, [], ◌∷◌, ◌++◌, Option, None, Bool, true, false, cond, nat_eq, refl, sym, ◌∙◌, ap, subst, zero-add, ◌⊎◌, inl, inr}
use Rattle.std.proofs.lemmas.Bool.Decides.{eqb_tells}
use Rattle.host_port.specs.declared.start.Start.{Start}
use Rattle.world_rules.specs.declared.life.Ended.{Ended as EndMemory}
use Rattle.world_rules.specs.Mail.{MailItem}
use Rattle.world_rules.specs.World.{World, Process, Stage, Unborn, Exit, with_process, is_live, is_ended, is_away}
use Rattle.world_rules.specs.Rules.{queued, with_row}
use Rattle.world_rules.specs.Lives.{Setting, IsMemoryOf, EndsAreMemories}
use Rattle.node_state.specs.Seats.{Meaning}
use Rattle.node_state.specs.Slots.{Slot, SlotFits}
use Rattle.node_state.specs.Held.{Held, HaveEnded, IsFirstAlone, away_count}
use Rattle.node_state.specs.Changes.{ChangesOne}
use Rattle.node_laws.proofs.ReadyList.{nat_eq_same, nat_eq_other, true_is_not_false}

-- What stays where one entry changes one process.

-- a world in which the process of one number is this, all others are as before, nothing is born, and no link is new
pub record Alters (w v : World) (pid : ℕ) (p : Process) : Type 0 where
  pub at : v.process pid ≡ p
  pub others : (q : ℕ) → q ≢ pid → v.process q ≡ w.process q
  pub drawn : v.numbers_drawn ≡ w.numbers_drawn
  pub spawns : v.spawns ≡ w.spawns
  pub unlinked : (a b : ℕ) → w.links a b ≡ None → v.links a b ≡ None

pub alters-with : (w : World) (pid : ℕ) (p : Process) → Alters w (with_process w pid p) pid p
alters-with w pid p = record {
  at = rw (nat_eq_same pid) refl;
  others = λ q other. rw (nat_eq_other q pid other) refl;
  drawn = refl;
  spawns = refl;
  unlinked = λ a b none. none;
}

pub alters-then : (w v u : World) (pid : ℕ) (p p' : Process) → Alters w v pid p → Alters v u pid p' → Alters w u pid p'
alters-then w v u pid p p' one two = record {
  at = two.at;
  others = λ q other. two.others q other ∙ one.others q other;
  drawn = two.drawn ∙ one.drawn;
  spawns = two.spawns ∙ one.spawns;
  unlinked = λ a b none. two.unlinked a b (one.unlinked a b none);
}

-- the process is changed so once more
pub alters-change : (w v : World) (pid : ℕ) (p : Process) (f : Process → Process) → Alters w v pid p → Alters w (with_process v pid (f (v.process pid))) pid (f p)
alters-change w v pid p f alters = record {
  at = rw (nat_eq_same pid) (ap f alters.at);
  others = λ q other. rw (nat_eq_other q pid other) (alters.others q other);
  drawn = alters.drawn;
  spawns = alters.spawns;
  unlinked = alters.unlinked;
}

-- what holds of the one and of all others holds of all
pub all-one : (w v : World) (pid : ℕ) (p : Process) (P : ℕ → Process → Type 0) → Alters w v pid p → P pid p → ((q : ℕ) → q ≢ pid → P q (w.process q)) → (q : ℕ) → P q (v.process q)
all-one w v pid p P alters here there q =
    one (eqb_tells q pid)
  where
    one : ((nat_eq q pid ≡ true) × (q ≡ pid)) ⊎ ((nat_eq q pid ≡ false) × (q ≢ pid)) → P q (v.process q)
    one (inl same) = subst (λ (k : ℕ). P k (v.process k)) (sym same.1) (subst (λ (x : Process). P pid x) (sym alters.at) here)
    one (inr other) = subst (λ (x : Process). P q x) (sym (alters.others q other.1)) (there q other.1)

pub slots-one : {E P : Type 0} (engines : Meaning E P) (programs : List P) (w v : World) (pid : ℕ) (p : Process) (was is : Held E) (slot : Slot E) (mail : List MailItem) (deadline : Option ℕ)
    → Alters w v pid p → ChangesOne was is pid slot mail deadline → SlotFits engines programs p slot → ((q : ℕ) → SlotFits engines programs (w.process q) (was.slots q)) → (q : ℕ)
    → SlotFits engines programs (v.process q) (is.slots q)
slots-one {E = E} engines programs w v pid p was is slot mail deadline alters change here slots =
    all-one w v pid p (λ q x. SlotFits engines programs x (is.slots q)) alters
    (subst (λ (s : Slot E). SlotFits engines programs p s) (sym change.slot_is) here)
    (λ q other. subst (λ (s : Slot E). SlotFits engines programs (w.process q) s) (sym (change.other_slots q other)) (slots q))

pub mail-one : {E : Type 0} (w v : World) (pid : ℕ) (p : Process) (was is : Held E) (slot : Slot E) (deadline : Option ℕ) → Alters w v pid p → ChangesOne was is pid slot p.mail deadline
    → ((q : ℕ) → (w.process q).mail ≡ was.mail q) → (q : ℕ) → (v.process q).mail ≡ is.mail q
mail-one w v pid p was is slot deadline alters change mails =
    all-one w v pid p (λ q x. x.mail ≡ is.mail q) alters (sym change.mail_is) (λ q other. mails q ∙ sym (change.other_mail q other))

pub deadlines-one : {E : Type 0} (w v : World) (pid : ℕ) (p : Process) (was is : Held E) (slot : Slot E) (mail : List MailItem) → Alters w v pid p → ChangesOne was is pid slot mail p.deadline
    → ((q : ℕ) → (w.process q).deadline ≡ was.deadlines q) → (q : ℕ) → (v.process q).deadline ≡ is.deadlines q
deadlines-one w v pid p was is slot mail alters change deadlines =
    all-one w v pid p (λ q x. x.deadline ≡ is.deadlines q) alters (sym change.deadline_is) (λ q other. deadlines q ∙ sym (change.other_deadlines q other))

pub stages-one : (w v : World) (pid : ℕ) (p : Process) (test : Stage → Bool) (b : Bool) → Alters w v pid p → test p.stage ≡ b → ((q : ℕ) → test (w.process q).stage ≡ b) → (q : ℕ)
    → test (v.process q).stage ≡ b
stages-one w v pid p test b alters here there = all-one w v pid p (λ q x. test x.stage ≡ b) alters here (λ q other. there q)

-- who has ended keeps what it had
pub ended-stay : (ps after : ℕ → Process) (exits : List Exit) → HaveEnded ps exits → ((q : ℕ) → is_ended (ps q).stage ≡ true → after q ≡ ps q) → HaveEnded after exits
ended-stay ps after [] h same = tt
ended-stay ps after (exit ∷ exits) h same = (ap (λ (p : Process). is_ended p.stage) (same exit.pid h.0) ∙ h.0, ended-stay ps after exits h.1 same)

pub ends-stay : {P : Type 0} (setting : Setting P) (ps after : ℕ → Process) (exits : List Exit) (memories : List EndMemory) → HaveEnded ps exits
    → ((q : ℕ) → is_ended (ps q).stage ≡ true → after q ≡ ps q) → EndsAreMemories setting ps exits memories → EndsAreMemories setting after exits memories
ends-stay setting ps after [] [] h same ends = tt
ends-stay setting ps after [] (memory ∷ memories) h same ends = absurd ends
ends-stay setting ps after (exit ∷ exits) [] h same ends = absurd ends
ends-stay setting ps after (exit ∷ exits) (memory ∷ memories) h same ends =
    (ends.0, subst (λ (p : Process). IsMemoryOf setting p memory) (sym (same exit.pid h.0)) ends.1, ends-stay setting ps after exits memories h.1 same ends.2)

-- one end more
pub ended-last : (ps : ℕ → Process) (exits : List Exit) (exit : Exit) → HaveEnded ps exits → is_ended (ps exit.pid).stage ≡ true → HaveEnded ps (exits ++ exit ∷ [])
ended-last ps [] exit h e = (e, tt)
ended-last ps (x ∷ xs) exit h e = (h.0, ended-last ps xs exit h.1 e)

pub ends-last : {P : Type 0} (setting : Setting P) (ps : ℕ → Process) (exits : List Exit) (exit : Exit) (memories : List EndMemory) (memory : EndMemory) → EndsAreMemories setting ps exits memories
    → memory.pid ≡ exit.pid → IsMemoryOf setting (ps exit.pid) memory → EndsAreMemories setting ps (exits ++ exit ∷ []) (memories ++ memory ∷ [])
ends-last setting ps [] exit [] memory ends is shows = (is, shows, tt)
ends-last setting ps [] exit (m ∷ ms) memory ends is shows = absurd ends
ends-last setting ps (x ∷ xs) exit [] memory ends is shows = absurd ends
ends-last setting ps (x ∷ xs) exit (m ∷ ms) memory ends is shows = (ends.0, ends.1, ends-last setting ps xs exit ms memory ends.2 is shows)

-- no process but the first is born yet

pub first-is : (w : World) (pid : ℕ) (test : Stage → Bool) → IsFirstAlone w → test Unborn ≡ false → test (w.process pid).stage ≡ true → pid ≡ 1
first-is w pid test first unborn holds =
    one (eqb_tells pid 1)
  where
    one : ((nat_eq pid 1 ≡ true) × (pid ≡ 1)) ⊎ ((nat_eq pid 1 ≡ false) × (pid ≢ 1)) → pid ≡ 1
    one (inl same) = same.1
    one (inr other) = true_is_not_false (sym holds ∙ ap test (first.others pid other.1) ∙ unborn)

pub numbered-one : (w v : World) (pid : ℕ) (p : Process) → Alters w v pid p → p.start ≡ (w.process pid).start → pid ≡ 1 → (w.process 1).start.pid ≡ 1 → (v.process 1).start.pid ≡ 1
numbered-one w v pid p alters started one numbered =
    subst (λ (k : ℕ). (v.process k).start.pid ≡ 1) one
    (ap (λ (x : Process). x.start.pid) alters.at ∙ ap (λ (s : Start). s.pid) started ∙ subst (λ (k : ℕ). (w.process k).start.pid ≡ 1) (sym one) numbered)

-- the first alone is born still, where its process changes and does not end
pub first-kept : (w v : World) (row : ℕ) (earlier giver : List ℕ) (pid : ℕ) (p : Process) → Alters w v pid p → p.start ≡ (w.process pid).start → v.exits ≡ w.exits → pid ≡ 1
    → is_ended (w.process pid).stage ≡ false → is_live p.stage ≡ true → IsFirstAlone w → IsFirstAlone (with_row row (queued earlier giver v))
first-kept w v row earlier giver pid p alters started exits one unended live first = record {
  numbered = numbered-one w v pid p alters started one first.numbered;
  drawn = alters.drawn ∙ first.drawn;
  others = λ q other. ap (λ (x : Process). x.stage) (alters.others q (λ e. other (e ∙ one))) ∙ first.others q other;
  ends = λ _. exits ∙ first.ends (subst (λ (k : ℕ). is_ended (w.process k).stage ≡ false) one unended);
  going = λ _. subst (λ (k : ℕ). is_live (v.process k).stage ≡ true) one (ap (λ (x : Process). is_live x.stage) alters.at ∙ live);
}

pub count-alone : (w : World) → w.numbers_drawn ≡ 1 → away_count w.process w.numbers_drawn ≡ cond (is_away (w.process 1).stage) 1 0
count-alone w drawn = rw drawn (zero-add (cond (is_away (w.process 1).stage) 1 0))
