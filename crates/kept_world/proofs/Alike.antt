-- Two worlds that are alike but for what has happened, and for what workers have of the processes that are away.
use Rattle.std.specs.Prelude.{◌≡◌, ◌≢◌, ◌⊎◌, ℕ, List, [], Option, None, Bool, true, false, nat_eq, if◌then◌else◌, refl}
use Rattle.std.proofs.Common.{subst, sym, ◌∙◌, ap, inl, inr}
use Rattle.std.proofs.lemmas.Bool.Decides.{eqb_tells}
use Rattle.host_port.specs.declared.start.Start.{Start}
use Rattle.host_port.specs.declared.request.Request.{Request}
use Rattle.host_port.specs.declared.reply.Reply.{Reply}
use Rattle.world_rules.specs.Arrivals.{What}
use Rattle.world_rules.specs.Part.{Part, no_part}
use Rattle.world_rules.specs.Mail.{MailItem}
use Rattle.world_rules.specs.Streams.{nothing_streamed}
use Rattle.world_rules.specs.World.{World, Process, Stage, Unborn, Ready, Out, Waiting, Doomed, Ended, Core, core_of, no_start, is_away, is_home, put, with_process}
use Rattle.world_rules.specs.Changes.{reached, with_arrival, with_part, readied, answered}
use Rattle.world_rules.specs.laws.KeepingLaws.{false_is_true}
use Rattle.kept_world.specs.Kept.{untold, unhanded, kept_process, kept, with_core, brought}

-- what other rules than its own Give read of a process, and what its worker has
pub record Seen : Type 0 where
  pub stage : Stage
  pub mail : List MailItem
  pub deadline : Option ℕ
  pub dies : Bool

pub record Hand : Type 0 where
  pub start : Start
  pub part : Part
  pub fuel : ℕ
  pub owed : Option Request

abbrev pub seen_of : Process → Seen
seen_of p = record { stage = p.stage; mail = p.mail; deadline = p.deadline; dies = p.dies }

abbrev pub hand_of : Process → Hand
hand_of p = record { start = p.start; part = p.part; fuel = p.fuel; owed = p.owed }

-- two processes are alike: what a worker has is the same where it is known, or no worker has it
pub record Alike (known : Type 0) (p r : Process) : Type 0 where
  pub seen : seen_of p ≡ seen_of r
  pub hand : (is_away p.stage ≡ false) ⊎ known → hand_of p ≡ hand_of r

-- what is read of a world beside its processes
pub record Rest : Type 0 where
  pub ready : List ℕ
  pub links : ℕ → ℕ → Option ℕ
  pub names : List ℕ → Option ℕ
  pub numbers : ℕ
  pub streams : ℕ
  pub spawns : ℕ
  pub sends : ℕ
  pub time : ℕ
  pub row : ℕ
  pub over : Bool

abbrev pub rest_of : World → Rest
rest_of w = record {
  ready = w.ready;
  links = w.links;
  names = w.names;
  numbers = w.numbers_drawn;
  streams = w.streams;
  spawns = w.spawns;
  sends = w.sends;
  time = w.time;
  row = w.row;
  over = w.over;
}

pub record Like (known : ℕ → Type 0) (a b : Rest) (f g : ℕ → Process) : Type 0 where
  pub rest : a ≡ b
  pub process : (q : ℕ) → Alike (known q) (f q) (g q)

-- ALIKE. Two worlds are alike, where of these processes is known what their workers have.
abbrev pub Same : (ℕ → Type 0) → World → World → Type 0
Same known w v = Like known (rest_of w) (rest_of v) w.process v.process

-- WHAT IS KEPT OF ALIKE WORLDS

made : Seen → Hand → Process
made s h = record {
  start = h.start;
  stage = s.stage;
  part = h.part;
  fuel = h.fuel;
  calls = [];
  owed = h.owed;
  mail = s.mail;
  deadline = s.deadline;
  dies = s.dies;
  gives = 0;
  arrivals = [];
}

abbrev no_hand : Hand
no_hand = record { start = no_start; part = no_part; fuel = 0; owed = None }

same_untold : (p r : Process) → seen_of p ≡ seen_of r → hand_of p ≡ hand_of r → untold p ≡ untold r
unfolding made
same_untold p r seen hand = λ i. made (seen i) (hand i)

same_unhanded : (p r : Process) → seen_of p ≡ seen_of r → unhanded (untold p) ≡ unhanded (untold r)
unfolding made
same_unhanded p r seen = λ i. made (seen i) no_hand

same_kept : (known : Type 0) (p r : Process) → Alike known p r → kept_process p ≡ kept_process r
same_kept known p r alike = by (is_away p.stage) (is_away r.stage) refl (ap (λ (s : Seen). is_away s.stage) alike.seen)
  where
    by : (b c : Bool) → is_away p.stage ≡ b → b ≡ c → (if b then unhanded (untold p) else untold p) ≡ (if c then unhanded (untold r) else untold r)
    by true true e same = same_unhanded p r alike.seen
    by true false e same = false_is_true (sym same)
    by false true e same = false_is_true same
    by false false e same = same_untold p r alike.seen (alike.hand (inl e))

made_world : Rest → (ℕ → Process) → World
made_world r process = record {
  ready = r.ready;
  process = process;
  links = r.links;
  names = r.names;
  numbers_drawn = r.numbers;
  streams = r.streams;
  spawns = r.spawns;
  sends = r.sends;
  time = r.time;
  row = r.row;
  over = r.over;
  streamed = λ handle. nothing_streamed;
  closed = [];
  exits = [];
  moves = [];
}

pub kept_same : (known : ℕ → Type 0) (w v : World) → Same known w v → kept w ≡ kept v
unfolding made_world
kept_same known w v like =
    λ i. made_world (like.rest i) (λ q. same_kept (known q) (w.process q) (v.process q) (like.process q) i)

-- the kept world is alike, and so is the one with what a worker brings back
abbrev pub nobody_known : ℕ → Type 0
nobody_known q = ⊥

alike_kept : (p : Process) → Alike ⊥ p (kept_process p)
alike_kept p = by (is_away p.stage) refl
  where
    by : (b : Bool) → is_away p.stage ≡ b → Alike ⊥ p (if b then unhanded (untold p) else untold p)
    by true e = record { seen = refl; hand = hand }
      where
        hand : (is_away p.stage ≡ false) ⊎ ⊥ → hand_of p ≡ hand_of (unhanded (untold p))
        hand (inl home) = false_is_true (sym home ∙ e)
        hand (inr none) = absurd none
    by false e = record { seen = refl; hand = λ k. refl }

pub like_kept : (w : World) → Same nobody_known w (kept w)
like_kept w = record { rest = refl; process = λ q. alike_kept (w.process q) }

seen_kept : (p : Process) → seen_of p ≡ seen_of (kept_process p)
seen_kept p = (alike_kept p).seen

pub like_brought : (w : World) (pid : ℕ) → Same (λ q. q ≡ pid) w (brought pid (core_of (w.process pid)) (kept w))
like_brought w pid = record { rest = refl; process = λ q. by q (eqb_tells q pid) }
  where
    core : Core
    core = core_of (w.process pid)

    back : Alike (pid ≡ pid) (w.process pid) (with_core (core_of (w.process pid)) (kept_process (w.process pid)))
    back = record { seen = seen_kept (w.process pid); hand = λ k. refl }

    by : (q : ℕ) → ((nat_eq q pid ≡ true) × (q ≡ pid)) ⊎ ((nat_eq q pid ≡ false) × (q ≢ pid))
        → Alike (q ≡ pid) (w.process q) (put (λ n. kept_process (w.process n)) pid (with_core (core_of (w.process pid)) (kept_process (w.process pid))) q)
    by q (inl same) =
        subst (λ (b : Bool). Alike (q ≡ pid) (w.process q) (if b then with_core (core_of (w.process pid)) (kept_process (w.process pid)) else kept_process (w.process q)))
        (sym same.0)
        (subst (λ (n : ℕ). Alike (n ≡ pid) (w.process n) (with_core (core_of (w.process pid)) (kept_process (w.process pid)))) (sym same.1) back)
    by q (inr other) =
        subst (λ (b : Bool). Alike (q ≡ pid) (w.process q) (if b then with_core (core_of (w.process pid)) (kept_process (w.process pid)) else kept_process (w.process q)))
        (sym other.0)
        (record { seen = (alike_kept (w.process q)).seen; hand = hand })
      where
        hand : (is_away (w.process q).stage ≡ false) ⊎ (q ≡ pid) → hand_of (w.process q) ≡ hand_of (kept_process (w.process q))
        hand (inl home) = (alike_kept (w.process q)).hand (inl home)
        hand (inr same) = absurd (other.1 same)

-- at home a process has what it has
pub like_home : (w : World) (pid : ℕ) → is_away (w.process pid).stage ≡ false → Same (λ q. q ≡ pid) w (kept w)
like_home w pid home = record { rest = refl; process = λ q. record { seen = seen_kept (w.process q); hand = by q } }
  where
    by : (q : ℕ) → (is_away (w.process q).stage ≡ false) ⊎ (q ≡ pid) → hand_of (w.process q) ≡ hand_of (kept_process (w.process q))
    by q (inl there) = (alike_kept (w.process q)).hand (inl there)
    by q (inr same) = (alike_kept (w.process q)).hand (inl (ap (λ (n : ℕ). is_away (w.process n).stage) same ∙ home))

-- ONE PROCESS REPLACED

pub put_like : (known : ℕ → Type 0) (w v : World) (pid : ℕ) (p r : Process) → Same known w v → Alike (known pid) p r
    → Same known (with_process w pid p) (with_process v pid r)
put_like known w v pid p r like alike = record { rest = like.rest; process = λ q. by q (eqb_tells q pid) }
  where
    by : (q : ℕ) → ((nat_eq q pid ≡ true) × (q ≡ pid)) ⊎ ((nat_eq q pid ≡ false) × (q ≢ pid)) → Alike (known q) (put w.process pid p q) (put v.process pid r q)
    by q (inl same) =
        subst (λ (b : Bool). Alike (known q) (if b then p else w.process q) (if b then r else v.process q)) (sym same.0)
        (subst (λ (n : ℕ). Alike (known n) p r) (sym same.1) alike)
    by q (inr other) =
        subst (λ (b : Bool). Alike (known q) (if b then p else w.process q) (if b then r else v.process q)) (sym other.0) (like.process q)

-- what is seen changes so, and what is in hand so; who is home afterwards was known, or home before
pub alike_by : (known : Type 0) (p r p' r' : Process) (f : Seen → Seen) (g : Hand → Hand) → Alike known p r
    → seen_of p' ≡ f (seen_of p) → seen_of r' ≡ f (seen_of r) → hand_of p' ≡ g (hand_of p) → hand_of r' ≡ g (hand_of r)
    → ((is_away p'.stage ≡ false) ⊎ known → (is_away p.stage ≡ false) ⊎ known) → Alike known p' r'
alike_by known p r p' r' f g alike seen_p seen_r hand_p hand_r back = record {
  seen = seen_p ∙ ap f alike.seen ∙ sym seen_r;
  hand = λ k. hand_p ∙ ap g (alike.hand (back k)) ∙ sym hand_r;
}

pub home_near : (s : Stage) → is_home s ≡ true → is_away s ≡ false
home_near Unborn e = refl
home_near Ready e = refl
home_near (Out worker) e = false_is_true e
home_near (Waiting request) e = refl
home_near (Doomed worker end) e = false_is_true e
home_near (Ended end) e = refl

-- a choice that both make
pub either_same : (known : ℕ → Type 0) (b c : Bool) (w w' v v' : World) → b ≡ c → (b ≡ true → Same known w v) → (b ≡ false → Same known w' v')
    → Same known (if b then w else w') (if c then v else v')
either_same known true true w w' v v' same first second = first refl
either_same known true false w w' v v' same first second = false_is_true (sym same)
either_same known false true w w' v v' same first second = false_is_true same
either_same known false false w w' v v' same first second = second refl

module _ (known : ℕ → Type 0) where
  pub arrival_same : (w v : World) (pid : ℕ) (what what' : What) → Same known w v → Same known (with_arrival w pid what) (with_arrival v pid what')
  arrival_same w v pid what what' like =
      put_like known w v pid (reached (w.process pid) what) (reached (v.process pid) what') like
      (record { seen = (like.process pid).seen; hand = (like.process pid).hand })

  pub part_same : (w v : World) (pid : ℕ) (change : Part → Part) → Same known w v
      → Same known (with_part w pid (change (w.process pid).part)) (with_part v pid (change (v.process pid).part))
  part_same w v pid change like =
      put_like known w v pid (record (w.process pid) { part = change (w.process pid).part }) (record (v.process pid) { part = change (v.process pid).part }) like
      (alike_by (known pid) (w.process pid) (v.process pid) (record (w.process pid) { part = change (w.process pid).part }) (record (v.process pid) { part = change (v.process pid).part })
      (λ s. s) (λ h. record h { part = change h.part }) (like.process pid) refl refl refl refl (λ k. k))

  -- who is answered is ready; what was asked and answered is only told
  pub answered_same : (w v : World) (pid : ℕ) (request request' : Request) (reply reply' : Reply) (what what' : What) → Same known w v
      → Same known (answered w pid request reply what) (answered v pid request' reply' what')
  answered_same w v pid request request' reply reply' what what' like =
      let p : Process = readied (w.process pid) request reply in
      let r : Process = readied (v.process pid) request' reply' in
      either_same known (is_home (w.process pid).stage) (is_home (v.process pid).stage)
      (with_arrival (with_process w pid p) pid what) w (with_arrival (with_process v pid r) pid what') v
      (ap (λ (s : Seen). is_home s.stage) (like.process pid).seen)
      (λ home. arrival_same (with_process w pid p) (with_process v pid r) pid what what' (put_like known w v pid p r like
      (alike_by (known pid) (w.process pid) (v.process pid) p r (λ s. record s { stage = Ready; deadline = None }) (λ h. record h { owed = None }) (like.process pid) refl refl refl refl
      (λ k. inl (home_near (w.process pid).stage home)))))
      (λ other. like)
