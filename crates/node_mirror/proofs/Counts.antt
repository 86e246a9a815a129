use Rattle.std.proofs.Common.{◌≡◌, ◌≢◌, ◌⊎◌, ℕ, zero, suc, ◌+◌, ◌<◌, ◌≤◌, List, [], ◌∷◌, length, filter, Bool, true, false, cond, not, nat_eq, refl, sym, ◌∙◌, ap, inl, inr, arith, length-append}
use Rattle.std.proofs.lemmas.Bool.Decides.{eqb_tells}
use Rattle.std.proofs.lemmas.List.Elements.{filter-append}
use Rattle.world_rules.specs.World.{World, Process, Stage, up_to, is_away, is_ended, unended_count}
use Rattle.node_mirror.specs.Held.{away_count}

-- How many processes haven't ended, and how many workers have, where one process changes its stage or is born.

-- of the numbers 1 to n, how many pass the test
abbrev pub passing : (ℕ → Bool) → ℕ → ℕ
passing test zero = 0
passing test (suc n) = passing test n + cond (test (suc n)) 1 0

one_length : (b : Bool) (n : ℕ) → length (cond b (n ∷ []) []) ≡ cond b 1 0
one_length true n = refl
one_length false n = refl

pub passing_length : (test : ℕ → Bool) (n : ℕ) → length (filter test (up_to n)) ≡ passing test n
passing_length test zero = refl
passing_length test (suc n) =
    ap (λ (xs : List ℕ). length xs) (filter-append test (up_to n) (suc n ∷ []))
    ∙ length-append (filter test (up_to n)) (filter test (suc n ∷ []))
    ∙ (λ i. passing_length test n i + one_length (test (suc n)) (suc n) i)

-- where the same pass, as many do
pub passing_same : (f g : ℕ → Bool) (n : ℕ) → ((q : ℕ) → g q ≡ f q) → passing g n ≡ passing f n
passing_same f g n same = λ i. passing (λ q. same q i) n

above_next : (n pid : ℕ) → suc n < pid → (n < pid) × (suc n ≢ pid)
above_next n pid above = (omega arith, omega arith)

passing_above : (f g : ℕ → Bool) (pid n : ℕ) → ((q : ℕ) → q ≢ pid → g q ≡ f q) → n < pid → passing g n ≡ passing f n
passing_above f g pid zero others above = refl
passing_above f g pid (suc n) others above =
    let next = above_next n pid above in
    λ i. passing_above f g pid n others next.0 i + cond (others (suc n) next.1 i) 1 0

none_within : {X : Type 0} (k : ℕ) → 0 < k → k ≤ 0 → X
none_within k low high = absurd (omega arith)

below_it : (n pid : ℕ) → suc n ≡ pid → n < pid
below_it n pid e = omega arith

lower : (n pid : ℕ) → pid ≤ suc n → suc n ≢ pid → pid ≤ n
lower n pid h e = omega arith

one_here : (a b : ℕ) → a ≡ b → a + 1 ≡ (b + 0) + 1
one_here a b e = omega arith

one_there : (a b c : ℕ) → a ≡ b + 1 → a + c ≡ (b + c) + 1
one_there a b c e = omega arith

-- where one passes besides, one more does
pub passing_more : (f g : ℕ → Bool) (pid n : ℕ) → ((q : ℕ) → q ≢ pid → g q ≡ f q) → f pid ≡ false → g pid ≡ true → 0 < pid → pid ≤ n → passing g n ≡ passing f n + 1
passing_more f g pid zero others before after low high = none_within pid low high
passing_more f g pid (suc n) others before after low high = by (eqb_tells (suc n) pid) (λ most. passing_more f g pid n others before after low most)
  where
    by : ((nat_eq (suc n) pid ≡ true) × (suc n ≡ pid)) ⊎ ((nat_eq (suc n) pid ≡ false) × (suc n ≢ pid)) → (pid ≤ n → passing g n ≡ passing f n + 1) → passing g (suc n) ≡ passing f (suc n) + 1
    by (inl same) rest =
        ap (λ (b : Bool). passing g n + cond b 1 0) (ap g same.1 ∙ after)
        ∙ one_here (passing g n) (passing f n) (passing_above f g pid n others (below_it n pid same.1))
        ∙ ap (λ (b : Bool). (passing f n + cond b 1 0) + 1) (sym (ap f same.1 ∙ before))
    by (inr other) rest =
        ap (λ (b : Bool). passing g n + cond b 1 0) (others (suc n) other.1)
        ∙ one_there (passing g n) (passing f n) (cond (f (suc n)) 1 0) (rest (lower n pid high other.1))

-- THE TWO COUNTS

-- a process that hasn't ended
abbrev pub unended_at : (ℕ → Process) → ℕ → Bool
unended_at ps q = not (is_ended (ps q).stage)

-- a process that a worker has
abbrev pub away_at : (ℕ → Process) → ℕ → Bool
away_at ps q = is_away (ps q).stage

pub unended_passing : (w : World) → unended_count w ≡ passing (unended_at w.process) w.numbers_drawn
unended_passing w = passing_length (unended_at w.process) w.numbers_drawn

pub away_passing : (ps : ℕ → Process) (n : ℕ) → away_count ps n ≡ passing (away_at ps) n
away_passing ps zero = refl
away_passing ps (suc n) = ap (λ (k : ℕ). k + cond (is_away (ps (suc n)).stage) 1 0) (away_passing ps n)

-- the process of this number is another, and all others are as before
pub record OneOther (old new : ℕ → Process) (pid : ℕ) : Type 0 where
  pub others : (q : ℕ) → q ≢ pid → new q ≡ old q

-- a test that reads the stage
others_at : (test : Stage → Bool) (old new : ℕ → Process) (pid : ℕ) → OneOther old new pid → (q : ℕ) → q ≢ pid → test (new q).stage ≡ test (old q).stage
others_at test old new pid one q other = ap (λ (p : Process). test p.stage) (one.others q other)

same_at : (test : Stage → Bool) (old new : ℕ → Process) (pid : ℕ) → OneOther old new pid → test (new pid).stage ≡ test (old pid).stage → (q : ℕ) → test (new q).stage ≡ test (old q).stage
same_at test old new pid one here q = by (eqb_tells q pid)
  where
    by : ((nat_eq q pid ≡ true) × (q ≡ pid)) ⊎ ((nat_eq q pid ≡ false) × (q ≢ pid)) → test (new q).stage ≡ test (old q).stage
    by (inl same) = ap (λ (k : ℕ). test (new k).stage) same.1 ∙ here ∙ ap (λ (k : ℕ). test (old k).stage) (sym same.1)
    by (inr other) = others_at test old new pid one q other.1

-- at a stage that counts the same, as many
pub away_same : (old new : ℕ → Process) (pid n : ℕ) → OneOther old new pid → is_away (new pid).stage ≡ is_away (old pid).stage → away_count new n ≡ away_count old n
away_same old new pid n one here =
    away_passing new n ∙ passing_same (away_at old) (away_at new) n (same_at is_away old new pid one here) ∙ sym (away_passing old n)

pub unended_same : (w v : World) (pid : ℕ) → OneOther w.process v.process pid → v.numbers_drawn ≡ w.numbers_drawn → is_ended (v.process pid).stage ≡ is_ended (w.process pid).stage
    → unended_count v ≡ unended_count w
unended_same w v pid one drawn here =
    unended_passing v ∙ ap (λ (n : ℕ). passing (unended_at v.process) n) drawn
    ∙ passing_same (unended_at w.process) (unended_at v.process) w.numbers_drawn (λ q. ap not (same_at is_ended w.process v.process pid one here q)) ∙ sym (unended_passing w)

-- a worker takes it, or gives it back
pub away_more : (old new : ℕ → Process) (pid n : ℕ) → OneOther old new pid → is_away (old pid).stage ≡ false → is_away (new pid).stage ≡ true → 0 < pid → pid ≤ n
    → away_count new n ≡ away_count old n + 1
away_more old new pid n one before after low high =
    away_passing new n ∙ passing_more (away_at old) (away_at new) pid n (others_at is_away old new pid one) before after low high ∙ ap (λ (k : ℕ). k + 1) (sym (away_passing old n))

pub away_fewer : (old new : ℕ → Process) (pid n : ℕ) → OneOther old new pid → is_away (old pid).stage ≡ true → is_away (new pid).stage ≡ false → 0 < pid → pid ≤ n
    → away_count old n ≡ away_count new n + 1
away_fewer old new pid n one after before low high = away_more new old pid n (record { others = λ q other. sym (one.others q other) }) before after low high

-- it ends
pub unended_fewer : (w v : World) (pid : ℕ) → OneOther w.process v.process pid → v.numbers_drawn ≡ w.numbers_drawn → is_ended (w.process pid).stage ≡ false → is_ended (v.process pid).stage ≡ true
    → 0 < pid → pid ≤ w.numbers_drawn → unended_count w ≡ unended_count v + 1
unended_fewer w v pid one drawn before after low high =
    unended_passing w
    ∙ passing_more (unended_at v.process) (unended_at w.process) pid w.numbers_drawn (λ q other. ap not (sym (others_at is_ended w.process v.process pid one q other)))
    (ap not after) (ap not before) low high
    ∙ ap (λ (n : ℕ). passing (unended_at v.process) n + 1) (sym drawn) ∙ ap (λ (k : ℕ). k + 1) (sym (unended_passing v))

-- A BIRTH: one number more was drawn

born_more : (a b : ℕ) (c : Bool) → a ≡ b → c ≡ true → a + cond c 1 0 ≡ b + 1
born_more a b true same is = ap (λ (k : ℕ). k + 1) same
born_more a b false same is = absurd cc

born_none : (a b : ℕ) (c : Bool) → a ≡ b → c ≡ false → a + cond c 1 0 ≡ b
born_none a b true same is = absurd cc
born_none a b false same is = omega arith

under_next : (n : ℕ) → n < suc n
under_next n = omega arith

next_is : (n : ℕ) → n + 1 ≡ suc n
next_is n = omega arith

passing_next : (f g : ℕ → Bool) (n : ℕ) → ((q : ℕ) → q ≢ suc n → g q ≡ f q) → passing g n ≡ passing f n
passing_next f g n others = passing_above f g (suc n) n others (under_next n)

pub unended_born : (w v : World) → OneOther w.process v.process (w.numbers_drawn + 1) → v.numbers_drawn ≡ w.numbers_drawn + 1 → is_ended (v.process (w.numbers_drawn + 1)).stage ≡ false
    → unended_count v ≡ unended_count w + 1
unended_born w v one drawn here =
    let n : ℕ = w.numbers_drawn in
    unended_passing v ∙ ap (λ (k : ℕ). passing (unended_at v.process) k) (drawn ∙ next_is n)
    ∙ born_more (passing (unended_at v.process) n) (passing (unended_at w.process) n) (unended_at v.process (suc n))
    (passing_next (unended_at w.process) (unended_at v.process) n (λ q other. ap not (others_at is_ended w.process v.process (n + 1) one q (λ same. other (same ∙ next_is n)))))
    (ap (λ (k : ℕ). unended_at v.process k) (sym (next_is n)) ∙ ap not here)
    ∙ ap (λ (k : ℕ). k + 1) (sym (unended_passing w))

pub away_born : (old new : ℕ → Process) (n : ℕ) → OneOther old new (n + 1) → is_away (new (n + 1)).stage ≡ false → away_count new (n + 1) ≡ away_count old n
away_born old new n one here =
    away_passing new (n + 1) ∙ ap (λ (k : ℕ). passing (away_at new) k) (next_is n)
    ∙ born_none (passing (away_at new) n) (passing (away_at old) n) (away_at new (suc n))
    (passing_next (away_at old) (away_at new) n (λ q other. others_at is_away old new (n + 1) one q (λ same. other (same ∙ next_is n))))
    (ap (λ (k : ℕ). away_at new k) (sym (next_is n)) ∙ here)
    ∙ sym (away_passing old n)
