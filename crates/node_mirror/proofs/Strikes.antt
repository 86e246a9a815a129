use Rattle.std.proofs.Common.{◌≡◌, ℕ, zero, suc, List, [], ◌∷◌, ◌++◌, Bool, true, false, cond, nat_eq, filter, append-nil, refl, sym, ◌∙◌, ap}
use Rattle.std.proofs.lemmas.List.Elements.{filter-append}
use Rattle.world_rules.specs.declared.halt.End.{End}
use Rattle.world_rules.specs.Arrivals as Came
use Rattle.world_rules.specs.World.{World, Stage, Unborn, Ready, Out, Waiting, Doomed, Ended, is_live, up_to}
use Rattle.world_rules.specs.Changes.{reached}
use Rattle.world_rules.specs.Ends.{stripped, fated, struck, all_struck, all_end, ended_from_outside, doomed}
use Rattle.node_laws.proofs.ReadyList.{true_is_not_false}

-- An end that comes to processes one after another.

pub struck_last : (w : World) (pids : List ℕ) (pid : ℕ) (end : End) → all_struck w (pids ++ pid ∷ []) end ≡ struck ((all_struck w pids end).process pid).stage (all_struck w pids end) pid end
struck_last w [] pid end = refl
struck_last w (first ∷ pids) pid end = struck_last (struck (w.process first).stage w first end) pids pid end

-- to one that isn't live nothing happens
pub struck_dead : (stage : Stage) (w : World) (pid : ℕ) (end : End) → is_live stage ≡ false → struck stage w pid end ≡ w
struck_dead Unborn w pid end dead = refl
struck_dead Ready w pid end dead = true_is_not_false dead
struck_dead (Out worker) w pid end dead = true_is_not_false dead
struck_dead (Waiting request) w pid end dead = true_is_not_false dead
struck_dead (Doomed worker earlier) w pid end dead = refl
struck_dead (Ended earlier) w pid end dead = refl

-- who isn't live stays so

outside_stays : (w : World) (pid q : ℕ) (end : End) → is_live (w.process q).stage ≡ false → is_live ((ended_from_outside w pid end).process q).stage ≡ false
outside_stays w pid q end dead = by (nat_eq q pid)
  where
    by : (b : Bool) → is_live (cond b (stripped (cond (nat_eq pid pid) (reached (w.process pid) (Came.Doomed end)) (w.process pid)) end)
        (cond b (reached (w.process pid) (Came.Doomed end)) (w.process q))).stage ≡ false
    by true = refl
    by false = dead

doomed_stays : (w : World) (pid worker q : ℕ) (end : End) → is_live (w.process q).stage ≡ false → is_live ((doomed w pid worker end).process q).stage ≡ false
doomed_stays w pid worker q end dead = by (nat_eq q pid)
  where
    by : (b : Bool) → is_live (cond b (fated (w.process pid) worker end) (w.process q)).stage ≡ false
    by true = refl
    by false = dead

struck_stays : (stage : Stage) (w : World) (pid q : ℕ) (end : End) → is_live (w.process q).stage ≡ false → is_live ((struck stage w pid end).process q).stage ≡ false
struck_stays Unborn w pid q end dead = dead
struck_stays Ready w pid q end dead = outside_stays w pid q end dead
struck_stays (Out worker) w pid q end dead = doomed_stays w pid worker q end dead
struck_stays (Waiting request) w pid q end dead = outside_stays w pid q end dead
struck_stays (Doomed worker earlier) w pid q end dead = dead
struck_stays (Ended earlier) w pid q end dead = dead

all_stay : (w : World) (pids : List ℕ) (q : ℕ) (end : End) → is_live (w.process q).stage ≡ false → is_live ((all_struck w pids end).process q).stage ≡ false
all_stay w [] q end dead = dead
all_stay w (pid ∷ pids) q end dead =
    let v : World = struck (w.process pid).stage w pid end in
    all_stay v pids q end (struck_stays (w.process pid).stage w pid q end dead)

-- the live ones, up to a number
abbrev live_up_to : World → ℕ → List ℕ
live_up_to w n = filter (λ pid. is_live (w.process pid).stage) (up_to n)

live_next : (w : World) (n : ℕ) (b : Bool) → is_live (w.process (suc n)).stage ≡ b → live_up_to w (suc n) ≡ live_up_to w n ++ cond b (suc n ∷ []) []
live_next w n b is =
    filter-append (λ pid. is_live (w.process pid).stage) (up_to n) (suc n ∷ []) ∙ ap (λ (c : Bool). live_up_to w n ++ cond c (suc n ∷ []) []) is

-- one after another, those that aren't live besides
struck_all : (w : World) (end : End) (n : ℕ) → all_struck w (live_up_to w n) end ≡ all_struck w (up_to n) end
struck_all w end zero = refl
struck_all w end (suc n) = by (struck_all w end n) (is_live (w.process (suc n)).stage) refl
  where
    by : all_struck w (live_up_to w n) end ≡ all_struck w (up_to n) end → (b : Bool) → is_live (w.process (suc n)).stage ≡ b
        → all_struck w (live_up_to w (suc n)) end ≡ all_struck w (up_to n ++ suc n ∷ []) end
    by rest true is =
        ap (λ (pids : List ℕ). all_struck w pids end) (live_next w n true is) ∙ struck_last w (live_up_to w n) (suc n) end
        ∙ ap (λ (v : World). struck (v.process (suc n)).stage v (suc n) end) rest ∙ sym (struck_last w (up_to n) (suc n) end)
    by rest false is =
        ap (λ (pids : List ℕ). all_struck w pids end) (live_next w n false is ∙ append-nil (live_up_to w n)) ∙ rest
        ∙ sym (struck_dead ((all_struck w (up_to n) end).process (suc n)).stage (all_struck w (up_to n) end) (suc n) end (all_stay w (up_to n) (suc n) end is))
        ∙ sym (struck_last w (up_to n) (suc n) end)

pub struck_all_end : (w : World) (end : End) → all_end w end ≡ record (all_struck w (up_to w.numbers_drawn) end) { over = true }
struck_all_end w end = ap (λ (v : World). record v { over = true }) (struck_all w end w.numbers_drawn)
