-- The maps of the store of links beside those of a world, step by step.
use Rattle.std.specs.Prelude.{◌≡◌, ◌≢◌, ◌⊎◌, ℕ, suc, List, ◌<◌, ◌≤◌, cond, ◌&&◌, ◌||◌, Option, Some, None, Bool, true, false, nat_lt, nat_eq, min, max, if◌then◌else◌, refl}
use Rattle.std.specs.declared.cmp.Ordering.{Ordering}
use Rattle.std.specs.declared.cmp.Ordering.TheVariants.{Less, Equal, Greater}
use Rattle.std.specs.Ordering.{nat_cmp, is_eq, eq_by_cmp, ordering_then}
use Rattle.std.specs.Cmp.{nat_cmp_total}
use Rattle.std.specs.FinMap.{empty, get, insert, remove, get-empty, get-insert, get-remove}
use Rattle.std.proofs.Common.{sym, ◌∙◌, ap, inl, inr, arith}
use Rattle.std.proofs.lemmas.Bool.Decides.{leb_tells}
use Rattle.host_port.specs.declared.start.Start.{Start}
use Rattle.link_signals.specs.Links.{Processes, Tags, ends, pair_cmp}
use Rattle.link_signals.proofs.Pairs.{pair_total}
use Rattle.world_rules.specs.Part.{is_among}
use Rattle.world_rules.specs.declared.life.Birth.{Birth}
use Rattle.world_rules.specs.World.{World, Process, Unborn, Ready, is_live, fresh_process, no_start, first_start, first_world, put, with_process}
use Rattle.world_rules.specs.Links.{with_link}
use Rattle.world_rules.specs.Sound.{AreInOrder}
use Rattle.world_rules.specs.Spawn.{next_number}
use Rattle.world_rules.specs.laws.KeepingLaws.{false_is_true}
use Rattle.node_mirror.specs.Nets.{minded, IsNet, LeavesNet}
use Rattle.node_mirror.proofs.Members.{unequal}

-- TESTS

-- the order of numbers tells equal ones as their test does
pub number_tells : (a b : ℕ) → eq_by_cmp nat_cmp a b ≡ nat_eq a b
number_tells a b = by (leb_tells (suc a) b)
  where
    apart : (a b : ℕ) → suc a ≤ b → a ≢ b
    apart a b e = omega (arith, e)

    rest : (t : Bool) → is_eq (cond t Equal Greater) ≡ t
    rest true = refl
    rest false = refl

    by : ((nat_lt a b ≡ true) × (suc a ≤ b)) ⊎ ((nat_lt a b ≡ false) × (b < suc a)) → is_eq (cond (nat_lt a b) Less (cond (nat_eq a b) Equal Greater)) ≡ nat_eq a b
    by (inl less) = ap (λ (t : Bool). is_eq (cond t Less (cond (nat_eq a b) Equal Greater))) less.0 ∙ sym (unequal a b (apart a b less.1))
    by (inr more) = ap (λ (t : Bool). is_eq (cond t Less (cond (nat_eq a b) Equal Greater))) more.0 ∙ rest (nat_eq a b)

then_tells : (a b : Ordering) → is_eq (ordering_then a b) ≡ (is_eq a && is_eq b)
then_tells Less b = refl
then_tells Equal b = refl
then_tells Greater b = refl

pair_tells : (c d x y : ℕ) → eq_by_cmp pair_cmp (c, d) (x, y) ≡ (nat_eq c x && nat_eq d y)
pair_tells c d x y = then_tells (nat_cmp c x) (nat_cmp d y) ∙ (λ i. number_tells c x i && number_tells d y i)

-- a process was put into the map, and a link into its own or out of it
put_get : (processes : Processes) (pid : ℕ) (dies : Bool) (q : ℕ) → get (insert processes pid dies) q ≡ (if nat_eq q pid then Some dies else get processes q)
put_get processes pid dies q =
    get-insert nat_cmp_total processes pid dies q ∙ ap (λ (t : Bool). cond t (Some dies) (get processes q)) (number_tells q pid)

link_get : (tags : Tags) (x y tag c d : ℕ) → get (insert tags (x, y) tag) (c, d) ≡ (if nat_eq c x && nat_eq d y then Some tag else get tags (c, d))
link_get tags x y tag c d =
    get-insert pair_total tags (x, y) tag (c, d) ∙ ap (λ (t : Bool). cond t (Some tag) (get tags (c, d))) (pair_tells c d x y)

unlink_get : (tags : Tags) (x y c d : ℕ) → get (remove tags (x, y)) (c, d) ≡ (if nat_eq c x && nat_eq d y then None else get tags (c, d))
unlink_get tags x y c d =
    get-remove pair_total tags (x, y) (c, d) ∙ ap (λ (t : Bool). cond t None (get tags (c, d))) (pair_tells c d x y)

-- THE STEPS

-- nobody becomes live or ends, and nobody changes whether it dies with links
pub net_stays : (w after : World) (processes : Processes) (tags : Tags) → IsNet w processes tags → after.links ≡ w.links
    → ((pid : ℕ) → is_live (after.process pid).stage ≡ is_live (w.process pid).stage) → ((pid : ℕ) → (after.process pid).dies ≡ (w.process pid).dies) → IsNet after processes tags
net_stays w after processes tags net links live dies = record {
  minds = λ pid. net.minds pid ∙ (λ i. if sym (live pid) i then Some (sym (dies pid) i) else None);
  links = λ a b. net.links a b ∙ (λ i. sym links i a b);
}

-- some go
pub net_leaves : (w after : World) (members : List ℕ) (processes : Processes) (tags : Tags) (left : Processes) (kept : Tags) → IsNet w processes tags
    → LeavesNet members processes tags left kept → ((pid : ℕ) → is_live (after.process pid).stage ≡ (if is_among members pid then false else is_live (w.process pid).stage))
    → ((pid : ℕ) → is_among members pid ≡ false → (after.process pid).dies ≡ (w.process pid).dies)
    → ((a b : ℕ) → is_among members a ≡ false → is_among members b ≡ false → after.links a b ≡ w.links a b) → AreInOrder after → IsNet after left kept
net_leaves w after members processes tags left kept net leaves live dies links order = record {
  minds = λ pid. leaves.minds pid ∙ mind pid (is_among members pid) refl;
  links = λ a b. leaves.links a b ∙ link a b (is_among members a) (is_among members b) refl refl;
}
  where
    mind : (pid : ℕ) (t : Bool) → is_among members pid ≡ t → (if is_among members pid then None else get processes pid) ≡ minded (after.process pid)
    mind pid true is =
        ap (λ (t : Bool). if t then None else get processes pid) is
        ∙ ap (λ (t : Bool). if t then Some (after.process pid).dies else None) (sym (live pid ∙ ap (λ (t : Bool). if t then false else is_live (w.process pid).stage) is))
    mind pid false is =
        ap (λ (t : Bool). if t then None else get processes pid) is ∙ net.minds pid
        ∙ (λ i. if sym (live pid ∙ ap (λ (t : Bool). if t then false else is_live (w.process pid).stage) is) i then Some (sym (dies pid is) i) else None)

    gone : (pid : ℕ) → is_among members pid ≡ true → is_live (after.process pid).stage ≡ false
    gone pid is = live pid ∙ ap (λ (t : Bool). if t then false else is_live (w.process pid).stage) is

    none : (o : Option ℕ) → ((tag : ℕ) → o ≡ Some tag → ⊥) → None ≡ o
    none None never = refl
    none (Some tag) never = absurd (never tag refl)

    link : (a b : ℕ) (s t : Bool) → is_among members a ≡ s → is_among members b ≡ t → (if is_among members a || is_among members b then None else get tags (a, b)) ≡ after.links a b
    link a b true t is other =
        ap (λ (x : Bool). if x || is_among members b then None else get tags (a, b)) is
        ∙ none (after.links a b) (λ tag e. false_is_true (sym (gone a is) ∙ (order.links a b tag e).0))
    link a b false true is other =
        (λ i. if is i || other i then None else get tags (a, b))
        ∙ none (after.links a b) (λ tag e. false_is_true (sym (gone b other) ∙ (order.links a b tag e).1))
    link a b false false is other = (λ i. if is i || other i then None else get tags (a, b)) ∙ net.links a b ∙ sym (links a b is other)

-- a link, and none
pub net_linked : (w : World) (a b tag : ℕ) (processes : Processes) (tags : Tags) → IsNet w processes tags → IsNet (with_link w a b (Some tag)) processes (insert tags (ends a b) tag)
net_linked w a b tag processes tags net = record {
  minds = net.minds;
  links = λ c d. link_get tags (min a b) (max a b) tag c d ∙ (λ i. if nat_eq c (min a b) && nat_eq d (max a b) then Some tag else net.links c d i);
}

pub net_unlinked : (w : World) (a b : ℕ) (processes : Processes) (tags : Tags) → IsNet w processes tags → IsNet (with_link w a b None) processes (remove tags (ends a b))
net_unlinked w a b processes tags net = record {
  minds = net.minds;
  links = λ c d. unlink_get tags (min a b) (max a b) c d ∙ (λ i. if nat_eq c (min a b) && nat_eq d (max a b) then None else net.links c d i);
}

-- one process is live, with this said of whether it dies with links
net_put : (w : World) (pid : ℕ) (p : Process) (processes : Processes) (tags : Tags) → IsNet w processes tags → is_live p.stage ≡ true
    → (q : ℕ) → get (insert processes pid p.dies) q ≡ minded (put w.process pid p q)
net_put w pid p processes tags net live q = put_get processes pid p.dies q ∙ by (nat_eq q pid)
  where
    by : (t : Bool) → (if t then Some p.dies else get processes q) ≡ minded (if t then p else w.process q)
    by true = ap (λ (t : Bool). if t then Some p.dies else None) (sym live)
    by false = net.minds q

pub net_minded : (w : World) (pid : ℕ) (dies : Bool) (processes : Processes) (tags : Tags) → IsNet w processes tags → is_live (w.process pid).stage ≡ true
    → IsNet (with_process w pid (record (w.process pid) { dies = dies })) (insert processes pid dies) tags
net_minded w pid dies processes tags net live = record {
  minds = λ q. net_put w pid (record (w.process pid) { dies = dies }) processes tags net live q;
  links = net.links;
}

pub net_born : (w : World) (start : Start) (processes : Processes) (tags : Tags) → IsNet w processes tags
    → IsNet (record (with_process w (next_number w) (fresh_process start Ready)) { numbers_drawn = next_number w }) (insert processes (next_number w) true) tags
net_born w start processes tags net = record {
  minds = λ q. net_put w (next_number w) (fresh_process start Ready) processes tags net refl q;
  links = net.links;
}

-- of the run's first world: process 1 alone, dying with links, and no link
pub net_first : (births : List Birth) → IsNet (first_world births) (insert empty 1 true) empty
net_first births = record {
  minds = λ q. put_get empty 1 true q ∙ by q (nat_eq q 1);
  links = λ a b. get-empty pair_cmp (a, b);
}
  where
    by : (q : ℕ) (t : Bool) → (if t then Some true else get (empty {R = nat_cmp}) q) ≡ minded (if t then fresh_process (first_start births) Ready else fresh_process no_start Unborn)
    by q true = refl
    by q false = get-empty nat_cmp q
