-- The signals of a fall in the store of links are those of the world, in its order.
use Rattle.std.specs.Prelude.{◌≡◌, ◌≢◌, ℕ, List, [], ◌∷◌, ◌++◌, map, filter, cond, not, option_map, Option, Some, None, Bool, true, false, min, max, is_some, if◌then◌else◌, refl}
use Rattle.std.specs.List.{filter_map, flat_map, cons_option, list_any}
use Rattle.std.specs.FinMap.{get, keys, entries, entries_sorted, contains_key-keys}
use Rattle.std.proofs.Common.{sym, ◌∙◌, ap}
use Rattle.link_signals.specs.declared.signal.Signal.{Signal}
use Rattle.link_signals.specs.Links.{Processes, Tags, ends}
use Rattle.link_signals.specs.Fall.{signal_to}
use Rattle.link_signals.specs.Fall.{signals_from as signals_by}
use Rattle.link_signals.specs.Fall.{signals_of as signals_in}
use Rattle.world_rules.specs.declared.halt.End.{End}
use Rattle.world_rules.specs.declared.halt.End.TheVariants as EndIs
use Rattle.world_rules.specs.Part.{is_among}
use Rattle.world_rules.specs.World.{World, is_live, up_to, live_processes, link_between}
use Rattle.world_rules.specs.Links.{Told, signals_from, signals_of}
use Rattle.world_rules.specs.Sound.{AreInOrder}
use Rattle.node_mirror.specs.Nets.{IsNet, told_of}
use Rattle.node_mirror.proofs.Members.{among_filter, filter_among, live_there, there_among}
use Rattle.node_mirror.proofs.Ascents.{rise_filter, up_to_rise, sorted_rise, rises_same}
use Rattle.node_mirror.proofs.NetMaps.{number_tells}
use Rattle.node_mirror.proofs.Fallen.{one_of_among}

-- THE PROCESSES

-- the processes of the store are the live ones, by rising number
live_keys : (w : World) (processes : Processes) (tags : Tags) → AreInOrder w → IsNet w processes tags → keys processes ≡ live_processes w
live_keys w processes tags order net =
    rises_same (keys processes) (live_processes w) (sorted_rise (entries processes) (entries_sorted processes))
    (rise_filter (λ pid. is_live (w.process pid).stage) (up_to w.numbers_drawn) (up_to_rise w.numbers_drawn)) there back
  where
    told : (live dies : Bool) → is_some (if live then Some dies else None) ≡ live
    told true dies = refl
    told false dies = refl

    is_key : (q : ℕ) → is_among (keys processes) q ≡ is_live (w.process q).stage
    is_key q =
        (λ i. list_any (λ key. sym (number_tells q key) i) (keys processes)) ∙ sym (contains_key-keys processes q)
        ∙ ap (λ (o : Option Bool). is_some o) (net.minds q) ∙ told (is_live (w.process q).stage) (w.process q).dies

    there : (q : ℕ) → is_among (keys processes) q ≡ true → is_among (live_processes w) q ≡ true
    there q is =
        let live : is_live (w.process q).stage ≡ true = sym (is_key q) ∙ is in
        filter_among (λ pid. is_live (w.process pid).stage) (up_to w.numbers_drawn) q (there_among w q order (live_there (w.process q).stage live)) live

    back : (q : ℕ) → is_among (live_processes w) q ≡ true → is_among (keys processes) q ≡ true
    back q is = is_key q ∙ (among_filter (λ pid. is_live (w.process pid).stage) (up_to w.numbers_drawn) q is).1

-- ONE MEMBER

-- what the link of two brings the one
abbrev brought : ℕ → Option ℕ → Option Told
brought pid tag = option_map (λ (t : ℕ). let s : Told = record { to = pid; tag = t } in s) tag

abbrev sent : ℕ → Option ℕ → Option Signal
sent pid tag = option_map (λ (t : ℕ). let s : Signal = record { to = pid; tag = t } in s) tag

one_told : (pid : ℕ) (tag : Option ℕ) (rest : List Signal) (others : List Told) → map told_of rest ≡ others → map told_of (cons_option (sent pid tag) rest) ≡ cons_option (brought pid tag) others
one_told pid None rest others same = same
one_told pid (Some tag) rest others same = ap (λ (xs : List Told). let s : Told = record { to = pid; tag = tag } in s ∷ xs) same

member_told : (w : World) (processes : Processes) (tags : Tags) → IsNet w processes tags → (members : List ℕ) (member : ℕ) (pids : List ℕ)
    → map told_of (filter_map (signal_to tags members member) pids)
    ≡ filter_map (λ pid. brought pid (link_between w member pid)) (filter (λ pid. not (is_among members pid)) pids)
member_told w processes tags net members member [] = refl
member_told w processes tags net members member (pid ∷ pids) =
    ap (λ (t : Bool). map told_of (cons_option (if t then None else sent pid (get tags (ends member pid))) (filter_map (signal_to tags members member) pids))) (one_of_among members pid)
    ∙ by (member_told w processes tags net members member pids) (is_among members pid)
  where
    by : map told_of (filter_map (signal_to tags members member) pids)
        ≡ filter_map (λ pid. brought pid (link_between w member pid)) (filter (λ pid. not (is_among members pid)) pids) → (t : Bool)
        → map told_of (cons_option (if t then None else sent pid (get tags (ends member pid))) (filter_map (signal_to tags members member) pids))
        ≡ filter_map (λ pid. brought pid (link_between w member pid))
        (cond (not t) (pid ∷ filter (λ pid. not (is_among members pid)) pids) (filter (λ pid. not (is_among members pid)) pids))
    by rest true = rest
    by rest false =
        one_told pid (get tags (ends member pid)) (filter_map (signal_to tags members member) pids)
        (filter_map (λ pid. brought pid (link_between w member pid)) (filter (λ pid. not (is_among members pid)) pids)) rest
        ∙ ap (λ (o : Option ℕ). cons_option (brought pid o) (filter_map (λ pid. brought pid (link_between w member pid)) (filter (λ pid. not (is_among members pid)) pids)))
        (net.links (min member pid) (max member pid))

-- ALL MEMBERS

map_both : {X Y : Type 0} (f : X → Y) (xs ys : List X) → map f (xs ++ ys) ≡ map f xs ++ map f ys
map_both f [] ys = refl
map_both f (x ∷ xs) ys = ap (λ zs. f x ∷ zs) (map_both f xs ys)

all_told : (f : ℕ → List Signal) (g : ℕ → List Told) (members : List ℕ) → ((member : ℕ) → map told_of (f member) ≡ g member) → map told_of (flat_map f members) ≡ flat_map g members
all_told f g [] same = refl
all_told f g (member ∷ members) same = map_both told_of (f member) (flat_map f members) ∙ (λ i. same member i ++ all_told f g members same i)

signals_are : (w : World) (members : List ℕ) (end : End) → end ≢ EndIs.Done → signals_of w members end ≡ flat_map (signals_from w members) members
signals_are w members EndIs.Done isnt = absurd (isnt refl)
signals_are w members _ isnt = refl

-- SIGNALS
pub fall_signals : (w : World) (processes : Processes) (tags : Tags) (end : End) (members : List ℕ) → AreInOrder w → IsNet w processes tags → end ≢ EndIs.Done
    → map told_of (signals_in processes tags members) ≡ signals_of w members end
fall_signals w processes tags end members order net isnt =
    all_told (signals_by processes tags members) (signals_from w members) members
    (λ member. member_told w processes tags net members member (keys processes)
    ∙ ap (λ (pids : List ℕ). filter_map (λ pid. brought pid (link_between w member pid)) (filter (λ pid. not (is_among members pid)) pids)) (live_keys w processes tags order net))
    ∙ sym (signals_are w members end isnt)
