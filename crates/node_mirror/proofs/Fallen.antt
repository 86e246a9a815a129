-- Who falls in the store of links is who falls in the world.
use Rattle.std.specs.Prelude.{◌≡◌, ◌≢◌, ◌⊎◌, ◌↔◌, ℕ, zero, suc, List, [], ◌∷◌, Option, Some, None, Contains, Bool, true, false, not, ◌||◌, nat_eq, min, max, is_some, if◌then◌else◌, refl}
use Rattle.std.specs.FinMap.{get}
use Rattle.std.proofs.Common.{subst, sym, ◌∙◌, ap, inl, inr, arith}
use Rattle.std.proofs.lemmas.Bool.Decides.{nat_tests}
use Rattle.std.proofs.lemmas.List.Elements.{All-contains}
use Rattle.link_signals.specs.Links.{Processes, Tags, ends}
use Rattle.link_signals.specs.Fall.{Falls, begins, spreads, IsFall}
use Rattle.link_signals.specs.Fall.{is_among as is_one_of}
use Rattle.link_signals.proofs.Members.{among_Contains, Contains_among}
use Rattle.world_rules.specs.declared.halt.End.{End}
use Rattle.world_rules.specs.declared.halt.End.TheVariants as EndIs
use Rattle.world_rules.specs.Part.{is_among, without_number}
use Rattle.world_rules.specs.World.{World, is_live, is_ready, up_to}
use Rattle.world_rules.specs.Rules.{ready_among}
use Rattle.world_rules.specs.Streams.{one_if}
use Rattle.world_rules.specs.Links.{are_linked, falls_with, spread, spread_times, fallen_with}
use Rattle.world_rules.specs.Falls.{IsClosed, falls}
use Rattle.world_rules.specs.Sound.{AreInOrder, IsSound, Rise, times}
use Rattle.world_rules.specs.laws.KeepingLaws.{false_is_true}
use Rattle.node_mirror.specs.Nets.{IsNet}
use Rattle.node_mirror.proofs.Members.{among_cases, among_first, among_rest, among_without, among_filter, filter_among, ready_there, there_among, times_none}
use Rattle.node_mirror.proofs.Ascents.{rise_filter, rise_once, up_to_rise, increasing_rise, rises_same}

-- MEMBERS

turned_eq : (a b : ℕ) → nat_eq a b ≡ nat_eq b a
turned_eq a b = grind (arith, nat_tests)

-- the two tests of membership are one
pub one_of_among : (members : List ℕ) (pid : ℕ) → is_one_of members pid ≡ is_among members pid
one_of_among [] pid = refl
one_of_among (member ∷ members) pid = λ i. turned_eq member pid i || one_of_among members pid i

contained : (members : List ℕ) (pid : ℕ) → is_among members pid ≡ true → Contains members pid
contained members pid is = among_Contains members pid (one_of_among members pid ∙ is)

among_of : (members : List ℕ) (pid : ℕ) → Contains members pid → is_among members pid ≡ true
among_of members pid there = sym (one_of_among members pid) ∙ Contains_among members pid there

-- THE OTHERS OF THE WORLD

fallen_is : (w : World) (pid : ℕ) (end : End) → end ≢ EndIs.Done → fallen_with w pid end ≡ without_number pid (spread_times w.numbers_drawn w (pid ∷ []))
fallen_is w pid EndIs.Done isnt = absurd (isnt refl)
fallen_is w pid _ isnt = refl

spread_rise : (n : ℕ) (w : World) (pid : ℕ) → Rise (spread_times n w (pid ∷ []))
spread_rise zero w pid = (tt, tt)
spread_rise (suc n) w pid =
    rise_filter (λ q. is_among (spread_times n w (pid ∷ [])) q || falls_with w (spread_times n w (pid ∷ [])) q) (up_to w.numbers_drawn) (up_to_rise w.numbers_drawn)

fallen_rise : (w : World) (pid : ℕ) (end : End) → end ≢ EndIs.Done → Rise (fallen_with w pid end)
fallen_rise w pid end isnt =
    subst (λ (xs : List ℕ). Rise xs) (sym (fallen_is w pid end isnt)) (rise_filter (λ q. not (nat_eq q pid)) (spread_times w.numbers_drawn w (pid ∷ [])) (spread_rise w.numbers_drawn w pid))

fallen_other : (w : World) (pid : ℕ) (end : End) → end ≢ EndIs.Done → (q : ℕ) → is_among (fallen_with w pid end) q ≡ true → q ≢ pid
fallen_other w pid end isnt q is =
    (among_without pid (spread_times w.numbers_drawn w (pid ∷ [])) q (ap (λ (xs : List ℕ). is_among xs q) (sym (fallen_is w pid end isnt)) ∙ is)).1

-- A SOUND WORLD

-- the same world, its ready list made anew
abbrev listed : World → World
listed w = record w { ready = ready_among w (up_to w.numbers_drawn) }

listed_sound : (w : World) → AreInOrder w → IsSound (listed w)
listed_sound w order = record {
  ready = λ q. by q (is_ready (w.process q).stage) refl;
  processes = record { undrawn = order.undrawn; drawn = order.drawn; each = order.each; over = order.over; names = order.names; links = order.links };
}
  where
    is_false : (b : Bool) → (b ≡ true → ⊥) → b ≡ false
    is_false true isnt = absurd (isnt refl)
    is_false false isnt = refl

    by : (q : ℕ) (b : Bool) → is_ready (w.process q).stage ≡ b → times q (ready_among w (up_to w.numbers_drawn)) ≡ one_if (is_ready (w.process q).stage) 0
    by q true is =
        rise_once q (ready_among w (up_to w.numbers_drawn)) (rise_filter (λ pid. is_ready (w.process pid).stage) (up_to w.numbers_drawn) (up_to_rise w.numbers_drawn))
        (filter_among (λ pid. is_ready (w.process pid).stage) (up_to w.numbers_drawn) q (there_among w q order (ready_there (w.process q).stage is)) is)
        ∙ ap (λ (b : Bool). one_if b 0) (sym is)
    by q false is =
        times_none q (ready_among w (up_to w.numbers_drawn))
        (is_false (is_among (ready_among w (up_to w.numbers_drawn)) q)
        (λ there. false_is_true (sym is ∙ (among_filter (λ pid. is_ready (w.process pid).stage) (up_to w.numbers_drawn) q there).1)))
        ∙ ap (λ (b : Bool). one_if b 0) (sym is)

-- who falls isn't read off the ready list
spread_same : (n : ℕ) (w : World) (pids : List ℕ) → spread_times n (listed w) pids ≡ spread_times n w pids
spread_same zero w pids = refl
spread_same (suc n) w pids = ap (λ (xs : List ℕ). spread w xs) (spread_same n w pids)

fallen_same : (w : World) (pid : ℕ) (end : End) → end ≢ EndIs.Done → fallen_with (listed w) pid end ≡ fallen_with w pid end
fallen_same w pid end isnt =
    fallen_is (listed w) pid end isnt ∙ ap (λ (xs : List ℕ). without_number pid xs) (spread_same w.numbers_drawn w (pid ∷ [])) ∙ sym (fallen_is w pid end isnt)

-- what the laws of falls say
abbrev pub Closes : Type 0
Closes = (w : World) (pid : ℕ) (end : End) → IsSound w → is_live (w.process pid).stage ≡ true → end ≢ EndIs.Done → IsClosed w (falls w pid end)

abbrev pub IsLeast : Type 0
IsLeast = (w : World) (pid : ℕ) (end : End) (is_member : ℕ → Bool) → is_member pid ≡ true → IsClosed w is_member → (other : ℕ) → falls w pid end other ≡ true → is_member other ≡ true

falls_closed : Closes → (w : World) (pid : ℕ) (end : End) → AreInOrder w → is_live (w.process pid).stage ≡ true → end ≢ EndIs.Done → IsClosed w (falls w pid end)
falls_closed closes w pid end order live isnt member other is other_live dies linked =
    sym (same other) ∙ closes (listed w) pid end (listed_sound w order) live isnt member other (same member ∙ is) other_live dies linked
  where
    same : (q : ℕ) → falls (listed w) pid end q ≡ falls w pid end q
    same q = ap (λ (xs : List ℕ). is_among (pid ∷ xs) q) (fallen_same w pid end isnt)

-- WHO FALLS

of_minded : (live dies : Bool) → (if live then Some dies else None) ≡ Some true → (live ≡ true) × (dies ≡ true)
of_minded true true e = (refl, refl)
of_minded true false e = absurd cc
of_minded false dies e = absurd cc

linked_same : (w : World) (processes : Processes) (tags : Tags) → IsNet w processes tags → (a b : ℕ) → is_some (get tags (ends a b)) ≡ are_linked w a b
linked_same w processes tags net a b = ap (λ (o : Option ℕ). is_some o) (net.links (min a b) (max a b))

fell : Closes → (w : World) (processes : Processes) (tags : Tags) (pid : ℕ) (end : End) → AreInOrder w → IsNet w processes tags → is_live (w.process pid).stage ≡ true → end ≢ EndIs.Done
    → (q : ℕ) → Falls processes tags pid q → falls w pid end q ≡ true
fell closes w processes tags pid end order net live isnt q begins = among_first pid (fallen_with w pid end) q refl
fell closes w processes tags pid end order net live isnt q (spreads member next fallen linked dies) =
    let both : (is_live (w.process next).stage ≡ true) × ((w.process next).dies ≡ true) =
    of_minded (is_live (w.process next).stage) (w.process next).dies (sym (net.minds next) ∙ dies) in
    falls_closed closes w pid end order live isnt member next (fell closes w processes tags pid end order net live isnt member fallen) both.0 both.1
    (sym (linked_same w processes tags net member next) ∙ linked)

-- a list that holds exactly who falls in the store holds who falls in the world
falls_listed : IsLeast → (w : World) (processes : Processes) (tags : Tags) (pid : ℕ) (end : End) (members : List ℕ) → IsNet w processes tags
    → ((q : ℕ) → Contains members q ↔ Falls processes tags pid q) → (q : ℕ) → falls w pid end q ≡ true → is_among members q ≡ true
falls_listed least w processes tags pid end members net exact q is =
    least w pid end (λ k. is_among members k) (among_of members pid ((exact pid).1 begins)) closed q is
  where
    closed : IsClosed w (λ k. is_among members k)
    closed member other there live dies linked =
        among_of members other
        ((exact other).1 (spreads member other ((exact member).0 (contained members member there)) (linked_same w processes tags net member other ∙ linked)
        (net.minds other ∙ (λ i. if live i then Some (dies i) else None))))

-- FALL. The members of a fall are the first process and the others that fall with it in the world.
pub fall_members : Closes → IsLeast → (w : World) (processes : Processes) (tags : Tags) (pid : ℕ) (end : End) (members : List ℕ)
    → AreInOrder w → IsNet w processes tags → is_live (w.process pid).stage ≡ true → end ≢ EndIs.Done → IsFall processes tags pid members → members ≡ pid ∷ fallen_with w pid end
fall_members closes least w processes tags pid end members order net live isnt fall =
    fall.order ∙ ap (λ (xs : List ℕ). pid ∷ xs) (rises_same fall.others (fallen_with w pid end) (increasing_rise fall.others fall.rising) (fallen_rise w pid end isnt) there back)
  where
    exact : (q : ℕ) → Contains (pid ∷ fall.others) q ↔ Falls processes tags pid q
    exact = subst (λ (xs : List ℕ). (q : ℕ) → Contains xs q ↔ Falls processes tags pid q) fall.order fall.exact

    differs : (q : ℕ) → is_among fall.others q ≡ true → q ≢ pid
    differs q is = All-contains (λ other. (other ≡ pid) → ⊥) fall.others q fall.once (contained fall.others q is)

    rest : (xs : List ℕ) (q : ℕ) → q ≢ pid → (q ≡ pid) ⊎ (is_among xs q ≡ true) → is_among xs q ≡ true
    rest xs q other (inl same) = absurd (other same)
    rest xs q other (inr is) = is

    there : (q : ℕ) → is_among fall.others q ≡ true → is_among (fallen_with w pid end) q ≡ true
    there q is =
        rest (fallen_with w pid end) q (differs q is)
        (among_cases pid (fallen_with w pid end) q
        (fell closes w processes tags pid end order net live isnt q ((exact q).0 (contained (pid ∷ fall.others) q (among_rest pid fall.others q is)))))

    back : (q : ℕ) → is_among (fallen_with w pid end) q ≡ true → is_among fall.others q ≡ true
    back q is =
        rest fall.others q (fallen_other w pid end isnt q is)
        (among_cases pid fall.others q
        (falls_listed least w processes tags pid end (pid ∷ fall.others) net exact q (among_rest pid (fallen_with w pid end) q is)))
