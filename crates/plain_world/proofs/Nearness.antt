-- Who is linked with a member is among the neighbours: so those who fall and those who are told are found among them.
use Rattle.std.specs.Prelude.{◌≡◌, ◌≢◌, ◌⊎◌, ℕ, ◌<◌, ◌≤◌, ◌+◌, List, [], ◌∷◌, ◌++◌, filter, filter_map, find, option_map, cond, min, max, not, Option, Some, None, is_some, Bool, true, false, ◌||◌, ◌&&◌, nat_eq, nat_lt, nat_le, refl}
use Rattle.std.specs.Prelude.{take, length, slice_index}
use Rattle.std.specs.List.{list_any, cons_option}
use Rattle.std.proofs.Common.{sym, ◌∙◌, ap, subst, inl, inr, arith}
use Rattle.std.proofs.lemmas.Bool.Decides.{eqb_tells, leb_tells}
use Rattle.world_rules.specs.Part.{is_among}
use Rattle.world_rules.specs.Sound.{Rise}
use Rattle.world_rules.specs.World.{World, is_live, up_to, link_between, live_processes}
use Rattle.world_rules.specs.Links.{Told, are_linked, falls_with, spread, signals_from}
use Rattle.world_rules.specs.laws.KeepingLaws.{false_is_true}
use Rattle.plain_world.specs.declared.world.PlainLink.{PlainLink}
use Rattle.plain_world.specs.Fall.{HasEnds, AreNear, AreToTell, signals_to}
use Rattle.plain_world.specs.Shown.{tag_in}
use Rattle.plain_world.proofs.Members.{among_cases, among_first, among_rest, among_filter, filter_among, both_true, equal, taken_more}
use Rattle.plain_world.proofs.Rising.{rise_filter, up_to_rise, rises_same, among_up_to, chosen}
use Rattle.plain_world.proofs.Watching.{filter_twice, or_left, or_right}

-- LINKS

-- whoever has such a link with a member is among these
abbrev pub NearBy : List ℕ → List PlainLink → List ℕ → Type 0
NearBy members links near =
    (member pid : ℕ) → is_among members member ≡ true → is_some (tag_in links (min member pid) (max member pid)) ≡ true → is_among near pid ≡ true

joins : ℕ → ℕ → PlainLink → Bool
joins a b link = nat_eq a link.low && nat_eq b link.high

-- a tag in links and one more is that of the others, or of the one
one_joins : (links : List PlainLink) (link : PlainLink) (a b : ℕ) → is_some (tag_in (links ++ link ∷ []) a b) ≡ true
    → (is_some (tag_in links a b) ≡ true) ⊎ ((nat_eq a link.low && nat_eq b link.high) ≡ true)
one_joins [] link a b is = by (nat_eq a link.low && nat_eq b link.high) refl is
  where
    by : (c : Bool) → (nat_eq a link.low && nat_eq b link.high) ≡ c → is_some (option_map (λ (l : PlainLink). l.tag) (cond c (Some link) None)) ≡ true
        → (is_some (tag_in [] a b) ≡ true) ⊎ ((nat_eq a link.low && nat_eq b link.high) ≡ true)
    by true e is = inr e
    by false e is = false_is_true is
one_joins (first ∷ links) link a b is = by (λ there. one_joins links link a b there) (nat_eq a first.low && nat_eq b first.high) refl is
  where
    lone : (is_some (tag_in links a b) ≡ true) ⊎ ((nat_eq a link.low && nat_eq b link.high) ≡ true) → (nat_eq a first.low && nat_eq b first.high) ≡ false
        → (is_some (tag_in (first ∷ links) a b) ≡ true) ⊎ ((nat_eq a link.low && nat_eq b link.high) ≡ true)
    lone (inl there) e = inl (ap (λ (c : Bool). is_some (option_map (λ (l : PlainLink). l.tag) (cond c (Some first) (find (λ l. nat_eq a l.low && nat_eq b l.high) links)))) e ∙ there)
    lone (inr here) e = inr here

    by : (is_some (tag_in (links ++ link ∷ []) a b) ≡ true → (is_some (tag_in links a b) ≡ true) ⊎ ((nat_eq a link.low && nat_eq b link.high) ≡ true))
        → (c : Bool) → (nat_eq a first.low && nat_eq b first.high) ≡ c
        → is_some (option_map (λ (l : PlainLink). l.tag) (cond c (Some first) (find (λ l. nat_eq a l.low && nat_eq b l.high) (links ++ link ∷ [])))) ≡ true
        → (is_some (tag_in (first ∷ links) a b) ≡ true) ⊎ ((nat_eq a link.low && nat_eq b link.high) ≡ true)
    by rest true e is = inl (ap (λ (c : Bool). is_some (option_map (λ (l : PlainLink). l.tag) (cond c (Some first) (find (λ l. nat_eq a l.low && nat_eq b l.high) links)))) e)
    by rest false e is = lone (rest is) e

same_number : (a b : ℕ) → nat_eq a b ≡ true → a ≡ b
same_number a b is = by (eqb_tells a b)
  where
    by : ((nat_eq a b ≡ true) × (a ≡ b)) ⊎ ((nat_eq a b ≡ false) × (a ≢ b)) → a ≡ b
    by (inl same) = same.1
    by (inr other) = false_is_true (sym other.0 ∙ is)

-- one link more was read
pub near_more : (members near near' : List ℕ) (links : List PlainLink) (link : PlainLink) → NearBy members links near → HasEnds near members link near'
    → NearBy members (links ++ link ∷ []) near'
near_more members near near' links link by_now ends member pid is some = by (one_joins links link (min member pid) (max member pid) some)
  where
    ups : (a b c d : ℕ) → a ≤ b → min a b ≡ c → max a b ≡ d → (a ≡ c) × (b ≡ d)
    ups a b c d low x y = (omega (arith, low, x, y), omega (arith, low, x, y))

    downs : (a b c d : ℕ) → b < a → min a b ≡ c → max a b ≡ d → (b ≡ c) × (a ≡ d)
    downs a b c d high x y = (omega (arith, high, x, y), omega (arith, high, x, y))

    up : (member ≡ link.low) × (pid ≡ link.high) → is_among near' pid ≡ true
    up same = subst (λ (n : ℕ). is_among near' n ≡ true) (sym same.1) (ends.high (subst (λ (n : ℕ). is_among members n ≡ true) same.0 is))

    down : (pid ≡ link.low) × (member ≡ link.high) → is_among near' pid ≡ true
    down same = subst (λ (n : ℕ). is_among near' n ≡ true) (sym same.0) (ends.low (subst (λ (n : ℕ). is_among members n ≡ true) same.1 is))

    at : min member pid ≡ link.low → max member pid ≡ link.high
        → ((nat_le member pid ≡ true) × (member ≤ pid)) ⊎ ((nat_le member pid ≡ false) × (pid < member)) → is_among near' pid ≡ true
    at x y (inl less) = up (ups member pid link.low link.high less.1 x y)
    at x y (inr more) = down (downs member pid link.low link.high more.1 x y)

    by : (is_some (tag_in links (min member pid) (max member pid)) ≡ true) ⊎ ((nat_eq (min member pid) link.low && nat_eq (max member pid) link.high) ≡ true)
        → is_among near' pid ≡ true
    by (inl there) = ends.kept pid (by_now member pid is there)
    by (inr here) =
        let both = both_true (nat_eq (min member pid) link.low) (nat_eq (max member pid) link.high) here in
        at (same_number (min member pid) link.low both.0) (same_number (max member pid) link.high both.1) (leb_tells member pid)

-- NUMBERS ADDED

-- one number more was added
pub added_more : (more first now after : List ℕ) (k : ℕ) → k < length more
    → ((q : ℕ) → (is_among first q || is_among (take k more) q) ≡ true → is_among now q ≡ true)
    → ((q : ℕ) → is_among after q ≡ (nat_eq q (slice_index more k) || is_among now q)) → (q : ℕ)
    → (is_among first q || is_among (take (k + 1) more) q) ≡ true → is_among after q ≡ true
added_more more first now after k within held added q there = by (is_among first q) refl there
  where
    stays : is_among now q ≡ true → is_among after q ≡ true
    stays e = added q ∙ or_right (nat_eq q (slice_index more k)) (is_among now q) e

    at : (is_among (take k more) q ≡ true) ⊎ (q ≡ slice_index more k) → is_among after q ≡ true
    at (inl earlier) = stays (held q (or_right (is_among first q) (is_among (take k more) q) earlier))
    at (inr same) = added q ∙ or_left (nat_eq q (slice_index more k)) (is_among now q) (equal q (slice_index more k) same)

    by : (b : Bool) → is_among first q ≡ b → (b || is_among (take (k + 1) more) q) ≡ true → is_among after q ≡ true
    by true e there = stays (held q (or_left (is_among first q) (is_among (take k more) q) e))
    by false e there = at (taken_more more k q within there)

-- WHO FALLS

any_among : (test : ℕ → Bool) (xs : List ℕ) (C : Type 0) → list_any test xs ≡ true → ((x : ℕ) → is_among xs x ≡ true → test x ≡ true → C) → C
any_among test [] C is f = false_is_true is
any_among test (x ∷ xs) C is f = by (λ there. any_among test xs C there (λ y member e. f y (among_rest x xs y member) e)) (test x) refl is
  where
    by : (list_any test xs ≡ true → C) → (b : Bool) → test x ≡ b → (b || list_any test xs) ≡ true → C
    by rest true e is = f x (among_first x xs x refl) e
    by rest false e is = rest is

-- of the neighbours and the members, those that are members or fall are all that spreading gives
pub spread_are : (w : World) (members near : List ℕ) → Rise near → AreNear w members near → ((pid : ℕ) → is_among members pid ≡ true → is_among near pid ≡ true)
    → filter (λ pid. (nat_lt 0 pid && nat_le pid w.numbers_drawn) && (is_among members pid || falls_with w members pid)) near ≡ spread w members
spread_are w members near rise linked held = chosen (λ pid. is_among members pid || falls_with w members pid) w.numbers_drawn near rise found
  where
    falls : (q : ℕ) → falls_with w members q ≡ true → is_among near q ≡ true
    falls q is =
        let e = both_true (is_live (w.process q).stage && (w.process q).dies) (list_any (λ member. are_linked w member q) members) is in
        any_among (λ member. are_linked w member q) members (is_among near q ≡ true) e.1 (λ member there joined. linked member q there joined)

    found : (q : ℕ) → (is_among members q || falls_with w members q) ≡ true → is_among near q ≡ true
    found q is = by (is_among members q) refl is
      where
        by : (b : Bool) → is_among members q ≡ b → (b || falls_with w members q) ≡ true → is_among near q ≡ true
        by true e is = held q e
        by false e is = falls q is

-- WHO IS TOLD

-- what is never told may be left out
told_near : (f : ℕ → Option Told) (near rest : ℕ → Bool) (xs : List ℕ) → ((q : ℕ) → near q ≡ false → f q ≡ None)
    → filter_map f (filter (λ q. near q && rest q) xs) ≡ filter_map f (filter rest xs)
told_near f near rest [] none = refl
told_near f near rest (x ∷ xs) none = by (λ _. told_near f near rest xs none) (near x) refl (rest x) refl
  where
    by : (Unit {0} → filter_map f (filter (λ q. near q && rest q) xs) ≡ filter_map f (filter rest xs)) → (b : Bool) → near x ≡ b → (c : Bool) → rest x ≡ c
        → filter_map f (cond (b && c) (x ∷ filter (λ q. near q && rest q) xs) (filter (λ q. near q && rest q) xs)) ≡ filter_map f (cond c (x ∷ filter rest xs) (filter rest xs))
    by same true e true g = ap (λ (ys : List Told). cons_option (f x) ys) (same tt)
    by same true e false g = same tt
    by same false e true g = same tt ∙ sym (ap (λ (o : Option Told). cons_option o (filter_map f (filter rest xs))) (none x e))
    by same false e false g = same tt

-- the outsiders among the neighbours are all that a member has to tell
pub outsiders_are : (w : World) (members near others : List ℕ) → Rise near → AreNear w members near
    → others ≡ filter (λ pid. (nat_lt 0 pid && nat_le pid w.numbers_drawn) && (not (is_among members pid) && is_live (w.process pid).stage)) near
    → AreToTell w members others
outsiders_are w members near others rise linked is member there =
    ap (λ (pids : List ℕ). signals_to w member pids) (is ∙ same)
    ∙ told_near signal (is_among near) rest (up_to w.numbers_drawn) none
    ∙ ap (λ (pids : List ℕ). signals_to w member pids) (filter_twice (λ pid. not (is_among members pid)) (λ pid. is_live (w.process pid).stage) (up_to w.numbers_drawn))
  where
    signal : ℕ → Option Told
    signal pid = option_map (λ (tag : ℕ). record { to = pid; tag = tag }) (link_between w member pid)

    drawn : ℕ → Bool
    drawn pid = nat_lt 0 pid && nat_le pid w.numbers_drawn

    rest : ℕ → Bool
    rest pid = not (is_among members pid) && is_live (w.process pid).stage

    wide : ℕ → Bool
    wide pid = drawn pid && rest pid

    narrow : ℕ → Bool
    narrow pid = is_among near pid && rest pid

    two : (a b : Bool) → a ≡ true → b ≡ true → (a && b) ≡ true
    two a b x y = ap (λ (c : Bool). c && b) x ∙ y

    ahead : (q : ℕ) → is_among (filter wide near) q ≡ true → is_among (filter narrow (up_to w.numbers_drawn)) q ≡ true
    ahead q e =
        let f = among_filter wide near q e in
        let g = both_true (drawn q) (rest q) f.1 in
        filter_among narrow (up_to w.numbers_drawn) q (among_up_to w.numbers_drawn q ∙ g.0) (two (is_among near q) (rest q) f.0 g.1)

    back : (q : ℕ) → is_among (filter narrow (up_to w.numbers_drawn)) q ≡ true → is_among (filter wide near) q ≡ true
    back q e =
        let f = among_filter narrow (up_to w.numbers_drawn) q e in
        let g = both_true (is_among near q) (rest q) f.1 in
        filter_among wide near q g.0 (two (drawn q) (rest q) (sym (among_up_to w.numbers_drawn q) ∙ f.0) g.1)

    same : filter wide near ≡ filter narrow (up_to w.numbers_drawn)
    same =
        rises_same (filter wide near) (filter narrow (up_to w.numbers_drawn)) (rise_filter wide near rise)
        (rise_filter narrow (up_to w.numbers_drawn) (up_to_rise w.numbers_drawn)) ahead back

    untagged : (q : ℕ) → (o : Option ℕ) → link_between w member q ≡ o → is_among near q ≡ false → signal q ≡ None
    untagged q None e none = ap (λ (o : Option ℕ). option_map (λ (tag : ℕ). record { to = q; tag = tag }) o) e
    untagged q (Some tag) e none = false_is_true (sym none ∙ linked member q there (ap (λ (o : Option ℕ). is_some o) e))

    none : (q : ℕ) → is_among near q ≡ false → signal q ≡ None
    none q e = untagged q (link_between w member q) refl e
