use Rattle.std.specs.Prelude.{◌≡◌, ℕ, ◌&&◌, ◌||◌, List, [], ◌∷◌, ◌++◌, find, filter, cond, option_map, Option, Some, None, Bool, true, false, not, min, max, nat_eq, if◌then◌else◌, refl}
use Rattle.std.proofs.Common.{sym, ◌∙◌, ap}
use Rattle.std.proofs.Math.Path.{fun_ext}
use Rattle.std.proofs.lemmas.Bool.{eqb-true}
use Rattle.world_rules.specs.World.{World}
use Rattle.world_rules.specs.Links.{with_link}
use Rattle.plain_world.specs.declared.world.PlainLink.{PlainLink}
use Rattle.plain_world.specs.Shown.{tag_in}
use Rattle.plain_world.proofs.Finding.{find_kept, find_pushed_other, find_pushed_first}

-- The list of links, and what it shows.

-- both tests are true
both : (a b : Bool) → (a && b) ≡ true → (a ≡ true) × (b ≡ true)
both true true h = (refl, refl)
both true false h = (refl, h)
both false b h = (absurd (no h), absurd (no h))
  where
    no : false ≡ true → ⊥
    no h = cc

abbrev test_of : ℕ → ℕ → PlainLink → Bool
test_of a b link = nat_eq a link.low && nat_eq b link.high

-- of the links that a test of the two processes keeps
tag_kept : (keep : ℕ → ℕ → Bool) (links : List PlainLink) (a b : ℕ) →
    tag_in (filter (λ link. keep link.low link.high) links) a b ≡ cond (keep a b) (tag_in links a b) None
tag_kept keep links a b =
    ap (λ (o : Option PlainLink). option_map (λ (link : PlainLink). link.tag) o)
    (find_kept (test_of a b) (λ (link : PlainLink). keep link.low link.high) (keep a b) links same)
    ∙ either (keep a b)
  where
    same : (link : PlainLink) → test_of a b link ≡ true → keep link.low link.high ≡ keep a b
    same link is =
        let two : (nat_eq a link.low ≡ true) × (nat_eq b link.high ≡ true) = both (nat_eq a link.low) (nat_eq b link.high) is in
        ap (λ (n : ℕ). keep n link.high) (sym (eqb-true a link.low two.0)) ∙ ap (λ (n : ℕ). keep a n) (sym (eqb-true b link.high two.1))

    either : (k : Bool) → option_map (λ (link : PlainLink). link.tag) (cond k (find (test_of a b) links) None) ≡ cond k (tag_in links a b) None
    either true = refl
    either false = refl

flipped : (t : Bool) (o : Option ℕ) → cond (not t) o None ≡ (if t then None else o)
flipped true o = refl
flipped false o = refl

pub links_cut : (links new : List PlainLink) (pid : ℕ) →
    new ≡ filter (λ (link : PlainLink). not (nat_eq link.low pid || nat_eq link.high pid)) links →
    tag_in new ≡ (λ a b. if nat_eq a pid || nat_eq b pid then None else tag_in links a b)
links_cut links new pid is =
    ap tag_in is
    ∙ fun_ext (λ a. fun_ext (λ b. tag_kept (λ x y. not (nat_eq x pid || nat_eq y pid)) links a b
    ∙ flipped (nat_eq a pid || nat_eq b pid) (tag_in links a b)))

abbrev without_link : ℕ → ℕ → List PlainLink → List PlainLink
without_link low high links = filter (λ (link : PlainLink). not (nat_eq link.low low && nat_eq link.high high)) links

tag_without : (links : List PlainLink) (low high a b : ℕ) →
    tag_in (without_link low high links) a b ≡ (if nat_eq a low && nat_eq b high then None else tag_in links a b)
tag_without links low high a b =
    tag_kept (λ x y. not (nat_eq x low && nat_eq y high)) links a b ∙ flipped (nat_eq a low && nat_eq b high) (tag_in links a b)

pub links_unset : (links new : List PlainLink) (low high : ℕ) (given : Option ℕ) → new ≡ without_link low high links →
    given ≡ None → tag_in new ≡ (λ c d. if nat_eq c low && nat_eq d high then given else tag_in links c d)
links_unset links new low high given is none =
    ap tag_in is
    ∙ fun_ext (λ c. fun_ext (λ d. tag_without links low high c d
    ∙ ap (λ (o : Option ℕ). if nat_eq c low && nat_eq d high then o else tag_in links c d) (sym none)))

none_found : (o : Option PlainLink) → option_map (λ (link : PlainLink). link.tag) o ≡ None → o ≡ None
none_found None h = refl
none_found (Some link) h = absurd (no h)
  where
    no : Some link.tag ≡ None → ⊥
    no h = cc

pub links_set : (links kept new : List PlainLink) (low high tag : ℕ) (given : Option ℕ) → kept ≡ without_link low high links →
    new ≡ kept ++ record { low = low; high = high; tag = tag } ∷ [] → given ≡ Some tag →
    tag_in new ≡ (λ c d. if nat_eq c low && nat_eq d high then given else tag_in links c d)
links_set links kept new low high tag given is pushed some =
    fun_ext (λ c. fun_ext (λ d. by c d (nat_eq c low && nat_eq d high) refl
    ∙ ap (λ (o : Option ℕ). if nat_eq c low && nat_eq d high then o else tag_in links c d) (sym some)))
  where
    by : (c d : ℕ) (t : Bool) → (nat_eq c low && nat_eq d high) ≡ t →
        tag_in new c d ≡ (if nat_eq c low && nat_eq d high then Some tag else tag_in links c d)
    by c d true e =
        ap (λ (ls : List PlainLink). tag_in ls c d) pushed
        ∙ ap (λ (o : Option PlainLink). option_map (λ (l : PlainLink). l.tag) o)
        (find_pushed_first (test_of c d) kept (record { low = low; high = high; tag = tag }) e
        (none_found (find (test_of c d) kept) (ap (λ (ls : List PlainLink). tag_in ls c d) is ∙ tag_without links low high c d
        ∙ ap (λ (t : Bool). if t then None else tag_in links c d) e)))
        ∙ sym (ap (λ (t : Bool). if t then Some tag else tag_in links c d) e)
    by c d false e =
        ap (λ (ls : List PlainLink). tag_in ls c d) pushed
        ∙ ap (λ (o : Option PlainLink). option_map (λ (l : PlainLink). l.tag) o)
        (find_pushed_other (test_of c d) kept (record { low = low; high = high; tag = tag }) e)
        ∙ ap (λ (ls : List PlainLink). tag_in ls c d) is ∙ tag_without links low high c d
        ∙ ap (λ (t : Bool). if t then None else tag_in links c d) e
        ∙ sym (ap (λ (t : Bool). if t then Some tag else tag_in links c d) e)

-- the link of two processes, in a world
pub between_set : (w : World) (a b low high : ℕ) (tag : Option ℕ) (tags : ℕ → ℕ → Option ℕ) → low ≡ min a b → high ≡ max a b →
    tags ≡ (λ c d. if nat_eq c low && nat_eq d high then tag else w.links c d) →
    record w { links = tags } ≡ with_link w a b tag
between_set w a b low high tag tags is_low is_high is =
    ap (λ (f : ℕ → ℕ → Option ℕ). record w { links = f })
    (is ∙ ap (λ (n : ℕ). λ c d. if nat_eq c n && nat_eq d high then tag else w.links c d) is_low
    ∙ ap (λ (n : ℕ). λ c d. if nat_eq c (min a b) && nat_eq d n then tag else w.links c d) is_high)
