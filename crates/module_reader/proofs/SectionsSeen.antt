-- Sections read as far as some place.
use Rattle.std.proofs.Common.{◌≡◌, ℕ, ◌+◌, ◌-◌, ◌*◌, ◌^◌, ◌<◌, ◌⊎◌, inl, inr, List, [], ◌∷◌, ◌++◌, length, length-append, append_assoc, append-nil, Option, Some, None, MatchOption, true, false, arith, refl, ap, subst, sym, ◌∙◌}
use Rattle.std.specs.List.{find}
use Rattle.std.specs.Option.{option_or}
use Rattle.std.proofs.Math.Dec.{eqb}
use Rattle.std.proofs.lemmas.Nat.{pow-add}
use Rattle.std.proofs.lemmas.Bool.{ne_eqb, eq-eqb}
use Rattle.std.proofs.lemmas.Bool.Decides.{eqb_tells}
use Rattle.std.proofs.lemmas.List.{nil_from_length, append_cancel_left}
use Rattle.std.proofs.lemmas.List.Folds.{find-append}
use Rattle.std.specs.Str.{IsUtf8}
use Rattle.leb_read.specs.Numbers.{SpellsUnsigned, SpellsSigned}
use Rattle.leb_read.specs.Place.{Place}
use Rattle.wasm_form.specs.Values.{SpellsU32, SpellsItems, SpellsBytes}
use Rattle.wasm_form.specs.Sections.{SpellsCustom}
use Rattle.wasm_form.specs.Modules.{Section, SpellsSection, IsInOrder, Spells, preamble}
use Rattle.wasm_form.specs.declared.parts.Parts.{Parts}
use Rattle.wasm_form.proofs.Fronts.{OneFront}
use Rattle.body_reader.specs.Reading.{NoFront, ReadsOnly}
use Rattle.body_reader.proofs.Pieces.{spells_more, read_both, Parts as Pieces}
use Rattle.module_reader.specs.declared.kind.Kind.{Kind}
use Rattle.module_reader.specs.declared.kind.Kind.TheVariants as kind
use Rattle.module_reader.specs.Kinds.{id_of, Says, Lacks, Puts, Tell, IsEmpty}
use Rattle.module_reader.specs.Order.{section, Follows, MayNotFollow, SpellsSections}
use Rattle.module_reader.proofs.EachKind.{id_some, id_most, same_kind, kind_at, Same, says_same, lacks_same, puts_says, puts_keeps, all_same, tell_one}

-- numbers of so many bits are small
pub small : (N : ℕ) (s : List ℕ) (v : ℕ) → SpellsUnsigned N s v → v < 2 ^ N
small N [] v h = absurd h
small N (n ∷ []) v h = omega (arith, h.1, h.2)
small N (n ∷ next ∷ rest) v h =
    let low : h.3 < 2 ^ (N - 7) = small (N - 7) (next ∷ rest) h.3 h.4 in
    let split : 2 ^ ((N - 7) + 7) ≡ 2 ^ (N - 7) * 2 ^ 7 = pow-add 2 (N - 7) 7 in
    let same : 2 ^ ((N - 7) + 7) ≡ 2 ^ N = ap (λ k. 2 ^ k) (omega (arith, h.2)) in
    omega (arith, h.0, h.1, h.5)

pub few_bytes : (s v : List ℕ) → SpellsBytes s v → length v < 2 ^ 32
few_bytes s v h = small 32 h.0 (length v) h.1

-- the first section with an id
abbrev pub at_id : ℕ → List Section → Option Section
at_id n xs = find (λ s. eqb s.id n) xs

at_id_here : (n : ℕ) (s : Section) (ys : List Section) → s.id ≡ n → at_id n (s ∷ ys) ≡ Some s
at_id_here n s ys e = rw (eq-eqb s.id n e) refl

at_id_other : (n : ℕ) (s : Section) (ys : List Section) → (s.id ≡ n → ⊥) → at_id n (s ∷ ys) ≡ at_id n ys
at_id_other n s ys ne = rw (ne_eqb s.id n ne) refl

or_none : (o : Option Section) → option_or o None ≡ o
or_none None = refl
or_none (Some s) = refl

pub found : (n : ℕ) (xs : List Section) (s : Section) (ys : List Section) → at_id n xs ≡ None → s.id ≡ n → at_id n (xs ++ s ∷ ys) ≡ Some s
found n xs s ys none is =
    find-append (λ r. eqb r.id n) xs (s ∷ ys) ∙ ap (λ (o : Option Section). option_or o (at_id n (s ∷ ys))) none ∙ at_id_here n s ys is

pub passed_by : (n : ℕ) (xs : List Section) (s : Section) → (s.id ≡ n → ⊥) → at_id n (xs ++ s ∷ []) ≡ at_id n xs
passed_by n xs s other =
    find-append (λ r. eqb r.id n) xs (s ∷ []) ∙ ap (λ (o : Option Section). option_or (at_id n xs) o) (at_id_other n s [] other) ∙ or_none (at_id n xs)

-- The sections read, when these bytes are left and the last id was this; of any sections in order that are all the bytes
-- they are the first.
pub record SectionsSeen (bytes left : List ℕ) (last : ℕ) (p : Parts) : Type 0 where
  pub sections : List Section
  pub passed : List ℕ
  pub whole : bytes ≡ passed ++ left
  pub spelled : SpellsItems SpellsSection passed sections
  pub in_order : (rest : List Section) → IsInOrder (last + 1) rest → IsInOrder 1 (sections ++ rest)
  pub below : (n : ℕ) → last < n → at_id n sections ≡ None
  pub told : (k : Kind) → Tell k sections p
  pub only : (all : List Section) → SpellsItems SpellsSection bytes all → IsInOrder 1 all
      → (rest : List Section) × (all ≡ sections ++ rest) × SpellsItems SpellsSection left rest × IsInOrder (last + 1) rest

pub none_seen_yet : (bytes left : List ℕ) (p : Parts) → left ≡ bytes → IsEmpty p → SectionsSeen bytes left 0 p
none_seen_yet bytes left p same empty =
    record {
      sections = [];
      passed = [];
      whole = sym same;
      spelled = refl;
      in_order = λ rest h. h;
      below = λ n h. refl;
      told = λ k. empty k;
      only = λ all h o. (all, refl, subst (λ (l : List ℕ). SpellsItems SpellsSection l all) (sym same) h, o);
    }

-- the section at the front of what is left is the next one
pub next_is : (old new : Place) (s : Section) (rest : List Section) → ReadsOnly SpellsSection old new s → SpellsItems SpellsSection old.left rest
    → (more : List Section) × (rest ≡ s ∷ more) × SpellsItems SpellsSection new.left more
next_is old new s [] h k = absurd (empty h.spelling h.spells (sym h.passes.left ∙ k))
  where
    empty : (t : List ℕ) → SpellsSection t s → t ++ new.left ≡ [] → ⊥
    empty t f e = let both : s.id ∷ ((f.0 ++ s.contents) ++ new.left) ≡ [] = ap (λ (l : List ℕ). l ++ new.left) (sym f.2) ∙ e in cc
next_is old new s (r ∷ more) h k =
    let one : (k.0 ≡ h.spelling) × (r ≡ s) = h.only r k.0 k.1 k.2 k.4 in
    let after : k.0 ++ k.1 ≡ k.0 ++ new.left = sym k.4 ∙ h.passes.left ∙ ap (λ (l : List ℕ). l ++ new.left) (sym one.0) in
    (more, ap (λ (x : Section). x ∷ more) one.1, subst (λ (l : List ℕ). SpellsItems SpellsSection l more) (append_cancel_left k.0 k.1 new.left after) k.3)

shorter_by : (s : List ℕ) (v : Section) → SpellsSection s v → 0 < length s
shorter_by s v h = omega (arith, ap (λ (l : List ℕ). length l) h.2)

pub shorter : (old new : Place) (s : Section) → ReadsOnly SpellsSection old new s → length new.left < length old.left
shorter old new s h =
    omega (arith, shorter_by h.spelling s h.spells, ap (λ (l : List ℕ). length l) h.passes.left, length-append h.spelling new.left)

-- what is told by one section more
tell_more : (k : Kind) (xs : List Section) (s : Section) (p q : Parts) → (s.id ≡ id_of k → ⊥) → Same k p q → Tell k xs p → Tell k (xs ++ s ∷ []) q
tell_more k xs s p q other same h =
    subst (λ (o : Option Section). MatchOption o (Lacks k q) (λ r. Says k r.contents q)) (sym (passed_by (id_of k) xs s other)) (on (at_id (id_of k) xs) h)
  where
    on : (o : Option Section) → MatchOption o (Lacks k p) (λ r. Says k r.contents p) → MatchOption o (Lacks k q) (λ r. Says k r.contents q)
    on None g = lacks_same k p q same g
    on (Some r) g = says_same k r.contents p q same g

tell_new : (k : Kind) (xs : List Section) (s : Section) (ys : List Section) (q : Parts) → at_id (id_of k) xs ≡ None → s.id ≡ id_of k → Says k s.contents q → Tell k (xs ++ s ∷ ys) q
tell_new k xs s ys q none is h = subst (λ (o : Option Section). MatchOption o (Lacks k q) (λ r. Says k r.contents q)) (sym (found (id_of k) xs s ys none is)) h

told_new : (k : Kind) (xs : List Section) (s : Section) (ys : List Section) (q : Parts) → at_id (id_of k) xs ≡ None → s.id ≡ id_of k → Tell k (xs ++ s ∷ ys) q → Says k s.contents q
told_new k xs s ys q none is h = subst (λ (o : Option Section). MatchOption o (Lacks k q) (λ r. Says k r.contents q)) (found (id_of k) xs s ys none is) h

-- what the order says of what follows a section
after_custom : (least : ℕ) (s : Section) (rest : List Section) → 0 < least → s.id ≡ 0 → IsInOrder least (s ∷ rest) → IsInOrder least rest
after_custom least s rest some none h = elim h [ inl p ↦ p.2 | inr p ↦ absurd (omega (arith, p.0)) ]

after_kind : (least : ℕ) (s : Section) (rest : List Section) → 0 < s.id → IsInOrder least (s ∷ rest) → IsInOrder (s.id + 1) rest
after_kind least s rest some h = elim h [ inl p ↦ absurd (omega (arith, p.0)) | inr p ↦ p.2 ]

custom_seen : (bytes : List ℕ) (old new : Place) (last id : ℕ) (contents : List ℕ) (p : Parts) → SectionsSeen bytes old.left last p → ReadsOnly SpellsSection old new (section id contents)
    → id ≡ 0 → SpellsCustom contents → SectionsSeen bytes new.left last p
custom_seen bytes old new last id contents p r h none custom =
    let s : Section = section id contents in
    record {
      sections = r.sections ++ s ∷ [];
      passed = r.passed ++ h.spelling;
      whole = r.whole ∙ ap (λ (l : List ℕ). r.passed ++ l) h.passes.left ∙ sym (append_assoc r.passed h.spelling new.left);
      spelled = spells_more SpellsSection r.sections r.passed h.spelling s r.spelled h.spells;
      in_order = λ rest o. subst (λ (l : List Section). IsInOrder 1 l) (sym (append_assoc r.sections (s ∷ []) rest)) (r.in_order (s ∷ rest) (inl (none, custom, o)));
      below = λ n less. passed_by n r.sections s (λ e. omega (arith, e, none, less)) ∙ r.below n less;
      told = λ k.
          subst (λ (o : Option Section). MatchOption o (Lacks k p) (λ x. Says k x.contents p)) (sym (passed_by (id_of k) r.sections s (λ e. omega (arith, id_some k, e, none)))) (r.told k);
      only = λ all a o.
          let w = r.only all a o in
          let n = next_is old new s w.0 h w.2 in (
            n.0,
            w.1 ∙ ap (λ (l : List Section). r.sections ++ l) n.1 ∙ sym (append_assoc r.sections (s ∷ []) n.0),
            n.2,
            after_custom (last + 1) s n.0 (omega arith) none (subst (λ (l : List Section). IsInOrder (last + 1) l) n.1 w.3),
          );
    }

kind_told : (k : Kind) (xs : List Section) (id : ℕ) (contents : List ℕ) (p q : Parts) → at_id id xs ≡ None → id_of k ≡ id → Puts k contents p q → (j : Kind) → Tell j xs p
    → ((eqb (id_of j) id ≡ true) × (id_of j ≡ id)) ⊎ ((eqb (id_of j) id ≡ false) × (id_of j ≡ id → ⊥)) → Tell j (xs ++ section id contents ∷ []) q
kind_told k xs id contents p q none is puts j h (inl e) =
    let one : k ≡ j = same_kind k j (is ∙ sym e.1) in
    let says : Says j contents q = subst (λ (i : Kind). Says i contents q) one (puts_says k contents p q puts) in
    tell_new j xs (section id contents) [] q (subst (λ (n : ℕ). at_id n xs ≡ None) (sym e.1) none) (sym e.1) says
kind_told k xs id contents p q none is puts j h (inr e) =
    tell_more j xs (section id contents) p q (λ same. e.1 (sym same)) (puts_keeps k j contents p q (λ same. e.1 (sym same ∙ is)) puts) h

kind_seen : (bytes : List ℕ) (old new : Place) (last id : ℕ) (contents : List ℕ) (k : Kind) (p q : Parts) → SectionsSeen bytes old.left last p
    → ReadsOnly SpellsSection old new (section id contents) → last < id → id_of k ≡ id → Puts k contents p q → SectionsSeen bytes new.left id q
kind_seen bytes old new last id contents k p q r h more is puts =
    let s : Section = section id contents in
    record {
      sections = r.sections ++ s ∷ [];
      passed = r.passed ++ h.spelling;
      whole = r.whole ∙ ap (λ (l : List ℕ). r.passed ++ l) h.passes.left ∙ sym (append_assoc r.passed h.spelling new.left);
      spelled = spells_more SpellsSection r.sections r.passed h.spelling s r.spelled h.spells;
      in_order = λ rest o.
          subst (λ (l : List Section). IsInOrder 1 l) (sym (append_assoc r.sections (s ∷ []) rest)) (r.in_order (s ∷ rest) (inr (omega arith, omega (arith, id_most k, is), o)));
      below = λ n less. passed_by n r.sections s (λ e. omega (arith, e, less)) ∙ r.below n (omega (arith, more, less));
      told = λ j. kind_told k r.sections id contents p q (r.below id more) is puts j (r.told j) (eqb_tells (id_of j) id);
      only = λ all a o.
          let w = r.only all a o in
          let n = next_is old new s w.0 h w.2 in (
            n.0,
            w.1 ∙ ap (λ (l : List Section). r.sections ++ l) n.1 ∙ sym (append_assoc r.sections (s ∷ []) n.0),
            n.2,
            after_kind (last + 1) s n.0 (omega arith) (subst (λ (l : List Section). IsInOrder (last + 1) l) n.1 w.3),
          );
    }

pub section_seen : (bytes : List ℕ) (old new : Place) (last id : ℕ) (contents : List ℕ) (next : ℕ) (p q : Parts) → SectionsSeen bytes old.left last p
    → ReadsOnly SpellsSection old new (section id contents) → Follows last id contents next p q → SectionsSeen bytes new.left next q
section_seen bytes old new last id contents next p q r h (inl f) =
    let here : SectionsSeen bytes new.left last p = custom_seen bytes old new last id contents p r h f.0 f.1 in
    let there : SectionsSeen bytes new.left next p = subst (λ (n : ℕ). SectionsSeen bytes new.left n p) (sym f.2) here in
    subst (λ (w : Parts). SectionsSeen bytes new.left next w) (sym f.3) there
section_seen bytes old new last id contents next p q r h (inr f) =
    subst (λ (n : ℕ). SectionsSeen bytes new.left n q) (sym f.1) (kind_seen bytes old new last id contents f.2 p q r h f.0 f.3 f.4)

-- why the bytes are no sections that say any parts
pub no_section : (bytes left : List ℕ) (last : ℕ) (p : Parts) → SectionsSeen bytes left last p → 0 < length left → NoFront SpellsSection left → (m : Parts) → SpellsSections bytes m → ⊥
no_section bytes left last p r some none m h =
    let w = r.only h.sections h.spelled h.in_order in
    at w.0 w.2
  where
    at : (rest : List Section) → SpellsItems SpellsSection left rest → ⊥
    at [] k = omega (arith, some, ap (λ (l : List ℕ). length l) k)
    at (x ∷ xs) k = none x k.0 k.1 k.2 k.4

pub not_next : (bytes : List ℕ) (old new : Place) (last id : ℕ) (contents : List ℕ) (p : Parts) → SectionsSeen bytes old.left last p → ReadsOnly SpellsSection old new (section id contents)
    → MayNotFollow last id contents → (m : Parts) → SpellsSections bytes m → ⊥
not_next bytes old new last id contents p r h refused m g =
    let s : Section = section id contents in
    let w = r.only g.sections g.spelled g.in_order in
    let n = next_is old new s w.0 h w.2 in
    let order : IsInOrder (last + 1) (s ∷ n.0) = subst (λ (l : List Section). IsInOrder (last + 1) l) n.1 w.3 in
    at n.0 (w.1 ∙ ap (λ (l : List Section). r.sections ++ l) n.1) order
  where
    at : (more : List Section) → g.sections ≡ r.sections ++ section id contents ∷ more → IsInOrder (last + 1) (section id contents ∷ more) → ⊥
    at more all (inl f) = refused.0 f.0 f.1
    at more all (inr f) =
        let k : (j : Kind) × (id_of j ≡ id) = kind_at id (omega (arith, f.0)) f.1 in
        let told : Tell k.0 (r.sections ++ section id contents ∷ more) m = subst (λ (l : List Section). Tell k.0 l m) all (g.told k.0) in
        refused.1 (omega (arith, f.0)) k.0 k.1 m (told_new k.0 r.sections (section id contents) more m (r.below (id_of k.0) (omega (arith, f.0, k.1))) (sym k.1) told)

none_left : (rest : List Section) → SpellsItems SpellsSection [] rest → rest ≡ []
none_left [] k = refl
none_left (x ∷ xs) k = absurd (omega (arith, shorter_by k.0 x k.2, ap (λ (l : List ℕ). length l) k.4, length-append k.0 k.1))

-- all the sections are read
pub all_seen : OneFront SpellsU32 → ((N : ℕ) → OneFront (SpellsSigned N)) → (bytes left : List ℕ) (last : ℕ) (p : Parts) → length left ≡ 0 → SectionsSeen bytes left last p
    → SpellsSections bytes p × ((m : Parts) → SpellsSections bytes m → m ≡ p)
all_seen numbers signed bytes left last p none r =
    let end : left ≡ [] = nil_from_length left none in (
      record {
        sections = r.sections;
        spelled = subst (λ (l : List ℕ). SpellsItems SpellsSection l r.sections) (sym (r.whole ∙ ap (λ (l : List ℕ). r.passed ++ l) end ∙ append-nil r.passed)) r.spelled;
        in_order = subst (λ (l : List Section). IsInOrder 1 l) (append-nil r.sections) (r.in_order [] tt);
        told = r.told;
      },
      λ m h.
          let w = r.only h.sections h.spelled h.in_order in
          let rest : w.0 ≡ [] = none_left w.0 (subst (λ (l : List ℕ). SpellsItems SpellsSection l w.0) end w.2) in
          let same : h.sections ≡ r.sections = w.1 ∙ ap (λ (l : List Section). r.sections ++ l) rest ∙ append-nil r.sections in
          all_same m p (λ k. tell_one numbers signed k r.sections m p (subst (λ (l : List Section). Tell k l m) same (h.told k)) (r.told k)),
    )

-- a module is the preamble and its sections, with as many bodies as functions
pub in_module : (bytes after : List ℕ) (m : Parts) → bytes ≡ preamble ++ after → Spells bytes m → SpellsSections after m
in_module bytes after m whole h =
    let same : h.after ≡ after = append_cancel_left preamble h.after after (sym h.whole ∙ whole) in
    record {
      sections = h.sections;
      spelled = subst (λ (l : List ℕ). SpellsItems SpellsSection l h.sections) same h.spelled;
      in_order = h.in_order;
      told = told;
    }
  where
    told : (k : Kind) → Tell k h.sections m
    told kind.Types = h.types
    told kind.Imports = h.imports
    told kind.Functions = h.functions
    told kind.Tables = h.tables
    told kind.Memories = h.memories
    told kind.Globals = h.globals
    told kind.Exports = h.exports
    told kind.Start = h.start
    told kind.Elements = h.elements
    told kind.Bodies = h.bodies
    told kind.Segments = h.segments

pub whole_module : (bytes after : List ℕ) (m : Parts) → bytes ≡ preamble ++ after → length m.functions ≡ length m.bodies
    → SpellsSections after m × ((n : Parts) → SpellsSections after n → n ≡ m) → Spells bytes m × ((n : Parts) → Spells bytes n → n ≡ m)
whole_module bytes after m whole counts h = (
  record {
    sections = h.0.sections;
    after = after;
    whole = whole;
    spelled = h.0.spelled;
    in_order = h.0.in_order;
    types = h.0.told kind.Types;
    imports = h.0.told kind.Imports;
    functions = h.0.told kind.Functions;
    tables = h.0.told kind.Tables;
    memories = h.0.told kind.Memories;
    globals = h.0.told kind.Globals;
    exports = h.0.told kind.Exports;
    start = h.0.told kind.Start;
    elements = h.0.told kind.Elements;
    bodies = h.0.told kind.Bodies;
    segments = h.0.told kind.Segments;
    counts = counts;
  },
  λ n k. h.1 n (in_module bytes after n whole k),
)

pub unequal : (bytes after : List ℕ) (m : Parts) → bytes ≡ preamble ++ after → (length m.functions ≡ length m.bodies → ⊥) → ((n : Parts) → SpellsSections after n → n ≡ m)
    → (n : Parts) → Spells bytes n → ⊥
unequal bytes after m whole differ only n h =
    let same : n ≡ m = only n (in_module bytes after n whole h) in
    differ (subst (λ (w : Parts). length w.functions ≡ length w.bodies) same h.counts)

-- custom sections
pub custom_of : (bytes : List ℕ) (old new : Place) (name : List ℕ) → old.left ≡ bytes → IsUtf8 name → ReadsOnly SpellsBytes old new name → SpellsCustom bytes
custom_of bytes old new name from text h = (h.spelling, name, new.left, (h.spells, text), sym from ∙ h.passes.left)

pub no_custom : (bytes : List ℕ) (old : Place) → old.left ≡ bytes → NoFront SpellsBytes old.left → SpellsCustom bytes → ⊥
no_custom bytes old from none k = none k.1 k.0 k.2 k.3.0 (from ∙ k.4)

pub no_name : (bytes : List ℕ) (old new : Place) (name : List ℕ) → old.left ≡ bytes → (IsUtf8 name → ⊥) → ReadsOnly SpellsBytes old new name → SpellsCustom bytes → ⊥
no_name bytes old new name from wrong h k = wrong (subst IsUtf8 (h.only k.1 k.0 k.2 k.3.0 (from ∙ k.4)).1 k.3.1)

-- an id, and the contents with their size
cons_tail : (m n : ℕ) (s t : List ℕ) → m ∷ s ≡ n ∷ t → s ≡ t
cons_tail m n s t e = cc

pub section_pieces : (id : ℕ) → Pieces (λ s b. s ≡ b ∷ []) SpellsBytes SpellsSection section id
section_pieces id =
    record {
      put = λ s t v h k. (k.0, k.1, ap (λ (l : List ℕ). l ++ t) h ∙ ap (λ (l : List ℕ). id ∷ l) k.2);
      split = λ u w h. (w.id ∷ [], h.0 ++ w.contents, w.id, w.contents, refl, h.2, λ e. (h.0, h.1, refl), refl);
    }

pub section_read : (old mid new : Place) (id : ℕ) (contents : List ℕ) → ReadsOnly (λ s b. s ≡ b ∷ []) old mid id → ReadsOnly SpellsBytes mid new contents
    → ReadsOnly SpellsSection old new (section id contents) × (length contents < 2 ^ 32)
section_read old mid new id contents h k =
    (read_both (λ s b. s ≡ b ∷ []) SpellsBytes SpellsSection section id contents old mid new (section_pieces id) h k, few_bytes k.spelling contents k.spells)
