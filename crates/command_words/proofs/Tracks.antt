-- How the rows found so far bear on what the words still to come say.
use Rattle.std.proofs.Common.{◌≡◌, ◌∙◌, ◌&&◌, ◌||◌, Bool, true, false, cond, not, refl, sym, ap, ap₂, List, [], ◌∷◌, ◌++◌, Option, Some, None, append_assoc}
use Rattle.std.specs.Prelude.{is_some, find, unwrap_or, option_map}
use Rattle.std.specs.List.{list_all}
use Rattle.std.specs.Str.{bytes_eq}
use Rattle.std.proofs.lemmas.Slice.Eq.{bytes_eq-Decides}
use Rattle.clap.specs.Walk.{Row, all_of, has_row, used}
use Rattle.command_words.specs.Table.{Text}
use Rattle.command_words.specs.Said.{Said, is_once, names_one, value_of, with_option, with_positional}
use Rattle.command_words.proofs.Rules.{option_rule, positional_rule, positionals_id}
use Rattle.command_words.proofs.FoundRows.{has_row-all, listed, option_used, positional_kept, positional_listed}

pub and_false : (b : Bool) → (b && false) ≡ false
and_false true = refl
and_false false = refl

or_true : (b : Bool) → (b || true) ≡ true
or_true true = refl
or_true false = refl

or_false : (b : Bool) → (b || false) ≡ b
or_false true = refl
or_false false = refl

pub and_left : (a b : Bool) → (a && b) ≡ true → a ≡ true
and_left true b h = refl
and_left false b h = h

pub and_right : (a b : Bool) → (a && b) ≡ true → b ≡ true
and_right true b h = h
and_right false b h = cc

-- the rows have the option
abbrev pub holds : List Row → Text → Bool
holds rows x = not (bytes_eq positionals_id x) && is_some (all_of x rows)

-- the rows have none of the options
abbrev pub fresh : List Row → List (Text × Text) → Bool
fresh rows = list_all (λ option. not (holds rows option.0))

-- an option's values by the words to come, and else by the rows
abbrev pub latest : Option Text → Option (List Text) → Option (List Text)
latest (Some v) before = Some (v ∷ [])
latest None before = before

pub record Tracks (rows : List Row) (said : Said) (end : List Row) : Type 0 where
  pub given : (y : Text) → bytes_eq positionals_id y ≡ false → all_of y end ≡ latest (value_of said.options y) (all_of y rows)
  pub positionals : listed end ≡ listed rows ++ said.positionals

abbrev pub allowed : List Row → Option Said → Bool
allowed rows None = false
allowed rows (Some said) = fresh rows said.options && is_once said.options

abbrev pub Follows : List Row → Option Said → List Row → Type 0
Follows rows None end = Unit {0}
Follows rows (Some said) end = Tracks rows said end

-- a walk over the words passes where it did before and the meaning is allowed, and then ends with its rows
pub record Reads (ok before : Bool) (rows end : List Row) (meaning : Option Said) : Type 0 where
  pub tested : ok ≡ (before && allowed rows meaning)
  pub tracked : allowed rows meaning ≡ true → Follows rows meaning end

pub reads_nothing : (before : Bool) (rows end : List Row) → Reads false before rows end None
reads_nothing before rows end = record { tested = sym (and_false before); tracked = λ h. tt }

-- ---- a positional

module _ (w : Text) (rows : List Row) where
  abbrev listed_more : List Row
  listed_more = used positional_rule (w ∷ []) rows

  holds_positional : (y : Text) → holds listed_more y ≡ holds rows y
  holds_positional y = go (bytes_eq positionals_id y) refl
    where
      go : (b : Bool) → bytes_eq positionals_id y ≡ b → holds listed_more y ≡ holds rows y
      go true e = rw e refl
      go false e = ap (λ o. not (bytes_eq positionals_id y) && is_some o) (positional_kept w y rows e)

  fresh_positional : (os : List (Text × Text)) → fresh listed_more os ≡ fresh rows os
  fresh_positional [] = refl
  fresh_positional (o ∷ os) = ap₂ (λ a b. not a && b) (holds_positional o.0) (fresh_positional os)

  allowed_positional : (m : Option Said) → allowed listed_more m ≡ allowed rows (with_positional w m)
  allowed_positional None = refl
  allowed_positional (Some said) = ap (λ a. a && is_once said.options) (fresh_positional said.options)

  follows_positional : (m : Option Said) (end : List Row) → Follows listed_more m end → Follows rows (with_positional w m) end
  follows_positional None end h = tt
  follows_positional (Some said) end h = record {
    given = λ y other. h.given y other ∙ ap (latest (value_of said.options y)) (positional_kept w y rows other);
    positionals = h.positionals ∙ ap (λ l. l ++ said.positionals) (positional_listed w rows) ∙ append_assoc (listed rows) (w ∷ []) said.positionals;
  }

  pub reads_positional : (ok before : Bool) (end : List Row) (m : Option Said) → Reads ok true listed_more end m → Reads (before && ok) before rows end (with_positional w m)
  reads_positional ok before end m h = record {
    tested = ap (λ b. before && b) (h.tested ∙ allowed_positional m);
    tracked = λ is. follows_positional m end (h.tracked (allowed_positional m ∙ is));
  }

-- ---- an option

shuffle : (h e f n : Bool) → (not (h || e) && (f && not n)) ≡ ((not h && f) && not (e || n))
shuffle true e f n = refl
shuffle false true true n = refl
shuffle false true false n = refl
shuffle false false f n = refl

swapped : (f n o : Bool) → ((f && not n) && o) ≡ ((true && f) && (not n && o))
swapped true n o = refl
swapped false n o = refl

not_named : (x : Text) (os : List (Text × Text)) → names_one x os ≡ false → value_of os x ≡ None
not_named x [] h = refl
not_named x (o ∷ os) h = go (not_named x os) (bytes_eq x o.0) refl (bytes_eq o.0 x) refl
  where
    go : (names_one x os ≡ false → value_of os x ≡ None) → (a : Bool) → bytes_eq x o.0 ≡ a → (b : Bool) → bytes_eq o.0 x ≡ b → value_of (o ∷ os) x ≡ None
    go more true e b is = let bad : true ≡ false = rw e at h in cc
    go more false e false is = rw is (more (rw e at h))
    go more false e true is =
        let same : o.0 ≡ x = (bytes_eq-Decides o.0 x).0 is in
        let bad : true ≡ false = sym ((bytes_eq-Decides x o.0).1 (sym same)) ∙ e in
        cc

module _ (x v : Text) (rows : List Row) (option : bytes_eq positionals_id x ≡ false) where
  abbrev with_use : List Row
  with_use = used (option_rule x) (v ∷ []) rows

  holds_used : has_row x rows ≡ false → (y : Text) → holds with_use y ≡ (holds rows y || bytes_eq x y)
  holds_used new y = ap (λ o. not (bytes_eq positionals_id y) && is_some o) (option_used x v rows new y) ∙ go (bytes_eq x y) refl
    where
      go : (b : Bool) → bytes_eq x y ≡ b → (not (bytes_eq positionals_id y) && is_some (cond b (Some (v ∷ [])) (all_of y rows))) ≡ (holds rows y || b)
      go false e = sym (or_false (holds rows y))
      go true e =
          let same : x ≡ y = (bytes_eq-Decides x y).0 e in
          let other : bytes_eq positionals_id y ≡ false = ap (bytes_eq positionals_id) (sym same) ∙ option in
          ap (λ b. not b && true) other ∙ sym (or_true (holds rows y))

  fresh_used : has_row x rows ≡ false → (os : List (Text × Text)) → fresh with_use os ≡ (fresh rows os && not (names_one x os))
  fresh_used new [] = refl
  fresh_used new (o ∷ os) =
      ap₂ (λ a b. not a && b) (holds_used new o.0) (fresh_used new os) ∙ shuffle (holds rows o.0) (bytes_eq x o.0) (fresh rows os) (names_one x os)

  holds_is : holds rows x ≡ has_row x rows
  holds_is = ap (λ b. not b && is_some (all_of x rows)) option ∙ sym (has_row-all x rows)

  allowed_option : (m : Option Said) → (not (has_row x rows) && allowed with_use m) ≡ allowed rows (with_option x v m)
  allowed_option None = and_false (not (has_row x rows))
  allowed_option (Some said) = go (has_row x rows) refl
    where
      go : (b : Bool) → has_row x rows ≡ b → (not b && (fresh with_use said.options && is_once said.options))
          ≡ ((not (holds rows x) && fresh rows said.options) && (not (names_one x said.options) && is_once said.options))
      go true e = rw (holds_is, e) refl
      go false e =
          ap (λ a. a && is_once said.options) (fresh_used e said.options)
          ∙ swapped (fresh rows said.options) (names_one x said.options) (is_once said.options)
          ∙ ap (λ h. (not h && fresh rows said.options) && (not (names_one x said.options) && is_once said.options)) (sym (holds_is ∙ e))

  follows_given : (said : Said) (end : List Row) → has_row x rows ≡ false → names_one x said.options ≡ false → Tracks with_use said end
      → (y : Text) → bytes_eq positionals_id y ≡ false → all_of y end ≡ latest (value_of ((x, v) ∷ said.options) y) (all_of y rows)
  follows_given said end new once h y other = h.given y other ∙ ap (latest (value_of said.options y)) (option_used x v rows new y) ∙ go (bytes_eq x y) refl
    where
      go : (b : Bool) → bytes_eq x y ≡ b → latest (value_of said.options y) (cond b (Some (v ∷ [])) (all_of y rows))
          ≡ latest (option_map (λ (o : Text × Text). o.1) (cond b (Some (x, v)) (find (λ (o : Text × Text). bytes_eq o.0 y) said.options))) (all_of y rows)
      go false e = refl
      go true e =
          let same : x ≡ y = (bytes_eq-Decides x y).0 e in
          ap (λ o. latest o (Some (v ∷ []))) (ap (value_of said.options) (sym same) ∙ not_named x said.options once)

  follows_option : (m : Option Said) (end : List Row) → (not (has_row x rows) && allowed with_use m) ≡ true → Follows with_use m end
      → Follows rows (with_option x v m) end
  follows_option None end is h = tt
  follows_option (Some said) end is h =
      let new : has_row x rows ≡ false = was_not (has_row x rows) (and_left _ _ is) in
      let some : (fresh rows said.options && not (names_one x said.options)) ≡ true =
      sym (fresh_used new said.options) ∙ and_left _ _ (and_right _ _ is) in
      record {
        given = follows_given said end new (was_not (names_one x said.options) (and_right _ _ some)) h;
        positionals = h.positionals ∙ ap (λ o. unwrap_or o [] ++ said.positionals) (kept new);
      }
    where
      was_not : (b : Bool) → not b ≡ true → b ≡ false
      was_not true e = cc
      was_not false e = refl

      other : (b : Bool) → bytes_eq x positionals_id ≡ b → bytes_eq x positionals_id ≡ false
      other false e = e
      other true e =
          let same : x ≡ positionals_id = (bytes_eq-Decides x positionals_id).0 e in
          let bad : true ≡ false = sym ((bytes_eq-Decides positionals_id x).1 (sym same)) ∙ option in
          cc

      kept : has_row x rows ≡ false → all_of positionals_id with_use ≡ all_of positionals_id rows
      kept new = option_used x v rows new positionals_id ∙ ap (λ b. cond b (Some (v ∷ [])) (all_of positionals_id rows)) (other (bytes_eq x positionals_id) refl)

  pub reads_option : (ok : Bool) (before : Bool) (end : List Row) (m : Option Said) → ok ≡ (not (has_row x rows) && allowed with_use m)
      → (allowed with_use m ≡ true → Follows with_use m end) → Reads (before && ok) before rows end (with_option x v m)
  reads_option ok before end m is tracked = record {
    tested = ap (λ b. before && b) (is ∙ allowed_option m);
    tracked = λ h.
        let both : (not (has_row x rows) && allowed with_use m) ≡ true = allowed_option m ∙ h in
        follows_option m end both (tracked (and_right _ _ both));
  }
