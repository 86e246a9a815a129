-- What a use of an option or of the positionals makes of the rows found so far.
use Rattle.std.proofs.Common.{◌≡◌, ◌∙◌, ◌||◌, Bool, true, false, cond, refl, sym, ap, List, [], ◌∷◌, ◌++◌, Option, Some, None, append-nil}
use Rattle.std.specs.Prelude.{is_some, find, unwrap_or, option_map, option_and_then, slice_get}
use Rattle.std.specs.Str.{bytes_eq}
use Rattle.std.proofs.lemmas.Slice.Eq.{bytes_eq-Decides}
use Rattle.clap.specs.Walk.{Row, all_of, at_row, first_of, has_row, more_values, used, without}
use Rattle.clap.specs.declared.parser.matches.ValueSource.TheVariants.{CommandLine}
use Rattle.command_words.specs.Table.{Text}
use Rattle.command_words.proofs.Rules.{option_rule, positional_rule, positionals_id}

pub has_row-all : (x : Text) (rows : List Row) → has_row x rows ≡ is_some (all_of x rows)
has_row-all x [] = refl
has_row-all x (r ∷ rows) = go (bytes_eq r.id x) (has_row-all x rows)
  where
    go : (b : Bool) → has_row x rows ≡ is_some (all_of x rows)
        → (b || has_row x rows) ≡ is_some (option_map (λ (r : Row). r.values) (cond b (Some r) (find (λ (r : Row). bytes_eq r.id x) rows)))
    go true e = refl
    go false e = e

-- the first of the values of an id
pub first_of-all : (x : Text) (rows : List Row) → first_of x rows ≡ option_and_then (λ vs. slice_get vs 0) (all_of x rows)
first_of-all x rows = go (find (λ (r : Row). bytes_eq r.id x) rows)
  where
    go : (o : Option Row) → option_and_then (λ (r : Row). slice_get r.values 0) o ≡ option_and_then (λ vs. slice_get vs 0) (option_map (λ (r : Row). r.values) o)
    go None = refl
    go (Some r) = refl

-- the row of an id that has none joins at the end
joins : (x : Text) (change : Row → List Row) (missing rows : List Row) → has_row x rows ≡ false → at_row x change missing rows ≡ rows ++ missing
joins x change missing [] h = refl
joins x change missing (r ∷ rows) h = go (joins x change missing rows) (bytes_eq r.id x) refl
  where
    go : (has_row x rows ≡ false → at_row x change missing rows ≡ rows ++ missing) → (b : Bool) → bytes_eq r.id x ≡ b
        → at_row x change missing (r ∷ rows) ≡ r ∷ (rows ++ missing)
    go more true e = let bad : true ≡ false = rw e at h in cc
    go more false e = rw e (ap (λ rs. r ∷ rs) (more (rw e at h)))

-- the values of an id, where one more row stands at the end
all_joined : (y : Text) (rows : List Row) (r : Row) → all_of y rows ≡ None → all_of y (rows ++ r ∷ []) ≡ cond (bytes_eq r.id y) (Some r.values) None
all_joined y [] r h = go (bytes_eq r.id y)
  where
    go : (b : Bool) → option_map (λ (r : Row). r.values) (cond b (Some r) None) ≡ cond b (Some r.values) None
    go true = refl
    go false = refl
all_joined y (q ∷ rows) r h = go (all_joined y rows r) (bytes_eq q.id y) refl
  where
    go : (all_of y rows ≡ None → all_of y (rows ++ r ∷ []) ≡ cond (bytes_eq r.id y) (Some r.values) None) → (b : Bool) → bytes_eq q.id y ≡ b
        → all_of y (q ∷ (rows ++ r ∷ [])) ≡ cond (bytes_eq r.id y) (Some r.values) None
    go more true e = let bad : Some q.values ≡ None = rw e at h in cc
    go more false e = rw e (more (rw e at h))

all_kept : (y : Text) (rows : List Row) (r : Row) (vs : List Text) → all_of y rows ≡ Some vs → all_of y (rows ++ r ∷ []) ≡ Some vs
all_kept y [] r vs h = cc
all_kept y (q ∷ rows) r vs h = go (all_kept y rows r vs) (bytes_eq q.id y) refl
  where
    go : (all_of y rows ≡ Some vs → all_of y (rows ++ r ∷ []) ≡ Some vs) → (b : Bool) → bytes_eq q.id y ≡ b → all_of y (q ∷ (rows ++ r ∷ [])) ≡ Some vs
    go more true e = rw e (rw e at h)
    go more false e = rw e (more (rw e at h))

-- the row of an option that is used
abbrev option_row : Text → Text → Row
option_row x v = record { id = x; values = v ∷ []; count = None; source = Some CommandLine; reading = Rattle.clap.specs.Walk.reading_by (option_rule x) }

used_joins : (x v : Text) (rows : List Row) → has_row x rows ≡ false → used (option_rule x) (v ∷ []) rows ≡ rows ++ option_row x v ∷ []
used_joins x v rows h =
    let gone : without x rows ≡ rows = joins x (λ _. []) [] rows h ∙ append-nil rows in
    ap (at_row x (more_values CommandLine (v ∷ [])) (option_row x v ∷ [])) gone ∙ joins x (more_values CommandLine (v ∷ [])) (option_row x v ∷ []) rows h

-- an option that was not used before
pub option_used : (x v : Text) (rows : List Row) → has_row x rows ≡ false → (y : Text)
    → all_of y (used (option_rule x) (v ∷ []) rows) ≡ cond (bytes_eq x y) (Some (v ∷ [])) (all_of y rows)
option_used x v rows h y = ap (all_of y) (used_joins x v rows h) ∙ go (all_of y rows) refl (bytes_eq x y) refl
  where
    go : (o : Option (List Text)) → all_of y rows ≡ o → (b : Bool) → bytes_eq x y ≡ b
        → all_of y (rows ++ option_row x v ∷ []) ≡ cond b (Some (v ∷ [])) (all_of y rows)
    go None e b is = all_joined y rows (option_row x v) e ∙ ap (λ c. cond c (Some (v ∷ [])) None) is ∙ ap (cond b (Some (v ∷ []))) (sym e)
    go (Some vs) e false is = all_kept y rows (option_row x v) vs e ∙ sym e
    go (Some vs) e true is =
        let same : x ≡ y = (bytes_eq-Decides x y).0 is in
        let some : is_some (all_of x rows) ≡ true = ap (λ z. is_some (all_of z rows)) same ∙ ap is_some e in
        let bad : true ≡ false = sym some ∙ sym (has_row-all x rows) ∙ h in
        cc

-- the positionals so far
abbrev pub listed : List Row → List Text
listed rows = unwrap_or (all_of positionals_id rows) []

abbrev with_word : Text → List Row → List Row
with_word w rows = used positional_rule (w ∷ []) rows

pub positional_kept : (w y : Text) (rows : List Row) → bytes_eq positionals_id y ≡ false → all_of y (with_word w rows) ≡ all_of y rows
positional_kept w y [] h = rw h refl
positional_kept w y (r ∷ rows) h = go (positional_kept w y rows h) (bytes_eq r.id positionals_id) refl
  where
    rest : (b : Bool) → all_of y (with_word w rows) ≡ all_of y rows
        → option_map (λ (r : Row). r.values) (cond b (Some r) (find (λ (r : Row). bytes_eq r.id y) (with_word w rows)))
        ≡ option_map (λ (r : Row). r.values) (cond b (Some r) (find (λ (r : Row). bytes_eq r.id y) rows))
    rest true e = refl
    rest false e = e

    go : all_of y (with_word w rows) ≡ all_of y rows → (b : Bool) → bytes_eq r.id positionals_id ≡ b → all_of y (with_word w (r ∷ rows)) ≡ all_of y (r ∷ rows)
    go more true e =
        let other : bytes_eq r.id y ≡ false = ap (λ z. bytes_eq z y) ((bytes_eq-Decides r.id positionals_id).0 e) ∙ h in
        rw e (rw other refl)
    go more false e = rw e (rest (bytes_eq r.id y) more)

pub positional_listed : (w : Text) (rows : List Row) → listed (with_word w rows) ≡ listed rows ++ w ∷ []
positional_listed w [] = refl
positional_listed w (r ∷ rows) = go (positional_listed w rows) (bytes_eq r.id positionals_id) refl
  where
    go : listed (with_word w rows) ≡ listed rows ++ w ∷ [] → (b : Bool) → bytes_eq r.id positionals_id ≡ b → listed (with_word w (r ∷ rows)) ≡ listed (r ∷ rows) ++ w ∷ []
    go more true e = rw e (rw e refl)
    go more false e = rw e (rw e more)
