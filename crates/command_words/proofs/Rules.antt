-- The rules of a command that has options of these names and positionals, as built.
use Rattle.std.proofs.Common.{◌≡◌, ◌∙◌, ℕ, ◌&&◌, ◌||◌, Bool, true, false, cond, refl, sym, ap, ap₂, List, [], ◌∷◌, Some, None}
use Rattle.std.specs.Prelude.{count_by, is_some}
use Rattle.std.specs.List.{list_all, list_any}
use Rattle.std.specs.Str.{bytes_eq}
use Rattle.std.proofs.lemmas.Slice.Eq.{bytes_eq-Decides}
use Rattle.clap.specs.Walk.{Row, Rule, arg_by_id, arg_by_index, arg_by_long, arg_by_short, is_early_multiple, with_default, has_row}
use Rattle.clap.specs.Simple.{App, Shape, built, filled_from, is_buildable, is_ready, is_ready_leaf, is_simple, new_rule}
use Rattle.clap.specs.Faults.{defaults_fault, given_default_fault, is_free_app, is_simple_and_free}
use Rattle.clap.specs.declared.builder.action.ArgAction.TheVariants.{Set, Append}
use Rattle.clap.specs.declared.builder.value_parser.ValueParser.TheVariants as vp
use Rattle.command_words.specs.Table.{Text}
use Rattle.command_words.specs.Said.{is_among}
pub use Rattle.command_words.specs.Grammar.{app_with, positionals_id, raw_option, raw_positionals, raw_rules, shape_with}
use Rattle.std.specs.List.{fold}
use Rattle.clap.specs.Kinds.{or_else}

-- an option, and the positionals, as building fills them in
abbrev pub option_rule : Text → Rule
option_rule name = record (new_rule name) {
  long = Some name;
  action = Some Set;
  range = Some (record { start_inclusive = 1; end_inclusive = 1 });
  parser = Some vp.String;
}

abbrev pub positional_rule : Rule
positional_rule = record (new_rule positionals_id) {
  index = Some 1;
  action = Some Append;
  range = Some (record { start_inclusive = 1; end_inclusive = 1 });
  parser = Some vp.String;
}

abbrev pub rules : List Text → List Rule
rules [] = positional_rule ∷ []
rules (name ∷ names) = option_rule name ∷ rules names

abbrev pub built_shape : Text → List Rule → Shape
built_shape name rs = record (shape_with name rs) { disable_help_subcommand = true; is_built = true }

abbrev pub built_app : Text → List Rule → App
built_app name rs = record { top = built_shape name rs; subs = [] }

pub filled_rules : (names : List Text) → filled_from 1 (raw_rules names) ≡ rules names
filled_rules [] = refl
filled_rules (name ∷ names) = ap (λ rs. option_rule name ∷ rs) (filled_rules names)

pub built_is : (name : Text) (names : List Text) → built (app_with name (raw_rules names)) ≡ built_app name (rules names)
built_is name names = ap (built_app name) (filled_rules names)

raw_simple : (names : List Text) → list_all (λ (a : Rule). a.is_simple) (raw_rules names) ≡ true
raw_simple [] = refl
raw_simple (name ∷ names) = raw_simple names

all_simple : (names : List Text) → list_all (λ (a : Rule). a.is_simple) (rules names) ≡ true
all_simple [] = refl
all_simple (name ∷ names) = all_simple names

all_free : (names : List Text) → list_all (λ (a : Rule). a.is_free) (rules names) ≡ true
all_free [] = refl
all_free (name ∷ names) = all_free names

one_index : (names : List Text) → count_by (λ (a : Rule). is_some a.index) (rules names) ≡ 1
one_index [] = refl
one_index (name ∷ names) = one_index names

no_early : (names : List Text) → list_any (is_early_multiple 1) (rules names) ≡ false
no_early [] = refl
no_early (name ∷ names) = no_early names

ready_shape : (name : Text) (names : List Text) → is_ready (built_shape name (rules names)) ≡ true
ready_shape name names = rw (all_simple names, one_index names, no_early names) refl

pub simple_app : (name : Text) (names : List Text) → is_simple (app_with name (raw_rules names)) ≡ true
simple_app name names =
    let test : App → Bool = λ b. is_buildable (app_with name (raw_rules names)) && (is_ready b.top && list_all is_ready_leaf b.subs) in
    let buildable : is_buildable (app_with name (raw_rules names)) ≡ true = rw (raw_simple names) refl in
    ap test (built_is name names) ∙ ap₂ (λ x y. x && (y && true)) buildable (ready_shape name names)

pub simple_and_free : (name : Text) (names : List Text) → is_simple_and_free (app_with name (raw_rules names)) ≡ true
simple_and_free name names =
    let free : is_free_app (built_app name (rules names)) ≡ true = rw (all_free names) refl in
    ap₂ (λ x y. x && y) (simple_app name names) (ap is_free_app (built_is name names) ∙ free)

-- ---- which rule answers

pub no_short : (names : List Text) (c : ℕ) → arg_by_short (rules names) c ≡ None
no_short [] c = refl
no_short (name ∷ names) c = no_short names c

pub first_position : (names : List Text) → arg_by_index (rules names) 1 ≡ Some positional_rule
first_position [] = refl
first_position (name ∷ names) = first_position names

pub by_long : (names : List Text) (x : Text) → arg_by_long (rules names) x ≡ cond (is_among names x) (Some (option_rule x)) None
by_long [] x = refl
by_long (name ∷ names) x = go (by_long names x) (bytes_eq name x) refl
  where
    go : arg_by_long (rules names) x ≡ cond (is_among names x) (Some (option_rule x)) None → (b : Bool) → bytes_eq name x ≡ b
        → arg_by_long (rules (name ∷ names)) x ≡ cond (is_among (name ∷ names) x) (Some (option_rule x)) None
    go more true e = rw e (ap (λ n. Some (option_rule n)) ((bytes_eq-Decides name x).0 e))
    go more false e = rw e more

pub by_id : (names : List Text) (x : Text) → is_among names x ≡ true → arg_by_id (rules names) x ≡ Some (option_rule x)
by_id [] x h = cc
by_id (name ∷ names) x h = go (by_id names x) (bytes_eq name x) refl
  where
    go : (is_among names x ≡ true → arg_by_id (rules names) x ≡ Some (option_rule x)) → (b : Bool) → bytes_eq name x ≡ b → arg_by_id (rules (name ∷ names)) x ≡ Some (option_rule x)
    go more true e = rw e (ap (λ n. Some (option_rule n)) ((bytes_eq-Decides name x).0 e))
    go more false e = rw e (more (rw e at h))

pub by_positionals_id : (names : List Text) → is_among names positionals_id ≡ false → arg_by_id (rules names) positionals_id ≡ Some positional_rule
by_positionals_id [] h = refl
by_positionals_id (name ∷ names) h = go (by_positionals_id names) (bytes_eq name positionals_id) refl
  where
    go : (is_among names positionals_id ≡ false → arg_by_id (rules names) positionals_id ≡ Some positional_rule) → (b : Bool) → bytes_eq name positionals_id ≡ b
        → arg_by_id (rules (name ∷ names)) positionals_id ≡ Some positional_rule
    go more true e = let bad : true ≡ false = rw e at h in cc
    go more false e = rw e (more (rw e at h))

-- an option of the command is not the positionals
pub is_not_positionals : (names : List Text) (x : Text) → is_among names positionals_id ≡ false → is_among names x ≡ true → bytes_eq positionals_id x ≡ false
is_not_positionals names x h m = go (bytes_eq positionals_id x) refl
  where
    go : (b : Bool) → bytes_eq positionals_id x ≡ b → bytes_eq positionals_id x ≡ false
    go false e = e
    go true e =
        let same : positionals_id ≡ x = (bytes_eq-Decides positionals_id x).0 e in
        let bad : true ≡ false = sym m ∙ ap (is_among names) (sym same) ∙ h in
        cc

-- ---- no defaults, and nothing required

pub no_default_fault : (names : List Text) (rows : List Row) → defaults_fault rows (rules names) ≡ []
unfolding defaults_fault
no_default_fault [] rows = go (has_row positionals_id rows)
  where
    go : (b : Bool) → or_else (cond (b || true) [] (given_default_fault positional_rule [])) [] ≡ []
    go true = refl
    go false = refl
no_default_fault (name ∷ names) rows = go (no_default_fault names rows) (has_row name rows)
  where
    go : defaults_fault rows (rules names) ≡ [] → (b : Bool) → or_else (cond (b || true) [] (given_default_fault (option_rule name) [])) (defaults_fault (cond b rows rows) (rules names)) ≡ []
    go more true = more
    go more false = more

pub no_defaults : (names : List Text) (rows : List Row) → fold with_default rows (rules names) ≡ rows
no_defaults [] rows = go (has_row positionals_id rows)
  where
    go : (b : Bool) → cond b rows rows ≡ rows
    go true = refl
    go false = refl
no_defaults (name ∷ names) rows = go (no_defaults names rows) (has_row name rows)
  where
    go : fold with_default rows (rules names) ≡ rows → (b : Bool) → fold with_default (cond b rows rows) (rules names) ≡ rows
    go more true = more
    go more false = more

pub nothing_required : (names : List Text) (P : Rule → Bool) → list_any (λ (a : Rule). a.required && P a) (rules names) ≡ false
nothing_required [] P = refl
nothing_required (name ∷ names) P = nothing_required names P
