-- A parse finds what the words say, and fails as words where they say nothing.
use Rattle.std.proofs.Common.{◌≡◌, ◌∙◌, inl, inr, ◌&&◌, Bool, true, false, cond, not, refl, sym, ap, ap₂, List, [], ◌∷◌, map, Option, Some, None, string_bytes}
use Rattle.std.specs.Prelude.{All, String, is_some, option_and_then, slice_get, unwrap_or}
use Rattle.std.specs.Str.{bytes_eq, IsUtf8}
use Rattle.std.proofs.lemmas.Str.{IsUtf8-string_bytes}
use Rattle.std.proofs.lemmas.List.Elements.{All-nil, All-cons}
use Rattle.clap.specs.Kinds.{HasKind, Kinds, check_kinds, or_else}
use Rattle.clap.specs.Faults.{built_fault, check_fault, entered_fault, fault_of, level_fault, settle_fault, walk_fault}
use Rattle.clap.specs.Simple.{App, Shape, entered, matches_of, names_of}
use Rattle.clap.specs.Takes.{is_given}
use Rattle.clap.specs.Walk.{Row, Rule, finished, first_of, idle, nothing_held, rows_after, rows_of, settled, walk}
use Rattle.clap.specs.Words.{found_of, kind_of}
use Rattle.clap.specs.declared.error.Error.{Error}
use Rattle.clap.specs.declared.error.kind.ErrorKind.TheVariants as kind
use Rattle.clap.specs.declared.parser.matches.ArgMatches.{ArgMatches}
use Rattle.clap.proofs.WalkLemmas.{first_value-rows, raw_values-rows}
use Rattle.command_words.specs.Table.{Text}
use Rattle.command_words.specs.Said.{Said, is_among, is_once, once, said, understood, value_of}
use Rattle.command_words.specs.Found.{Shows}
use Rattle.command_words.proofs.Rules.{app_with, built_app, built_is, built_shape, no_default_fault, no_defaults, nothing_required, positionals_id, raw_rules, rules}
use Rattle.command_words.proofs.FoundRows.{first_of-all, listed}
use Rattle.command_words.proofs.Tracks.{Reads, Tracks, allowed, and_false, and_left, and_right, fresh, latest}
use Rattle.command_words.proofs.Walks.{at, final, is_none, none_or, passes}
use Rattle.command_words.proofs.WordTurns.{reads_all}

all_fresh : (os : List (Text × Text)) → fresh [] os ≡ true
all_fresh [] = refl
all_fresh (o ∷ os) = ap₂ (λ a b. not a && b) (and_false (not (bytes_eq positionals_id o.0))) (all_fresh os)

allowed_once : (sd : Said) → allowed [] (Some sd) ≡ is_once sd.options
allowed_once sd = ap (λ b. b && is_once sd.options) (all_fresh sd.options)

pub all_text : {Z : Type 0} (words : List (String Z)) → All IsUtf8 (map string_bytes words)
all_text [] = All-nil IsUtf8
all_text (word ∷ words) = All-cons IsUtf8 _ _ (IsUtf8-string_bytes word) (all_text words)

module _ (name : Text) (ns : List Text) (free : is_among ns positionals_id ≡ false) where
  abbrev app : App
  app = app_with name (raw_rules ns)

  abbrev c : List Rule
  c = rules ns

  abbrev s : Shape
  s = built_shape name (rules ns)

  not_entered : (stop : Option (Text × List Text)) → entered (built_app name c) stop ≡ None
  not_entered None = refl
  not_entered (Some p) = refl

  no_fault_below : (stop : Option (Text × List Text)) → entered_fault (built_app name c) stop ≡ []
  no_fault_below None = refl
  no_fault_below (Some p) = refl

  no_check : (rows : List Row) → check_fault s rows false ≡ []
  no_check rows = ap (check_kinds false false) (nothing_required ns (λ (a : Rule). not (is_given a.id rows)))

  -- the faults of a parse are those of its walk
  fault_is : (words : List Text) → is_none (fault_of app words) ≡ passes name ns free (at [] None idle false) words
  fault_is words =
      let stop = (walk c [] nothing_held words).stopped in
      let end = (walk c [] nothing_held words).held in
      let first = walk_fault s [] (at [] None idle false) words in
      let settle = settle_fault c false end in
      ap (λ (b : App). is_none (built_fault b nothing_held words)) (built_is name ns)
      ∙ ap₂ (λ (h : Bool) (below : Kinds). is_none (level_fault s [] nothing_held words h below)) (ap is_some (not_entered stop)) (no_fault_below stop)
      ∙ ap₂ (λ (d : Kinds) (k : Kinds). is_none (or_else first (or_else settle (or_else d k)))) (no_default_fault ns (settled c end).rows) (no_check (finished c end))
      ∙ none_or first (or_else settle []) ∙ ap (λ b. is_none first && b) (none_or settle [] ∙ and_true (is_none settle))
    where
      and_true : (b : Bool) → (b && true) ≡ b
      and_true true = refl
      and_true false = refl

  rows_are : (words : List Text) → matches_of app words ≡ final name ns free (at [] None idle false) words
  rows_are words =
      ap (λ (b : App). rows_after b.top.rules (names_of b) words) (built_is name ns) ∙ no_defaults ns (settled c (walk c [] nothing_held words).held).rows

  start : (words : List Text) → All IsUtf8 words → Reads (passes name ns free (at [] None idle false) words) true [] (final name ns free (at [] None idle false) words) (said ns None words)
  start words text = (reads_all name ns free words text).0 [] None false

  tells : (words : List Text) → All IsUtf8 words → is_none (fault_of app words) ≡ allowed [] (said ns None words)
  tells words text = fault_is words ∙ (start words text).tested

  -- a parse that fails as words
  pub says_nothing : (words : List Text) → All IsUtf8 words → (e : Error) → (kind_of e ≡ kind.OutOfMemory → ⊥) → HasKind (fault_of app words) e
      → ◌≡◌ {A = Option Said} (understood ns words) None
  says_nothing words text e words-fault has = nothing (said ns None words) (sym (tells words text) ∙ some_fault (fault_of app words) has)
    where
      some_fault : (ks : Kinds) → HasKind ks e → is_none ks ≡ false
      some_fault [] (inl memory) = absurd (words-fault memory)
      some_fault [] (inr h) = absurd h
      some_fault (k ∷ ks) h = refl

      nothing : (m : Option Said) → allowed [] m ≡ false → ◌≡◌ {A = Option Said} (option_and_then once m) None
      nothing None h = refl
      nothing (Some sd) h = ap (λ b. cond b (Some sd) None) (sym (allowed_once sd) ∙ h)

  -- what a parse that succeeds has found
  shows : (sd : Said) (end : List Row) (m : ArgMatches) → Tracks [] sd end → rows_of (found_of m) ≡ end → Shows sd m
  shows sd end m t is = record {
    given = λ y other. first_value-rows (found_of m) y ∙ ap (first_of y) is ∙ first_of-all y end ∙ ap (option_and_then (λ vs. slice_get vs 0)) (t.given y other)
        ∙ first_latest (value_of sd.options y);
    positionals = ap (λ o. unwrap_or o []) (raw_values-rows (found_of m) positionals_id) ∙ ap listed is ∙ t.positionals;
  }
    where
      first_latest : (o : Option Text) → option_and_then (λ (vs : List Text). slice_get vs 0) (latest o None) ≡ o
      first_latest None = refl
      first_latest (Some v) = refl

  pub says : (words : List Text) → All IsUtf8 words → (m : ArgMatches) → fault_of app words ≡ [] → rows_of (found_of m) ≡ matches_of app words
      → (sd : Said) × (understood ns words ≡ Some sd) × Shows sd m
  says words text m none is = something (said ns None words) (sym (tells words text) ∙ ap is_none none) (start words text).tracked
    where
      something : (o : Option Said) → allowed [] o ≡ true
          → (allowed [] o ≡ true → Rattle.command_words.proofs.Tracks.Follows [] o (final name ns free (at [] None idle false) words))
          → (sd : Said) × (option_and_then once o ≡ Some sd) × Shows sd m
      something None h t = cc
      something (Some sd) h t =
          (sd, ap (λ b. cond b (Some sd) None) (sym (allowed_once sd) ∙ h), shows sd _ m (t h) (is ∙ rows_are words))
