-- What each word before `--` does to the walk, and so what the walk reads.
use Rattle.std.proofs.Common.{◌≡◌, ◌∙◌, ◌&&◌, Bool, true, false, cond, not, refl, sym, ap, subst, List, [], ◌∷◌, length, Option, Some, None, append-nil}
use Rattle.std.specs.Prelude.{All, slice_get, nat_lt}
use Rattle.std.proofs.lemmas.List.Elements.{All-head, All-tail}
use Rattle.std.specs.List.{fold}
use Rattle.std.specs.Option.{option_map_or}
use Rattle.std.specs.Str.{bytes_eq, chars, IsUtf8}
use Rattle.std.proofs.lemmas.Slice.Eq.{bytes_eq-Decides}
use Rattle.clap.specs.Kinds.{Kinds, or_else}
use Rattle.clap.specs.Lexer.{long_of}
use Rattle.clap.specs.Faults.{bundle_step_fault, flag_word_fault, flags_fault, long_fault, settle_fault, short_fault, step_fault, turn_fault, use_fault, walk_fault, word_fault, bundle_fault}
use Rattle.clap.specs.Walk.{Held, Row, Rule, Step, Waiting, Walk, after_flag, arg_by_id, arg_by_long, arg_by_short, has_row, idle, long_met, long_or_other, next, option, option_word, plain_word, positional, settled_rows, short_or_plain, used, used_by_id, value, word_met}
use Rattle.clap.specs.declared.error.kind.ErrorKind.TheVariants as kind
use Rattle.command_words.specs.Table.{Text}
use Rattle.command_words.specs.Said.{Said, Word, Ends, Plain, Named, Joined, Other, is_among, said, said_by, valued_by, word_of, with_option, with_positional}
use Rattle.command_words.proofs.Rules.{built_shape, by_id, by_long, is_not_positionals, no_short, option_rule, positionals_id, rules}
use Rattle.command_words.proofs.WordKinds.{Lexes, dashes, lexes}
use Rattle.command_words.proofs.FoundRows.{listed}
use Rattle.command_words.proofs.Tracks.{Reads, allowed, reads_option}
use Rattle.command_words.proofs.Walks.{Pending, Turns, at, final, held, is_none, fault_flag, met_flag, none_or, and_assoc, passes, ready, reads_after_positional, reads_refused, reads_rest, reads_turn, turns, turns_ends, turns_positional}

or_nothing : (k : Kinds) → or_else k [] ≡ k
or_nothing [] = refl
or_nothing (k ∷ ks) = refl

module _ (name : Text) (ns : List Text) (free : is_among ns positionals_id ≡ false) where
  abbrev c : List Rule
  c = rules ns

  long_known : (x : Text) → is_among ns x ≡ true → arg_by_long c x ≡ Some (option_rule x)
  long_known x h = by_long ns x ∙ ap (λ b. cond b (Some (option_rule x)) None) h

  long_unknown : (x : Text) → is_among ns x ≡ false → arg_by_long c x ≡ None
  long_unknown x h = by_long ns x ∙ ap (λ b. cond b (Some (option_rule x)) None) h

  -- ---- the turns

  abbrev met_long : List Row → Pending → Waiting → Text → Option Text → Option Rule → Held × Step
  met_long rows p wt word v o = after_flag c wt word (long_met c o v (held rows p)).0 (long_met c o v (held rows p)).1

  turns_long : (rows : List Row) (p : Pending) (wt : Waiting) (word x : Text) (v : Option Text) → bytes_eq word dashes ≡ false → long_of word ≡ Some (x, v)
      → is_among ns x ≡ true
      → Turns name ns free (at rows p wt false) word
      (Rattle.clap.specs.Walk.after_step c word (at rows p wt false) (met_long rows p wt word v (Some (option_rule x))).0 (met_long rows p wt word v (Some (option_rule x))).1)
      (or_else (long_fault c false (Some (option_rule x)) v (held rows p)) (step_fault (built_shape name (rules ns)) 1 (met_long rows p wt word v (Some (option_rule x))).0
      (met_long rows p wt word v (Some (option_rule x))).1))
  turns_long rows p wt word x v e l known =
      turns name ns free rows p wt false word (met_long rows p wt word v (Some (option_rule x))).0 (met_long rows p wt word v (Some (option_rule x))).1
      (long_fault c false (Some (option_rule x)) v (held rows p))
      (met_flag name ns free rows p wt word e ∙ ap (λ o. long_or_other c wt word o (held rows p)) l ∙ ap (met_long rows p wt word v) (long_known x known))
      (fault_flag name ns free rows p wt word e ∙ ap (λ o. flag_word_fault c false o word (held rows p)) l ∙ ap (λ o. long_fault c false o v (held rows p)) (long_known x known))

  turn_unknown : (rows : List Row) (p : Pending) (wt : Waiting) (word x : Text) (v : Option Text) → bytes_eq word dashes ≡ false → long_of word ≡ Some (x, v)
      → is_among ns x ≡ false → turn_fault (built_shape name (rules ns)) [] (at rows p wt false) word ≡ kind.UnknownArgument ∷ []
  turn_unknown rows p wt word x v e l unknown =
      let met = word_met c [] false wt 1 word (held rows p) in
      ap (λ (k : Kinds). or_else k (step_fault (built_shape name (rules ns)) 1 met.0 met.1))
      (fault_flag name ns free rows p wt word e ∙ ap (λ o. flag_word_fault c false o word (held rows p)) l ∙ ap (λ o. long_fault c false o v (held rows p)) (long_unknown x unknown))

  turn_flags : (rows : List Row) (p : Pending) (wt : Waiting) (word : Text) → Lexes word Other
      → turn_fault (built_shape name (rules ns)) [] (at rows p wt false) word ≡ kind.UnknownArgument ∷ []
  unfolding flags_fault
  turn_flags rows p wt word lex =
      let met = word_met c [] false wt 1 word (held rows p) in
      let f = lex.2 in
      let flags : Text = f.first ∷ f.rest in
      ap (λ (k : Kinds). or_else k (step_fault (built_shape name (rules ns)) 1 met.0 met.1))
      (fault_flag name ns free rows p wt word lex.0 ∙ ap (λ o. flag_word_fault c false o word (held rows p)) lex.1
      ∙ ap (λ o. option_map_or (λ fs. bundle_fault c false fs (held rows p)) o []) f.flags
      ∙ ap (λ o. bundle_step_fault c false o flags 0 (held rows p) (flags_fault c false (length f.rest))) f.chars_of
      ∙ ap (λ o. short_fault c false o (Rattle.std.specs.Prelude.drop (length (Rattle.std.specs.Prelude.encode_utf8 f.char)) flags) (held rows p)
      (flags_fault c false (length f.rest) (Rattle.std.specs.Prelude.drop (length (Rattle.std.specs.Prelude.encode_utf8 f.char)) flags) 0)) (no_short ns f.char))

  met_plain : (rows : List Row) (p : Pending) (wt : Waiting) (word : Text) → Lexes word Plain → word_met c [] false wt 1 word (held rows p) ≡ plain_word c wt word (held rows p)
  met_plain rows p wt word lex =
      met_flag name ns free rows p wt word lex.0 ∙ ap (λ o. long_or_other c wt word o (held rows p)) lex.1
      ∙ ap (λ o. short_or_plain c wt word o (held rows p)) lex.2

  fault_plain : (rows : List Row) (p : Pending) (wt : Waiting) (word : Text) → Lexes word Plain → word_fault (built_shape name (rules ns)) [] false wt word (held rows p) ≡ []
  fault_plain rows p wt word lex =
      fault_flag name ns free rows p wt word lex.0 ∙ ap (λ o. flag_word_fault c false o word (held rows p)) lex.1
      ∙ ap (λ o. option_map_or (λ fs. bundle_fault c false fs (held rows p)) o []) lex.2

  turns_plain : (rows : List Row) (p : Pending) (b : Bool) (word : Text) → Lexes word Plain
      → Turns name ns free (at rows p (ready b) false) word (at (settled_rows c p rows) (Some (positionals_id, word ∷ [])) positional false) (settle_fault c false (held rows p))
  turns_plain rows p true word lex = turns_positional name ns free rows p positional false word (met_plain rows p positional word lex) (fault_plain rows p positional word lex)
  turns_plain rows p false word lex = turns_positional name ns free rows p idle false word (met_plain rows p idle word lex) (fault_plain rows p idle word lex)

  turns_value : (rows : List Row) (x word : Text) → is_among ns x ≡ true → Lexes word Plain
      → Turns name ns free (at rows (Some (x, [])) (option x) false) word (at rows (Some (x, word ∷ [])) idle false) []
  turns_value rows x word known lex =
      turns name ns free rows (Some (x, [])) (option x) false word (held rows (Some (x, word ∷ []))) (next idle) []
      (met_plain rows (Some (x, [])) (option x) word lex
      ∙ ap (λ o. ((option_word o x word (held rows (Some (x, [])))).0, next (option_word o x word (held rows (Some (x, [])))).1)) (by_id ns x known)
      ∙ ap (λ b. (held rows (Some (x, word ∷ [])), next (cond (nat_lt (cond b 1 0) 1) (option x) idle))) ((bytes_eq-Decides x x).1 refl))
      (fault_plain rows (Some (x, [])) (option x) word lex)

  -- ---- the faults of what waits

  use_none : (x v : Text) (rows : List Row) → is_none (use_fault false (option_rule x) (v ∷ []) rows) ≡ not (has_row x rows)
  use_none x v rows = go (has_row x rows)
    where
      go : (b : Bool) → is_none (or_else (cond (b && true) (kind.ArgumentConflict ∷ []) []) []) ≡ not b
      go true = refl
      go false = refl

  settle_value : (rows : List Row) (x v : Text) → is_among ns x ≡ true → is_none (settle_fault c false (held rows (Some (x, v ∷ [])))) ≡ not (has_row x rows)
  settle_value rows x v known = ap (λ o. is_none (option_map_or (λ (a : Rule). use_fault false a (v ∷ []) rows) o [])) (by_id ns x known) ∙ use_none x v rows

  settle_nothing : (rows : List Row) (x : Text) → is_among ns x ≡ true → is_none (settle_fault c false (held rows (Some (x, [])))) ≡ false
  settle_nothing rows x known = ap (λ o. is_none (option_map_or (λ (a : Rule). use_fault false a [] rows) o [])) (by_id ns x known)

  settled_value : (rows : List Row) (x v : Text) → is_among ns x ≡ true → settled_rows c (Some (x, v ∷ [])) rows ≡ used (option_rule x) (v ∷ []) rows
  settled_value rows x v known = ap (λ o. used_by_id o (v ∷ []) rows) (by_id ns x known)

  -- ---- what the walk reads

  abbrev before : List Row → Pending → Bool
  before rows p = is_none (settle_fault c false (held rows p))

  abbrev ReadyReads : List Text → Type 0
  ReadyReads words = (rows : List Row) (p : Pending) (b : Bool)
      → Reads (passes name ns free (at rows p (ready b) false) words) (before rows p) (settled_rows c p rows) (final name ns free (at rows p (ready b) false) words) (said ns None words)

  abbrev WaitReads : List Text → Type 0
  WaitReads words = (rows : List Row) (x : Text) → is_among ns x ≡ true
      → Reads (passes name ns free (at rows (Some (x, [])) (option x) false) words) true rows (final name ns free (at rows (Some (x, [])) (option x) false) words) (said ns (Some x) words)

  reads_before : (b ok : Bool) (rows end : List Row) (m : Option Said) → Reads ok true rows end m → Reads (b && ok) b rows end m
  reads_before b ok rows end m h = record { tested = ap (λ a. b && a) h.tested; tracked = h.tracked }

  ready_named : (word rest-word x : Text) (rest : List Text) (rows : List Row) (p : Pending) (b : Bool) → Lexes word (Named x) → WaitReads rest → (known : Bool) → is_among ns x ≡ known
      → Reads (passes name ns free (at rows p (ready b) false) (word ∷ rest)) (before rows p) (settled_rows c p rows) (final name ns free (at rows p (ready b) false) (word ∷ rest))
      (cond known (said ns (Some x) rest) None)
  ready_named word u x rest rows p b lex more false unknown =
      reads_refused name ns free (at rows p (ready b) false) word rest (kind.UnknownArgument ∷ []) (before rows p) (settled_rows c p rows)
      (turn_unknown rows p (ready b) word x None lex.0 lex.1 unknown) refl
  ready_named word u x rest rows p b lex more true known =
      let t = turns_long rows p (ready b) word x None lex.0 lex.1 known in
      let k = settle_fault c false (held rows p) in
      reads_turn name ns free (at rows p (ready b) false) (at (settled_rows c p rows) (Some (x, [])) (option x) false) word rest
      (or_else k []) (before rows p) (settled_rows c p rows) (said ns (Some x) rest)
      (record { walks = t.walks; faults = t.faults })
      (subst (λ (f : Kinds). Reads (is_none f && passes name ns free (at (settled_rows c p rows) (Some (x, [])) (option x) false) rest) (before rows p) (settled_rows c p rows)
      (final name ns free (at (settled_rows c p rows) (Some (x, [])) (option x) false) rest) (said ns (Some x) rest)) (sym (or_nothing k))
      (reads_before (before rows p) _ (settled_rows c p rows) _ (said ns (Some x) rest) (more (settled_rows c p rows) x known)))

  ready_joined : (word x v : Text) (rest : List Text) (rows : List Row) (p : Pending) (b : Bool) → Lexes word (Joined x v) → ReadyReads rest → (known : Bool) → is_among ns x ≡ known
      → Reads (passes name ns free (at rows p (ready b) false) (word ∷ rest)) (before rows p) (settled_rows c p rows) (final name ns free (at rows p (ready b) false) (word ∷ rest))
      (cond known (with_option x v (said ns None rest)) None)
  ready_joined word x v rest rows p b lex more false unknown =
      reads_refused name ns free (at rows p (ready b) false) word rest (kind.UnknownArgument ∷ []) (before rows p) (settled_rows c p rows)
      (turn_unknown rows p (ready b) word x (Some v) lex.0 lex.1 unknown) refl
  ready_joined word x v rest rows p b lex more true known =
      let t = turns_long rows p (ready b) word x (Some v) lex.0 lex.1 known in
      let r = settled_rows c p rows in
      let k = settle_fault c false (held rows p) in
      let u = use_fault false (option_rule x) (v ∷ []) r in
      let after = at (used (option_rule x) (v ∷ []) r) None idle false in
      let later = more (used (option_rule x) (v ∷ []) r) None false in
      let ok = passes name ns free after rest in
      let fault_is : (is_none (or_else (or_else k u) []) && ok) ≡ (before rows p && (not (has_row x r) && ok)) =
      ap (λ (f : Kinds). is_none f && ok) (or_nothing (or_else k u)) ∙ ap (λ a. a && ok) (none_or k u) ∙ and_assoc (is_none k) (is_none u) ok
      ∙ ap (λ a. before rows p && (a && ok)) (use_none x v r) in
      reads_turn name ns free (at rows p (ready b) false) after word rest (or_else (or_else k u) []) (before rows p) r (with_option x v (said ns None rest))
      (record { walks = t.walks; faults = t.faults })
      (subst (λ (a : Bool). Reads a (before rows p) r (final name ns free after rest) (with_option x v (said ns None rest))) (sym fault_is)
      (reads_option x v r (is_not_positionals ns x free known) (not (has_row x r) && ok) (before rows p) (final name ns free after rest) (said ns None rest)
      (ap (λ a. not (has_row x r) && a) later.tested) later.tracked))

  pub ready_word : (k : Word) (word : Text) (rest : List Text) (rows : List Row) (p : Pending) (b : Bool) → Lexes word k → ReadyReads rest → WaitReads rest
      → Reads (passes name ns free (at rows p (ready b) false) (word ∷ rest)) (before rows p) (settled_rows c p rows) (final name ns free (at rows p (ready b) false) (word ∷ rest))
      (said_by ns k word rest (λ waits. said ns waits rest))
  ready_word Ends word rest rows p b lex more waits =
      let meaning : Option Said = Some (record { options = []; positionals = rest }) in
      subst (λ (w : Text). Reads (passes name ns free (at rows p (ready b) false) (w ∷ rest)) (before rows p)
      (settled_rows c p rows) (final name ns free (at rows p (ready b) false) (w ∷ rest)) meaning) (sym lex)
      (reads_turn name ns free (at rows p (ready b) false) (at rows p (ready b) true) dashes rest [] (before rows p) (settled_rows c p rows) meaning
      (turns_ends name ns free rows p (ready b)) (reads_rest name ns free rest rows p (ready b)))
  ready_word Plain word rest rows p b lex more waits =
      reads_turn name ns free (at rows p (ready b) false) (at (settled_rows c p rows) (Some (positionals_id, word ∷ [])) positional false) word rest
      (settle_fault c false (held rows p)) (before rows p)
      (settled_rows c p rows) (with_positional word (said ns None rest)) (turns_plain rows p b word lex)
      (reads_after_positional name ns free rows p word _ _ (said ns None rest) (more (settled_rows c p rows) (Some (positionals_id, word ∷ [])) true))
  ready_word (Named x) word rest rows p b lex more waits = ready_named word word x rest rows p b lex waits (is_among ns x) refl
  ready_word (Joined x v) word rest rows p b lex more waits = ready_joined word x v rest rows p b lex more (is_among ns x) refl
  ready_word Other word rest rows p b lex more waits =
      reads_refused name ns free (at rows p (ready b) false) word rest (kind.UnknownArgument ∷ []) (before rows p) (settled_rows c p rows) (turn_flags rows p (ready b) word lex) refl

  -- ---- the first word is the value of an option

  -- where the option has no value
  reads_unvalued : (rows : List Row) (x word : Text) (rest : List Text) (k next-fault : Kinds) → is_none k ≡ false
      → turn_fault (built_shape name (rules ns)) [] (at rows (Some (x, [])) (option x) false) word ≡ or_else k next-fault
      → Reads (passes name ns free (at rows (Some (x, [])) (option x) false) (word ∷ rest)) true rows (final name ns free (at rows (Some (x, [])) (option x) false) (word ∷ rest)) None
  reads_unvalued rows x word rest k f bad is =
      reads_refused name ns free (at rows (Some (x, [])) (option x) false) word rest (or_else k f) true rows is (none_or k f ∙ ap (λ a. a && is_none f) bad)

  wait_long : (rows : List Row) (x word y : Text) (v : Option Text) (rest : List Text) → is_among ns x ≡ true → bytes_eq word dashes ≡ false → long_of word ≡ Some (y, v)
      → (known : Bool) → is_among ns y ≡ known
      → Reads (passes name ns free (at rows (Some (x, [])) (option x) false) (word ∷ rest)) true rows (final name ns free (at rows (Some (x, [])) (option x) false) (word ∷ rest)) None
  wait_long rows x word y v rest own e l false unknown =
      reads_refused name ns free (at rows (Some (x, [])) (option x) false) word rest (kind.UnknownArgument ∷ []) true rows
      (turn_unknown rows (Some (x, [])) (option x) word y v e l unknown) refl
  wait_long rows x word y v rest own e l true known =
      let t = turns_long rows (Some (x, [])) (option x) word y v e l known in
      let met = met_long rows (Some (x, [])) (option x) word v (Some (option_rule y)) in
      reads_unvalued rows x word rest (long_fault c false (Some (option_rule y)) v (held rows (Some (x, [])))) (step_fault (built_shape name (rules ns)) 1 met.0 met.1) (unsettled v) t.faults
    where
      unsettled : (w : Option Text) → is_none (long_fault c false (Some (option_rule y)) w (held rows (Some (x, [])))) ≡ false
      unsettled None = settle_nothing rows x own
      unsettled (Some w) =
          let u = use_fault false (option_rule y) (w ∷ []) (settled_rows c (Some (x, [])) rows) in
          none_or (settle_fault c false (held rows (Some (x, [])))) u ∙ ap (λ a. a && is_none u) (settle_nothing rows x own)

  pub wait_word : (k : Word) (word : Text) (rest : List Text) (rows : List Row) (x : Text) → is_among ns x ≡ true → Lexes word k → ReadyReads rest
      → Reads (passes name ns free (at rows (Some (x, [])) (option x) false) (word ∷ rest)) true rows (final name ns free (at rows (Some (x, [])) (option x) false) (word ∷ rest))
      (valued_by x k word (said ns None rest))
  wait_word Ends word rest rows x own lex more =
      let w : Walk = at rows (Some (x, [])) (option x) false in
      let later = reads_rest name ns free rest rows (Some (x, [])) (option x) in
      let meaning : Option Said = Some (record { options = []; positionals = rest }) in
      let no : passes name ns free (at rows (Some (x, [])) (option x) true) rest ≡ false =
      later.tested ∙ ap (λ a. a && allowed (settled_rows c (Some (x, [])) rows) meaning) (settle_nothing rows x own) in
      subst (λ (u : Text). Reads (passes name ns free w (u ∷ rest)) true rows (final name ns free w (u ∷ rest)) None) (sym lex)
      (reads_turn name ns free w (at rows (Some (x, [])) (option x) true) dashes rest [] true rows None (turns_ends name ns free rows (Some (x, [])) (option x))
      (record { tested = no; tracked = λ h. tt }))
  wait_word Plain word rest rows x own lex more =
      let after : Walk = at rows (Some (x, word ∷ [])) idle false in
      let later = more rows (Some (x, word ∷ [])) false in
      let r = used (option_rule x) (word ∷ []) rows in
      let as_used : Reads (passes name ns free after rest) (before rows (Some (x, word ∷ []))) r (final name ns free after rest) (said ns None rest) =
      subst (λ (q : List Row). Reads (passes name ns free after rest) (before rows (Some (x, word ∷ []))) q (final name ns free after rest) (said ns None rest))
      (settled_value rows x word own) later in
      reads_turn name ns free (at rows (Some (x, [])) (option x) false) after word rest [] true rows (with_option x word (said ns None rest)) (turns_value rows x word own lex)
      (reads_option x word rows (is_not_positionals ns x free own) (passes name ns free after rest) true (final name ns free after rest) (said ns None rest)
      (as_used.tested ∙ ap (λ a. a && allowed r (said ns None rest)) (settle_value rows x word own)) as_used.tracked)
  wait_word (Named y) word rest rows x own lex more = wait_long rows x word y None rest own lex.0 lex.1 (is_among ns y) refl
  wait_word (Joined y v) word rest rows x own lex more = wait_long rows x word y (Some v) rest own lex.0 lex.1 (is_among ns y) refl
  wait_word Other word rest rows x own lex more =
      reads_refused name ns free (at rows (Some (x, [])) (option x) false) word rest (kind.UnknownArgument ∷ []) true rows (turn_flags rows (Some (x, [])) (option x) word lex) refl

  -- ---- all words

  all_true : (b : Bool) → (b && (true && true)) ≡ b
  all_true true = refl
  all_true false = refl

  pub reads_all : (words : List Text) → All IsUtf8 words → ReadyReads words × WaitReads words
  unfolding walk_fault
  reads_all [] text = (
    λ rows p b. record {
      tested = sym (all_true (before rows p));
      tracked = λ h. record { given = λ y other. refl; positionals = sym (append-nil (listed (settled_rows c p rows))) };
    },
    λ rows x own. record { tested = settle_nothing rows x own; tracked = λ h. tt },
  )
  reads_all (word ∷ rest) text =
      let more = reads_all rest (All-tail IsUtf8 word rest text) in
      let lex : Lexes word (word_of word) = lexes word (All-head IsUtf8 word rest text) in (
        λ rows p b. ready_word (word_of word) word rest rows p b lex more.0 more.1,
        λ rows x own. wait_word (word_of word) word rest rows x own lex more.0,
      )
