-- The walk of `clap` over the words reads what the definition says.
use Rattle.std.proofs.Common.{◌≡◌, ◌∙◌, ◌&&◌, ◌||◌, Bool, true, false, cond, refl, sym, ap, ap₂, subst, List, [], ◌∷◌, Option, Some, None, append-nil}
use Rattle.std.specs.List.{fold}
use Rattle.std.specs.Option.{option_map_or}
use Rattle.std.specs.Str.{bytes_eq}
use Rattle.clap.specs.Kinds.{Kinds, or_else}
use Rattle.clap.specs.Faults.{flags_fault, settle_fault, step_fault, turn_fault, use_fault, walk_fault, word_fault, positional_fault, short_fault, long_fault, bundle_fault, stray_fault}
use Rattle.clap.specs.Simple.{Shape}
use Rattle.clap.specs.Walk.{Held, Row, Rule, Step, Waiting, Walk, after_step, arg_by_id, arg_by_index, arg_by_long, arg_by_short, has_row, idle, long_met, long_word, next, option, positional, reading_by, settled, settled_rows, subcommand_met, to_positional, trailing, used, value, walked, word_met}
use Rattle.command_words.specs.Table.{Text}
use Rattle.command_words.specs.Said.{Said, is_among, with_positional}
use Rattle.command_words.proofs.Rules.{built_shape, by_positionals_id, first_position, positional_rule, positionals_id, rules}
use Rattle.command_words.proofs.WordKinds.{dashes}
use Rattle.command_words.proofs.FoundRows.{listed}
use Rattle.command_words.proofs.Tracks.{Reads, reads_nothing, reads_positional}

abbrev pub is_none : Kinds → Bool
is_none [] = true
is_none (k ∷ ks) = false

pub none_or : (a b : Kinds) → is_none (or_else a b) ≡ (is_none a && is_none b)
none_or [] b = refl
none_or (k ∷ ks) b = refl

pub and_assoc : (a b c : Bool) → ((a && b) && c) ≡ (a && (b && c))
and_assoc true b c = refl
and_assoc false b c = refl

abbrev pub Pending : Type 0
Pending = Option (Text × List Text)

abbrev pub held : List Row → Pending → Held
held rows pending = record { rows = rows; pending = pending; skip = 0 }

abbrev pub at : List Row → Pending → Waiting → Bool → Walk
at rows pending waiting tr = record { held = held rows pending; waiting = waiting; position = 1; is_trailing = tr; stopped = None }

-- a positional may stand next
abbrev pub ready : Bool → Waiting
ready true = positional
ready false = idle

module _ (name : Text) (ns : List Text) (free : is_among ns positionals_id ≡ false) where
  abbrev c : List Rule
  c = rules ns

  abbrev s : Shape
  s = built_shape name (rules ns)

  -- where a walk over the words ends
  abbrev pub end_of : Walk → List Text → Held
  end_of w words = (fold (walked c []) w words).held

  abbrev pub passes : Walk → List Text → Bool
  passes w words = is_none (walk_fault s [] w words) && is_none (settle_fault c false (end_of w words))

  abbrev pub final : Walk → List Text → List Row
  final w words = (settled c (end_of w words)).rows

  -- one more word
  pub passes_more : (w : Walk) (word : Text) (rest : List Text) → passes w (word ∷ rest) ≡ (is_none (turn_fault s [] w word) && passes (walked c [] w word) rest)
  unfolding walk_fault
  passes_more w word rest =
      ap (λ b. b && is_none (settle_fault c false (end_of w (word ∷ rest)))) (none_or (turn_fault s [] w word) (walk_fault s [] (walked c [] w word) rest))
      ∙ and_assoc (is_none (turn_fault s [] w word)) (is_none (walk_fault s [] (walked c [] w word) rest)) (is_none (settle_fault c false (end_of w (word ∷ rest))))

  -- what a word does: the walk after it, and its fault
  pub record Turns (w : Walk) (word : Text) (after : Walk) (fault : Kinds) : Type 0 where
    pub walks : walked c [] w word ≡ after
    pub faults : turn_fault s [] w word ≡ fault

  pub reads_turn : (w after : Walk) (word : Text) (rest : List Text) (fault : Kinds) (before : Bool) (rows : List Row) (m : Option Said) → Turns w word after fault
      → Reads (is_none fault && passes after rest) before rows (final after rest) m → Reads (passes w (word ∷ rest)) before rows (final w (word ∷ rest)) m
  reads_turn w after word rest fault before rows m t h =
      let ok : (is_none fault && passes after rest) ≡ passes w (word ∷ rest) =
      sym (passes_more w word rest ∙ ap₂ (λ (k : Kinds) (v : Walk). is_none k && passes v rest) t.faults t.walks) in
      let end : final after rest ≡ final w (word ∷ rest) = ap (λ (v : Walk). final v rest) (sym t.walks) in
      subst (λ (b : Bool). Reads b before rows (final w (word ∷ rest)) m) ok
      (subst (λ (e : List Row). Reads (is_none fault && passes after rest) before rows e m) end h)

  -- a word that is refused
  pub reads_refused : (w : Walk) (word : Text) (rest : List Text) (k : Kinds) (before : Bool) (rows : List Row) → turn_fault s [] w word ≡ k → is_none k ≡ false
      → Reads (passes w (word ∷ rest)) before rows (final w (word ∷ rest)) None
  reads_refused w word rest k before rows is bad =
      let no : passes w (word ∷ rest) ≡ false = passes_more w word rest ∙ ap (λ b. b && passes (walked c [] w word) rest) (ap is_none is ∙ bad) in
      subst (λ (b : Bool). Reads b before rows (final w (word ∷ rest)) None) (sym no) (reads_nothing before rows (final w (word ∷ rest)))

  -- by what the word is, and the fault of that
  pub turns : (rows : List Row) (p : Pending) (wt : Waiting) (tr : Bool) (word : Text) (h : Held) (st : Step) (k : Kinds)
      → word_met c [] tr wt 1 word (held rows p) ≡ (h, st) → word_fault s [] tr wt word (held rows p) ≡ k
      → Turns (at rows p wt tr) word (after_step c word (at rows p wt tr) h st) (or_else k (step_fault s 1 h st))
  unfolding walked
  turns rows p wt tr word h st k met is = record {
    walks = ap (λ (m : Held × Step). after_step c word (at rows p wt tr) m.0 m.1) met;
    faults = ap₂ (λ (f : Kinds) (m : Held × Step). or_else f (step_fault s 1 m.0 m.1)) is met;
  }

  -- ---- a value of the positionals

  takes_one : (b : Bool) (h g : Held) → cond (b && false) h g ≡ g
  takes_one true h g = refl
  takes_one false h g = refl

  no_fault_here : (b : Bool) (k : Kinds) → cond (b && false) [] k ≡ k
  no_fault_here true k = refl
  no_fault_here false k = refl

  pub turns_positional : (rows : List Row) (p : Pending) (wt : Waiting) (tr : Bool) (word : Text) → word_met c [] tr wt 1 word (held rows p) ≡ (held rows p, value)
      → word_fault s [] tr wt word (held rows p) ≡ []
      → Turns (at rows p wt tr) word (at (settled_rows c p rows) (Some (positionals_id, word ∷ [])) positional tr) (settle_fault c false (held rows p))
  turns_positional rows p wt tr word met is =
      let t = turns rows p wt tr word (held rows p) value [] met is in
      let b : Bool = option_map_or (λ (q : Text × List Text). bytes_eq q.0 positionals_id) p false in
      let held_is : cond (b && false) (held rows p) (settled c (held rows p)) ≡ settled c (held rows p) = takes_one b (held rows p) (settled c (held rows p)) in
      record {
        walks = t.walks ∙ ap (λ o. to_positional c o word (at rows p wt tr) (held rows p)) (first_position ns)
            ∙ ap₂ (λ (h : Held) (x : Bool). (let w : Walk = record {
              held = Rattle.clap.specs.Walk.pushed positionals_id word h;
              waiting = positional;
              position = 1;
              is_trailing = x;
              stopped = None;
            } in w)) held_is (stays tr);
        faults = t.faults ∙ ap (λ o. option_map_or (λ (a : Rule). positional_fault c false a (held rows p)) o (stray_fault s)) (first_position ns)
            ∙ no_fault_here b (settle_fault c false (held rows p));
      }
    where
      stays : (x : Bool) → (x || false) ≡ x
      stays true = refl
      stays false = refl

  settles_positional : (rows : List Row) (word : Text) → settled_rows c (Some (positionals_id, word ∷ [])) rows ≡ used positional_rule (word ∷ []) rows
  settles_positional rows word = ap (λ o. Rattle.clap.specs.Walk.used_by_id o (word ∷ []) rows) (by_positionals_id ns free)

  clear_positional : (rows : List Row) (word : Text) → settle_fault c false (held rows (Some (positionals_id, word ∷ []))) ≡ []
  clear_positional rows word = ap (λ o. option_map_or (λ (a : Rule). use_fault false a (word ∷ []) rows) o []) (by_positionals_id ns free)

  -- a walk that goes on after a positional
  pub reads_after_positional : (rows : List Row) (p : Pending) (word : Text) (ok : Bool) (end : List Row) (m : Option Said)
      → Reads ok (is_none (settle_fault c false (held (settled_rows c p rows) (Some (positionals_id, word ∷ []))))) (settled_rows c (Some (positionals_id, word ∷ [])) (settled_rows c p rows)) end m
      → Reads (is_none (settle_fault c false (held rows p)) && ok) (is_none (settle_fault c false (held rows p))) (settled_rows c p rows) end (with_positional word m)
  reads_after_positional rows p word ok end m h =
      let r = settled_rows c p rows in
      reads_positional word r ok (is_none (settle_fault c false (held rows p))) end m
      (subst (λ (q : List Row). Reads ok true q end m) (settles_positional r word)
      (subst (λ (k : Kinds). Reads ok (is_none k) (settled_rows c (Some (positionals_id, word ∷ [])) r) end m) (clear_positional r word) h))

  -- ---- the words after `--`

  abbrev rest_said : List Text → Option Said
  rest_said words = Some (record { options = []; positionals = words })

  pub reads_rest : (words : List Text) (rows : List Row) (p : Pending) (wt : Waiting)
      → Reads (passes (at rows p wt true) words) (is_none (settle_fault c false (held rows p))) (settled_rows c p rows) (final (at rows p wt true) words) (rest_said words)
  unfolding walk_fault
  reads_rest [] rows p wt = record {
    tested = sym (and_true (is_none (settle_fault c false (held rows p))));
    tracked = λ h. record { given = λ y other. refl; positionals = sym (append-nil (listed (settled_rows c p rows))) };
  }
    where
      and_true : (b : Bool) → (b && (true && true)) ≡ b
      and_true true = refl
      and_true false = refl
  reads_rest (word ∷ words) rows p wt =
      reads_turn (at rows p wt true) (at (settled_rows c p rows) (Some (positionals_id, word ∷ [])) positional true) word words
      (settle_fault c false (held rows p)) (is_none (settle_fault c false (held rows p))) (settled_rows c p rows) (rest_said (word ∷ words))
      (turns_positional rows p wt true word refl refl)
      (reads_after_positional rows p word _ _ (rest_said words) (reads_rest words (settled_rows c p rows) (Some (positionals_id, word ∷ [])) positional))

  -- ---- words before `--`

  no_subcommand : (wt : Waiting) (word : Text) → subcommand_met [] wt word ≡ None
  no_subcommand idle word = refl
  no_subcommand (option id) word = refl
  no_subcommand positional word = refl

  abbrev h_of : List Row → Pending → Held
  h_of rows p = held rows p

  pub turns_ends : (rows : List Row) (p : Pending) (wt : Waiting) → Turns (at rows p wt false) dashes (at rows p wt true) []
  turns_ends rows p wt = turns rows p wt false dashes (held rows p) (trailing 1) []
      (ap (λ o. Rattle.clap.specs.Walk.subcommand_or_other c o wt 1 dashes (held rows p)) (no_subcommand wt dashes))
      (ap (λ o. Rattle.clap.specs.Faults.other_fault s o dashes (held rows p)) (no_subcommand wt dashes))

  -- what a word that is not `--` comes to
  pub met_flag : (rows : List Row) (p : Pending) (wt : Waiting) (word : Text) → bytes_eq word dashes ≡ false
      → word_met c [] false wt 1 word (held rows p) ≡ Rattle.clap.specs.Walk.long_or_other c wt word (Rattle.clap.specs.Lexer.long_of word) (held rows p)
  met_flag rows p wt word e =
      ap (λ o. Rattle.clap.specs.Walk.subcommand_or_other c o wt 1 word (held rows p)) (no_subcommand wt word)
      ∙ ap (λ b. cond b (held rows p, trailing 1) (Rattle.clap.specs.Walk.long_or_other c wt word (Rattle.clap.specs.Lexer.long_of word) (held rows p))) e

  pub fault_flag : (rows : List Row) (p : Pending) (wt : Waiting) (word : Text) → bytes_eq word dashes ≡ false
      → word_fault s [] false wt word (held rows p) ≡ Rattle.clap.specs.Faults.flag_word_fault c false (Rattle.clap.specs.Lexer.long_of word) word (held rows p)
  fault_flag rows p wt word e =
      ap (λ o. Rattle.clap.specs.Faults.other_fault s o word (held rows p)) (no_subcommand wt word)
      ∙ ap (λ b. cond b [] (Rattle.clap.specs.Faults.flag_word_fault c false (Rattle.clap.specs.Lexer.long_of word) word (held rows p))) e
