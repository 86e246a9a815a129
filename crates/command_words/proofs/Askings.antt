-- What the words of each command ask for, by the positionals that a parse found.
use Rattle.std.proofs.Common.{◌≡◌, ◌∙◌, ℕ, ◌≤◌, Bool, true, false, cond, not, nat_le, leb-true, refl, sym, ap, List, [], ◌∷◌, length, map, get_or, take, drop, ◌-◌, Option, Some, None, Bor, arith}
use Rattle.std.specs.Prelude.{codes, option_and_then, option_map}
use Rattle.std.specs.Bool.{Decides}
use Rattle.std.specs.Str.{bytes_eq}
use Rattle.std.proofs.lemmas.List.{take_all}
use Rattle.std.proofs.lemmas.Slice.Eq.{bytes_eq-Decides}
use Rattle.clap.specs.declared.parser.matches.ArgMatches.{ArgMatches}
use Rattle.clap.specs.Words.{first_value, found_of}
use Rattle.command_words.specs.Table.{Text, names_in, solo_table, table, workers, entry, pages, fuel, traffic, live, idle}
use Rattle.command_words.specs.Grammar.{positionals_id}
use Rattle.command_words.specs.Said.{Said, understood, value_of}
use Rattle.command_words.specs.Found.{Shows, positionals_of}
use Rattle.command_words.specs.Meaning.{asked_of, check_of, command_of, gen_of, is_name, names_of, number_between, options_by, run_of, solo_by}
use Rattle.command_words.specs.declared.asked.Command.{Command}
use Rattle.command_words.specs.declared.asked.Command.TheVariants.{Check, Solo}
use Rattle.command_words.specs.declared.options.Options.{Options}

-- ---- first words

no : (first name : Text) → (first ≡ name → ⊥) → bytes_eq first name ≡ false
no first name differ = go (bytes_eq first name) (bytes_eq-Decides first name)
  where
    go : (b : Bool) → Decides b (first ≡ name) → b ≡ false
    go true d = absurd (differ (d.0 refl))
    go false d = refl

asks_nothing : (first : Text) (words : List Text) → bytes_eq first (codes "run") ≡ false → bytes_eq first (codes "check") ≡ false → bytes_eq first (codes "gen") ≡ false
    → bytes_eq first (codes "solo") ≡ false → asked_of first words ≡ None
asks_nothing first words r k g s = go (bytes_eq first (codes "run")) (bytes_eq first (codes "check")) (bytes_eq first (codes "gen")) (bytes_eq first (codes "solo")) r k g s
  where
    go : (run check gen solo : Bool) → run ≡ false → check ≡ false → gen ≡ false → solo ≡ false
        → ◌≡◌ {A = Option Command} (cond run (option_and_then run_of (understood (names_in table) words))
        (cond check (option_and_then (λ said. check_of said.positionals) (understood [] words))
        (cond gen (option_and_then (λ said. gen_of said.positionals) (understood [] words))
        (cond solo (option_and_then (λ said. solo_by said said.positionals) (understood (names_in solo_table) words)) None)))) None
    go false false false false r k g s = refl
    go true check gen solo r k g s = cc
    go false true gen solo r k g s = cc
    go false false true solo r k g s = cc
    go false false false true r k g s = cc

-- a first word of none of the four names asks for nothing
pub no_command : (words rest : List Text) (first : Text) → words ≡ first ∷ rest → (first ≡ codes "run" → ⊥) → (first ≡ codes "check" → ⊥) → (first ≡ codes "gen" → ⊥)
    → (first ≡ codes "solo" → ⊥) → command_of words ≡ None
no_command words rest first is r k g s =
    ap command_of is ∙ asks_nothing first rest (no first (codes "run") r) (no first (codes "check") k) (no first (codes "gen") g) (no first (codes "solo") s)

-- ---- positionals

-- a parse found what the words say
abbrev pub Said-found : Option Said → ArgMatches → Type 0
Said-found meaning p = (said : Said) × (meaning ≡ Some said) × Shows said p

pub one_text : (texts : List (Bor Text)) (d : Bor Text) → length texts ≡ 1 → map (λ text. text.now) texts ≡ (get_or texts 0 d).now ∷ []
one_text [] d h = absurd (omega arith)
one_text (t ∷ []) d h = refl
one_text (t ∷ u ∷ ts) d h = absurd (omega arith)

pub first_text : (texts : List (Bor Text)) (d : Bor Text) → 1 ≤ length texts → map (λ text. text.now) texts ≡ (get_or texts 0 d).now ∷ map (λ text. text.now) (take (length texts - 1) (drop 1 texts))
first_text [] d h = absurd (omega arith)
first_text (t ∷ ts) d h =
    let all : length ts ≤ length (t ∷ ts) - 1 = omega arith in
    ap (λ (rest : List (Bor Text)). t.now ∷ map (λ text. text.now) rest) (sym (take_all (length (t ∷ ts) - 1) ts all))

not_one : {A : Type 0} (f : List Text → Option A) → f [] ≡ None → ((t u : Text) (ts : List Text) → f (t ∷ u ∷ ts) ≡ None) → (texts : List (Bor Text)) → (length texts ≡ 1 → ⊥)
    → f (map (λ text. text.now) texts) ≡ None
not_one f none many [] n = none
not_one f none many (t ∷ []) n = absurd (n refl)
not_one f none many (t ∷ u ∷ ts) n = many t.now u.now (map (λ text. text.now) ts)

-- `check` with another number of positionals than one asks for nothing
pub check_many : (meaning : Option Said) (p : ArgMatches) (texts : List (Bor Text)) → Said-found meaning p → map (λ text. text.now) texts ≡ positionals_of p → (length texts ≡ 1 → ⊥)
    → option_and_then (λ said. check_of said.positionals) meaning ≡ None
check_many meaning p texts f h n =
    ap (option_and_then (λ said. check_of said.positionals)) f.1 ∙ ap check_of (sym f.2.positionals ∙ sym h) ∙ not_one check_of refl (λ t u ts. refl) texts n

-- `gen` likewise
pub gen_many : (meaning : Option Said) (p : ArgMatches) (texts : List (Bor Text)) → Said-found meaning p → map (λ text. text.now) texts ≡ positionals_of p → (length texts ≡ 1 → ⊥)
    → option_and_then (λ said. gen_of said.positionals) meaning ≡ None
gen_many meaning p texts f h n =
    ap (option_and_then (λ said. gen_of said.positionals)) f.1 ∙ ap gen_of (sym f.2.positionals ∙ sym h) ∙ not_one gen_of refl (λ t u ts. refl) texts n

named : (t : Text) → 1 ≤ length t → is_name t ≡ true
named t h = go (nat_le (length t) 0) refl
  where
    go : (b : Bool) → nat_le (length t) 0 ≡ b → not b ≡ true
    go true e = let short : length t ≤ 0 = leb-true (length t) 0 e in absurd (omega arith)
    go false e = refl

-- what `check` asks for with one positional, which is named
pub check_is : (meaning : Option Said) (p : ArgMatches) (texts : List (Bor Text)) (text name : Text) → Said-found meaning p → map (λ text. text.now) texts ≡ positionals_of p
    → map (λ text. text.now) texts ≡ text ∷ [] → 1 ≤ length text → name ≡ text → option_and_then (λ said. check_of said.positionals) meaning ≡ Some (Check name)
check_is meaning p texts text name f h one long is =
    ap (option_and_then (λ said. check_of said.positionals)) f.1 ∙ ap check_of (sym f.2.positionals ∙ sym h ∙ one) ∙ ap (λ b. cond b (Some (Check text)) None) (named text long)
    ∙ ap (λ n. Some (Check n)) (sym is)

-- values that are the same at the table's names give the same options
options_same : (given other : Text → Option Text) → ((name : Text) → bytes_eq positionals_id name ≡ false → given name ≡ other name) → options_by given ≡ options_by other
options_same given other same =
    rw (same workers.name refl, same entry.name refl, same pages.name refl, same fuel.name refl, same traffic.name refl, same live.name refl, same idle.name refl)

-- what `solo` asks for, by its parts
pub solo_is : (meaning : Option Said) (p : ArgMatches) (texts rest : List (Bor Text)) (number : Text) (pid : ℕ) (names : List Text) (options : Options) → Said-found meaning p
    → map (λ text. text.now) texts ≡ positionals_of p → map (λ text. text.now) texts ≡ number ∷ map (λ text. text.now) rest → number_between 1 1000000 number ≡ Some pid
    → names_of (map (λ text. text.now) rest) ≡ Some names → options_by (first_value (found_of p)) ≡ Some options
    → option_and_then (λ said. solo_by said said.positionals) meaning ≡ Some (Solo pid names options)
solo_is meaning p texts rest number pid names options f h split n t o =
    let given = value_of f.0.options in
    let ts = map (λ text. text.now) rest in
    ap (option_and_then (λ said. solo_by said said.positionals)) f.1 ∙ ap (solo_by f.0) (sym f.2.positionals ∙ sym h ∙ split)
    ∙ ap (option_and_then (λ pid. option_and_then (λ names. option_map (Solo pid names) (options_by given)) (names_of ts))) n
    ∙ ap (option_and_then (λ names. option_map (Solo pid names) (options_by given))) t
    ∙ ap (option_map (Solo pid names)) (sym (options_same (first_value (found_of p)) given f.2.given) ∙ o)
